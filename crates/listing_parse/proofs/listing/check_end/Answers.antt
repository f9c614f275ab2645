use Rattle.listing_parse.proofs.ReadingLaws.{finished, late_end, open_end}
use Rattle.listing_parse.proofs.listing.check_end.Goals as goal

pub returns-in_default : goal.returns-in_default
returns-in_default c = record { ok = tt; err = rw c.at-in_default.ensures (open_end c.args.draft.now c.in_default.not-Top) }

pub returns-in-Some-clause-err : goal.returns-in-Some-clause-err
returns-in-Some-clause-err c = rw c.at.ensures (late_end c.args.draft.now _ c.in-Top.is c.in-Some.is)

pub returns-in-None-clause-ok : goal.returns-in-None-clause-ok
returns-in-None-clause-ok c = finished _ c.in-Top.is c.in-None.is
