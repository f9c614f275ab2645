use Rattle.std.proofs.Common.{◌∙◌, sym}
use Rattle.listing_slots.proofs.KeyLaws.{same_is}
use Rattle.listing_lines.proofs.LookLaws.{kept, put}
use Rattle.listing_lines.proofs.known.put_hashed.Goals as goal

pub returns-in_ok-insert-clause-put : goal.returns-in_ok-insert-clause-put
returns-in_ok-insert-clause-put c = kept _ (λ j k. same_is j.now k.now) c.args.name c.args.place c.in-Some.first c.args.rest.now.entries c.insert.new.self.entries c.insert-in-Some.new.self.entries (sym c.in-Some.is ∙ c.in_ok-first.ensures.old) c.in_ok-first.ensures.entries c.in_ok-insert.ensures.entries

pub returns-in_default-clause-put : goal.returns-in_default-clause-put
returns-in_default-clause-put c = put _ (λ j k. same_is j.now k.now) c.args.name c.args.place c.args.rest.now.entries c.insert.new.self.entries (sym c.in_default.is ∙ c.in_ok-first.ensures.old) c.in_ok-first.ensures.entries
