use Rattle.std.proofs.Common.{sym, arith}
use Rattle.listing_slots.proofs.KeyLaws.{no_lead}
use Rattle.listing_slots.proofs.key.lead_key.Goals as goal

pub returns-then-text-gt10 : goal.returns-then-text-gt10
returns-then-text-gt10 c = sym (no_lead c.args.text.now (omega arith))
