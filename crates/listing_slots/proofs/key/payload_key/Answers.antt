use Rattle.std.proofs.Common.{sym, rules}
use Rattle.listing_slots.proofs.KeyLaws.{no_payload, no_payload_end}
use Rattle.listing_slots.proofs.key.payload_key.Goals as goal

pub returns-then-text-lt13 : goal.returns-then-text-lt13
returns-then-text-lt13 c = sym (no_payload c.args.text.now (search rules))

pub returns-then-text-ne100 : goal.returns-then-text-ne100
returns-then-text-ne100 c = sym (no_payload_end c.args.text.now c.if-text-ne100.true)
