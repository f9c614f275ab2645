use Rattle.std.proofs.Common.{map}
use Rattle.listing_words.specs.inner.View.{word}
use Rattle.listing_slots.proofs.ShapeLaws.{payload_found, payload_none, plain_found, plain_none}
use Rattle.listing_slots.proofs.shape.push_insn.Goals as goal

pub returns-in-Some-clause-some : goal.returns-in-Some-clause-some
returns-in-Some-clause-some c = payload_found c.args.text.now (map word c.args.after.now) c.in-Some.key c.push_payload.result c.args.slots.now.items _ c.in-Some.ensures c.push_payload.ensures.some

pub returns-in-Some-clause-none : goal.returns-in-Some-clause-none
returns-in-Some-clause-none c = payload_none c.args.text.now (map word c.args.after.now) c.in-Some.key c.push_payload.result c.in-Some.ensures c.push_payload.ensures.none

pub returns-in-None-clause-some : goal.returns-in-None-clause-some
returns-in-None-clause-some c = plain_found c.args.text.now (map word c.args.after.now) c.push_plain.result c.args.slots.now.items _ c.push_plain.ensures.some

pub returns-in-None-clause-none : goal.returns-in-None-clause-none
returns-in-None-clause-none c = plain_none c.args.text.now (map word c.args.after.now) c.push_plain.result c.in-None.ensures c.push_plain.ensures.none
