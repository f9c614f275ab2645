use Rattle.std.proofs.Common.{◌∙◌, rules}
use Rattle.listing_slots.proofs.FormLaws.{close_empty, close_after}
use Rattle.listing_slots.proofs.forms.registers_inside.Goals as goal

pub returns-then-is_empty : goal.returns-then-is_empty
returns-then-is_empty c = close_empty c.args.words.now (search rules)

pub returns : goal.returns
returns c = c.before_close.ensures ∙ close_after c.args.words.now _ c.split_at.ensures.back
