use Rattle.std.proofs.Common.{ap, map, ◌∙◌}
use Rattle.program_types.specs.Content as content
use Rattle.program_types.specs.View.{value}
use Rattle.program_types.proofs.ValueViews.{value_array}
use Rattle.listing_lines.proofs.making.array_of.Goals as goal

pub returns-clause-ok : goal.returns-clause-ok
returns-clause-ok c = value_array (record { ref_ptr = c.in_ok-elements.elements.ref_ptr; now = c.in_ok-elements.elements.now }) ∙ ap (λ vs. content.Array (content.values (map value vs))) c.in_ok-elements.ensures
