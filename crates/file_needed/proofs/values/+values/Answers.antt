use Rattle.std.proofs.Common.{◌≡◌, ◌≤◌, map, sym, subst, arith, get_or}
use Rattle.std.specs.List.{AllByRecursion}
use Rattle.tables_names.specs.Closure.{HasShorty, with_names}
use Rattle.program_types.specs.Content.{values}
use Rattle.program_types.specs.Depth.{depth, greatest_depth}
use Rattle.program_types.specs.Mentions.{names_of_value}
use Rattle.program_types.specs.View.{value}
use Rattle.program_types.specs.declared.value.Value as made
use Rattle.file_needed.proofs.Steps.{values_more, value_kept}
use Rattle.file_needed.proofs.values.+values.Goals as goal
use Rattle.program_types.proofs.Nesting.{value_less}

pub add_values-add_value-requires : goal.add_values-add_value-requires
add_values-add_value-requires t c =
    let is : get_or c.args.all.now c.loop-one.one-index c.one-item.result ≡ c.one-item.result = sym c.one-item.is in
    let few : depth (value c.one-item.result) ≤ greatest_depth (values (map value c.args.all.now)) =
    subst (λ (v : made.Value). depth (value v) ≤ greatest_depth (values (map value c.args.all.now))) is (value_less c.args.all.now c.loop-one.one-index c.one-item.result c.loop-one-test.true) in
    let kept = subst (λ (v : made.Value). AllByRecursion HasShorty (names_of_value (value v))) is (value_kept HasShorty c.args.all.now c.loop-one.one-index c.one-item.result c.loop-one-test.true c.requires) in
    let most = c.decreases in
    (omega (arith, few, most), kept)

pub add_values-loop-one-preserved : goal.add_values-loop-one-preserved
add_values-loop-one-preserved t c =
    values_more _ _ _ c.args.all.now c.loop-one.one-index c.one-item.result c.loop-one-test.true c.loop-one.invariant
    (subst (λ (v : made.Value). c.add_value.new.needed ≡ with_names c.loop-one.needed (names_of_value (value v))) c.one-item.is c.in_ok-add_value.ensures.added)
