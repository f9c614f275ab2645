use Rattle.std.proofs.Common.{◌≡◌, ◌≤◌, map, sym, arith, refl, subst, inl, get_or}
use Rattle.program_types.proofs.ValueViews.{value_array}
use Rattle.program_types.specs.Content.{values}
use Rattle.program_types.specs.Depth.{depth, greatest_depth}
use Rattle.program_types.specs.View as view
use Rattle.program_types.specs.declared.value.Value as made
use Rattle.dex_value.specs.Wide.{wide_value}
use Rattle.file_limits.specs.inner.Sum.{IsSum}
use Rattle.file_limits.proofs.SumLaws.{values_room_more}
use Rattle.file_limits.proofs.value_sizes.+values.Goals as goal
use Rattle.program_types.proofs.Nesting.{value_less}

pub value_size-returns-in-Array : goal.value_size-returns-in-Array
value_size-returns-in-Array t c = rw (c.in-Array.is, value_array c.in-Array.all) (c.plus.ensures 6 _ (inl refl) c.values_size.ensures)

pub values_size-value_size-requires : goal.values_size-value_size-requires
values_size-value_size-requires t c =
    let is : get_or c.args.all.now c.loop-one.one-index c.one-item.result ≡ c.one-item.result = sym c.one-item.is in
    let few : depth (view.value c.one-item.result) ≤ greatest_depth (values (map view.value c.args.all.now)) =
    subst (λ (v : made.Value). depth (view.value v) ≤ greatest_depth (values (map view.value c.args.all.now))) is (value_less c.args.all.now c.loop-one.one-index c.one-item.result c.loop-one-test.true) in
    let most = c.decreases in
    omega (arith, few, most)

pub values_size-loop-one-preserved : goal.values_size-loop-one-preserved
values_size-loop-one-preserved t c =
    values_room_more _ _ _ c.args.all.now c.loop-one.one-index c.one-item.result c.loop-one-test.true c.plus-sum.ensures c.loop-one.invariant
    (subst (λ (v : made.Value). IsSum c.value_size.result (wide_value (view.value v))) c.one-item.is c.value_size.ensures)
