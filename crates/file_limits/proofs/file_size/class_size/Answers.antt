use Rattle.std.proofs.Common.{arith, refl, subst, inl, map}
use Rattle.program_types.specs.View as view
use Rattle.file_limits.specs.inner.Sum.{IsSum}
use Rattle.file_limits.specs.Wide.{bodies_in, wide_body}
use Rattle.file_limits.proofs.SumLaws.{wide_all_append}
use Rattle.file_limits.proofs.file_size.class_size.Goals as goal

pub returns : goal.returns
returns c =
    let x = c.args.class.now in
    let a = c.plus.ensures 32 _ (inl refl) c.list_size.ensures in
    let b = c.plus-data.ensures _ _ a c.data_size.ensures in
    let d = c.plus-2.ensures 5 _ (inl refl) c.values_size.ensures in
    let e = c.plus-values.ensures _ _ b d in
    let f = c.plus-3.ensures _ _ c.bodies_size.ensures c.bodies_size-2.ensures in
    let g = c.plus-4.ensures _ _ e f in
    let w = wide_all_append wide_body (bodies_in (map view.method x.directs.now)) (bodies_in (map view.method x.virtuals.now)) in
    subst (IsSum c.plus-4.result) (omega (arith, w)) g
