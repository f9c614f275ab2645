use Rattle.std.proofs.Common.{arith, refl, subst, inl}
use Rattle.std.proofs.lemmas.List.{length-map}
use Rattle.program_types.specs.View as view
use Rattle.file_limits.specs.inner.Sum.{IsSum}
use Rattle.file_limits.proofs.file_size.data_size.Goals as goal

pub returns : goal.returns
returns c =
    let x = c.args.class.now in
    let f = c.plus-fields.ensures _ _ c.times.ensures c.times-2.ensures in
    let m = c.plus-methods.ensures _ _ c.times-3.ensures c.times-4.ensures in
    let h = c.plus-2.ensures _ _ (c.plus.ensures 20 _ (inl refl) f) m in
    let e1 = length-map x.statics.now view.member in
    let e2 = length-map x.instances.now view.member in
    let e3 = length-map x.directs.now view.method in
    let e4 = length-map x.virtuals.now view.method in
    subst (IsSum c.plus-2.result) (omega (arith, e1, e2, e3, e4)) h
