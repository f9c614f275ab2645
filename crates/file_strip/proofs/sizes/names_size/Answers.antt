use Rattle.std.proofs.Common.{arith, refl, subst, inl}
use Rattle.file_limits.specs.inner.Sum.{IsSum}
use Rattle.file_strip.proofs.SizeLaws.{totals, count_is}
use Rattle.file_strip.proofs.sizes.names_size.Goals as goal

pub returns : goal.returns
returns c = λ p k.
    let all = totals c.args.sections.now c.args.numbers.now p k in
    let strings = c.plus-strings.ensures 112 _ (inl refl) (c.strings_size.ensures p k) in
    let types = c.plus-types.ensures _ _ strings c.times.ensures in
    let protos = c.plus-protos.ensures _ _ types (c.protos_size.ensures p k) in
    let fields = c.plus-fields.ensures _ _ protos c.times-2.ensures in
    let methods = c.plus.ensures _ _ fields c.times-3.ensures in
    let t = count_is k.marked.types.shape k.numbered.types all.types c.count.ensures in
    let f = count_is k.marked.fields.shape k.numbered.fields all.fields c.count-2.ensures in
    let m = count_is k.marked.methods.shape k.numbered.methods all.methods c.count-3.ensures in
    subst (IsSum c.plus.result) (omega (arith, t, f, m)) methods
