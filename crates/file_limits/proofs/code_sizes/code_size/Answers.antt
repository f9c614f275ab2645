use Rattle.std.proofs.Common.{arith, inl, refl, subst}
use Rattle.std.proofs.lemmas.List.{length-map}
use Rattle.program_types.specs.View as view
use Rattle.file_limits.specs.inner.Sum.{IsSum}
use Rattle.file_limits.proofs.code_sizes.code_size.Goals as goal

pub returns : goal.returns
returns c =
    let a = c.plus-insns.ensures 26 _ (inl refl) c.insns_size.ensures in
    let b = c.plus-tries.ensures _ _ a c.times.ensures in
    let d = c.plus.ensures _ _ b c.catches_size.ensures in
    let n = length-map c.args.code.now.tries.now view.try in
    subst (IsSum c.plus.result) (omega (arith, n)) d
