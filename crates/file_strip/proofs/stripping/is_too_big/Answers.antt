use Rattle.std.proofs.Common.{arith, inl, refl}
use Rattle.file_limits.proofs.SumLaws.{limit_of}
use Rattle.file_strip.proofs.stripping.is_too_big.Goals as goal

pub returns : goal.returns
returns c = λ p k sum.
    let a = c.plus.ensures _ _ (c.names_size-names.ensures p k) sum in
    let o = limit_of _ _ (c.plus-2.ensures _ 163 a (inl refl)) in
    grind (arith, o)
