use Rattle.std.proofs.Common.{arith, inl, refl}
use Rattle.file_limits.proofs.SumLaws.{limit_of}
use Rattle.file_limits.proofs.file_size.is_too_big.Goals as goal

pub returns : goal.returns
returns c =
    let a = c.plus-all.ensures _ _ c.names_size.ensures c.classes_size.ensures in
    let o = limit_of _ _ (c.plus.ensures _ 163 a (inl refl)) in
    grind (arith, o)
