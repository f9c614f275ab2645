use Rattle.std.proofs.Common.{◌≡◌, drop, nat_cmp}
use Rattle.std.specs.Cmp.Lexicographic.{slice_cmp}
use Rattle.program_types.specs.Shorty.{shorty}
use Rattle.program_types.specs.View.{str, proto}
use Rattle.tables_names.proofs.shorty.cmp_shorty.Given as goal

-- what has been passed is equal
abbrev pub invariant-loop-i : goal.invariant-loop-i
invariant-loop-i l = slice_cmp nat_cmp (drop l.i (str l.text)) (drop l.i (shorty (proto l.name))) ≡ slice_cmp nat_cmp (str l.text) (shorty (proto l.name))
