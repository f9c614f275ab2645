use Rattle.std.proofs.Common.{◌≡◌, drop, nat_cmp}
use Rattle.std.specs.Cmp.Lexicographic.{slice_cmp}
use Rattle.tables_rows.specs.inner.Halves.{halves}
use Rattle.tables_rows.proofs.type_list.cmp_indexes.Given as goal

abbrev pub invariant-loop-i : goal.invariant-loop-i
invariant-loop-i l = slice_cmp nat_cmp (drop l.i (halves l.a)) (drop l.i (halves l.b)) ≡ slice_cmp nat_cmp (halves l.a) (halves l.b)
