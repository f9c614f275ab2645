use Rattle.std.proofs.Common.{map, arith}
use Rattle.program_types.specs.View as view
use Rattle.file_put.proofs.RankedArrays.{array_some}
use Rattle.file_put.proofs.ArrayLaws.{array_used}
use Rattle.dex_value.proofs.Fitting.{narrow_fits}
use Rattle.file_put.proofs.arrays.add_array.Goals as goal

pub make_array-requires-clause-counts : goal.make_array-requires-clause-counts
make_array-requires-clause-counts c = narrow_fits (map view.value c.args.values.now) (omega (arith, c.requires.room))

pub put-requires-clause-some : goal.put-requires-clause-some
put-requires-clause-some c = array_some c.args.ranks.now _ (map view.value c.args.values.now) c.in_ok-bytes.ensures.ok

pub returns-clause-ok : goal.returns-clause-ok
returns-clause-ok c =
    array_used c.args.ranks.now _ _ _ _ c.args.values.now _ _ (omega arith) (rw c.deref.ensures.value at c.are_bytes.ensures.each) c.in_ok-bytes.ensures.ok c.in_ok-put.ensures.ok
