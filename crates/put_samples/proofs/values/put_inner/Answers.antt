use Rattle.std.proofs.Common.{map, lit<, arith}
use Rattle.std.proofs.lemmas.List.{length-map}
use Rattle.program_types.specs.View.{value}
use Rattle.program_types.proofs.ValueViews.{value_array}
use Rattle.dex_value.proofs.Lists.{count_of-values}
use Rattle.put_samples.proofs.values.put_inner.Goals as goal

pub put_array-requires-clause-counts : goal.put_array-requires-clause-counts
put_array-requires-clause-counts c =
    let few = c.requires.small in
    let e = count_of-values (map value c.args.inner.now) in
    let l = length-map c.args.inner.now value in
    record { own = lit< tt; inner = rw (value_array c.args.inner) ((omega (arith, few, e, l), c.requires.counts), tt) }
