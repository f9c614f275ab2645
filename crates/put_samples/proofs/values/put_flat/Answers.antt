use Rattle.std.proofs.Common.{arith}
use Rattle.std.proofs.lemmas.List.{length-map}
use Rattle.program_types.specs.View.{value}
use Rattle.put_samples.proofs.values.put_flat.Goals as goal

pub put_array-requires-clause-counts : goal.put_array-requires-clause-counts
put_array-requires-clause-counts c =
    let few = c.requires.small in
    let l = length-map c.args.all.now value in
    record { own = omega (arith, few, l); inner = c.requires.counts }
