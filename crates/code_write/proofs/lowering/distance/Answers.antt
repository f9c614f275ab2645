use Rattle.std.proofs.Common.{rules}
use mir.Val.{SFits}
use mir.Syntax.{w32}
use Rattle.std.proofs.lemmas.Int.{to_z-of_z}
use Rattle.code_write.proofs.DistanceLaws.{gap-is, distance-leads}
use Rattle.code_write.proofs.lowering.distance.Goals as goal

pub returns-clause-value : goal.returns-clause-value
returns-clause-value c =
    let fits : SFits w32 c.gap.result = search rules in
    simp to_z-of_z (rw c.at.ensures.value at (gap-is _ c.args.at c.gap.result c.gap.ensures))

pub returns-clause-leads : goal.returns-clause-leads
returns-clause-leads c =
    let fits : SFits w32 c.gap.result = search rules in
    simp to_z-of_z (distance-leads c.args.starts.now c.args.at c.args.to c.gap.result c.at.ensures.rises c.requires.inside (rw c.at.ensures.value at (gap-is _ c.args.at c.gap.result c.gap.ensures)))
