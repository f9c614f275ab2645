use Rattle.std.proofs.Common.{◌∙◌, sym}
use Rattle.std.proofs.lemmas.Int.{to_z-of_z}
use Rattle.code_read.proofs.PlaceLaws.{target-neg, target-pos}
use Rattle.code_read.proofs.places.target_at.Goals as goal

pub returns-in-Some : goal.returns-in-Some
returns-in-Some c =
    c.number_at.ensures ∙ sym (target-pos c.args.starts.now c.args.base c.args.offset c.in-Some.unit (simp (to_z-of_z, c.ranges.offset) at c.in-Some.ensures.some))

pub returns-in-None : goal.returns-in-None
returns-in-None c =
    sym (target-neg c.args.starts.now c.args.base c.args.offset (simp (to_z-of_z, c.ranges.offset) at c.in-None.ensures.none))
