use Rattle.std.proofs.Common.{map}
use Rattle.program_types.specs.View.{desc}
use Rattle.file_classes.specs.Classes.{InterfacesAt}
use Rattle.tables_rows.specs.inner.Cached.{AreCached}
use Rattle.tables_rows.specs.inner.Reading.{AreFirst}
use Rattle.file_classes.specs.ClassFaults.{ClassRowHolds}
use Rattle.file_classes.specs.inner.Reading.{IsHead}
use Rattle.file_classes.proofs.heads.HeadReader.push_heads.Given as goal

abbrev pub invariant-loop-i : goal.invariant-loop-i
invariant-loop-i l = AreFirst IsHead ClassRowHolds l.self.sections.now l.i l.heads.items × AreCached (λ off list. InterfacesAt l.self.sections.now off (map desc list.now)) l.cached
