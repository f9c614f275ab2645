use Rattle.std.proofs.Common.{List}
use Rattle.program_types.specs.Content.{Method}
use Rattle.tables_rows.specs.inner.Cached.{AreCached}
use Rattle.file_classes.specs.ClassFaults.{CodeHolds, RegistersFail}
use Rattle.file_classes.specs.inner.Reading.{AreDone, CodesUpTo, IsFound}
use Rattle.file_classes.proofs.keeping.Walk.methods.Given as goal

abbrev pub invariant-loop-bare : goal.invariant-loop-bare
invariant-loop-bare g l = record {
  done : (vs : List Method) × AreDone l.self.sections.now l.bares l.bare-index vs × g.K.Keep.methods l.list vs;
  past : CodesUpTo CodeHolds RegistersFail l.self.sections.now l.bares l.bare-index l.past;
  cached : AreCached (IsFound g.K.Keep.code l.self.sections.now) l.cached;
}
