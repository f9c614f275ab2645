use Rattle.std.proofs.Common.{ℕ, List, ◌<◌, length}
use Rattle.std.specs.Prelude.{slice_index}
use Rattle.dex_container.specs.Layout.{size_of}
use Rattle.tables_rows.specs.inner.Halves.{halves}
use Rattle.file_classes.specs.ClassRows.{NoneDefines, InterfaceIndexes}
use Rattle.file_classes.proofs.HeadLaws.{to_each}
use Rattle.file_classes.proofs.order.interfaces_are_before.Goals as goal

pub returns-in-Some : goal.returns-in-Some
returns-in-Some c =
    let b = c.args.sections.now in
    let here = halves c.in-Some.types.now in
    let at : InterfaceIndexes b c.args.i here = rw (← c.class_word-list.ensures) c.in-Some.ensures.some in
    let P = λ (xs : List ℕ). (k : ℕ) → k < length xs → NoneDefines b c.args.i (size_of b 5) (slice_index xs k) in (
      λ t. to_each b c.framed.ensures c.args.i here at P (c.all_are_before.ensures.0 t),
      λ all. c.all_are_before.ensures.1 (all here at),
    )
