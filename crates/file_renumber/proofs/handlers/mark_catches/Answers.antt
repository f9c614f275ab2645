use Rattle.std.proofs.Common.{take, get_or, arith}
use Rattle.program_types.specs.Content.{OfDesc}
use Rattle.tables_rows.specs.Stands.{NameStands}
use Rattle.file_renumber.proofs.MarkLemmas.{has_marks_after}
use Rattle.code_read.specs.inner.Handlers.{SpellsCatch}
use Rattle.file_renumber.specs.inner.Fronts.{types_of}
use Rattle.file_renumber.proofs.HandlerLemmas.{counted, no_catch, catches_start, catches_more, catches_end, type_row_of}
use Rattle.file_renumber.proofs.FrontLemmas.{due_next}
use Rattle.file_renumber.proofs.handlers.mark_catches.Goals as goal

pub loop-turn-init : goal.loop-turn-init
loop-turn-init c = λ ss cs rest t. catches_start c.args.sections.now ss c.args.marks.now c.args.count c.args.bytes.now cs rest t

pub take_catch-ty-requires : goal.take_catch-ty-requires
take_catch-ty-requires c =
    let b = c.args.sections.now in
    let x = c.requires.catches in
    let n = counted (NameStands b) x.0 c.args.count c.args.bytes.now x.1 x.2 x.3 in
    let lt = c.loop-turn-test.true in
    let d = due_next (SpellsCatch (NameStands b) x.0) c.loop-turn.left.now c.loop-turn._turn x.1 no_catch x.2 (omega (arith, lt, n)) (c.loop-turn.invariant x.0 x.1 x.2 x.3).due in
    (b, x.0, get_or x.1 c.loop-turn._turn no_catch, d.mid, d.one)

pub mark-requires-clause-marks : goal.mark-requires-clause-marks
mark-requires-clause-marks c =
    let x = c.requires.catches in
    has_marks_after c.args.sections.now c.args.marks.now c.loop-turn.marks (types_of (take c.loop-turn._turn x.1)) c.requires.marks (c.loop-turn.invariant x.0 x.1 x.2 x.3).marked

pub mark-requires-clause-row : goal.mark-requires-clause-row
mark-requires-clause-row c =
    let b = c.args.sections.now in
    let x = c.requires.catches in
    let n = counted (NameStands b) x.0 c.args.count c.args.bytes.now x.1 x.2 x.3 in
    let lt = c.loop-turn-test.true in
    let d = due_next (SpellsCatch (NameStands b) x.0) c.loop-turn.left.now c.loop-turn._turn x.1 no_catch x.2 (omega (arith, lt, n)) (c.loop-turn.invariant x.0 x.1 x.2 x.3).due in
    let i = c.take_catch-ty.ensures b x.0 (get_or x.1 c.loop-turn._turn no_catch) d.mid d.one in
    (OfDesc (get_or x.1 c.loop-turn._turn no_catch).ty, type_row_of b x.0 c.take_catch-ty.result.0 c.take_catch-ty.result.1 c.take_catch-ty.result.2.now _ d.mid i)

pub loop-turn-preserved : goal.loop-turn-preserved
loop-turn-preserved c = λ ss cs rest t.
    let b = c.args.sections.now in
    let n = counted (NameStands b) ss c.args.count c.args.bytes.now cs rest t in
    let lt = c.loop-turn-test.true in
    let m = c.loop-turn.invariant ss cs rest t in
    let one = get_or cs c.loop-turn._turn no_catch in
    let d = due_next (SpellsCatch (NameStands b) ss) c.loop-turn.left.now c.loop-turn._turn cs no_catch rest (omega (arith, lt, n)) m.due in
    let i = c.take_catch-ty.ensures b ss one d.mid d.one in
    catches_more b ss c.args.marks.now c.loop-turn.marks c.mark.new.self c.loop-turn.left.now _ c.loop-turn._turn c.take_catch-ty.result.0 c.take_catch-ty.result.1 cs rest (omega (arith, lt, n)) m d i
    (c.in_ok-mark.ensures.marked (OfDesc one.ty) (type_row_of b ss c.take_catch-ty.result.0 c.take_catch-ty.result.1 c.take_catch-ty.result.2.now one d.mid i))

pub returns-clause-marked : goal.returns-clause-marked
returns-clause-marked c = λ ss cs rest t.
    let ge = c.loop-turn-test.false in
    catches_end c.args.sections.now ss c.args.marks.now c.loop-turn.marks c.args.count c.args.bytes.now c.loop-turn.left.now c.loop-turn._turn cs rest (omega (arith, ge)) t (c.loop-turn.invariant ss cs rest t)
