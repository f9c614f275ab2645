use Rattle.std.proofs.Common.{List, subst, arith}
use Rattle.std.specs.List.{flat_map}
use Rattle.program_types.specs.Content.{Name}
use Rattle.program_types.specs.Mentions.{names_of_insn, names_of_try}
use Rattle.tables_rows.specs.Stands.{NameStands}
use Rattle.file_renumber.specs.inner.Marked.{AddsNames}
use Rattle.file_renumber.proofs.MarkLemmas.{adds_more, has_marks_after}
use Rattle.code_read.specs.Walk.{starts}
use Rattle.file_renumber.proofs.WideLemmas.{plain_names, plain_wide, tried_wide}
use Rattle.file_renumber.proofs.codes.mark_code.Goals as goal

pub mark_insns-requires-clause-even : goal.mark_insns-requires-clause-even
mark_insns-requires-clause-even c = let u = c.item_at-item.ensures.units in omega (arith, u)

pub mark_insns-requires-clause-short : goal.mark_insns-requires-clause-short
mark_insns-requires-clause-short c = let u = c.item_at-item.ensures.units in omega (arith, u)

pub mark_insns-requires-clause-insns : goal.mark_insns-requires-clause-insns
mark_insns-requires-clause-insns c =
    let x = c.item_at-item.ensures.spelled c.requires.stands.0 c.requires.stands.1 in
    (x.raws, c.requires.stands.0.insns, x.insns)

pub returns-then-item-eq0-clause-marked : goal.returns-then-item-eq0-clause-marked
returns-then-item-eq0-clause-marked c = λ code a.
    let N = NameStands c.args.sections.now in
    let x = c.item_at-item.ensures.spelled code a in
    subst (λ (ns : List Name). AddsNames c.args.sections.now c.args.marks.now c.mark_insns.new.marks ns) (plain_names N c.item_at-item.result code x c.item_at-item.ensures.units c.if-item-eq0.true)
    (c.in_ok-mark_insns.ensures.marked x.raws code.insns x.insns)

pub returns-then-item-eq0-clause-wide : goal.returns-then-item-eq0-clause-wide
returns-then-item-eq0-clause-wide c = λ code a.
    let N = NameStands c.args.sections.now in
    let x = c.item_at-item.ensures.spelled code a in
    let w = plain_wide N c.item_at-item.result code x c.item_at-item.ensures.units c.if-item-eq0.true in
    omega (arith, w, c.from.ensures)

pub mark_tries-requires-clause-marks : goal.mark_tries-requires-clause-marks
mark_tries-requires-clause-marks c =
    let code = c.requires.stands.0 in
    let x = c.item_at-item.ensures.spelled code c.requires.stands.1 in
    has_marks_after c.args.sections.now c.args.marks.now c.mark_insns.new.marks (flat_map names_of_insn code.insns) c.requires.marks (c.in_ok-mark_insns.ensures.marked x.raws code.insns x.insns)

pub mark_tries-requires-clause-tries : goal.mark_tries-requires-clause-tries
mark_tries-requires-clause-tries c =
    let code = c.requires.stands.0 in
    let x = c.item_at-item.ensures.spelled code c.requires.stands.1 in
    record { starts = starts x.raws; tries = code.tries; read = x.tries }

pub returns-clause-marked : goal.returns-clause-marked
returns-clause-marked c = λ code a.
    let x = c.item_at-item.ensures.spelled code a in
    adds_more c.args.sections.now c.args.marks.now c.mark_insns.new.marks c.mark_tries.new.marks (flat_map names_of_insn code.insns) (flat_map names_of_try code.tries)
    (c.in_ok-mark_insns.ensures.marked x.raws code.insns x.insns) (c.in_ok-catches.ensures.marked (record { starts = starts x.raws; tries = code.tries; read = x.tries }))

pub returns-clause-wide : goal.returns-clause-wide
returns-clause-wide c = λ code a.
    let N = NameStands c.args.sections.now in
    let x = c.item_at-item.ensures.spelled code a in
    let w = tried_wide N c.item_at-item.result code x c.item_at-item.ensures.units c.in_ok-catches.catches (c.in_ok-catches.ensures.catches (record { starts = starts x.raws; tries = code.tries; read = x.tries })) in
    omega (arith, w, c.from.ensures, c.from-2.ensures)

pub overflow_mul-result-2 : goal.overflow_mul-result-2
overflow_mul-result-2 c = let l = c.in_ok-catches.ensures.low in omega (arith, l)

pub overflow_add-result-2 : goal.overflow_add-result-2
overflow_add-result-2 c = let l = c.in_ok-catches.ensures.low in let f = c.from.ensures in let g = c.from-2.ensures in omega (arith, l, f, g)
