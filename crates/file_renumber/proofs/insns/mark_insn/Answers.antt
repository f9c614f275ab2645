use Rattle.std.proofs.Common.{◌∙◌, List, ap, sym, subst}
use Rattle.std.proofs.lemmas.Result.{on_ok_weaker}
use Rattle.dex_insn.specs.Fields.{field}
use Rattle.dex_insn.specs.Opcodes.{index_kind_of}
use Rattle.program_types.specs.Content.{Name}
use Rattle.tables_rows.specs.Stands.{NameStands}
use Rattle.file_renumber.specs.inner.Marked.{AddsNames}
use Rattle.file_renumber.proofs.MarkLemmas.{adds_none}
use Rattle.file_renumber.proofs.InsnLemmas.{row_of, some_kind, named_of, unnamed}
use Rattle.file_renumber.proofs.ShapeLemmas.{unit_long}
use Rattle.file_renumber.proofs.insns.mark_insn.Goals as goal

pub index_at-requires : goal.index_at-requires
index_at-requires c = (c.requires.resolves.1, c.requires.resolves.3)

pub returns-in_default-clause-marked : goal.returns-in_default-clause-marked
returns-in_default-clause-marked c = λ T r i shape s.
    subst (λ (ns : List Name). AddsNames c.args.sections.now c.args.marks.now c.args.marks.now ns) (sym (unnamed (NameStands c.args.sections.now) T r i (c.in_default.ensures.none r shape) s)) (adds_none c.args.sections.now c.args.marks.now)

pub opcode_at-requires : goal.opcode_at-requires
opcode_at-requires c = unit_long c.args.front.now c.requires.resolves.1 c.requires.resolves.3.spelled

pub unreachable-requires : goal.unreachable-requires
unreachable-requires c =
    let s = c.requires.resolves in
    let op = field c.args.front.now 0 0 8 in
    let n = named_of (NameStands c.args.sections.now) s.0 s.1 s.2 op c.in-Some.index (c.in-Some.ensures.some s.1 s.3) s.4 in
    some_kind (NameStands c.args.sections.now) op c.in-Some.index n.which (sym (c.index_kind_of.ensures ∙ ap index_kind_of c.opcode_at.ensures) ∙ c.in-None.is) n.stands

pub mark-requires-clause-row : goal.mark-requires-clause-row
mark-requires-clause-row c =
    let s = c.requires.resolves in
    let op = field c.args.front.now 0 0 8 in
    let n = named_of (NameStands c.args.sections.now) s.0 s.1 s.2 op c.in-Some.index (c.in-Some.ensures.some s.1 s.3) s.4 in
    (n.which, row_of c.args.sections.now op c.in-Some.index c.in-Some-index_kind_of.table n.which (sym (c.index_kind_of.ensures ∙ ap index_kind_of c.opcode_at.ensures) ∙ c.in-Some-index_kind_of.is) n.stands)

pub returns-clause-marked : goal.returns-clause-marked
returns-clause-marked c =
    on_ok_weaker c.mark.result
    (λ f T r i shape s.
    let op = field c.args.front.now 0 0 8 in
    let n = named_of (NameStands c.args.sections.now) T r i op c.in-Some.index (c.in-Some.ensures.some r shape) s in
    subst (λ (ns : List Name). AddsNames c.args.sections.now c.args.marks.now c.mark.new.self ns) (sym n.names)
    (f n.which (row_of c.args.sections.now op c.in-Some.index c.in-Some-index_kind_of.table n.which (sym (c.index_kind_of.ensures ∙ ap index_kind_of c.opcode_at.ensures) ∙ c.in-Some-index_kind_of.is) n.stands)))
    c.mark.ensures.marked
