use Rattle.std.proofs.Common.{◌+◌, ℕ, List, refl, inl, sym, subst, arith}
use Rattle.program_types.specs.Content.{Name}
use Rattle.tables_rows.specs.Stands.{TypesAt}
use Rattle.file_limits.specs.inner.Sum.{IsSum}
use Rattle.file_limits.specs.Wide.{wide_list}
use Rattle.file_classes.specs.ClassData.{EntriesAt}
use Rattle.file_classes.specs.inner.Reading.{entries}
use Rattle.file_strip.specs.inner.Survey.{FindsNames, SpellsMembers, names_of_head, names_of_members, wide_members}
use Rattle.file_strip.specs.declared.survey.Surveyed.{Surveyed}
use Rattle.file_strip.proofs.ClassSteps.{class_names, spells_members}
use Rattle.file_strip.proofs.FoundLaws.{finds_marked, finds_more, has_found_after}
use Rattle.file_strip.proofs.survey.visit_class.Goals as goal

pub visit_members-requires-clause-found : goal.visit_members-requires-clause-found
visit_members-requires-clause-found c =
    let b = c.args.sections.now in
    let k = c.requires.class in
    let mid : Surveyed = (record c.args.found.now { marks = c.mark_head.new.marks }) in
    has_found_after b c.args.found.now mid (names_of_head k.0) c.requires.found (finds_marked b c.args.found.now c.mark_head.new.marks (names_of_head k.0) (c.in_ok-mark_head.ensures.marked k.0 k.1))

pub visit_members-requires-clause-members : goal.visit_members-requires-clause-members
visit_members-requires-clause-members c =
    let b = c.args.sections.now in
    let k = c.requires.class in
    let e = entries c.in-Some.all in
    (k.0, subst (λ n. SpellsMembers b e n k.0) (sym c.class_word-values.ensures) (spells_members b c.framed.ensures c.args.i k.0 e k.1 (subst (λ n. EntriesAt b n e) c.class_word-data.ensures (rw c.in-Some.is at c.in_ok-all.ensures.found))))

pub returns-clause-found : goal.returns-clause-found
returns-clause-found c = λ k s.
    let b = c.args.sections.now in
    let e = entries c.in-Some.all in
    let m = subst (λ n. SpellsMembers b e n k) (sym c.class_word-values.ensures) (spells_members b c.framed.ensures c.args.i k e s (subst (λ n. EntriesAt b n e) c.class_word-data.ensures (rw c.in-Some.is at c.in_ok-all.ensures.found))) in
    let mid : Surveyed = (record c.args.found.now { marks = c.mark_head.new.marks }) in
    subst (λ (ns : List Name). FindsNames b c.args.found.now c.visit_members.new.found ns) (class_names k)
    (finds_more b c.args.found.now mid c.visit_members.new.found (names_of_head k) (names_of_members k)
    (finds_marked b c.args.found.now c.mark_head.new.marks (names_of_head k) (c.in_ok-mark_head.ensures.marked k s)) (c.in_ok-members.ensures.found k m))

pub returns-clause-members : goal.returns-clause-members
returns-clause-members c = subst (λ n. EntriesAt c.args.sections.now n (entries c.in-Some.all)) c.class_word-data.ensures (rw c.in-Some.is at c.in_ok-all.ensures.found)

pub returns-clause-wide : goal.returns-clause-wide
returns-clause-wide c = λ k s.
    let b = c.args.sections.now in
    let e = entries c.in-Some.all in
    let m = subst (λ n. SpellsMembers b e n k) (sym c.class_word-values.ensures) (spells_members b c.framed.ensures c.args.i k e s (subst (λ n. EntriesAt b n e) c.class_word-data.ensures (rw c.in-Some.is at c.in_ok-all.ensures.found))) in
    let list = c.list_size-interfaces.ensures k.interfaces (subst (λ n. TypesAt b n k.interfaces) (sym c.class_word.ensures) s.head.interfaces.types) in
    subst (λ (n : ℕ). IsSum c.plus-2.result n) (omega arith)
    (c.plus-2.ensures (32 + wide_list k.interfaces) (wide_members k) (c.plus.ensures 32 (wide_list k.interfaces) (inl refl) list) (c.in_ok-members.ensures.wide k m))
