use Rattle.std.proofs.Common.{◌≡◌, ◌<◌, ℕ, List, [], length, map, take, get_or, sym, subst, ◌∙◌, arith}
use Rattle.std.proofs.lemmas.List.{take_all}
use Rattle.program_types.specs.Content.{Units, OfDesc}
use Rattle.tables_names.specs.Closure.{with_names}
use Rattle.tables_rows.specs.inner.Halves.{halves}
use Rattle.tables_rows.specs.Stands.{TypeStands}
use Rattle.tables_rows.proofs.HalvesLaws.{u16_at-halves}
use Rattle.tables_rows.proofs.TypeLists.{indexes_of}
use Rattle.file_renumber.specs.inner.Marked.{Marked, AreMarks, IsOneOf}
use Rattle.file_renumber.proofs.MarkLemmas.{list_is_there, list_marked, same_lists, type_at, types_count, next_type}
use Rattle.tables_names.proofs.FiveLemmas.{refused}
use Rattle.file_renumber.proofs.marks.Marks.mark_list.Goals as goal

pub returns-then-contains-clause-marked : goal.returns-then-contains-clause-marked
returns-then-contains-clause-marked c = λ ts at s a.
    list_is_there c.args.sections.now c.args.self.now s c.args.off ts a
    (subst (λ (m : Marked). IsOneOf m.lists c.args.off) c.self.view_is (sym c.contains.ensures ∙ c.if-contains.true)) at

pub returns-in_default-clause-marked : goal.returns-in_default-clause-marked
returns-in_default-clause-marked c = λ ts at s a.
    let x = indexes_of c.args.sections.now c.args.off ts at in absurd (c.in_default.ensures.none x.indexes x.spelled)

pub mark_type-requires-clause-marks : goal.mark_type-requires-clause-marks
mark_type-requires-clause-marks c =
    let s = c.requires.marks.0 in
    (with_names s (map OfDesc (take c.loop-j.j c.requires.list.0)), c.loop-j.invariant c.requires.list.0 c.requires.list.1 s c.requires.marks.1)

pub mark_type-requires-clause-row : goal.mark_type-requires-clause-row
mark_type-requires-clause-row c =
    let b = c.args.sections.now in
    let xs = halves c.in-Some.indexes.now in
    let ts = c.requires.list.0 in
    let lt : c.loop-j.j < length xs = omega (arith, c.loop-j-test.true, c.in-Some.ensures.even) in
    let t = type_at b c.args.off xs ts c.loop-j.j c.section_of-lists.ensures.framed c.in-Some.ensures.some c.requires.list.1 lt in
    (get_or ts c.loop-j.j [], subst (λ (n : ℕ). TypeStands b n (get_or ts c.loop-j.j [])) (sym (c.from.ensures ∙ c.u16_at.ensures ∙ u16_at-halves c.in-Some.indexes.now c.loop-j.j lt)) t.0)

pub loop-j-preserved : goal.loop-j-preserved
loop-j-preserved c = λ ts at.
    let b = c.args.sections.now in
    let xs = halves c.in-Some.indexes.now in
    let j = c.loop-j.j in
    let lt : j < length xs = omega (arith, c.loop-j-test.true, c.in-Some.ensures.even) in
    let t = type_at b c.args.off xs ts j c.section_of-lists.ensures.framed c.in-Some.ensures.some at lt in
    next_type b c.args.self.now c.loop-j.self c.mark_type.new.self ts j t.1 (c.loop-j.invariant ts at)
    (c.mark_type.ensures (get_or ts j []) (subst (λ (n : ℕ). TypeStands b n (get_or ts j [])) (sym (c.from.ensures ∙ c.u16_at.ensures ∙ u16_at-halves c.in-Some.indexes.now j lt)) t.0))

pub returns-clause-marked : goal.returns-clause-marked
returns-clause-marked c = λ ts at s a.
    let b = c.args.sections.now in
    let xs = halves c.in-Some.indexes.now in
    let j = c.loop-j.j in
    let count = types_count b c.args.off xs ts c.section_of-lists.ensures.framed c.in-Some.ensures.some at in
    let whole : take j ts ≡ ts = take_all j ts (omega (arith, c.loop-j-test.false, c.in-Some.ensures.even, count)) in
    let marked : AreMarks b c.loop-j.self (with_names s (map OfDesc ts)) = subst (λ (us : List Units). AreMarks b c.loop-j.self (with_names s (map OfDesc us))) whole (c.loop-j.invariant ts at s a) in
    list_marked b _ s c.args.off ts _ c.in_ok-insert.ensures.updates.0 at (subst (λ (m : Marked). AreMarks b m (with_names s (map OfDesc ts))) (sym c.self-2.view_is) marked)

pub returns-in_err-insert-clause-stays : goal.returns-in_err-insert-clause-stays
returns-in_err-insert-clause-stays c =
    let s = with_names c.requires.marks.0 (map OfDesc (take c.loop-j.j c.requires.list.0)) in
    let marked : AreMarks c.args.sections.now c.loop-j.self s = c.loop-j.invariant c.requires.list.0 c.requires.list.1 c.requires.marks.0 c.requires.marks.1 in
    refused c.from_residual.result (s, same_lists c.args.sections.now _ s c.insert.new.self.keys c.in_err-insert.ensures.err (subst (λ (m : Marked). AreMarks c.args.sections.now m s) (sym c.self-2.view_is) marked))
