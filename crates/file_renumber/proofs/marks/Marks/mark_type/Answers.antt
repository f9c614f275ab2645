use Rattle.std.proofs.Common.{◌≡◌, ℕ, List, sym, ap, subst, ◌∙◌, get_or}
use Rattle.program_types.specs.Content.{OfText}
use Rattle.tables_names.specs.Closure.{with_name}
use Rattle.tables_rows.specs.Stands.{StringStands}
use Rattle.file_renumber.specs.inner.Marked.{Marked, AreMarks}
use Rattle.file_renumber.proofs.MarkLemmas.{type_is_there, type_marked}
use Rattle.file_renumber.proofs.ColumnLemmas.{set_back, within}
use Rattle.file_renumber.proofs.marks.Marks.mark_type.Goals as goal

pub returns-then-is_marked : goal.returns-then-is_marked
returns-then-is_marked c = λ t st s a.
    type_is_there c.args.sections.now c.args.self.now s a c.args.index t st
    (subst (λ (xs : List ℕ). get_or xs c.args.index 0 ≡ 1) (c.deref.ensures.value ∙ ap (λ (m : Marked). m.columns.types) c.self.view_is) (c.is_marked.ensures.0 c.if-is_marked.true))

pub mark_string-requires : goal.mark_string-requires
mark_string-requires c =
    let b = c.args.sections.now in
    let t = c.requires.row.0 in
    (b, c.requires.marks, (t, subst (λ (n : ℕ). StringStands b n t) (sym c.type_string.ensures) c.requires.row.1.string))

pub mark-requires : goal.mark-requires
mark-requires c =
    let b = c.args.sections.now in
    let t = c.requires.row.0 in
    let text : StringStands b c.type_string.result t = subst (λ (n : ℕ). StringStands b n t) (sym c.type_string.ensures) c.requires.row.1.string in
    let a = c.mark_string.ensures b t text c.requires.marks.0 c.requires.marks.1 in
    within _ _ c.mark_string.new.self.columns.types c.args.index (c.deref_mut.ensures.value ∙ ap (λ (m : Marked). m.columns.types) c.self-2.view_is) a.types.shape.long c.requires.row.1.row

pub returns : goal.returns
returns c = λ t st s a.
    let b = c.args.sections.now in
    let text : StringStands b c.type_string.result t = subst (λ (n : ℕ). StringStands b n t) (sym c.type_string.ensures) st.string in
    type_marked b _ s a.closed a.rise c.args.index t _ (set_back c.self-2.inside.types.len c.self-2.inside.types.items c.mark.new.rows _ c.args.index c.self-2.inside.types.ok.0 c.deref_mut.ensures.value c.mark.ensures) st
    (subst (λ (m : Marked). AreMarks b m (with_name s (OfText t))) (sym c.self-2.view_is) (c.mark_string.ensures b t text s a))
