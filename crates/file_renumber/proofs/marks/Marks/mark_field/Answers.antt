use Rattle.std.proofs.Common.{◌≡◌, ℕ, List, sym, ap, subst, ◌∙◌, get_or}
use Rattle.program_types.specs.Content.{FieldRef, OfText, OfDesc}
use Rattle.tables_names.specs.Closure.{Five, with_name}
use Rattle.tables_rows.specs.Stands.{FieldStands, StringStands, TypeStands}
use Rattle.file_renumber.specs.inner.Marked.{Marked, AreMarks}
use Rattle.file_renumber.proofs.MarkLemmas.{field_is_there, field_marked}
use Rattle.file_renumber.proofs.ColumnLemmas.{set_back, within}
use Rattle.file_renumber.proofs.marks.Marks.mark_field.Goals as goal
use Rattle.file_renumber.proofs.marks.Marks.mark_field.Goals.{After-mark_string}

pub returns-then-is_marked : goal.returns-then-is_marked
returns-then-is_marked c = λ f st s a.
    field_is_there c.args.sections.now c.args.self.now s a c.args.index f st
    (subst (λ (xs : List ℕ). get_or xs c.args.index 0 ≡ 1) (c.deref.ensures.value ∙ ap (λ (m : Marked). m.columns.fields) c.self.view_is) (c.is_marked.ensures.0 c.if-is_marked.true))

pub mark_type-requires-clause-row : goal.mark_type-requires-clause-row
mark_type-requires-clause-row c =
    let f = c.requires.row.0 in
    (f.class, subst (λ (n : ℕ). TypeStands c.args.sections.now n f.class) (sym (c.from.ensures ∙ c.member_class.ensures)) c.requires.row.1.class)

pub mark_string-requires : goal.mark_string-requires
mark_string-requires c =
    let b = c.args.sections.now in
    let f = c.requires.row.0 in
    let st = c.requires.row.1 in
    let s = c.requires.marks.0 in
    let class = subst (λ (n : ℕ). TypeStands b n f.class) (sym (c.from.ensures ∙ c.member_class.ensures)) st.class in
    (b, (with_name s (OfDesc f.class), c.mark_type.ensures f.class class s c.requires.marks.1), (f.name, subst (λ (n : ℕ). StringStands b n f.name) (sym c.member_name.ensures) st.name))

-- its class and its name are marked
front : (c : After-mark_string) (f : FieldRef) → FieldStands c.args.sections.now c.args.index f → (s : Five) → AreMarks c.args.sections.now c.args.self.now s → AreMarks c.args.sections.now c.mark_string.new.self (with_name (with_name s (OfDesc f.class)) (OfText f.name))
front c f st s a =
    let b = c.args.sections.now in
    let class = subst (λ (n : ℕ). TypeStands b n f.class) (sym (c.from.ensures ∙ c.member_class.ensures)) st.class in
    let name = subst (λ (n : ℕ). StringStands b n f.name) (sym c.member_name.ensures) st.name in
    c.mark_string.ensures b f.name name (with_name s (OfDesc f.class)) (c.mark_type.ensures f.class class s a)

pub mark_type-requires-2-clause-marks : goal.mark_type-requires-2-clause-marks
mark_type-requires-2-clause-marks c = (_, front (goal.at.mark_type-requires-2-clause-marks c).After-mark_string c.requires.row.0 c.requires.row.1 c.requires.marks.0 c.requires.marks.1)

pub mark_type-requires-2-clause-row : goal.mark_type-requires-2-clause-row
mark_type-requires-2-clause-row c =
    let f = c.requires.row.0 in
    (f.ty, subst (λ (n : ℕ). TypeStands c.args.sections.now n f.ty) (sym (c.from-2.ensures ∙ c.member_kind.ensures)) c.requires.row.1.ty)

pub mark-requires : goal.mark-requires
mark-requires c =
    let f = c.requires.row.0 in
    let st = c.requires.row.1 in
    let ty = subst (λ (n : ℕ). TypeStands c.args.sections.now n f.ty) (sym (c.from-2.ensures ∙ c.member_kind.ensures)) st.ty in
    let a = c.mark_type-2.ensures f.ty ty _ (front (goal.at.mark-requires c).After-mark_string f st c.requires.marks.0 c.requires.marks.1) in
    within _ _ c.mark_type-2.new.self.columns.fields c.args.index (c.deref_mut.ensures.value ∙ ap (λ (m : Marked). m.columns.fields) c.self-2.view_is) a.fields.shape.long st.row

pub returns : goal.returns
returns c = λ f st s a.
    let b = c.args.sections.now in
    let ty = subst (λ (n : ℕ). TypeStands b n f.ty) (sym (c.from-2.ensures ∙ c.member_kind.ensures)) st.ty in
    let two = c.mark_type-2.ensures f.ty ty _ (front (goal.at.returns c).After-mark_string f st s a) in
    field_marked b _ s a.closed a.rise c.args.index f _ (set_back c.self-2.inside.fields.len c.self-2.inside.fields.items c.mark.new.rows _ c.args.index c.self-2.inside.fields.ok.0 c.deref_mut.ensures.value c.mark.ensures) st
    (subst (λ (m : Marked). AreMarks b m (with_name (with_name (with_name s (OfDesc f.class)) (OfText f.name)) (OfDesc f.ty))) (sym c.self-2.view_is) two)
