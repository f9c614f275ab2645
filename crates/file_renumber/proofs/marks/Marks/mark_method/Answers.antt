use Rattle.std.proofs.Common.{◌≡◌, ℕ, List, sym, ap, subst, ◌∙◌, get_or}
use Rattle.program_types.specs.Content.{MethodRef, OfText, OfDesc}
use Rattle.tables_names.specs.Closure.{Five, with_name, with_proto}
use Rattle.tables_rows.specs.Stands.{MethodStands, StringStands, TypeStands, ProtoStands}
use Rattle.file_renumber.specs.inner.Marked.{Marked, AreMarks}
use Rattle.file_renumber.proofs.MarkLemmas.{method_is_there, method_marked}
use Rattle.file_renumber.proofs.ColumnLemmas.{set_back, within}
use Rattle.file_renumber.proofs.marks.Marks.mark_method.Goals as goal
use Rattle.file_renumber.proofs.marks.Marks.mark_method.Goals.{After-mark_string}

pub returns-then-is_marked-clause-marked : goal.returns-then-is_marked-clause-marked
returns-then-is_marked-clause-marked c = λ r st s a.
    method_is_there c.args.sections.now c.args.self.now s a c.args.index r st
    (subst (λ (xs : List ℕ). get_or xs c.args.index 0 ≡ 1) (c.deref.ensures.value ∙ ap (λ (m : Marked). m.columns.methods) c.self.view_is) (c.is_marked.ensures.0 c.if-is_marked.true))

pub mark_type-requires-clause-row : goal.mark_type-requires-clause-row
mark_type-requires-clause-row c =
    let r = c.requires.row.0 in
    (r.class, subst (λ (n : ℕ). TypeStands c.args.sections.now n r.class) (sym (c.from.ensures ∙ c.member_class.ensures)) c.requires.row.1.class)

pub mark_string-requires : goal.mark_string-requires
mark_string-requires c =
    let b = c.args.sections.now in
    let r = c.requires.row.0 in
    let st = c.requires.row.1 in
    let s = c.requires.marks.0 in
    let class = subst (λ (n : ℕ). TypeStands b n r.class) (sym (c.from.ensures ∙ c.member_class.ensures)) st.class in
    (b, (with_name s (OfDesc r.class), c.mark_type.ensures r.class class s c.requires.marks.1), (r.name, subst (λ (n : ℕ). StringStands b n r.name) (sym c.member_name.ensures) st.name))

-- its class and its name are marked
front : (c : After-mark_string) (r : MethodRef) → MethodStands c.args.sections.now c.args.index r → (s : Five) → AreMarks c.args.sections.now c.args.self.now s → AreMarks c.args.sections.now c.mark_string.new.self (with_name (with_name s (OfDesc r.class)) (OfText r.name))
front c r st s a =
    let b = c.args.sections.now in
    let class = subst (λ (n : ℕ). TypeStands b n r.class) (sym (c.from.ensures ∙ c.member_class.ensures)) st.class in
    let name = subst (λ (n : ℕ). StringStands b n r.name) (sym c.member_name.ensures) st.name in
    c.mark_string.ensures b r.name name (with_name s (OfDesc r.class)) (c.mark_type.ensures r.class class s a)

pub mark_proto-requires-clause-marks : goal.mark_proto-requires-clause-marks
mark_proto-requires-clause-marks c = (_, front (goal.at.mark_proto-requires-clause-marks c).After-mark_string c.requires.row.0 c.requires.row.1 c.requires.marks.0 c.requires.marks.1)

pub mark_proto-requires-clause-row : goal.mark_proto-requires-clause-row
mark_proto-requires-clause-row c =
    let r = c.requires.row.0 in
    (r.proto, subst (λ (n : ℕ). ProtoStands c.args.sections.now n r.proto) (sym (c.from-2.ensures ∙ c.member_kind.ensures)) c.requires.row.1.proto)

pub mark-requires : goal.mark-requires
mark-requires c =
    let r = c.requires.row.0 in
    let st = c.requires.row.1 in
    let proto = subst (λ (n : ℕ). ProtoStands c.args.sections.now n r.proto) (sym (c.from-2.ensures ∙ c.member_kind.ensures)) st.proto in
    let a = c.in_ok-mark_proto.ensures.marked r.proto proto _ (front (goal.at.mark-requires c).After-mark_string r st c.requires.marks.0 c.requires.marks.1) in
    within _ _ c.mark_proto.new.self.columns.methods c.args.index (c.deref_mut.ensures.value ∙ ap (λ (m : Marked). m.columns.methods) c.self-2.view_is) a.methods.shape.long st.row

pub returns-clause-marked : goal.returns-clause-marked
returns-clause-marked c = λ r st s a.
    let b = c.args.sections.now in
    let proto = subst (λ (n : ℕ). ProtoStands b n r.proto) (sym (c.from-2.ensures ∙ c.member_kind.ensures)) st.proto in
    let two = c.in_ok-mark_proto.ensures.marked r.proto proto _ (front (goal.at.returns-clause-marked c).After-mark_string r st s a) in
    method_marked b _ s a.closed a.rise c.args.index r _ (set_back c.self-2.inside.methods.len c.self-2.inside.methods.items c.mark.new.rows _ c.args.index c.self-2.inside.methods.ok.0 c.deref_mut.ensures.value c.mark.ensures) st
    (subst (λ (m : Marked). AreMarks b m (with_proto (with_name (with_name s (OfDesc r.class)) (OfText r.name)) r.proto)) (sym c.self-2.view_is) two)
