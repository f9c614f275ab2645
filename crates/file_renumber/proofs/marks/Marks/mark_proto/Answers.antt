use Rattle.std.proofs.Common.{◌≡◌, ℕ, List, map, sym, ap, subst, ◌∙◌, get_or}
use Rattle.program_types.specs.Content.{Proto, OfText, OfDesc}
use Rattle.program_types.specs.Shorty.{shorty}
use Rattle.tables_names.specs.Closure.{Five, with_name, with_names}
use Rattle.tables_rows.specs.Stands.{ProtoStands, StringStands, TypeStands, TypesAt}
use Rattle.file_renumber.specs.inner.Marked.{Marked, AreMarks}
use Rattle.file_renumber.proofs.MarkLemmas.{proto_is_there, proto_marked}
use Rattle.file_renumber.proofs.ColumnLemmas.{set_back, within}
use Rattle.file_renumber.proofs.marks.Marks.mark_proto.Goals as goal
use Rattle.file_renumber.proofs.marks.Marks.mark_proto.Goals.{After-mark_type}

pub returns-then-is_marked-clause-marked : goal.returns-then-is_marked-clause-marked
returns-then-is_marked-clause-marked c = λ p st s a.
    proto_is_there c.args.sections.now c.args.self.now s a c.args.index p st
    (subst (λ (xs : List ℕ). get_or xs c.args.index 0 ≡ 1) (c.deref.ensures.value ∙ ap (λ (m : Marked). m.columns.protos) c.self.view_is) (c.is_marked.ensures.0 c.if-is_marked.true))

pub mark_string-requires : goal.mark_string-requires
mark_string-requires c =
    let b = c.args.sections.now in
    let p = c.requires.row.0 in
    (b, c.requires.marks, (shorty p, subst (λ (n : ℕ). StringStands b n (shorty p)) (sym c.proto_shorty.ensures) c.requires.row.1.shorty))

pub mark_type-requires-clause-marks : goal.mark_type-requires-clause-marks
mark_type-requires-clause-marks c =
    let b = c.args.sections.now in
    let p = c.requires.row.0 in
    let text = subst (λ (n : ℕ). StringStands b n (shorty p)) (sym c.proto_shorty.ensures) c.requires.row.1.shorty in
    (with_name c.requires.marks.0 (OfText (shorty p)), c.mark_string.ensures b (shorty p) text c.requires.marks.0 c.requires.marks.1)

pub mark_type-requires-clause-row : goal.mark_type-requires-clause-row
mark_type-requires-clause-row c =
    let p = c.requires.row.0 in
    (p.ret, subst (λ (n : ℕ). TypeStands c.args.sections.now n p.ret) (sym c.proto_return.ensures) c.requires.row.1.ret)

-- its shorty and its return type are marked
front : (c : After-mark_type) (p : Proto) → ProtoStands c.args.sections.now c.args.index p → (s : Five) → AreMarks c.args.sections.now c.args.self.now s → AreMarks c.args.sections.now c.mark_type.new.self (with_name (with_name s (OfText (shorty p))) (OfDesc p.ret))
front c p st s a =
    let b = c.args.sections.now in
    let text = subst (λ (n : ℕ). StringStands b n (shorty p)) (sym c.proto_shorty.ensures) st.shorty in
    let ret = subst (λ (n : ℕ). TypeStands b n p.ret) (sym c.proto_return.ensures) st.ret in
    c.mark_type.ensures p.ret ret (with_name s (OfText (shorty p))) (c.mark_string.ensures b (shorty p) text s a)

pub mark_list-requires-clause-marks : goal.mark_list-requires-clause-marks
mark_list-requires-clause-marks c = (_, front (goal.at.mark_list-requires-clause-marks c).After-mark_type c.requires.row.0 c.requires.row.1 c.requires.marks.0 c.requires.marks.1)

pub mark_list-requires-clause-list : goal.mark_list-requires-clause-list
mark_list-requires-clause-list c =
    let p = c.requires.row.0 in
    (p.params, subst (λ (n : ℕ). TypesAt c.args.sections.now n p.params) (sym c.proto_parameters.ensures) c.requires.row.1.params)

pub mark-requires : goal.mark-requires
mark-requires c =
    let p = c.requires.row.0 in
    let st = c.requires.row.1 in
    let params = subst (λ (n : ℕ). TypesAt c.args.sections.now n p.params) (sym c.proto_parameters.ensures) st.params in
    let a = c.in_ok-mark_list.ensures.marked p.params params _ (front (goal.at.mark-requires c).After-mark_type p st c.requires.marks.0 c.requires.marks.1) in
    within _ _ c.mark_list.new.self.columns.protos c.args.index (c.deref_mut.ensures.value ∙ ap (λ (m : Marked). m.columns.protos) c.self-2.view_is) a.protos.shape.long st.row

pub returns-clause-marked : goal.returns-clause-marked
returns-clause-marked c = λ p st s a.
    let b = c.args.sections.now in
    let params = subst (λ (n : ℕ). TypesAt b n p.params) (sym c.proto_parameters.ensures) st.params in
    let two = c.in_ok-mark_list.ensures.marked p.params params _ (front (goal.at.returns-clause-marked c).After-mark_type p st s a) in
    proto_marked b _ s c.args.index p _ (set_back c.self-2.inside.protos.len c.self-2.inside.protos.items c.mark.new.rows _ c.args.index c.self-2.inside.protos.ok.0 c.deref_mut.ensures.value c.mark.ensures) a.rise st
    (subst (λ (m : Marked). AreMarks b m (with_names (with_name (with_name s (OfText (shorty p))) (OfDesc p.ret)) (map OfDesc p.params))) (sym c.self-2.view_is) two)
