use Rattle.std.proofs.Common.{◌≡◌, ◌<◌, ◌^◌, ◌+◌, ℕ, replicate, ap, subst, ◌∙◌}
use Rattle.dex_container.specs.Layout.{size_of, offset_of}
use Rattle.program_types.specs.Key.{text_key, proto_key, field_ref_key, method_ref_key}
use Rattle.tables_rows.specs.Stands.{StringStands, TypeStands, ProtoStands, FieldStands, MethodStands}
use Rattle.file_renumber.proofs.ColumnLemmas.{marks_none, table_size}
use Rattle.file_renumber.proofs.MarkLemmas.{none_marked}
use Rattle.file_renumber.proofs.marks.Marks.new.Goals as goal

pub returns-clause-none : goal.returns-clause-none
returns-clause-none c =
    let b = c.args.sections.now in
    let e0 : c.table.result.0 ≡ size_of b 0 = ap (λ p. p.0) c.table.ensures ∙ table_size (size_of b 0) (offset_of b 0) in
    let e1 : c.table-2.result.0 ≡ size_of b 1 = ap (λ p. p.0) c.table-2.ensures ∙ table_size (size_of b 1) (offset_of b 1) in
    let e2 : c.table-3.result.0 ≡ size_of b 2 = ap (λ p. p.0) c.table-3.ensures ∙ table_size (size_of b 2) (offset_of b 2) in
    let e3 : c.table-4.result.0 ≡ size_of b 3 = ap (λ p. p.0) c.table-4.ensures ∙ table_size (size_of b 3) (offset_of b 3) in
    let e4 : c.table-5.result.0 ≡ size_of b 4 = ap (λ p. p.0) c.table-5.ensures ∙ table_size (size_of b 4) (offset_of b 4) in
    none_marked b _ c.bytes-framed.ensures.framed
    (marks_none (size_of b 0) (StringStands b) text_key _ (subst (λ (n : ℕ). n < 2 ^ 32) e0 c.unmarked.ensures.few) (c.in_ok-unmarked.ensures.ok ∙ ap (λ (n : ℕ). replicate (n + 1) 0) e0))
    (marks_none (size_of b 1) (TypeStands b) text_key _ (subst (λ (n : ℕ). n < 2 ^ 32) e1 c.unmarked-2.ensures.few) (c.in_ok-unmarked-2.ensures.ok ∙ ap (λ (n : ℕ). replicate (n + 1) 0) e1))
    (marks_none (size_of b 2) (ProtoStands b) proto_key _ (subst (λ (n : ℕ). n < 2 ^ 32) e2 c.unmarked-3.ensures.few) (c.in_ok-unmarked-3.ensures.ok ∙ ap (λ (n : ℕ). replicate (n + 1) 0) e2))
    (marks_none (size_of b 3) (FieldStands b) field_ref_key _ (subst (λ (n : ℕ). n < 2 ^ 32) e3 c.unmarked-4.ensures.few) (c.in_ok-unmarked-4.ensures.ok ∙ ap (λ (n : ℕ). replicate (n + 1) 0) e3))
    (marks_none (size_of b 4) (MethodStands b) method_ref_key _ (subst (λ (n : ℕ). n < 2 ^ 32) e4 c.unmarked-5.ensures.few) (c.in_ok-unmarked-5.ensures.ok ∙ ap (λ (n : ℕ). replicate (n + 1) 0) e4))
    c.with_hasher.ensures.empty
