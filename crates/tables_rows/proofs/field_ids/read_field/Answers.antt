use Rattle.std.proofs.Common.{refl, sym, ◌∙◌, ◌≡◌, ◌⊎◌, true≢false, inl, inr}
use Rattle.dex_base.specs.Descriptor.{IsClass, IsMemberName}
use Rattle.program_types.specs.Kinds.{void}
use Rattle.program_types.specs.View.{str, desc}
use Rattle.tables_rows.specs.TableFaults.{BreaksAt, FieldBreaks}
use Rattle.tables_rows.proofs.ClearRows.{field_kind}
use Rattle.tables_rows.proofs.field_ids.read_field.Goals as goal
use Rattle.tables_rows.proofs.field_ids.read_field.Goals.{In-Some-string_at}

-- where the row has a class, a type and a name, and one is of a wrong kind
unfit : (c : In-Some-string_at) → (¬ IsClass (desc c.in-Some.class)) ⊎ (desc c.in-Some-type_at.ty ≡ void) ⊎ (¬ IsMemberName (str c.in-Some-string_at.name)) → BreaksAt FieldBreaks c.args.sections.now 3 c.args.i c.at-unfit.result
unfit c why = rw c.at-unfit.ensures (record {
  breaks = field_kind _ _ c.framed.ensures (record { class = desc c.in-Some.class; name = str c.in-Some-string_at.name; ty = desc c.in-Some-type_at.ty }) (rw (c.from.ensures ∙ c.member_class.ensures) at c.in-Some.ensures.some)
      (rw (c.from-2.ensures ∙ c.member_kind.ensures) at c.in-Some-type_at.ensures.some) (rw c.member_name-index.ensures at c.in-Some-string_at.ensures.some) why;
  place = c.member_row-row.ensures;
})

pub returns-then-not-is_class_row-clause-err : goal.returns-then-not-is_class_row-clause-err
returns-then-not-is_class_row-clause-err c =
    unfit (goal.at.returns-then-not-is_class_row-clause-err c).In-Some-string_at (inl (λ is. true≢false (sym (c.if-not-is_class_row.ensures.1 is))))

pub returns-then-is_void-clause-err : goal.returns-then-is_void-clause-err
returns-then-is_void-clause-err c = unfit (goal.at.returns-then-is_void-clause-err c).In-Some-string_at (inr (inl (c.if-is_void.ensures.0 refl)))

pub returns-then-not-is_marked-clause-err : goal.returns-then-not-is_marked-clause-err
returns-then-not-is_marked-clause-err c =
    unfit (goal.at.returns-then-not-is_marked-clause-err c).In-Some-string_at
    (inr (inr (λ is. true≢false (sym ((c.requires.names.each _ _ c.in-Some-string_at.ensures.got).1 is) ∙ sym c.if-not-is_marked.ensures))))

pub returns-clause-ok : goal.returns-clause-ok
returns-clause-ok c = record {
  row = c.requires.row;
  class = rw (c.from.ensures ∙ c.member_class.ensures) at c.in-Some.ensures.some;
  ty = rw (c.from-2.ensures ∙ c.member_kind.ensures) at c.in-Some-type_at.ensures.some;
  name = rw c.member_name-index.ensures at c.in-Some-string_at.ensures.some;
  of_class = c.if-not-is_class_row.ensures.0 refl;
  value = λ e. true≢false (sym (c.if-is_void.ensures.1 e));
  named = (c.requires.names.each _ _ c.in-Some-string_at.ensures.got).0 (sym c.if-not-is_marked.ensures);
}

pub is_class_row-requires : goal.is_class_row-requires
is_class_row-requires c = c.in-Some.ensures.some.descriptor
