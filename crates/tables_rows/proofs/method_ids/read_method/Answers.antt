use Rattle.std.proofs.Common.{refl, sym, ◌∙◌, ◌⊎◌, true≢false, inl, inr}
use Rattle.dex_base.specs.Descriptor.{IsArray, IsClass, IsMemberName}
use Rattle.program_types.specs.View.{str, desc, proto}
use Rattle.tables_rows.specs.TableFaults.{BreaksAt, MethodBreaks}
use Rattle.tables_rows.proofs.ClearRows.{method_kind}
use Rattle.tables_rows.proofs.method_ids.read_method.Goals as goal
use Rattle.tables_rows.proofs.method_ids.read_method.Goals.{In-Some-string_at}

-- where the row has a class, a proto and a name, and class or name is of a wrong kind
unfit : (c : In-Some-string_at) → (¬ (IsClass (desc c.in-Some.class) ⊎ IsArray (desc c.in-Some.class))) ⊎ (¬ IsMemberName (str c.in-Some-string_at.name)) → BreaksAt MethodBreaks c.args.sections.now 4 c.args.i c.at-unfit.result
unfit c why = rw c.at-unfit.ensures (record {
  breaks = method_kind _ _ c.framed.ensures (record { class = desc c.in-Some.class; name = str c.in-Some-string_at.name; proto = proto c.in-Some-proto_at.proto.now }) (rw (c.from.ensures ∙ c.member_class.ensures) at c.in-Some.ensures.some)
      (rw (c.from-2.ensures ∙ c.member_kind.ensures) at c.in-Some-proto_at.ensures.some) (rw c.member_name-index.ensures at c.in-Some-string_at.ensures.some) why;
  place = c.member_row-row.ensures;
})

pub returns-then-not-is_class_or_array_row-clause-err : goal.returns-then-not-is_class_or_array_row-clause-err
returns-then-not-is_class_or_array_row-clause-err c =
    unfit (goal.at.returns-then-not-is_class_or_array_row-clause-err c).In-Some-string_at (inl (λ is. true≢false (sym (c.if-not-is_class_or_array_row.ensures.1 is))))

pub returns-then-not-is_marked-clause-err : goal.returns-then-not-is_marked-clause-err
returns-then-not-is_marked-clause-err c =
    unfit (goal.at.returns-then-not-is_marked-clause-err c).In-Some-string_at
    (inr (λ is. true≢false (sym ((c.requires.names.each _ _ c.in-Some-string_at.ensures.got).1 is) ∙ sym c.if-not-is_marked.ensures)))

pub returns-clause-ok : goal.returns-clause-ok
returns-clause-ok c = record {
  row = c.requires.row;
  class = rw (c.from.ensures ∙ c.member_class.ensures) at c.in-Some.ensures.some;
  proto = rw (c.from-2.ensures ∙ c.member_kind.ensures) at c.in-Some-proto_at.ensures.some;
  name = rw c.member_name-index.ensures at c.in-Some-string_at.ensures.some;
  of_class = c.if-not-is_class_or_array_row.ensures.0 refl;
  named = (c.requires.names.each _ _ c.in-Some-string_at.ensures.got).0 (sym c.if-not-is_marked.ensures);
}

pub is_class_or_array_row-requires : goal.is_class_or_array_row-requires
is_class_or_array_row-requires c = c.in-Some.ensures.some.descriptor
