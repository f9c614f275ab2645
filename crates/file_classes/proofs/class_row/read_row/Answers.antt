use Rattle.std.proofs.Common.{◌⊎◌, refl, subst, inl, inr, true≢false, sym, option_map}
use Rattle.std.specs.Prelude.{IfSome}
use Rattle.dex_base.specs.Descriptor.{IsClass}
use Rattle.program_types.specs.Content.{Units}
use Rattle.program_types.specs.View.{str, desc}
use Rattle.file_classes.specs.ClassFaults.{ClassRowBreaks}
use Rattle.file_classes.proofs.RowFaults.{class_kind}
use Rattle.file_classes.proofs.class_row.read_row.Goals as goal
use Rattle.file_classes.proofs.class_row.read_row.Goals.{In-Some-string_or_none}

-- where the three are there, and a type is of another kind
of_other_kind : (c : In-Some-string_or_none) → (¬ IsClass (desc c.in-Some.ty)) ⊎ (¬ IfSome (option_map desc c.in-Some-type_or_none.superclass) IsClass) → ClassRowBreaks c.args.sections.now c.args.i 41
of_other_kind c =
    class_kind _ _ (desc c.in-Some.ty) (option_map desc c.in-Some-type_or_none.superclass) (option_map str c.in-Some-string_or_none.source) (rw c.class_word.ensures at c.in-Some.ensures.some) (rw c.class_word-2.ensures at c.in-Some-type_or_none.ensures.some) (rw c.class_word-3.ensures at c.in-Some-string_or_none.ensures.some) c.framed.ensures

pub returns-then-not-is_class_type-clause-err : goal.returns-then-not-is_class_type-clause-err
returns-then-not-is_class_type-clause-err c =
    let kind = of_other_kind (goal.at.returns-then-not-is_class_type-clause-err c).In-Some-string_or_none (inl (λ is. true≢false (sym (c.if-not-is_class_type.ensures.1 is)))) in
    rw c.at-then-not-is_class_type.ensures (record { breaks = kind; place = c.class_place-place.ensures })

pub returns-then-not-is_class_or_none-clause-err : goal.returns-then-not-is_class_or_none-clause-err
returns-then-not-is_class_or_none-clause-err c =
    let kind = of_other_kind (goal.at.returns-then-not-is_class_or_none-clause-err c).In-Some-string_or_none (inr (λ is. true≢false (sym (c.if-not-is_class_or_none.ensures.1 is)))) in
    rw c.at-then-not-is_class_or_none.ensures (record { breaks = kind; place = c.class_place-place.ensures })

pub returns-clause-ok : goal.returns-clause-ok
returns-clause-ok c = record {
  named = rw (← c.class_word.ensures) c.in-Some.ensures.some;
  class = c.if-not-is_class_type.ensures.0 refl;
  flagged = c.class_word-flags.ensures;
  above = rw (← c.class_word-2.ensures) c.in-Some-type_or_none.ensures.some;
  above_class = λ (t : Units) e. subst (λ o. IfSome o IsClass) e (c.if-not-is_class_or_none.ensures.0 refl);
  written_in = rw (← c.class_word-3.ensures) c.in-Some-string_or_none.ensures.some;
}
