-- Static values of a row, by the names of the tables.
use Rattle.std.proofs.Common.{◌≡◌, ◌≢◌, ℕ, ◌<◌, Bool, true, false, List, [], length, refl, sym, ap, ◌∙◌, subst}
use Rattle.std.specs.Prelude.{MatchBool, ◌==◌}
use Rattle.std.proofs.lemmas.Bool.{eqb-true, eq-eqb}
use Rattle.std.proofs.lemmas.List.{length-map}
use Rattle.dex_base.specs.Fault.{memory}
use Rattle.dex_base.specs.declared.fault.Fault.{Fault}
use Rattle.dex_container.specs.Layout.{size_of}
use Rattle.program_types.specs.Content.{Value}
use Rattle.program_types.specs.View.{member}
use Rattle.tables_rows.specs.Names.{Names, AreNamesOf, NameIsAt}
use Rattle.tables_rows.specs.RowFields.{row_place}
use Rattle.tables_rows.specs.Sorted.{RowsHold}
use Rattle.tables_rows.specs.Stands.{NameStands}
use Rattle.tables_rows.proofs.NameLaws.{names_stand}
use Rattle.dex_value.specs.Standing.{ArrayStands}
use Rattle.dex_value.specs.Faults.{ArrayBreaksAt}
use Rattle.file_classes.specs.ClassRows.{class_word}
use Rattle.file_classes.specs.ClassFaults.{ValuesStand, ValuesBreak, at_row}
use Rattle.file_classes.specs.inner.ClassFaults.{IsFirstClass}
use Rattle.file_classes.specs.inner.Reading.{IsHead}
use Rattle.file_classes.specs.declared.heads.Head.{Head}
use Rattle.file_classes.proofs.ClearLaws.{array_weaker}

-- the two cases of an offset
pub at_none : (place : ℕ) (P Q : Type 0) → place ≡ 0 → P → MatchBool (place == 0) P Q
at_none place P Q none p = by (place == 0) (eq-eqb place 0 none)
  where
    by : (t : Bool) → t ≡ true → MatchBool t P Q
    by true e = p
    by false e = absurd cc

pub at_other : (place : ℕ) (P Q : Type 0) → place ≢ 0 → Q → MatchBool (place == 0) P Q
at_other place P Q some q = by (place == 0) (λ e. some (eqb-true place 0 e))
  where
    by : (t : Bool) → (t ≢ true) → MatchBool t P Q
    by true not = absurd (not refl)
    by false not = q

module _ (b : List ℕ) (i : ℕ) (h : Head) (is : IsHead b i h) where
  statics_count : length h.statics.now ≡ length is.entries.statics
  statics_count = sym (length-map h.statics.now member) ∙ is.head.members.statics.count

  pub no_values : (off : ℕ) → off ≡ class_word b i 7 → off ≡ 0 → ValuesStand b i []
  no_values off at none = record {
    entries = is.entries;
    class_data = is.head.class_data;
    spelled = at_none (class_word b i 7) _ _ (sym at ∙ none) refl;
  }

  module _ (names : Names) (of_file : AreNamesOf b names) (off : ℕ) (at : off ≡ class_word b i 7) (some : off ≢ 0) (most : ℕ) (counted : most ≡ length h.statics.now) where
    pub values_stand : (vs : List Value) → ArrayStands (NameIsAt names) b off most vs → ValuesStand b i vs
    values_stand vs a =
        let here = array_weaker (NameIsAt names) (NameStands b) (λ k n. names_stand b names k n of_file) b off most vs a in
        let placed = subst (λ (x : ℕ). ArrayStands (NameStands b) b x most vs) at here in
        record {
          entries = is.entries;
          class_data = is.head.class_data;
          spelled = at_other (class_word b i 7) _ _ (λ e. some (at ∙ e)) (subst (λ (n : ℕ). ArrayStands (NameStands b) b (class_word b i 7) n vs) (counted ∙ statics_count) placed);
        }

    pub values_break : (own e : Fault) (place : ℕ) → place ≡ row_place b 5 i → e ≡ at_row place own → ArrayBreaksAt (NameIsAt names) b off most own → ValuesBreak b i e
    values_break own e place there moved breaks = record {
      entries = is.entries;
      class_data = is.head.class_data;
      some = λ z. some (at ∙ z);
      names = names;
      of_file = of_file;
      own = own;
      breaks = subst (λ (n : ℕ). ArrayBreaksAt (NameIsAt names) b (class_word b i 7) n own) (counted ∙ statics_count) (subst (λ (x : ℕ). ArrayBreaksAt (NameIsAt names) b x most own) at breaks);
      moved = moved ∙ ap (λ p. at_row p own) there;
    }

-- out of memory stays what it is
pub other_fault : (place : ℕ) (own e : Fault) → e ≡ at_row place own → e ≢ memory → own ≢ memory
other_fault place own e is ne same = ne (is ∙ ap (at_row place) same)

-- the fault of a row, where the rows before hold
pub first_class : (Breaks : List ℕ → ℕ → Fault → Type 0) (Holds : List ℕ → ℕ → Type 0) (b : List ℕ) (i : ℕ) (e : Fault) → i < size_of b 5 → RowsHold Holds b i → Breaks b i e → IsFirstClass Breaks Holds b e
first_class Breaks Holds b i e within before broken = record { number = i; within = within; breaks = broken; before = before }
