-- Static values by the numbers of kept rows.
use Rattle.std.proofs.Common.{◌≡◌, ℕ, zero, suc, Bool, true, false, List, [], ◌∷◌, length, map, get_or, refl, sym, subst, arith, slice_get, Some}
use Rattle.std.specs.Prelude.{MatchBool, ◌==◌}
use Rattle.std.specs.List.{AllByRecursion}
use Rattle.std.proofs.lemmas.List.{length-map}
use Rattle.std.proofs.lemmas.Option.{slice_get_within}
use Rattle.std.proofs.lemmas.Bool.{ne_eqb}
use Rattle.dex_base.specs.Fields.{AreBytes}
use Rattle.dex_value.specs.Standing.{ArrayStands}
use Rattle.file_classes.specs.Classes.{StaticsAt}
use Rattle.file_layout.specs.inner.Sections.{is_empty_list}
use Rattle.file_limits.specs.inner.Wide.{array_values}
use Rattle.file_needed.proofs.ClassNames.{values_kept}
use Rattle.file_put.specs.inner.Arrays.{WritesArray}
use Rattle.file_put.proofs.RankedArrays.{array_some}
use Rattle.file_layout.specs.inner.OneMore.{Entry}
use Rattle.file_layout.specs.inner.Sharing.{UsesItem}
use Rattle.program_types.specs.Content.{Name, OfField, Class, Program, Value, Values, Named, Enum, Array, no_values, more_values, values}
use Rattle.program_types.specs.Mentions.{NamesHold, AllNamesHold, names_of_value, names_of_values}
use Rattle.tables_names.specs.Closure.{Five, NameRanks}
use Rattle.tables_names.specs.inner.Closure.{Holds}
use Rattle.tables_names.specs.Needed.{needed}
use Rattle.file_renumber.specs.inner.Marked.{Columns}
use Rattle.file_renumber.specs.inner.Numbers.{Carries}
use Rattle.tables_rows.specs.Stands.{NameStands}
use Rattle.file_renumber.specs.inner.CarriedArrays.{IsCarriedArray, IsItemOf}
use Rattle.file_strip.specs.inner.Keeping.{Keeps}
use Rattle.file_strip.specs.inner.Moved.{IsItem}
use Rattle.file_strip.specs.inner.Statics.{AreCarriedStatics, IsCarriedStatics}
use Rattle.file_strip.specs.inner.Words.{AreClassWords}
use Rattle.file_strip.proofs.KeepLaws.{carried, class_holds}
use Rattle.file_strip.proofs.ListLaws.{zip_of}
use Rattle.dex_base.proofs.ListFacts.{all_front, all_back}

pub eq_off : {off : ℕ} → off ≡ 0 → (off == 0) ≡ true
eq_off e = rw e refl

pub off_some : {off : ℕ} → (off ≡ 0 → ⊥) → (off == 0) ≡ false
off_some {off} not = ne_eqb off 0 (λ e. absurd (not e))

-- after an offset other than 0 an array stands
pub array_carried : (b : List ℕ) (numbers : Columns) (s : Five) (off : ℕ) (vs : List Value) → (off == 0) ≡ false → IsCarriedStatics b numbers s off vs → IsCarriedArray b off numbers s vs
array_carried b numbers s off vs e c =
    let stands : MatchBool false (vs ≡ []) (ArrayStands (NameStands b) b off c.most vs) = subst (λ (t : Bool). MatchBool t (vs ≡ []) (ArrayStands (NameStands b) b off c.most vs)) e c.stands in
    record { most = c.most; stands = stands; rise = c.rise; carried = c.carried }

-- at 0 there are no values, which take no item
pub no_array : (b : List ℕ) (numbers : Columns) (s : Five) (off : ℕ) (vs : List Value) (kept : List Entry) (out : List ℕ) → (off == 0) ≡ true → IsCarriedStatics b numbers s off vs → UsesItem is_empty_list (WritesArray s) 1 kept kept out out vs 0
no_array b numbers s off vs kept out e c =
    let none : MatchBool true (vs ≡ []) (ArrayStands (NameStands b) b off c.most vs) = subst (λ (t : Bool). MatchBool t (vs ≡ []) (ArrayStands (NameStands b) b off c.most vs)) e c.stands in
    rw none (refl, refl, refl)

-- the item of an array
pub array_item : (s : Five) (bytes : List ℕ) (vs : List Value) → AreBytes bytes → IsItemOf (NameRanks s) bytes vs → IsItem is_empty_list (WritesArray s) bytes vs
array_item s bytes [] are i = i
array_item s bytes (v ∷ vs) are i = (array_some s bytes (v ∷ vs) i, record { packs = i; are = are })

mutual
  value_hold : (P Q : Name → Type 0) → ((n : Name) → P n → Q n) → (v : Value) → AllByRecursion P (names_of_value v) → NamesHold Q v
  value_hold P Q f (Named n) h = f n h.0
  value_hold P Q f (Enum c) h = f (OfField c) h.0
  value_hold P Q f (Array vs) h = values_hold P Q f vs h
  value_hold P Q f _ h = tt

  values_hold : (P Q : Name → Type 0) → ((n : Name) → P n → Q n) → (vs : Values) → AllByRecursion P (names_of_values vs) → AllNamesHold Q vs
  values_hold P Q f no_values h = tt
  values_hold P Q f (more_values v vs) h = (value_hold P Q f v (all_front P (names_of_value v) (names_of_values vs) h), values_hold P Q f vs (all_back P (names_of_value v) (names_of_values vs) h))

-- the static values of the classes
pub class_statics : (b : List ℕ) (numbers : Columns) (p : Program) → Keeps b numbers p → (words : List ℕ) → AreClassWords b 7 words → AreCarriedStatics b numbers (needed p) words (array_values p)
class_statics b numbers p k words w =
    let count = k.classes.count in
    let n = length-map p (λ (c : Class). c.values) in
    let m = w.count in
    zip_of (IsCarriedStatics b numbers (needed p)) words (array_values p) (omega (arith, count, n, m))
    (λ i vs at.
    let c = mapped p i vs at in
    let lt = slice_get_within p i c.0 c.1 in
    let st = k.classes.each i c.0 c.1 in
    subst (λ (xs : List Value). IsCarriedStatics b numbers (needed p) (get_or words i 0) xs) c.2
    (record {
      most = length st.entries.statics;
      stands = subst (λ (o : ℕ). StaticsAt b o (length st.entries.statics) c.0.values) (sym (w.each i (omega (arith, lt, count)))) st.values;
      rise = k.marked.rise;
      carried = values_hold (Holds (needed p)) (Carries (NameStands b) (NameRanks (needed p)) numbers) (λ name h. carried b numbers p k name h) (values c.0.values) (values_kept (Holds (needed p)) c.0 (class_holds p i c.0 c.1));
    }))
  where
    mapped : (q : Program) (i : ℕ) (vs : List Value) → slice_get (map (λ (c : Class). c.values) q) i ≡ Some vs → (c : Class) × (slice_get q i ≡ Some c) × (c.values ≡ vs)
    mapped [] i vs at = absurd cc
    mapped (c ∷ q) zero vs at = let e : c.values ≡ vs = cc in (c, refl, e)
    mapped (c ∷ q) (suc i) vs at = mapped q i vs at
