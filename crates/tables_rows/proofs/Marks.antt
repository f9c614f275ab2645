-- The strings that are member names, marked one by one.
use Rattle.std.proofs.Common.{◌≡◌, ◌↔◌, ℕ, ◌+◌, ◌<◌, ◌≤◌, List, [], ◌∷◌, ◌++◌, Bool, false, Some, length, get_or, sym, subst, ◌∙◌, ap, inl, inr, arith, length-append}
use Rattle.std.specs.Prelude.{IsTrue, map, option_map}
use Rattle.std.specs.List.{slice_get}
use Rattle.std.proofs.lemmas.Bool.{cases_lt}
use Rattle.std.proofs.lemmas.List.{get_or_append_left, get_or_push, length-map}
use Rattle.std.proofs.lemmas.Option.{slice_get-map, slice_get-get_or, slice_get_within}
use Rattle.dex_base.specs.Descriptor.{IsMemberName}
use Rattle.program_types.specs.View.{str}
use Rattle.program_types.specs.declared.names.Str.{Str}
use Rattle.tables_rows.specs.inner.Reading.{AreNameMarks}

-- the first n marks say of their texts whether these are member names
pub record MarkFirst (texts : List (List ℕ)) (marks : List Bool) (n : ℕ) : Type 0 where
  pub count : length marks ≡ n
  pub each : (i : ℕ) (text : List ℕ) → i < n → slice_get texts i ≡ Some text → IsTrue (get_or marks i false) ↔ IsMemberName text

-- and so does one more
pub mark_more : (texts : List (List ℕ)) (marks : List Bool) (n : ℕ) (mark : Bool) (here : List ℕ) → MarkFirst texts marks n → slice_get texts n ≡ Some here → (IsTrue mark ↔ IsMemberName here)
    → MarkFirst texts (marks ++ mark ∷ []) (n + 1)
mark_more texts marks n mark here first at is = record {
  count = length_more marks mark n first.count;
  each = λ i text lt got. elim (cases_lt i n) [
    | inl below ↦ subst (λ (m : Bool). IsTrue m ↔ IsMemberName text) (sym (get_or_append_left marks (mark ∷ []) false i (let c = first.count in omega (arith, c, below)))) (first.each i text below got)
    | inr above ↦
        let same : i ≡ n = omega (arith, lt, above) in
        let told : here ≡ text = some_one (sym at ∙ ap (slice_get texts) (sym same) ∙ got) in
        subst (λ (m : Bool). IsTrue m ↔ IsMemberName text) (sym (get_or_push marks mark false i (first.count ∙ sym same)))
        (subst (λ (t : List ℕ). IsTrue mark ↔ IsMemberName t) told is)
  ];
}
  where
    length_more : (marks : List Bool) (mark : Bool) (n : ℕ) → length marks ≡ n → length (marks ++ mark ∷ []) ≡ n + 1
    length_more marks mark n e = simp length-append (omega (arith, e))

    some_one : {x y : List ℕ} → Some x ≡ Some y → x ≡ y
    some_one e = cc

-- the text at an index
pub here_is : (xs : List Str) (i : ℕ) (d : Str) → i < length xs → slice_get (map str xs) i ≡ Some (str (get_or xs i d))
here_is xs i d lt = slice_get-map str xs i ∙ ap (option_map str) (slice_get-get_or xs i d lt)

-- and when all are marked
pub marks_all : (xs : List Str) (marks : List Bool) (n : ℕ) → length xs ≤ n → n ≤ length xs → MarkFirst (map str xs) marks n → AreNameMarks (map str xs) marks
marks_all xs marks n most least first = record {
  count = let c = first.count in let m = length-map xs str in omega (arith, c, m);
  each = λ i text got. first.each i text (let w = slice_get_within (map str xs) i text got in let m = length-map xs str in omega (arith, w, m)) got;
}
