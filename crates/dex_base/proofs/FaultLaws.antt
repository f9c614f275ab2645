-- The row of a number, looked for from the front.
use Rattle.std.proofs.Common.{◌≡◌, ◌≢◌, ℕ, ◌+◌, ◌<◌, ◌==◌, if◌then◌else◌, List, map, drop, length, slice_index_or, ◌∙◌, arith, Bor}
use Rattle.std.proofs.lemmas.Bool.Decides.{nat_tests}
use Rattle.std.proofs.lemmas.List.{at_drop_more}
use Rattle.dex_base.specs.declared.fault_names.Row.{Row}
use Rattle.dex_base.specs.Fault.{column_text}
use Rattle.dex_base.specs.inner.Fault.{row_number}

one : (n m : ℕ) (a b : List ℕ) → m ≡ n → (if n == m then a else b) ≡ a
one n m a b e = grind (arith, nat_tests)

other : (n m : ℕ) (a b : List ℕ) → m ≢ n → (if n == m then a else b) ≡ b
other n m a b e = grind (arith, nat_tests)

-- it stands at the front of what is left
pub row_here : (text : Row (Bor (List ℕ)) → List ℕ) (rows : List (Row (Bor (List ℕ)))) (i : ℕ) (d : Row (Bor (List ℕ))) (none : List ℕ) (n : ℕ) → i < length rows
    → (slice_index_or rows i d).number ≡ n → column_text (map row_number (drop i rows)) (map text (drop i rows)) none n ≡ text (slice_index_or rows i d)
row_here text rows i d none n h e =
    at_drop_more (λ rs. column_text (map row_number rs) (map text rs) none n) rows i d h ∙ one n (slice_index_or rows i d).number _ _ e

-- or after that
pub row_after : (text : Row (Bor (List ℕ)) → List ℕ) (rows : List (Row (Bor (List ℕ)))) (i : ℕ) (d : Row (Bor (List ℕ))) (none : List ℕ) (n : ℕ) → i < length rows
    → (slice_index_or rows i d).number ≢ n → column_text (map row_number (drop i rows)) (map text (drop i rows)) none n ≡ column_text (map row_number (drop (i + 1) rows)) (map text (drop (i + 1) rows)) none n
row_after text rows i d none n h e =
    at_drop_more (λ rs. column_text (map row_number rs) (map text rs) none n) rows i d h ∙ other n (slice_index_or rows i d).number _ _ e
