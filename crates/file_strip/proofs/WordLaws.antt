-- Words of class rows, row by row.
use Rattle.std.proofs.Common.{◌≡◌, ℕ, ◌+◌, ◌-◌, ◌<◌, List, [], ◌∷◌, ◌++◌, length, get_or, sym, ap, ◌∙◌, arith, inl, inr, length-append}
use Rattle.std.proofs.lemmas.Bool.{cases_lt}
use Rattle.std.proofs.lemmas.List.{get_or_append_left, get_or-append_right}

pub words_more : (words new : List ℕ) (w i : ℕ) (word : ℕ → ℕ) → length words ≡ i → ((k : ℕ) → k < i → get_or words k 0 ≡ word k) → new ≡ words ++ w ∷ [] → w ≡ word i → (length new ≡ i + 1) × ((k : ℕ) → k < i + 1 → get_or new k 0 ≡ word k)
words_more words new w i word n each e is =
    rw e (
      (let l = length-append words (w ∷ []) in omega (arith, l, n)),
      λ k lt. elim (cases_lt k i) [
        | inl less ↦ get_or_append_left words (w ∷ []) 0 k (omega (arith, n, less)) ∙ each k less
        | inr ge ↦
            let same : k ≡ i = omega (arith, lt, ge) in
            let z : k - i ≡ 0 = omega (arith, same) in
            get_or-append_right words (w ∷ []) i k 0 n (omega (arith, same)) ∙ ap (λ (j : ℕ). get_or (w ∷ []) j 0) z ∙ is ∙ ap word (sym same)
      ],
    )
