-- The references of a file, word by word.
use Rattle.std.proofs.Common.{◌≡◌, ℕ, zero, suc, ◌+◌, ◌<◌, ◌≤◌, List, [], ◌∷◌, ◌++◌, length, take, drop, get_or, refl, sym, ap, ◌∙◌, arith, get_or-drop, length-drop}
use Rattle.std.proofs.lemmas.List.{take_more, take_all, take-append-drop}
use Rattle.file_write.specs.Packed.{words_of_rows}

front_words : (word : ℕ → ℕ) (xs : List ℕ) (n : ℕ) → n ≤ length xs → ((i : ℕ) → i < n → word i ≡ get_or xs i 0) → take n xs ≡ words_of_rows word n
front_words word xs zero h f = refl
front_words word xs (suc n) h f =
    let e = f n (omega arith) in
    let s : suc n ≡ n + 1 = omega arith in
    let m : take (suc n) xs ≡ take n xs ++ get_or xs n 0 ∷ [] = ap (λ (k : ℕ). take k xs) s ∙ take_more xs n 0 (omega arith) in
    m ∙ ap (λ (l : List ℕ). l ++ get_or xs n 0 ∷ []) (front_words word xs n (omega arith) (λ i lt. f i (omega (arith, lt)))) ∙ ap (λ (k : ℕ). words_of_rows word n ++ k ∷ []) (sym e)

-- words that are those of a list are the list
pub all_words : (word : ℕ → ℕ) (xs : List ℕ) (n : ℕ) → n ≡ length xs → ((i : ℕ) → i < n → word i ≡ get_or xs i 0) → xs ≡ words_of_rows word n
all_words word xs n e f = sym (take_all n xs (omega arith)) ∙ front_words word xs n (omega arith) f

-- .. and so are two lists of words
pub both_words : (word other : ℕ → ℕ) (xs : List ℕ) (m n : ℕ) → m + n ≡ length xs → ((i : ℕ) → i < m → word i ≡ get_or xs i 0) → ((i : ℕ) → i < n → other i ≡ get_or xs (m + i) 0) → xs ≡ words_of_rows word m ++ words_of_rows other n
both_words word other xs m n e f g =
    let front = front_words word xs m (omega (arith, e)) f in
    let l = length-drop m xs in
    let back = all_words other (drop m xs) n (omega (arith, l, e)) (λ i lt. g i lt ∙ sym (get_or-drop m xs i 0)) in
    sym (take-append-drop m xs) ∙ ap (λ (x : List ℕ). x ++ drop m xs) front ∙ ap (λ (x : List ℕ). words_of_rows word m ++ x) back
