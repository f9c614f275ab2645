-- Addresses as sums.
use Rattle.std.proofs.Common.{◌≡◌, ℕ, ◌+◌, ◌<◌, ◌≤◌, ◌++◌, List, [], ◌∷◌, map, length, get_or, drop, refl, ap, sym, ◌∙◌, arith, zero, suc, append_assoc, append-nil, subst}
use Rattle.std.proofs.lemmas.List.{get_or-map, drop_all}
use Rattle.program_types.specs.View.{insn}
use Rattle.program_types.specs.Content as content
use Rattle.program_types.specs.declared.insn.Insn.{Insn}
use Rattle.program_types.specs.Operands.{IsOperand}
use Rattle.program_types.specs.Sizes.{starts_from, total, insn_units}
use Rattle.program_types.specs.Formed.{insn_at}

rest-is : (xs : List ℕ) (k : ℕ) → k < length xs → drop k xs ≡ get_or xs k 0 ∷ drop (k + 1) xs
rest-is [] k l = absurd (omega arith)
rest-is (x ∷ xs) zero l = refl
rest-is (x ∷ xs) (suc k) l = let e : suc (k + 1) ≡ suc k + 1 = omega arith in subst (λ (m : ℕ). drop k xs ≡ get_or xs k 0 ∷ drop m (x ∷ xs)) e (rest-is xs k (omega arith))

pub starts-turn : (all xs whole : List ℕ) (at k n : ℕ) → k < length xs → n ≡ get_or xs k 0 → all ++ starts_from at (drop k xs) ≡ whole → (all ++ at ∷ []) ++ starts_from (at + n) (drop (k + 1) xs) ≡ whole
starts-turn all xs whole at k n l e h =
    let d : starts_from at (drop k xs) ≡ at ∷ starts_from (at + n) (drop (k + 1) xs) =
    ap (starts_from at) (rest-is xs k l) ∙ ap (λ (m : ℕ). at ∷ starts_from (at + m) (drop (k + 1) xs)) (sym e) in
    append_assoc all (at ∷ []) (starts_from (at + n) (drop (k + 1) xs)) ∙ ap (λ (ys : List ℕ). all ++ ys) (sym d) ∙ h

pub sum-turn : (xs : List ℕ) (at k n t : ℕ) → k < length xs → n ≡ get_or xs k 0 → at + total (drop k xs) ≡ t → (at + n) + total (drop (k + 1) xs) ≡ t
unfolding total
sum-turn xs at k n t l e h =
    let d : total (drop k xs) ≡ get_or xs k 0 + total (drop (k + 1) xs) = ap total (rest-is xs k l) in
    omega arith

pub starts-end : (all xs whole : List ℕ) (at k : ℕ) → length xs ≤ k → all ++ starts_from at (drop k xs) ≡ whole → all ≡ whole
starts-end all xs whole at k l h = sym (append-nil all) ∙ ap (λ (ys : List ℕ). all ++ starts_from at ys) (sym (drop_all k xs l)) ∙ h

pub sum-end : (xs : List ℕ) (at k t : ℕ) → length xs ≤ k → at + total (drop k xs) ≡ t → at ≡ t
unfolding total
sum-end xs at k t l h = let s : total (drop k xs) ≡ 0 = ap total (drop_all k xs l) in omega arith

-- instruction k in a list of instructions
pub insn-at : (xs : List Insn) (k : ℕ) (x : Insn) → k < length xs → x ≡ get_or xs k x → insn x ≡ insn_at (map insn xs) k
insn-at xs k x l e = ap insn e ∙ sym (get_or-map insn xs k x (content.I10x 0) l)

pub size-at : (xs : List Insn) (k : ℕ) (x : Insn) → k < length xs → x ≡ get_or xs k x → insn_units (insn x) ≡ get_or (map insn_units (map insn xs)) k 0
size-at xs k x l e = ap (λ (y : Insn). insn_units (insn y)) e ∙ sym (get_or-map (λ (y : Insn). insn_units (insn y)) xs k x 0 l) ∙ ap (λ (ys : List ℕ). get_or ys k 0) (maps xs)
  where
    maps : (ys : List Insn) → map (λ (y : Insn). insn_units (insn y)) ys ≡ map insn_units (map insn ys)
    maps [] = refl
    maps (y ∷ ys) = ap (λ (zs : List ℕ). insn_units (insn y) ∷ zs) (maps ys)

-- no instruction has more units than 2 ^ 32, and each has some
pub units-small : (count : ℕ) (i : content.Insn) → IsOperand count i → insn_units i ≤ 4294967296
unfolding insn_units
units-small count (content.Packed first to) h = let f = h.1 in omega arith
units-small count (content.Sparse keys to) h = let e = h.0 in let f = h.1 in omega arith
units-small count (content.Data width bytes) h = let f = h.2 in omega arith
units-small count _ h = omega arith

pub units-some : (i : content.Insn) → 0 < insn_units i
unfolding insn_units
units-some (content.Packed first to) = omega arith
units-some (content.Sparse keys to) = omega arith
units-some (content.Data width bytes) = omega arith
units-some _ = omega arith
