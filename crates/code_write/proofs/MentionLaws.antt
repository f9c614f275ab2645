-- The indices of what instructions name, one by one.
use Rattle.std.proofs.Common.{◌≡◌, ℕ, zero, suc, ◌+◌, ◌<◌, ◌≤◌, ◌++◌, List, [], ◌∷◌, map, length, get_or, take, drop, ap, sym, ◌∙◌, arith, append_assoc}
use Rattle.std.proofs.lemmas.List.{append-nil, take_more, map-append}
use Rattle.std.specs.List.{AllZip, flat_map}
use Rattle.program_types.specs.Content.{Name, Insn as SpecInsn}
use Rattle.program_types.specs.Mentions.{names_of_insn}
use Rattle.program_types.specs.View.{insn}
use Rattle.program_types.specs.declared.insn.Insn.{Insn}
use Rattle.tables_names.specs.Closure.{Five, NameRanks}
use Rattle.tables_names.specs.Noted.{AreRanks}

-- ---- of one name

pub one_there : (s : Five) (n : Name) (is : List ℕ) → AreRanks s (n ∷ []) is → 0 < length is
one_there s n [] h = absurd h
one_there s n (i ∷ is) h = omega arith

pub one_is : (s : Five) (n : Name) (is : List ℕ) → AreRanks s (n ∷ []) is → NameRanks s (get_or is 0 0) n
one_is s n [] h = absurd h
one_is s n (i ∷ is) h = h.0

-- ---- of several

-- those of the first names, and those of the others
module _ {A B : Type 0} (R : A → B → Type 0) where
  pub zip_split : (xs ys : List A) (zs : List B) → AllZip R (xs ++ ys) zs → (length xs ≤ length zs) × AllZip R xs (take (length xs) zs) × AllZip R ys (drop (length xs) zs)
  zip_split [] ys zs h = (omega arith, tt, h)
  zip_split (x ∷ xs) ys [] h = absurd h
  zip_split (x ∷ xs) ys (z ∷ zs) h = let r = zip_split xs ys zs h.1 in (omega (arith, r.0), (h.0, r.1), r.2)

module _ (s : Five) where
  -- those of the next instruction, and those of the instructions after it
  pub next_indices : (xs : List Insn) (k : ℕ) (d : Insn) (rest : List ℕ) → k < length xs → AreRanks s (flat_map names_of_insn (map insn (drop k xs))) rest → let own = names_of_insn (insn (get_or xs k d)) in (length own ≤ length rest) × AreRanks s own (take (length own) rest) × AreRanks s (flat_map names_of_insn (map insn (drop (suc k) xs))) (drop (length own) rest)
  next_indices [] k d rest lt h = absurd (omega (arith, lt))
  next_indices (x ∷ xs) zero d rest lt h = zip_split (λ name i. NameRanks s i name) (names_of_insn (insn x)) (flat_map names_of_insn (map insn xs)) rest h
  next_indices (x ∷ xs) (suc k) d rest lt h = next_indices xs k d rest (omega (arith, lt)) h

-- ---- so far

flat_push : (is : List SpecInsn) (i : SpecInsn) → flat_map names_of_insn (is ++ i ∷ []) ≡ flat_map names_of_insn is ++ names_of_insn i
flat_push [] i = append-nil (names_of_insn i)
flat_push (j ∷ is) i = ap (λ l. names_of_insn j ++ l) (flat_push is i) ∙ sym (append_assoc (names_of_insn j) (flat_map names_of_insn is) (names_of_insn i))

-- the names of one more instruction
pub names_more : (xs : List Insn) (k : ℕ) (d : Insn) → k < length xs → flat_map names_of_insn (map insn (take (k + 1) xs)) ≡ flat_map names_of_insn (map insn (take k xs)) ++ names_of_insn (insn (get_or xs k d))
names_more xs k d lt =
    let m : map insn (take (k + 1) xs) ≡ map insn (take k xs) ++ insn (get_or xs k d) ∷ [] = rw (take_more xs k d lt) (map-append insn (take k xs) (get_or xs k d ∷ [])) in
    ap (flat_map names_of_insn) m ∙ flat_push (map insn (take k xs)) (insn (get_or xs k d))
