-- Steps of loops over names.
use Rattle.std.proofs.Common.{◌≡◌, ℕ, zero, suc, ◌+◌, ◌<◌, List, [], ◌∷◌, ◌++◌, map, take, get_or, length, refl, sym, ap, ◌∙◌, arith, append_assoc, subst}
use Rattle.std.specs.Prelude.{Result, Ok, Err, OnOk}
use Rattle.std.proofs.lemmas.List.{append-nil, take_more, map-append}
use Rattle.std.proofs.lemmas.List.Sums.{fold_push}
use Rattle.std.specs.List.{AllByRecursion, flat_map}
use Rattle.tables_names.specs.Closure.{Five, with_name, with_names}
use Rattle.tables_names.proofs.NeededLemmas.{names_append}
use Rattle.tables_names.specs.Noted.{AddsNoted, AreNoted, Notes}
use Rattle.tables_names.proofs.NotedLemmas.{notes_both}
use Rattle.program_types.specs.Content as content
use Rattle.program_types.specs.Content.{Name, values}
use Rattle.program_types.specs.Mentions.{names_of_value, names_of_values}
use Rattle.program_types.specs.View.{value}
use Rattle.program_types.specs.declared.value.Value.{Value}
use Rattle.dex_base.proofs.ListFacts.{map_more, all_front, all_back}

-- one more name, of an element
pub names_more : {A B : Type 0} (f : B → Name) (g : A → B) (s l new : Five) (xs : List A) (i : ℕ) (d : A) → i < length xs → l ≡ with_names s (map f (map g (take i xs))) → new ≡ with_name l (f (g (get_or xs i d)))
    → new ≡ with_names s (map f (map g (take (i + 1) xs)))
names_more f g s l new xs i d lt e n =
    let m : map f (map g (take (i + 1) xs)) ≡ map f (map g (take i xs)) ++ f (g (get_or xs i d)) ∷ [] = ap (map f) (map_more g xs i d lt) ∙ map-append f (map g (take i xs)) (g (get_or xs i d) ∷ []) in
    n ∙ ap (λ q. with_name q (f (g (get_or xs i d)))) e ∙ sym (ap (with_names s) m ∙ fold_push with_name s (map f (map g (take i xs))) (f (g (get_or xs i d))))

names_push : (vs : List content.Value) (v : content.Value) → names_of_values (values (vs ++ v ∷ [])) ≡ names_of_values (values vs) ++ names_of_value v
names_push [] v = one (names_of_value v)
  where
    one : (xs : List Name) → xs ++ [] ≡ [] ++ xs
    one [] = refl
    one (x ∷ xs) = ap (λ l. x ∷ l) (one xs)
names_push (w ∷ vs) v = ap (λ l. names_of_value w ++ l) (names_push vs v) ∙ sym (append_assoc (names_of_value w) (names_of_values (values vs)) (names_of_value v))

-- one more value
pub values_more : (s l new : Five) (xs : List Value) (i : ℕ) (d : Value) → i < length xs → l ≡ with_names s (names_of_values (values (map value (take i xs)))) → new ≡ with_names l (names_of_value (value (get_or xs i d)))
    → new ≡ with_names s (names_of_values (values (map value (take (i + 1) xs))))
values_more s l new xs i d lt e n =
    let m : map value (take (i + 1) xs) ≡ map value (take i xs) ++ value (get_or xs i d) ∷ [] = rw (take_more xs i d lt) (map-append value (take i xs) (get_or xs i d ∷ [])) in
    n ∙ ap (λ q. with_names q (names_of_value (value (get_or xs i d)))) e ∙ sym (names_append s (names_of_values (values (map value (take i xs)))) (names_of_value (value (get_or xs i d))))
    ∙ sym (ap (λ vs. with_names s (names_of_values (values vs))) m ∙ ap (with_names s) (names_push (map value (take i xs)) (value (get_or xs i d))))

pub value_kept : (P : Name → Type 0) (xs : List Value) (i : ℕ) (d : Value) → i < length xs → AllByRecursion P (names_of_values (values (map value xs))) → AllByRecursion P (names_of_value (value (get_or xs i d)))
value_kept P [] i d lt h = absurd (omega (arith, lt))
value_kept P (x ∷ xs) zero d lt h = all_front P (names_of_value (value x)) (names_of_values (values (map value xs))) h
value_kept P (x ∷ xs) (suc i) d lt h = value_kept P xs i d (omega (arith, lt)) (all_back P (names_of_value (value x)) (names_of_values (values (map value xs))) h)

-- names of elements, one after the other
flat_push : {V : Type 0} (f : V → List Name) (vs : List V) (v : V) → flat_map f (vs ++ v ∷ []) ≡ flat_map f vs ++ f v
flat_push f [] v = one (f v)
  where
    one : (xs : List Name) → xs ++ [] ≡ [] ++ xs
    one [] = refl
    one (x ∷ xs) = ap (λ l. x ∷ l) (one xs)
flat_push f (w ∷ vs) v = ap (λ l. f w ++ l) (flat_push f vs v) ∙ sym (append_assoc (f w) (flat_map f vs) (f v))

pub flat_more : {A V : Type 0} (f : V → List Name) (g : A → V) (s l new : Five) (xs : List A) (i : ℕ) (d : A) → i < length xs → l ≡ with_names s (flat_map f (map g (take i xs))) → new ≡ with_names l (f (g (get_or xs i d)))
    → new ≡ with_names s (flat_map f (map g (take (i + 1) xs)))
flat_more f g s l new xs i d lt e n =
    let m : map g (take (i + 1) xs) ≡ map g (take i xs) ++ g (get_or xs i d) ∷ [] = rw (take_more xs i d lt) (map-append g (take i xs) (get_or xs i d ∷ [])) in
    n ∙ ap (λ q. with_names q (f (g (get_or xs i d)))) e ∙ sym (names_append s (flat_map f (map g (take i xs))) (f (g (get_or xs i d))))
    ∙ sym (ap (λ vs. with_names s (flat_map f vs)) m ∙ ap (with_names s) (flat_push f (map g (take i xs)) (g (get_or xs i d))))

pub flat_kept : {A V : Type 0} (P : Name → Type 0) (f : V → List Name) (g : A → V) (xs : List A) (i : ℕ) (d : A) → i < length xs → AllByRecursion P (flat_map f (map g xs)) → AllByRecursion P (f (g (get_or xs i d)))
flat_kept P f g [] i d lt h = absurd (omega (arith, lt))
flat_kept P f g (x ∷ xs) zero d lt h = all_front P (f (g x)) (flat_map f (map g xs)) h
flat_kept P f g (x ∷ xs) (suc i) d lt h = flat_kept P f g xs i d (omega (arith, lt)) (all_back P (f (g x)) (flat_map f (map g xs)) h)

-- ---- names that are noted

-- those of one more element
pub notes_more : {A V : Type 0} (f : V → List Name) (g : A → V) (s l new : Notes) (xs : List A) (i : ℕ) (d : A) → i < length xs → AddsNoted s l (flat_map f (map g (take i xs))) → AddsNoted l new (f (g (get_or xs i d))) → AddsNoted s new (flat_map f (map g (take (i + 1) xs)))
notes_more f g s l new xs i d lt so_far here =
    let m : map g (take (i + 1) xs) ≡ map g (take i xs) ++ g (get_or xs i d) ∷ [] = rw (take_more xs i d lt) (map-append g (take i xs) (get_or xs i d ∷ [])) in
    let more : flat_map f (map g (take (i + 1) xs)) ≡ flat_map f (map g (take i xs)) ++ f (g (get_or xs i d)) = ap (flat_map f) m ∙ flat_push f (map g (take i xs)) (g (get_or xs i d)) in
    rw more (notes_both s l new (flat_map f (map g (take i xs))) (f (g (get_or xs i d))) so_far here)

-- the notes of one more element
pub noted_next : {A V : Type 0} (f : V → List Name) (g : A → V) (s l new : Notes) (xs : List A) (i : ℕ) (d : A) → i < length xs → ((before : List Name) → AreNoted s before → AreNoted l (before ++ flat_map f (map g (take i xs)))) → ((before : List Name) → AreNoted l before → AreNoted new (before ++ f (g (get_or xs i d))))
    → (before : List Name) → AreNoted s before → AreNoted new (before ++ flat_map f (map g (take (i + 1) xs)))
noted_next f g s l new xs i d lt so_far here before h =
    let m : map g (take (i + 1) xs) ≡ map g (take i xs) ++ g (get_or xs i d) ∷ [] = rw (take_more xs i d lt) (map-append g (take i xs) (get_or xs i d ∷ [])) in
    let more : flat_map f (map g (take (i + 1) xs)) ≡ flat_map f (map g (take i xs)) ++ f (g (get_or xs i d)) = ap (flat_map f) m ∙ flat_push f (map g (take i xs)) (g (get_or xs i d)) in
    rw more (subst (AreNoted new) (append_assoc before (flat_map f (map g (take i xs))) (f (g (get_or xs i d)))) (here (before ++ flat_map f (map g (take i xs))) (so_far before h)))

pub no_notes : (n : Notes) (before : List Name) → AreNoted n before → AreNoted n (before ++ [])
no_notes n before h = subst (AreNoted n) (sym (append-nil before)) h

pub nothing_noted : (n : Notes) → n.numbers ≡ [] → AreNoted n []
nothing_noted n e = rw e tt

-- what follows from two clauses of a result
pub both_ok : {T E P Q R : Type 0} (r : Result T E) → (P → Q → R) → OnOk r P → OnOk r Q → OnOk r R
both_ok (Ok x) f p q = f p q
both_ok (Err e) f p q = tt
