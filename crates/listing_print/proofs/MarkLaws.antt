-- Which instructions are named.
use Rattle.std.proofs.Common.{◌≡◌, ℕ, zero, suc, ◌+◌, ◌<◌, Bool, false, List, [], ◌∷◌, ◌++◌, length, get_or, take, map, refl, sym, ap, subst, ◌∙◌, append_assoc, arith, drop, replicate}
use Rattle.std.specs.List.{flat_map}
use Rattle.std.proofs.lemmas.Grind.{flat_map-append}
use Rattle.std.proofs.lemmas.List.{append-nil, map-append, take_more, take_all, drop_all}
use Rattle.listing_print.specs.inner.Marks.{IsMarked}

-- ---- one number more, and one after the other

-- these numbers, put otherwise
pub marked_join : (ms : List Bool) (ns a b c : List ℕ) → c ≡ a ++ b → IsMarked ms ((ns ++ a) ++ b) → IsMarked ms (ns ++ c)
marked_join ms ns a b c e m = subst (λ (x : List ℕ). IsMarked ms x) (append_assoc ns a b ∙ ap (λ x. ns ++ x) (sym e)) m

pub map_more : {X Y : Type 0} (view : X → Y) (f : Y → ℕ) (xs : List X) (i : ℕ) (x : X) → i < length xs → map f (map view (take (i + 1) xs)) ≡ map f (map view (take i xs)) ++ f (view (get_or xs i x)) ∷ []
map_more view f xs i x h = ap (λ l. map f (map view l)) (take_more xs i x h) ∙ ap (map f) (map-append view (take i xs) (get_or xs i x ∷ [])) ∙ map-append f (map view (take i xs)) (view (get_or xs i x) ∷ [])

pub flat_more : {X Y : Type 0} (view : X → Y) (f : Y → List ℕ) (xs : List X) (i : ℕ) (x : X) → i < length xs → flat_map f (map view (take (i + 1) xs)) ≡ flat_map f (map view (take i xs)) ++ f (view (get_or xs i x))
flat_more view f xs i x h =
    let y = f (view (get_or xs i x)) in
    ap (λ l. flat_map f (map view l)) (take_more xs i x h) ∙ ap (flat_map f) (map-append view (take i xs) (get_or xs i x ∷ [])) ∙ flat_map-append f (map view (take i xs)) (view (get_or xs i x) ∷ []) ∙ ap (λ t. flat_map f (map view (take i xs)) ++ t) (append-nil y)

-- ---- nothing is named yet

take_none : (n : ℕ) → take {A = Bool} n [] ≡ []
take_none zero = refl
take_none (suc n) = refl

marked_none : (k : ℕ) → IsMarked (replicate k false ++ false ∷ []) []
marked_none zero zero h = refl
marked_none zero (suc j) h = absurd (omega arith)
marked_none (suc k) zero h = refl
marked_none (suc k) (suc j) h = marked_none k j (omega arith)

pub none_marked : (n k : ℕ) (before items new : List Bool) → before ≡ [] → items ≡ take n before ++ replicate k false → new ≡ items ++ false ∷ [] → IsMarked new []
none_marked n k before items new e f g =
    let z : items ≡ replicate k false = f ∙ ap (λ (b : List Bool). take n b ++ replicate k false) e ∙ ap (λ (b : List Bool). b ++ replicate k false) (take_none n) in
    subst (λ (l : List Bool). IsMarked l []) (sym (g ∙ ap (λ (b : List Bool). b ++ false ∷ []) z)) (marked_none k)

-- what a try covers, its catches and what is for all others, one after the other
pub marked_try : (ms : List Bool) (ns : List ℕ) (from to : ℕ) (cs rest : List ℕ) → IsMarked ms ((((ns ++ from ∷ []) ++ to ∷ []) ++ cs) ++ rest) → IsMarked ms (ns ++ from ∷ to ∷ (cs ++ rest))
marked_try ms ns from to cs rest m =
    subst (λ (l : List ℕ). IsMarked ms l)
    (append_assoc ((ns ++ from ∷ []) ++ to ∷ []) cs rest ∙ append_assoc (ns ++ from ∷ []) (to ∷ []) (cs ++ rest) ∙ append_assoc ns (from ∷ []) (to ∷ (cs ++ rest))) m

-- what stands in memory after a whole list that was written over another one of its length
pub whole_written : (xs ys : List Bool) (n : ℕ) → length xs ≡ n → length ys ≡ n → take n (xs ++ drop (length xs) ys) ≡ xs
whole_written xs ys n e f =
    let d : drop (length xs) ys ≡ [] = drop_all (length xs) ys (omega (arith, e, f)) in
    ap (λ l. take n (xs ++ l)) d ∙ ap (take n) (append-nil xs) ∙ take_all n xs (omega (arith, e))
