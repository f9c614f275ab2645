-- Sections of which each item is placed and counted.
use Rattle.std.proofs.Common.{◌≡◌, ℕ, zero, suc, ◌+◌, ◌<◌, ◌≤◌, List, [], ◌∷◌, ◌++◌, length, map, take, drop, get_or, refl, sym, ap, ◌∙◌, arith, subst, Bool, true, false}
use Rattle.std.proofs.lemmas.List.{take_more, drop_more, take_all, drop_all}
use Rattle.std.specs.Prelude.{MatchBool}
use Rattle.file_layout.specs.Tiles.{Tiles, Done, Item, gap}
use Rattle.file_layout.specs.Sections.{wide_all}
use Rattle.file_layout.specs.inner.Sections.{Adds, AddsSome, Laying, Laid, count_with}
use Rattle.file_layout.proofs.SectionLaws.{Laying-more}
use Rattle.file_layout.specs.inner.OneMore.{Entry}
use Rattle.file_layout.specs.inner.Sharing.{Sharing, UsesItem}
use Rattle.file_layout.proofs.SharingLaws.{sharing_more, sharing_bound}
use Rattle.file_put.specs.inner.Placing.{items_with}
use Rattle.file_put.proofs.LengthLaws.{map_drop}
use Rattle.dex_base.proofs.ListFacts.{map_more}

Tiles_few : {V : Type 0} {G : List ℕ → V → Type 0} {align : ℕ} {b : List ℕ} {at end : ℕ} {items : List (ℕ × V)} → Tiles G align b at end items → at + length items ≤ end
Tiles_few Done = omega arith
Tiles_few (Item next some spelled rest) = let l = Tiles_few rest in let e = next.there in omega (arith, e, l, some)

-- items take bytes
pub items_few : {V : Type 0} (none : V → Bool) (G : List ℕ → V → Type 0) (align : ℕ) (wide : V → ℕ) (old out : List ℕ) (done rest all : List V) (places : List ℕ) (count : ℕ) → Laying none G align wide old out done rest all places count → length old + count ≤ length out
items_few none G align wide old out done rest all places count l = let t = Tiles_few l.lays.tiled in let c = l.lays.counted in omega (arith, t, c)

with_some : (place count : ℕ) → 0 < place → items_with place count ≡ count + 1
with_some zero count h = absurd (omega (arith, h))
with_some (suc place) count h = refl

counted : {V : Type 0} (none : V → Bool) (G : List ℕ → V → Type 0) (align : ℕ) (old new : List ℕ) (v : V) (place count : ℕ) → 0 < length old → AddsSome none G align old new v place → items_with place count ≡ count_with (none v) count
counted {V = V} none G align old new v place count front a =
    elim (none v) as (λ (t : Bool). MatchBool t ((place ≡ 0) × (new ≡ old)) (Adds G align old new v place) → items_with place count ≡ count_with t count) [
      | true ↦ λ a. rw a.0 refl
      | false ↦ λ a. let t = a.there in with_some place count (omega (arith, t, front))
    ] a

longer : {V : Type 0} (none : V → Bool) (G : List ℕ → V → Type 0) (align : ℕ) (wide : V → ℕ) (old out : List ℕ) (done rest all : List V) (places : List ℕ) (count : ℕ) → Laying none G align wide old out done rest all places count → 0 < length old → 0 < length out
longer none G align wide old out done rest all places count l front = let f = items_few none G align wide old out done rest all places count l in omega (arith, f, front)

-- one more value
pub one_more : {V : Type 0} (none : V → Bool) (G : List ℕ → V → Type 0) (align : ℕ) (wide : V → ℕ) (old out new : List ℕ) (done rest all : List V) (v : V) (places more : List ℕ) (place count items : ℕ)
    → Laying none G align wide old out done (v ∷ rest) all places count → 0 < length old → AddsSome none G align out new v place → length new ≤ length out + wide v
    → more ≡ places ++ place ∷ [] → items ≡ items_with place count
    → Laying none G align wide old new (done ++ v ∷ []) rest all more items
one_more {V = V} none G align wide old out new done rest all v places more place count items l front a small m n =
    subst (λ (ps : List ℕ). Laying none G align wide old new (done ++ v ∷ []) rest all ps items) (sym m)
    (Laying-more none G align wide old out new done rest all v places place count items l front a small (n ∙ counted none G align out new v place count (longer none G align wide old out done (v ∷ rest) all places count l front) a))

-- one more value, of a list of them
pub placed_more : {V : Type 0} (none : V → Bool) (G : List ℕ → V → Type 0) (align : ℕ) (wide : V → ℕ) (old out new : List ℕ) (vs : List V) (i : ℕ) (d : V) (places more : List ℕ) (place count items : ℕ)
    → i < length vs → Laying none G align wide old out (take i vs) (drop i vs) vs places count → 0 < length old → AddsSome none G align out new (get_or vs i d) place → length new ≤ length out + wide (get_or vs i d)
    → more ≡ places ++ place ∷ [] → items ≡ items_with place count
    → Laying none G align wide old new (take (i + 1) vs) (drop (i + 1) vs) vs more items
placed_more {V = V} none G align wide old out new vs i d places more place count items lt l front a small m n =
    let before = subst (λ (rest : List V). Laying none G align wide old out (take i vs) rest vs places count) (drop_more vs i d lt) l in
    let after = Laying-more none G align wide old out new (take i vs) (drop (i + 1) vs) vs (get_or vs i d) places place count items before front a small (n ∙ counted none G align out new (get_or vs i d) place count (longer none G align wide old out (take i vs) (drop i vs) vs places count l front) a) in
    subst (λ (ps : List ℕ). Laying none G align wide old new (take (i + 1) vs) (drop (i + 1) vs) vs ps items) (sym m)
    (subst (λ (done : List V). Laying none G align wide old new done (drop (i + 1) vs) vs (places ++ place ∷ []) items) (sym (take_more vs i d lt)) after)

-- the room that is left, where one value stands at i
pub room_at : {V : Type 0} (wide : V → ℕ) (vs : List V) (i : ℕ) (d : V) → i < length vs → wide (get_or vs i d) ≤ wide_all wide (drop i vs)
room_at wide vs i d lt = let e = ap (wide_all wide) (drop_more vs i d lt) in omega (arith, e)

pub room_of_element : {A V : Type 0} (g : A → V) (wide : V → ℕ) (xs : List A) (i : ℕ) (d : A) → i < length xs → wide (g (get_or xs i d)) ≤ wide_all wide (map g (drop i xs))
room_of_element g wide xs i d lt = let e = ap (wide_all wide) (map_drop g xs i d lt) in omega (arith, e)

pub laid_all : {V : Type 0} (none : V → Bool) (G : List ℕ → V → Type 0) (align : ℕ) (wide : V → ℕ) (old out : List ℕ) (vs : List V) (i : ℕ) (places : List ℕ) (count : ℕ) → length vs ≤ i → Laying none G align wide old out (take i vs) (drop i vs) vs places count → Laid none G align wide old out vs places count
laid_all {V = V} none G align wide old out vs i places count le l =
    subst (λ (done : List V). Laying none G align wide old out done [] vs places count) (take_all i vs le)
    (subst (λ (rest : List V). Laying none G align wide old out (take i vs) rest vs places count) (drop_all i vs le) l)

pub laid_of : {A V : Type 0} (g : A → V) (none : V → Bool) (G : List ℕ → V → Type 0) (align : ℕ) (wide : V → ℕ) (old out : List ℕ) (xs : List A) (i : ℕ) (places : List ℕ) (count : ℕ) → length xs ≤ i → Laying none G align wide old out (map g (take i xs)) (map g (drop i xs)) (map g xs) places count → Laid none G align wide old out (map g xs) places count
laid_of {V = V} g none G align wide old out xs i places count le l =
    subst (λ (done : List V). Laying none G align wide old out done [] (map g xs) places count) (ap (map g) (take_all i xs le))
    (subst (λ (rest : List V). Laying none G align wide old out (map g (take i xs)) rest (map g xs) places count) (ap (map g) (drop_all i xs le)) l)

-- ---- parts of which each item is written once

-- one more value, of an element
pub shared_of : {A V : Type 0} (g : A → V) (none : V → Bool) (G K : List ℕ → V → Type 0) (align : ℕ) (wide : V → ℕ) (old out new : List ℕ) (xs : List A) (i : ℕ) (d : A) (places more_places : List ℕ) (place : ℕ) (kept more : List Entry)
    → ((bytes : List ℕ) (u : V) → K bytes u → G bytes u) → ((bytes : List ℕ) (u w : V) → K bytes u → K bytes w → u ≡ w)
    → (none (g (get_or xs i d)) ≡ false → (bytes : List ℕ) (at : ℕ) → K bytes (g (get_or xs i d)) → gap align at + length bytes ≤ wide (g (get_or xs i d)))
    → i < length xs → Sharing none G K align wide old out (map g (take i xs)) (map g (drop i xs)) (map g xs) places kept → 0 < length old → UsesItem none K align kept more out new (g (get_or xs i d)) place → more_places ≡ places ++ place ∷ []
    → Sharing none G K align wide old new (map g (take (i + 1) xs)) (map g (drop (i + 1) xs)) (map g xs) more_places more
shared_of {V = V} g none G K align wide old out new xs i d places more_places place kept more packs one most lt s front a n =
    let v = g (get_or xs i d) in
    let before = subst (λ (rest : List V). Sharing none G K align wide old out (map g (take i xs)) rest (map g xs) places kept) (map_drop g xs i d lt) s in
    let after = sharing_more none G K align wide old out new (map g (take i xs)) (map g (drop (i + 1) xs)) (map g xs) v places place kept more packs one before front a (sharing_bound none G K align wide out new v place kept more most a) in
    rw n (subst (λ (done : List V). Sharing none G K align wide old new done (map g (drop (i + 1) xs)) (map g xs) (places ++ place ∷ []) more) (sym (map_more g xs i d lt)) after)

pub shared_all : {A V : Type 0} (g : A → V) (none : V → Bool) (G K : List ℕ → V → Type 0) (align : ℕ) (wide : V → ℕ) (old out : List ℕ) (xs : List A) (i : ℕ) (places : List ℕ) (kept : List Entry)
    (count : ℕ) → length xs ≤ i → Sharing none G K align wide old out (map g (take i xs)) (map g (drop i xs)) (map g xs) places kept → count ≡ length kept → Laid none G align wide old out (map g xs) places count
shared_all g none G K align wide old out xs i places kept count le s n = rw n (laid_of g none G align wide old out xs i places (length kept) le s.laying)
