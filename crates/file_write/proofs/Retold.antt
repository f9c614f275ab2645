-- A packed section is laid, where what stands at each place is told by the value that refers to it.
use Rattle.std.proofs.Common.{◌≡◌, ◌≢◌, ℕ, zero, suc, ◌<◌, Bool, true, false, List, [], ◌∷◌, ◌++◌, length, map, refl, sym, ◌∙◌, subst, arith, Some, inl, inr, ◌⊎◌}
use Rattle.std.specs.Prelude.{MatchBool, ◌==◌, ◌||◌, if◌then◌else◌}
use Rattle.std.specs.List.{AllByRecursion, AllZip, fold, list_any, slice_get}
use Rattle.std.proofs.lemmas.Bool.{eq-eqb}
use Rattle.std.proofs.lemmas.Option.{slice_get_within}
use Rattle.dex_container.specs.Where.{slice}
use Rattle.file_classes.proofs.EntryLaws.{entry_at}
use Rattle.file_layout.specs.Tiles.{Among, add_place, distinct_places}
use Rattle.file_layout.specs.inner.Tiles.{AreShared, Lays, Refers}
use Rattle.file_layout.proofs.TileLaws.{Tiles-among, refers_some, zip_there}
use Rattle.file_write.specs.Packed.{IsPackedSection}
use Rattle.file_write.proofs.Items.{among_kept, places_kept}
use Rattle.file_write.proofs.Sections.{Reread, Tells, reread, same_length}
use Rattle.dex_base.proofs.ListFacts.{all_there, zip_length}

-- ---- each place that isn't 0 is among the distinct ones

-- a number is one of these
abbrev Has : List ℕ → ℕ → Type 0
Has [] x = ⊥
Has (y ∷ ys) x = (y ≡ x) ⊎ Has ys x

has_left : (xs ys : List ℕ) (x : ℕ) → Has xs x → Has (xs ++ ys) x
has_left [] ys x h = absurd h
has_left (z ∷ xs) ys x (inl e) = inl e
has_left (z ∷ xs) ys x (inr h) = inr (has_left xs ys x h)

has_last : (xs : List ℕ) (x : ℕ) → Has (xs ++ x ∷ []) x
has_last [] x = inl refl
has_last (z ∷ xs) x = inr (has_last xs x)

any_has : (xs : List ℕ) (x : ℕ) → list_any (λ q. q == x) xs ≡ true → Has xs x
any_has [] x e = absurd (cc e)
any_has (y ∷ ys) x e = by (y == x) refl e (λ g. any_has ys x g)
  where
    by : (t : Bool) → (y == x) ≡ t → (t || list_any (λ q. q == x) ys) ≡ true → (list_any (λ q. q == x) ys ≡ true → Has ys x) → (y ≡ x) ⊎ Has ys x
    by true s g more = let same : y ≡ x = grind (arith, s) in inl same
    by false s g more = inr (more g)

add_keeps : (seen : List ℕ) (place x : ℕ) → Has seen x → Has (add_place seen place) x
add_keeps seen place x h = by (place == 0) (list_any (λ q. q == place) seen)
  where
    by : (s t : Bool) → Has (if s || t then seen else seen ++ place ∷ []) x
    by true t = h
    by false true = h
    by false false = has_left seen (place ∷ []) x h

add_has : (seen : List ℕ) (place : ℕ) → place ≢ 0 → Has (add_place seen place) place
add_has seen place some = by (place == 0) (list_any (λ q. q == place) seen) refl refl
  where
    by : (s t : Bool) → (place == 0) ≡ s → list_any (λ q. q == place) seen ≡ t → Has (if s || t then seen else seen ++ place ∷ []) place
    by true t e f = let none : place ≡ 0 = grind (arith, e) in absurd (some none)
    by false true e f = any_has seen place f
    by false false e f = has_last seen place

fold_keeps : (places seen : List ℕ) (x : ℕ) → Has seen x → Has (fold add_place seen places) x
fold_keeps [] seen x h = h
fold_keeps (place ∷ places) seen x h = fold_keeps places (add_place seen place) x (add_keeps seen place x h)

fold_has : (places seen : List ℕ) (i x : ℕ) → slice_get places i ≡ Some x → x ≢ 0 → Has (fold add_place seen places) x
fold_has [] seen i x e some = absurd (cc e)
fold_has (place ∷ places) seen zero x e some =
    let same : place ≡ x = cc e in
    fold_keeps places (add_place seen place) x (subst (λ (y : ℕ). Has (add_place seen y) x) (sym same) (add_has seen x some))
fold_has (place ∷ places) seen (suc i) x e some = fold_has places (add_place seen place) i x e some

distinct_has : (places : List ℕ) (i x : ℕ) → slice_get places i ≡ Some x → x ≢ 0 → Has (distinct_places places) x
unfolding distinct_places
distinct_has places i x e some = fold_has places [] i x e some

among_of : {V : Type 0} (items : List (ℕ × V)) (place : ℕ) → Has (map (λ (x : ℕ × V). x.0) items) place → (v : V) × Among items place v
among_of [] place h = absurd h
among_of (x ∷ items) place (inl e) = (x.1, inl (e, refl))
among_of (x ∷ items) place (inr h) = let r = among_of items place h in (r.0, inr r.1)

-- ---- what is told of each place

-- The place 0 is that of a value without an item; of any other, what H reads there is spelled by G, and S says how the value tells it.
abbrev pub IsTold : {V W : Type 0} → (V → Bool) → (List ℕ → V → Type 0) → (List ℕ → W → Type 0) → (V → W → Type 0) → List ℕ → ℕ → V → Type 0
IsTold {V} {W} none G H S b place v =
    MatchBool (place == 0) (none v ≡ true) ((size : ℕ) (w : W) → H (slice b place size) w → (none v ≡ false) × G (slice b place size) v × S v w)

told_none : {V W : Type 0} (none : V → Bool) (G : List ℕ → V → Type 0) (H : List ℕ → W → Type 0) (S : V → W → Type 0) (b : List ℕ) (place : ℕ) (v : V) → place ≡ 0 → IsTold none G H S b place v → none v ≡ true
told_none none G H S b place v e t = let z : (place == 0) ≡ true = eq-eqb place 0 e in rw z at t

told_some : {V W : Type 0} (none : V → Bool) (G : List ℕ → V → Type 0) (H : List ℕ → W → Type 0) (S : V → W → Type 0) (b : List ℕ) (place : ℕ) (v : V) → place ≢ 0 → IsTold none G H S b place v
    → (size : ℕ) (w : W) → H (slice b place size) w → (none v ≡ false) × G (slice b place size) v × S v w
told_some none G H S b place v some t = let z : (place == 0) ≡ false = grind arith in rw z at t

pub told_made : {V W : Type 0} (none : V → Bool) (G : List ℕ → V → Type 0) (H : List ℕ → W → Type 0) (S : V → W → Type 0) (b : List ℕ) (place : ℕ) (v : V) → place ≢ 0
    → ((size : ℕ) (w : W) → H (slice b place size) w → (none v ≡ false) × G (slice b place size) v × S v w) → IsTold none G H S b place v
told_made none G H S b place v some f = let z : (place == 0) ≡ false = grind arith in rw z f

-- ---- lists, element by element

pub zip_of : {A B : Type 0} (R : A → B → Type 0) (xs : List A) (ys : List B) → length xs ≡ length ys → ((i : ℕ) (x : A) (y : B) → slice_get xs i ≡ Some x → slice_get ys i ≡ Some y → R x y) → AllZip R xs ys
zip_of R [] [] n f = tt
zip_of R [] (y ∷ ys) n f = absurd (omega (arith, n))
zip_of R (x ∷ xs) [] n f = absurd (omega (arith, n))
zip_of R (x ∷ xs) (y ∷ ys) n f = (f zero x y refl refl, zip_of R xs ys (omega (arith, n)) (λ i u v p q. f (suc i) u v p q))

-- lists that stand one by one for the same are one
pub zip_one : {A B : Type 0} (R : A → B → Type 0) → ((x y : A) (b : B) → R x b → R y b → x ≡ y) → (xs ys : List A) (bs : List B) → AllZip R xs bs → AllZip R ys bs → xs ≡ ys
zip_one R one [] [] [] p q = refl
zip_one R one [] [] (b ∷ bs) p q = absurd p
zip_one R one [] (y ∷ ys) [] p q = absurd q
zip_one R one [] (y ∷ ys) (b ∷ bs) p q = absurd p
zip_one R one (x ∷ xs) ys [] p q = absurd p
zip_one R one (x ∷ xs) [] (b ∷ bs) p q = absurd q
zip_one R one (x ∷ xs) (y ∷ ys) (b ∷ bs) p q =
    let a = one x y b p.0 q.0 in
    let c = zip_one R one xs ys bs p.1 q.1 in
    (λ k. a k ∷ c k)

module _ {V W : Type 0} (none : V → Bool) (G : List ℕ → V → Type 0) (H : List ℕ → W → Type 0) (S : V → W → Type 0) (align : ℕ) (b : List ℕ) (kind begin end : ℕ) (vs : List V) (places : List ℕ)
    (all_told : AllZip (IsTold none G H S b) places vs) (tells : Tells none S vs) (x : IsPackedSection H align b kind begin end places) (low : 0 < begin) where
  same : length places ≡ length vs
  same = zip_length (IsTold none G H S b) places vs all_told

  told : (i place : ℕ) (v : V) → slice_get places i ≡ Some place → slice_get vs i ≡ Some v → IsTold none G H S b place v
  told i place v at of = zip_there (IsTold none G H S b) places vs i place v all_told at of

  -- A turn refers to the place.
  record HasTurn (place : ℕ) : Type 0 where
    turn : ℕ
    at : slice_get places turn ≡ Some place
    value : V
    of : slice_get vs turn ≡ Some value

  -- What is read is told by the value of a turn.
  record IsOf (w : W) (v : V) : Type 0 where
    turn : ℕ
    of : slice_get vs turn ≡ Some v
    some : none v ≡ false
    resolves : S v w

  turns : AllByRecursion (λ (q : ℕ). q ≢ 0 → HasTurn q) places
  turns = all_there (λ (q : ℕ). q ≢ 0 → HasTurn q) places (λ i q e n. let l = slice_get_within places i q e in let v = entry_at vs i (omega (arith, l, same)) in record { turn = i; at = e; value = v.0; of = v.1 })

  turn_of : (place : ℕ) (w : W) → Among x.items place w → HasTurn place
  turn_of place w a = among_kept HasTurn x.items place w (subst (AllByRecursion HasTurn) (sym x.order) (places_kept HasTurn places turns)) a

  -- an item doesn't stand at 0
  some_place : (place : ℕ) (w : W) → Among x.items place w → place ≢ 0
  some_place place w a e = let s = (Tiles-among place w x.tiled a).low in omega (arith, s, low, e)

  again : Reread G IsOf align b begin end x.items
  again =
      reread H G IsOf x.tiled (λ place w a size spelled.
      let t = turn_of place w a in
      let r = told_some none G H S b place t.value (some_place place w a) (told t.turn place t.value t.at t.of) size w spelled in
      (t.value, r.1, record { turn = t.turn; of = t.of; some = r.0; resolves = r.2 }))

  refers_at : (i place : ℕ) (v : V) → slice_get places i ≡ Some place → slice_get vs i ≡ Some v → Refers none again.again place v
  refers_at i place v at of = by (place == 0) refl
    where
      by : (t : Bool) → (place == 0) ≡ t → Refers none again.again place v
      by true e =
          let zero_is : place ≡ 0 = grind (arith, e) in
          let n = told_none none G H S b place v zero_is (told i place v at of) in
          rw n zero_is
      by false e =
          let other : place ≢ 0 = λ z. (let y = eq-eqb place 0 z in absurd (cc (e, y))) in
          let found = among_of x.items place (subst (λ (ps : List ℕ). Has ps place) (sym x.order) (distinct_has places i place at other)) in
          let s = Tiles-among place found.0 x.tiled found.1 in
          let t = told_some none G H S b place v other (told i place v at of) s.size found.0 s.spelled in
          let q = again.is place found.0 found.1 in
          let one : q.0 ≡ v = tells q.2.turn i q.0 v found.0 q.2.of of q.2.some q.2.resolves t.2 in
          let some : 0 < place = omega (arith, other) in
          rw t.0 (some, subst (λ (u : V). Among again.again place u) one q.1)

  pub retold : Lays none G align begin end b vs places (length x.items)
  retold = record {
    items = again.again;
    tiled = again.tiled;
    each = zip_of (Refers none again.again) places vs same refers_at;
    order = again.places ∙ x.order;
    counted = sym (same_length again.again x.items again.places);
  }

  -- equal values have one place, since no two items are equal
  pub retold_shared : ((v : V) (w y : W) → S v w → S v y → w ≡ y) → AreShared places vs
  retold_shared one i j v p q of_i of_j at_i at_j = by (none v) refl
    where
      r_i : Refers none again.again p v
      r_i = refers_at i p v at_i of_i

      r_j : Refers none again.again q v
      r_j = refers_at j q v at_j of_j

      by : (t : Bool) → none v ≡ t → p ≡ q
      by true e = let k : p ≡ 0 = (rw e at r_i) in let l : q ≡ 0 = (rw e at r_j) in k ∙ sym l
      by false e =
          let k = again.was p v (refers_some none again.again p v e r_i).1 in
          let l = again.was q v (refers_some none again.again q v e r_j).1 in
          x.apart p q k.0 k.1 (subst (λ (w : W). Among x.items q w) (one v l.0 k.0 l.2.resolves k.2.resolves) l.1)
