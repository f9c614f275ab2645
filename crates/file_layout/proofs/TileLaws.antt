-- Laws of items that stand one after the other.
use Rattle.std.proofs.Common.{◌≡◌, ℕ, zero, suc, ◌+◌, ◌<◌, ◌≤◌, Bool, true, false, eqb, Some, List, [], ◌∷◌, ◌++◌, length, take, drop, map, refl, sym, ap, ◌∙◌, subst, arith, append_assoc, append-nil, length-append, inl, inr}
use Rattle.std.proofs.lemmas.List.{take_at, drop_at, take-append-le, drop-append-le, length-drop, map-append, length-replicate}
use Rattle.std.proofs.lemmas.List.Sums.{fold_push}
use Rattle.std.proofs.lemmas.Bool.{eq-eqb}
use Rattle.std.specs.List.{list_any, slice_get, AllZip}
use Rattle.std.specs.Prelude.{MatchBool, ⊤, ◌||◌}
use Rattle.dex_container.specs.Where.{slice}
use Rattle.file_layout.specs.Tiles.{zeros, gap, IsNext, Tiles, Done, Item, add_place, distinct_places, Among}
use Rattle.file_layout.specs.inner.Tiles.{Agree, Refers, Lays}
use Rattle.dex_base.proofs.ListFacts.{zip_more}

pub Tiles-le : {V : Type 0} {G : List ℕ → V → Type 0} {align : ℕ} {b : List ℕ} {at end : ℕ} {items : List (ℕ × V)} → Tiles G align b at end items → at ≤ end
Tiles-le Done = omega arith
Tiles-le (Item next some spelled rest) = let l = Tiles-le rest in let e = next.there in omega (arith, e, l)

-- items are where the bytes are the same
pub Tiles-agree : {V : Type 0} {G : List ℕ → V → Type 0} {align : ℕ} {b : List ℕ} {at end : ℕ} (c : List ℕ) (from : ℕ) {items : List (ℕ × V)} → from ≤ at → Agree b c from end → Tiles G align b at end items → Tiles G align c at end items
Tiles-agree c from low same Done = Done
Tiles-agree {V = V} {G = G} {align = align} {b = b} {at = at} {end = end} c from low same (Item {place = place} {size = size} {v = v} next some spelled rest) =
    let l = Tiles-le rest in
    let e = next.there in
    Item
    (record { there = next.there; clear = sym (same.each at (gap align at) low (omega (arith, e, l))) ∙ next.clear })
    some
    (subst (λ (x : List ℕ). G x v) (same.each place size (omega (arith, e, low)) l) spelled)
    (Tiles-agree c from (omega (arith, e, low, some)) same rest)

-- one more item at the end
pub Tiles-push : {V : Type 0} {G : List ℕ → V → Type 0} {align : ℕ} {b : List ℕ} {at mid place size : ℕ} {items : List (ℕ × V)} {v : V}
    → Tiles G align b at mid items → IsNext align b mid place → 0 < size → G (slice b place size) v → Tiles G align b at (place + size) (items ++ (place, v) ∷ [])
Tiles-push Done next some spelled = Item next some spelled Done
Tiles-push (Item n s p rest) next some spelled = Item n s p (Tiles-push rest next some spelled)

-- what is appended changes nothing before it
pub agree-append : (b more : List ℕ) → Agree b (b ++ more) 0 (length b)
unfolding slice
agree-append b more = record {
  each = λ place size low high.
      let d = drop-append-le place b more (omega arith) in
      let l : size ≤ length (drop place b) = rw (length-drop place b) (omega arith) in
      sym (ap (take size) d ∙ take-append-le size (drop place b) more l);
}

slice_at : (a b c : List ℕ) (place : ℕ) → place ≡ length a → slice ((a ++ b) ++ c) place (length b) ≡ b
unfolding slice
slice_at a b c place e = ap (take (length b)) (ap (drop place) (append_assoc a b c) ∙ drop_at a (b ++ c) place (sym e)) ∙ take_at b c (length b) refl

pub length-zeros : (n : ℕ) → length (zeros n) ≡ n
length-zeros n = length-replicate n 0

-- an item after its gap
pub Tiles-item : {V : Type 0} {G : List ℕ → V → Type 0} {align begin : ℕ} (b bytes new : List ℕ) {items : List (ℕ × V)} {v : V}
    → Tiles G align b begin (length b) items → new ≡ (b ++ zeros (gap align (length b))) ++ bytes → 0 < length bytes → G bytes v
    → Tiles G align new begin (length new) (items ++ (length b + gap align (length b), v) ∷ [])
Tiles-item {V = V} {G = G} {align = align} {begin = begin} b bytes new {items = items} {v = v} tiled e some spelled =
    let k = gap align (length b) in
    let n : length (b ++ zeros k) ≡ length b + k = length-append b (zeros k) ∙ ap (λ m. length b + m) (length-zeros k) in
    let whole : new ≡ b ++ (zeros k ++ bytes) = e ∙ append_assoc b (zeros k) bytes in
    let same : Agree b new 0 (length b) = subst (λ (c : List ℕ). Agree b c 0 (length b)) (sym whole) (agree-append b (zeros k ++ bytes)) in
    let clear : slice new (length b) k ≡ zeros k = ap (λ c. slice c (length b) k) e ∙ subst (λ (m : ℕ). slice ((b ++ zeros k) ++ bytes) (length b) m ≡ zeros k) (length-zeros k) (slice_at b (zeros k) bytes (length b) refl) in
    let it : slice new (length b + k) (length bytes) ≡ bytes = ap (λ c. slice c (length b + k) (length bytes)) (e ∙ sym (append-nil _)) ∙ slice_at (b ++ zeros k) bytes [] (length b + k) (sym n) in
    let total : length new ≡ length b + k + length bytes = ap length e ∙ length-append (b ++ zeros k) bytes ∙ ap (λ m. m + length bytes) n in
    subst (λ (m : ℕ). Tiles G align new begin m (items ++ (length b + k, v) ∷ [])) (sym total)
    (Tiles-push (Tiles-agree new 0 (omega arith) same tiled) (record { there = refl; clear = clear }) some (subst (λ (x : List ℕ). G x v) (sym it) spelled))

-- what an item's place says
pub record Stands {V : Type 0} (G : List ℕ → V → Type 0) (align : ℕ) (b : List ℕ) (from to place : ℕ) (v : V) : Type 0 where
  pub size : ℕ
  pub low : from + gap align from ≤ place
  pub high : place + size ≤ to
  pub some : 0 < size
  pub before : ℕ
  pub aligned : place ≡ before + gap align before
  pub spelled : G (slice b place size) v

pub Tiles-among : {V : Type 0} {G : List ℕ → V → Type 0} {align : ℕ} {b : List ℕ} {at end : ℕ} {items : List (ℕ × V)} (place : ℕ) (v : V) → Tiles G align b at end items → Among items place v → Stands G align b at end place v
Tiles-among place v Done a = absurd a
Tiles-among {V = V} {G = G} {align = align} {b = b} {at = at} {end = end} place v (Item {place = p} {size = size} {v = u} next some spelled rest) (inl same) =
    let l = Tiles-le rest in
    let e = next.there in
    let s = same.0 in
    record {
      size = size;
      low = omega (arith, e, s);
      high = omega (arith, l, s);
      some = some;
      before = at;
      aligned = sym s ∙ e;
      spelled = subst (λ (w : V). G (slice b place size) w) same.1 (subst (λ (q : ℕ). G (slice b q size) u) s spelled);
    }
Tiles-among {align = align} {at = at} place v (Item {place = p} {size = size} next some spelled rest) (inr a) =
    let r = Tiles-among place v rest a in
    let e = next.there in
    let l = r.low in
    record { size = r.size; low = omega (arith, e, l, some); high = r.high; some = r.some; before = r.before; aligned = r.aligned; spelled = r.spelled }

-- ---- references

abbrev AllBelow : ℕ → List ℕ → Type 0
AllBelow n [] = ⊤
AllBelow n (x ∷ xs) = (x < n) × AllBelow n xs

below_eqb : (x at : ℕ) → x < at → eqb x at ≡ false
below_eqb x at h = grind arith

pub add_place-fresh : (seen : List ℕ) (place : ℕ) → 0 < place → list_any (λ q. eqb q place) seen ≡ false → add_place seen place ≡ seen ++ place ∷ []
add_place-fresh seen place some new = let z : eqb place 0 ≡ false = grind arith in rw (z, new) refl

pub or_true : (b : Bool) → (b || true) ≡ true
or_true true = refl
or_true false = refl

pub add_place-known : (seen : List ℕ) (place : ℕ) → list_any (λ q. eqb q place) seen ≡ true → add_place seen place ≡ seen
add_place-known seen place known = rw (known, or_true (eqb place 0)) refl

distinct_places-push : (places : List ℕ) (place : ℕ) → distinct_places (places ++ place ∷ []) ≡ add_place (distinct_places places) place
unfolding distinct_places
distinct_places-push places place = fold_push add_place [] places place

-- a place that is above all others is new
above : (at : ℕ) (seen : List ℕ) → AllBelow at seen → list_any (λ q. eqb q at) seen ≡ false
above at [] h = refl
above at (x ∷ xs) h = rw (below_eqb x at h.0) (above at xs h.1)

Among-left : {V : Type 0} (xs ys : List (ℕ × V)) (place : ℕ) (v : V) → Among xs place v → Among (xs ++ ys) place v
Among-left [] ys place v a = absurd a
Among-left (x ∷ xs) ys place v (inl e) = inl e
Among-left (x ∷ xs) ys place v (inr a) = inr (Among-left xs ys place v a)

Among-last : {V : Type 0} (xs : List (ℕ × V)) (place : ℕ) (v : V) → Among (xs ++ (place, v) ∷ []) place v
Among-last [] place v = inl (refl, refl)
Among-last (x ∷ xs) place v = inr (Among-last xs place v)

Refers-left : {V : Type 0} (none : V → Bool) (xs ys : List (ℕ × V)) (place : ℕ) (v : V) → Refers none xs place v → Refers none (xs ++ ys) place v
Refers-left none xs ys place v r = elim (none v) as (λ (t : Bool). MatchBool t (place ≡ 0) ((0 < place) × Among xs place v) → MatchBool t (place ≡ 0) ((0 < place) × Among (xs ++ ys) place v)) [
  | true ↦ λ e. e
  | false ↦ λ p. (p.0, Among-left xs ys place v p.1)
] r

All-left : {V : Type 0} (none : V → Bool) (xs ys : List (ℕ × V)) (places : List ℕ) (vs : List V) → AllZip (Refers none xs) places vs → AllZip (Refers none (xs ++ ys)) places vs
All-left none xs ys [] [] h = tt
All-left none xs ys [] (v ∷ vs) h = absurd h
All-left none xs ys (p ∷ ps) [] h = absurd h
All-left none xs ys (p ∷ ps) (v ∷ vs) h = (Refers-left none xs ys p v h.0, All-left none xs ys ps vs h.1)

Tiles-below : {V : Type 0} {G : List ℕ → V → Type 0} {align : ℕ} {b : List ℕ} {at end : ℕ} {items : List (ℕ × V)} → Tiles G align b at end items → AllBelow end (map (λ (x : ℕ × V). x.0) items)
Tiles-below Done = tt
Tiles-below (Item next some spelled rest) = (let l = Tiles-le rest in omega (arith, l, some), Tiles-below rest)

AllBelow-more : (m n : ℕ) (xs : List ℕ) → m ≤ n → AllBelow m xs → AllBelow n xs
AllBelow-more m n [] l h = tt
AllBelow-more m n (x ∷ xs) l h = (let k = h.0 in omega arith, AllBelow-more m n xs l h.1)

-- nothing is laid yet
pub Lays-start : {V : Type 0} (none : V → Bool) (G : List ℕ → V → Type 0) (align : ℕ) (b : List ℕ) → Lays none G align (length b) (length b) b [] [] 0
unfolding distinct_places
Lays-start none G align b = record { items = []; tiled = Done; each = tt; order = refl; counted = refl }

-- a value that takes no item
pub Lays-none : {V : Type 0} (none : V → Bool) (G : List ℕ → V → Type 0) (align begin : ℕ) (b : List ℕ) (vs : List V) (v : V) (places : List ℕ) (count : ℕ)
    → Lays none G align begin (length b) b vs places count → none v ≡ true → Lays none G align begin (length b) b (vs ++ v ∷ []) (places ++ 0 ∷ []) count
Lays-none none G align begin b vs v places count l e = record {
  items = l.items;
  tiled = l.tiled;
  each = zip_more (Refers none l.items) places vs 0 v l.each (rw e refl);
  order = l.order ∙ sym (distinct_places-push places 0);
  counted = l.counted;
}

-- a value with an item of its own
pub Lays-item : {V : Type 0} (none : V → Bool) (G : List ℕ → V → Type 0) (align begin : ℕ) (b bytes new : List ℕ) (vs : List V) (v : V) (places : List ℕ) (count : ℕ)
    → Lays none G align begin (length b) b vs places count → 0 < length b → none v ≡ false → new ≡ (b ++ zeros (gap align (length b))) ++ bytes → 0 < length bytes → G bytes v
    → Lays none G align begin (length new) new (vs ++ v ∷ []) (places ++ (length b + gap align (length b)) ∷ []) (count + 1)
Lays-item {V = V} none G align begin b bytes new vs v places count l front e whole some spelled =
    let place = length b + gap align (length b) in
    let below : AllBelow place (distinct_places places) = subst (AllBelow place) l.order (AllBelow-more (length b) place (map (λ (x : ℕ × V). x.0) l.items) (omega arith) (Tiles-below l.tiled)) in
    let fresh : add_place (distinct_places places) place ≡ distinct_places places ++ place ∷ [] = add_place-fresh (distinct_places places) place (omega arith) (above place (distinct_places places) below) in
    record {
      items = l.items ++ (place, v) ∷ [];
      tiled = Tiles-item b bytes new l.tiled whole some spelled;
      each = zip_more (Refers none (l.items ++ (place, v) ∷ [])) places vs place v
          (All-left none l.items ((place, v) ∷ []) places vs l.each)
          (rw e (omega arith, Among-last l.items place v));
      order = map-append (λ (x : ℕ × V). x.0) l.items ((place, v) ∷ []) ∙ ap (λ ps. ps ++ place ∷ []) l.order ∙ sym fresh ∙ sym (distinct_places-push places place);
      counted = let c = l.counted in let m = length-append l.items ((place, v) ∷ []) in omega (arith, c, m);
    }

-- a value whose item stands already
pub Lays-shared : {V : Type 0} (none : V → Bool) (G : List ℕ → V → Type 0) (align begin : ℕ) (b : List ℕ) (vs : List V) (v : V) (places : List ℕ) (place count : ℕ)
    → (l : Lays none G align begin (length b) b vs places count) → none v ≡ false → 0 < place → Among l.items place v → list_any (λ q. eqb q place) (distinct_places places) ≡ true
    → Lays none G align begin (length b) b (vs ++ v ∷ []) (places ++ place ∷ []) count
Lays-shared none G align begin b vs v places place count l e some a known = record {
  items = l.items;
  tiled = l.tiled;
  each = zip_more (Refers none l.items) places vs place v l.each (rw e (some, a));
  order = l.order ∙ sym (add_place-known (distinct_places places) place known) ∙ sym (distinct_places-push places place);
  counted = l.counted;
}

-- the place of an item is known
among_known : {V : Type 0} (items : List (ℕ × V)) (place : ℕ) (v : V) → Among items place v → list_any (λ q. eqb q place) (map (λ (x : ℕ × V). x.0) items) ≡ true
among_known [] place v a = absurd a
among_known (x ∷ xs) place v (inl e) = rw (eq-eqb x.0 place e.0) refl
among_known {V = V} (x ∷ xs) place v (inr a) = ap (λ t. eqb x.0 place || t) (among_known xs place v a) ∙ or_true (eqb x.0 place)

pub refers_some : {V : Type 0} (none : V → Bool) (items : List (ℕ × V)) (place : ℕ) (v : V) → none v ≡ false → Refers none items place v → (0 < place) × Among items place v
refers_some none items place v e r = rw e at r

pub zip_there : {A B : Type 0} (R : A → B → Type 0) (xs : List A) (ys : List B) (k : ℕ) (x : A) (y : B) → AllZip R xs ys → slice_get xs k ≡ Some x → slice_get ys k ≡ Some y → R x y
zip_there R [] ys k x y h a b = absurd cc
zip_there R (u ∷ us) [] k x y h a b = absurd cc
zip_there {A} {B} R (u ∷ us) (w ∷ ws) zero x y h a b = let e : u ≡ x = cc in let f : w ≡ y = cc in subst (λ (z : B). R x z) f (subst (λ (z : A). R z w) e h.0)
zip_there R (u ∷ us) (w ∷ ws) (suc k) x y h a b = zip_there R us ws k x y h.1 a b

-- a value that was laid before has the item of that use
pub Lays-again : {V : Type 0} (none : V → Bool) (G : List ℕ → V → Type 0) (align begin : ℕ) (b : List ℕ) (vs : List V) (v : V) (places : List ℕ) (place count turn : ℕ)
    → Lays none G align begin (length b) b vs places count → none v ≡ false → slice_get vs turn ≡ Some v → slice_get places turn ≡ Some place
    → Lays none G align begin (length b) b (vs ++ v ∷ []) (places ++ place ∷ []) count
Lays-again {V = V} none G align begin b vs v places place count turn l e there at =
    let r = refers_some none l.items place v e (zip_there (Refers none l.items) places vs turn place v l.each at there) in
    Lays-shared none G align begin b vs v places place count l e r.0 r.1
    (ap (list_any (λ q. eqb q place)) (sym l.order) ∙ among_known l.items place v r.1)

-- what is laid stays laid where the bytes are the same
pub Lays-agree : {V : Type 0} (none : V → Bool) (G : List ℕ → V → Type 0) (align begin end : ℕ) (b c : List ℕ) (from : ℕ) (vs : List V) (places : List ℕ) (count : ℕ)
    → Lays none G align begin end b vs places count → from ≤ begin → Agree b c from end → Lays none G align begin end c vs places count
Lays-agree none G align begin end b c from vs places count l low same = record {
  items = l.items;
  tiled = Tiles-agree c from low same l.tiled;
  each = l.each;
  order = l.order;
  counted = l.counted;
}
