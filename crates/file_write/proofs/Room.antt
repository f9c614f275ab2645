-- Items that are laid once each take no more room than all values would.
use Rattle.std.proofs.Common.{◌≡◌, ◌≢◌, ℕ, ◌+◌, ◌<◌, ◌≤◌, Bool, true, false, List, [], ◌∷◌, ◌++◌, length, refl, sym, ap, ◌∙◌, subst, arith, append_assoc, append-nil, inl, inr}
use Rattle.std.proofs.lemmas.List.{append_cancel_left}
use Rattle.std.specs.Prelude.{MatchBool, ◌==◌}
use Rattle.std.specs.List.{AllByRecursion, AllZip, fold, list_any}
use Rattle.dex_container.specs.Where.{slice}
use Rattle.file_layout.specs.Sections.{wide_all}
use Rattle.file_layout.specs.Tiles.{Among, Done, Item, Tiles, add_place, distinct_places, gap}
use Rattle.file_layout.specs.inner.Tiles.{Lays, Refers}
use Rattle.file_layout.proofs.PartLaws.{length_slice}
use Rattle.file_layout.proofs.TileLaws.{Tiles-le, refers_some}
use Rattle.file_layout.proofs.LayingOnce.{grows, one_there, firsts, tiles_none}

-- The first item, and what is after it.
record FirstOf {V : Type 0} (G : List ℕ → V → Type 0) (align : ℕ) (b : List ℕ) (at end place : ℕ) (ps : List ℕ) (items : List (ℕ × V)) : Type 0 where
  value : V
  size : ℕ
  there : place ≡ at + gap align at
  spelled : G (slice b place size) value
  others : List (ℕ × V)
  is : items ≡ (place, value) ∷ others
  tiled : Tiles G align b (place + size) end others
  places : firsts others ≡ ps

first_of : {V : Type 0} {G : List ℕ → V → Type 0} {align : ℕ} {b : List ℕ} {at end : ℕ} {items : List (ℕ × V)} (place : ℕ) (ps : List ℕ) → Tiles G align b at end items → firsts items ≡ place ∷ ps → FirstOf G align b at end place ps items
first_of place ps Done e = absurd (cc e)
first_of {V} {G} {align} {b} {at} {end} place ps (Item {place = q} {size = size} {v = v} {items = others} next some spelled rest) e =
    let same : q ≡ place = cc e in
    let more : firsts others ≡ ps = cc e in
    record {
      value = v;
      size = size;
      there = sym same ∙ next.there;
      spelled = subst (λ (k : ℕ). G (slice b k size) v) same spelled;
      others = others;
      is = ap (λ (k : ℕ). (k, v) ∷ others) same;
      tiled = subst (λ (k : ℕ). Tiles G align b (k + size) end others) same rest;
      places = more;
    }

module _ {V : Type 0} (none : V → Bool) (G : List ℕ → V → Type 0) (align : ℕ) (wide : V → ℕ) (b : List ℕ) (begin end : ℕ) (all : List (ℕ × V)) (tiled : Tiles G align b begin end all) (inside : end ≤ length b) where
  -- a value takes at most so many bytes, with those before it
  abbrev Fit : V → Type 0
  Fit v = none v ≡ false → (at : ℕ) (bytes : List ℕ) → G bytes v → gap align at + length bytes ≤ wide v

  -- a place that isn't 0 is that of a value with an item
  needs : (p : ℕ) (v : V) → p ≢ 0 → Refers none all p v → none v ≡ false
  needs p v other r = by (none v) refl r
    where
      by : (t : Bool) → none v ≡ t → MatchBool t (p ≡ 0) ((0 < p) × Among all p v) → none v ≡ false
      by true e r = absurd (other r)
      by false e r = e

  -- the first item is that of the value at hand, whose room it takes
  first_room : (p : ℕ) (v : V) (at : ℕ) (ps : List ℕ) (items : List (ℕ × V)) (x : FirstOf G align b at end p ps items) (rest : ℕ) → p ≢ 0 → Refers none all p v → Fit v → ((place : ℕ) (u : V) → Among items place u → Among all place u)
      → end ≤ p + x.size + rest → end ≤ at + (wide v + rest)
  first_room p v at ps items x rest other z fit i h =
      let need = needs p v other z in
      let r = refers_some none all p v need z in
      let one : x.value ≡ v = one_there p x.value v tiled (i p x.value (subst (λ (us : List (ℕ × V)). Among us p x.value) (sym x.is) (inl (refl, refl)))) r.1 in
      let le = Tiles-le x.tiled in
      let long = length_slice b p x.size (omega (arith, le, inside)) in
      let room = fit need at (slice b p x.size) (subst (λ (u : V). G (slice b p x.size) u) one x.spelled) in
      let there = x.there in
      omega (arith, h, room, long, there)

  walk : (ps : List ℕ) (vs : List V) (items : List (ℕ × V)) (seen : List ℕ) (at : ℕ) → AllZip (Refers none all) ps vs → AllByRecursion Fit vs → Tiles G align b at end items
      → ((place : ℕ) (v : V) → Among items place v → Among all place v) → fold add_place seen ps ≡ seen ++ firsts items → end ≤ at + wide_all wide vs
  walk [] [] items seen at z f t i o =
      let e = (tiles_none t (append_cancel_left seen (firsts items) [] (sym o ∙ sym (append-nil seen)))).0 in omega (arith, e)
  walk [] (v ∷ vs) items seen at z f t i o = absurd z
  walk (p ∷ ps) [] items seen at z f t i o = absurd z
  walk (p ∷ ps) (v ∷ vs) items seen at z f t i o = by (p == 0) (list_any (λ q. q == p) seen) refl refl (λ us s n y k e. walk ps vs us s n z.1 f.1 y k e)
    where
      seen_already : end ≤ at + wide_all wide vs → end ≤ at + (wide v + wide_all wide vs)
      seen_already r = omega (arith, r)

      new_one : (more : List ℕ) (x : FirstOf G align b at end p more items) → p ≢ 0 → end ≤ p + x.size + wide_all wide vs → end ≤ at + (wide v + wide_all wide vs)
      new_one more x other r = first_room p v at more items x (wide_all wide vs) other z.0 f.0 i r

      others : (more : List ℕ) (x : FirstOf G align b at end p more items) → (place : ℕ) (u : V) → Among x.others place u → Among all place u
      others more x place u a = i place u (subst (λ (us : List (ℕ × V)). Among us place u) (sym x.is) (inr a))

      by : (x y : Bool) → (p == 0) ≡ x → list_any (λ q. q == p) seen ≡ y
          → ((us : List (ℕ × V)) (s : List ℕ) (n : ℕ) → Tiles G align b n end us → ((place : ℕ) (u : V) → Among us place u → Among all place u) → fold add_place s ps ≡ s ++ firsts us → end ≤ n + wide_all wide vs)
          → end ≤ at + (wide v + wide_all wide vs)
      by true y e g go =
          let k : add_place seen p ≡ seen = rw e refl in
          seen_already (go items seen at t i (ap (λ (s : List ℕ). fold add_place s ps) (sym k) ∙ o))
      by false true e g go =
          let k : add_place seen p ≡ seen = rw (e, g) refl in
          seen_already (go items seen at t i (ap (λ (s : List ℕ). fold add_place s ps) (sym k) ∙ o))
      by false false e g go =
          let k : add_place seen p ≡ seen ++ p ∷ [] = rw (e, g) refl in
          let m = grows ps (seen ++ p ∷ []) in
          let now : fold add_place (seen ++ p ∷ []) ps ≡ seen ++ firsts items = ap (λ (s : List ℕ). fold add_place s ps) (sym k) ∙ o in
          let q : firsts items ≡ p ∷ m.0 = append_cancel_left seen (firsts items) (p ∷ m.0) (sym now ∙ m.1 ∙ append_assoc seen (p ∷ []) m.0) in
          let x = first_of p m.0 t q in
          new_one m.0 x (λ w. (let c : (p == 0) ≡ true = (rw w refl) in absurd (cc (e, c))))
          (go x.others (seen ++ p ∷ []) (p + x.size) x.tiled (others m.0 x) (m.1 ∙ ap (λ (us : List ℕ). (seen ++ p ∷ []) ++ us) (sym x.places)))

pub laid_room : {V : Type 0} (none : V → Bool) (G : List ℕ → V → Type 0) (align : ℕ) (wide : V → ℕ) (b : List ℕ) (begin end : ℕ) (vs : List V) (places : List ℕ) (count : ℕ) → Lays none G align begin end b vs places count → end ≤ length b
    → ((v : V) → none v ≡ false → (at : ℕ) (bytes : List ℕ) → G bytes v → gap align at + length bytes ≤ wide v) → end ≤ begin + wide_all wide vs
unfolding distinct_places
laid_room {V} none G align wide b begin end vs places count l inside f =
    walk none G align wide b begin end l.items l.tiled inside places vs l.items [] begin l.each (all_of vs) l.tiled (λ place v a. a) (sym l.order)
  where
    all_of : (us : List V) → AllByRecursion (λ (v : V). none v ≡ false → (at : ℕ) (bytes : List ℕ) → G bytes v → gap align at + length bytes ≤ wide v) us
    all_of [] = tt
    all_of (u ∷ us) = (f u, all_of us)
