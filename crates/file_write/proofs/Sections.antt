-- A part that is laid is a packed section.
use Rattle.std.proofs.Common.{◌≡◌, ℕ, ◌+◌, ◌<◌, Bool, false, List, [], ◌∷◌, length, map, get_or, refl, sym, ap, ◌∙◌, subst, arith, Some, inl, inr}
use Rattle.std.proofs.lemmas.List.{length-map}
use Rattle.std.specs.List.{slice_get}
use Rattle.dex_container.specs.Where.{slice}
use Rattle.file_layout.specs.declared.plan.Part.{Part}
use Rattle.file_layout.specs.inner.Parts.{HasPart}
use Rattle.file_layout.specs.Tiles.{Among, Done, Item, Tiles, distinct_places, gap}
use Rattle.file_layout.specs.inner.Tiles.{AreShared, Lays}
use Rattle.file_write.specs.Packed.{IsPackedSection, MapHas}
use Rattle.file_write.proofs.Items.{items_used}
use Rattle.file_layout.proofs.LayingOnce.{one_there}

-- The same items, by what H reads in them; S says what is so of both.
pub record Reread {V W : Type 0} (H : List ℕ → W → Type 0) (S : V → W → Type 0) (align : ℕ) (b : List ℕ) (at end : ℕ) (items : List (ℕ × V)) : Type 0 where
  pub again : List (ℕ × W)
  pub tiled : Tiles H align b at end again
  pub places : map (λ (x : ℕ × W). x.0) again ≡ map (λ (x : ℕ × V). x.0) items
  pub was : (place : ℕ) (w : W) → Among again place w → (v : V) × Among items place v × S v w
  pub is : (place : ℕ) (v : V) → Among items place v → (w : W) × Among again place w × S v w

pub reread : {V W : Type 0} (G : List ℕ → V → Type 0) (H : List ℕ → W → Type 0) (S : V → W → Type 0) {align : ℕ} {b : List ℕ} {at end : ℕ} {items : List (ℕ × V)} → Tiles G align b at end items
    → ((place : ℕ) (v : V) → Among items place v → (size : ℕ) → G (slice b place size) v → (w : W) × H (slice b place size) w × S v w) → Reread H S align b at end items
reread G H S Done f = record { again = []; tiled = Done; places = refl; was = λ place w a. absurd a; is = λ place v a. absurd a }
reread {V} {W} G H S {b = b} (Item {place = place} {size = size} {v = v} {items = items} next some spelled rest) f =
    let x = f place v (inl (refl, refl)) size spelled in
    let r = reread G H S rest (λ q u a. f q u (inr a)) in
    record {
      again = (place, x.0) ∷ r.again;
      tiled = Item next some x.1 r.tiled;
      places = ap (λ (ps : List ℕ). place ∷ ps) r.places;
      was = was_any r.again x.0 x.2 r.was;
      is = is_any r.again x.0 x.2 r.is;
    }
  where
    was_any : (again : List (ℕ × W)) (x : W) → S v x → ((q : ℕ) (w : W) → Among again q w → (u : V) × Among items q u × S u w)
        → (q : ℕ) (w : W) → Among ((place, x) ∷ again) q w → (u : V) × Among ((place, v) ∷ items) q u × S u w
    was_any again x so rest q w (inl e) = (v, inl (e.0, refl), subst (S v) e.1 so)
    was_any again x so rest q w (inr a) = let y = rest q w a in (y.0, inr y.1, y.2)

    is_any : (again : List (ℕ × W)) (x : W) → S v x → ((q : ℕ) (u : V) → Among items q u → (w : W) × Among again q w × S u w)
        → (q : ℕ) (u : V) → Among ((place, v) ∷ items) q u → (w : W) × Among ((place, x) ∷ again) q w × S u w
    is_any again x so rest q u (inl e) = (x, inl (e.0, refl), subst (λ (y : V). S y x) e.1 so)
    is_any again x so rest q u (inr a) = let y = rest q u a in (y.0, inr y.1, y.2)

-- what H reads where G spells the value of a turn that has an item, and what is so of both
abbrev pub Reads : {V W : Type 0} → (V → Bool) → (List ℕ → V → Type 0) → (List ℕ → W → Type 0) → (V → W → Type 0) → List V → Type 0
Reads {V} {W} none G H S vs = (n : ℕ) (v : V) → slice_get vs n ≡ Some v → none v ≡ false → (bytes : List ℕ) → G bytes v → (w : W) × H bytes w × S v w

-- what is read of two turns tells whether they have one value
abbrev pub Tells : {V W : Type 0} → (V → Bool) → (V → W → Type 0) → List V → Type 0
Tells {V} {W} none S vs = (i j : ℕ) (u v : V) (w : W) → slice_get vs i ≡ Some u → slice_get vs j ≡ Some v → none u ≡ false → S u w → S v w → u ≡ v

pub same_length : {V W : Type 0} (xs : List (ℕ × V)) (ys : List (ℕ × W)) → map (λ (x : ℕ × V). x.0) xs ≡ map (λ (x : ℕ × W). x.0) ys → length xs ≡ length ys
same_length {V = V} {W = W} xs ys e = sym (length-map xs (λ (x : ℕ × V). x.0)) ∙ ap length e ∙ length-map ys (λ (x : ℕ × W). x.0)

-- the first of some items stands where it is aligned
pub first_place : {V : Type 0} {G : List ℕ → V → Type 0} {align : ℕ} {b : List ℕ} {at end : ℕ} {items : List (ℕ × V)} → Tiles G align b at end items → 0 < length items
    → get_or (map (λ (x : ℕ × V). x.0) items) 0 0 ≡ at + gap align at
first_place Done some = absurd (omega arith)
first_place (Item next size spelled rest) some = next.there

-- what the map says of a part that begins at the first of these places
map_says : (b : List ℕ) (kind : ℕ) (part : Part) (places : List ℕ) → HasPart b kind part → part.items ≡ length places → (0 < length places → get_or places 0 0 ≡ part.begin) → MapHas b kind places
map_says b kind part places has n first = record {
  counted = λ i lt is. has.counted i lt is ∙ n;
  named = λ some. let s = (has.stands (omega (arith, n, some))).section in (s.entry, s.in_map, s.named, sym s.begins ∙ sym (first some));
}

-- The value that stands at the place is that of a turn, which refers to the place.
record IsUsed {V : Type 0} (none : V → Bool) (places : List ℕ) (vs : List V) (place : ℕ) (v : V) : Type 0 where
  turn : ℕ
  of : slice_get vs turn ≡ Some v
  at : slice_get places turn ≡ Some place
  some : none v ≡ false

pub packed_section : {V W : Type 0} (none : V → Bool) (G : List ℕ → V → Type 0) (H : List ℕ → W → Type 0) (S : V → W → Type 0)
    → (align : ℕ) (b : List ℕ) (kind : ℕ) (part : Part) (begin : ℕ) (vs : List V) (places references : List ℕ) → Reads none G H S vs → Tells none S vs → HasPart b kind part → part.begin ≡ begin + gap align begin
    → Lays none G align begin part.end b vs places part.items → AreShared places vs → places ≡ references → IsPackedSection H align b kind begin part.end references
packed_section {V = V} {W = W} none G H S align b kind part begin vs places references f tells has first l shared same =
    let r = reread G H S l.tiled (λ place v a size spelled. let k = used place v a in f k.turn v k.of k.some (slice b place size) spelled) in
    let n : part.items ≡ length r.again = l.counted ∙ sym (same_length r.again l.items r.places) in
    let m = length-map r.again (λ (x : ℕ × W). x.0) in
    record {
      items = r.again;
      tiled = r.tiled;
      order = r.places ∙ l.order ∙ ap distinct_places same;
      apart = λ place other w a c.
          let g = r.was place w a in let h = r.was other w c in
          let p = used place g.0 g.1 in let q = used other h.0 h.1 in
          let e : g.0 ≡ h.0 = tells p.turn q.turn g.0 h.0 w p.of q.of p.some g.2 h.2 in
          shared p.turn q.turn h.0 place other (p.of ∙ ap (λ (v : V). Some v) e) q.of p.at q.at;
      in_map = map_says b kind part (map (λ (x : ℕ × W). x.0) r.again) has (n ∙ sym m) (λ some. first_place r.tiled (omega (arith, m, some)) ∙ sym first);
    }
  where
    used : (place : ℕ) (v : V) → Among l.items place v → IsUsed none places vs place v
    used place v a =
        let k = items_used none G align begin part.end b vs places part.items l place v a in
        let e = one_there place k.value v l.tiled k.there a in
        record { turn = k.turn; of = k.of ∙ ap (λ (x : V). Some x) e; at = k.at; some = subst (λ (x : V). none x ≡ false) e k.some }
