-- A map that names spans one after the other keeps the rules.
use Rattle.std.proofs.Common.{◌≡◌, ℕ, zero, suc, ◌+◌, ◌<◌, ◌≤◌, Bool, true, false, cond, ltb, List, [], ◌∷◌, length, get_or, refl, sym, ap, ◌∙◌, subst, arith, inl, inr, ◌⊎◌}
use Rattle.std.proofs.lemmas.Bool.{cases_lt}
use Rattle.std.specs.List.{filter, AllByRecursion}
use Rattle.dex_container.specs.Layout.{size_of, entry_count, items_at, kind_at, place_at, data_end}
use Rattle.dex_container.specs.Frame.{IsKind, EntryHolds, MapIsPlaced, HasKind, MapHolds, end_at}
use Rattle.file_layout.specs.inner.Parts.{SectionReaches}
use Rattle.file_layout.specs.inner.Spans.{Span, has_items, no_span, MapNames}
use Rattle.file_layout.proofs.Named.{Follow, IsNamed}

-- the same of the spans that have items
abbrev Kept : (ℕ → ℕ) → ℕ → ℕ → List Span → Type 0
Kept rank at n [] = Unit {0}
Kept rank at n (s ∷ ss) = (at ≤ s.begin) × (s.begin < s.end) × (0 < s.items) × (n ≤ rank s.kind) × Kept rank s.end (suc (rank s.kind)) ss

Kept-more : (rank : ℕ → ℕ) (at to n m : ℕ) (ss : List Span) → at ≤ to → n ≤ m → Kept rank to m ss → Kept rank at n ss
Kept-more rank at to n m [] l k h = tt
Kept-more rank at to n m (s ∷ ss) l k h = (let a = h.0 in omega arith, h.1, h.2, let a = h.3 in omega arith, h.4)

kept : (rank : ℕ → ℕ) (at n : ℕ) (ss : List Span) → Follow rank at n ss → Kept rank at n (filter has_items ss)
kept rank at n [] h = tt
kept rank at n (s ∷ ss) h =
    let rest = kept rank s.end (suc (rank s.kind)) ss h.3 in
    elim (ltb 0 s.items) as (λ (t : Bool). ltb 0 s.items ≡ t → Kept rank at n (cond t (s ∷ filter has_items ss) (filter has_items ss))) [
      | true ↦ λ e. let some : 0 < s.items = grind arith in let r = h.1 some in (r.0, r.1, some, h.2, rest)
      | false ↦ λ e. Kept-more rank at s.end n (suc (rank s.kind)) (filter has_items ss) h.0 (let a = h.2 in omega arith) rest
    ] refl

some_at : (rank : ℕ → ℕ) (at n : ℕ) (ss : List Span) (i : ℕ) → Kept rank at n ss → i < length ss → (0 < (get_or ss i no_span).items) × ((get_or ss i no_span).begin < (get_or ss i no_span).end) × (n ≤ rank (get_or ss i no_span).kind) × (at ≤ (get_or ss i no_span).begin)
some_at rank at n [] i h l = absurd (omega arith)
some_at rank at n (s ∷ ss) zero h l = (h.2, h.1, h.3, h.0)
some_at rank at n (s ∷ ss) (suc i) h l =
    let r = some_at rank s.end (suc (rank s.kind)) ss i h.4 (omega arith) in
    let a = h.0 in let b = h.1 in let c = h.3 in let d = r.2 in let e = r.3 in
    (r.0, r.1, omega (arith, c, d), omega (arith, a, b, e))

before : (rank : ℕ → ℕ) (at n : ℕ) (ss : List Span) (j i : ℕ) → Kept rank at n ss → i < length ss → j < i → (rank (get_or ss j no_span).kind < rank (get_or ss i no_span).kind) × ((get_or ss j no_span).end ≤ (get_or ss i no_span).begin)
before rank at n [] j i h l b = absurd (omega arith)
before rank at n (s ∷ ss) j zero h l b = absurd (omega arith)
before rank at n (s ∷ ss) zero (suc i) h l b =
    let r = some_at rank s.end (suc (rank s.kind)) ss i h.4 (omega arith) in
    let d = r.2 in let e = r.3 in (omega (arith, d), e)
before rank at n (s ∷ ss) (suc j) (suc i) h l b = before rank s.end (suc (rank s.kind)) ss j i h.4 (omega arith) (omega arith)

pub all_at : (P : Span → Type 0) (ss : List Span) (i : ℕ) → AllByRecursion P ss → i < length ss → P (get_or ss i no_span)
all_at P [] i h l = absurd (omega arith)
all_at P (s ∷ ss) zero h l = h.0
all_at P (s ∷ ss) (suc i) h l = all_at P ss i h.1 (omega arith)

pub all_kept : (P : Span → Type 0) (ss : List Span) → AllByRecursion (λ s. 0 < s.items → P s) ss → AllByRecursion P (filter has_items ss)
all_kept P [] h = tt
all_kept P (s ∷ ss) h =
    elim (ltb 0 s.items) as (λ (t : Bool). ltb 0 s.items ≡ t → AllByRecursion P (cond t (s ∷ filter has_items ss) (filter has_items ss))) [
      | true ↦ λ e. let some : 0 < s.items = grind arith in (h.0 some, all_kept P ss h.1)
      | false ↦ λ e. all_kept P ss h.1
    ] refl

-- a span is one of these
abbrev pub Has : List Span → Span → Type 0
Has [] s = ⊥
Has (t ∷ ss) s = (t ≡ s) ⊎ Has ss s

-- one with items stays
pub stays : (ss : List Span) (s : Span) → Has ss s → 0 < s.items → Has (filter has_items ss) s
stays [] s h some = absurd h
stays (t ∷ ss) s (inl e) some = let on : ltb 0 t.items ≡ true = rw e (grind arith) in rw on (inl e)
stays (t ∷ ss) s (inr h) some = elim (ltb 0 t.items) as (λ (u : Bool). Has (cond u (t ∷ filter has_items ss) (filter has_items ss)) s) [
  | true ↦ inr (stays ss s h some)
  | false ↦ stays ss s h some
]

-- spans that follow one another have higher ranks, so that those of one kind are one
rank_low : (rank : ℕ → ℕ) (at n : ℕ) (ss : List Span) (t : Span) → Follow rank at n ss → Has ss t → n ≤ rank t.kind
rank_low rank at n [] t f h = absurd h
rank_low rank at n (s ∷ ss) t f (inl e) = subst (λ (x : Span). n ≤ rank x.kind) e f.2
rank_low rank at n (s ∷ ss) t f (inr h) = let l = rank_low rank s.end (suc (rank s.kind)) ss t f.3 h in let k = f.2 in omega (arith, l, k)

no_twin : (rank : ℕ → ℕ) (at n : ℕ) (s : Span) (ss : List Span) (t u : Span) → Follow rank at n (s ∷ ss) → s ≡ t → Has ss u → t.kind ≡ u.kind → t ≡ u
no_twin rank at n s ss t u f e h k =
    let l = rank_low rank s.end (suc (rank s.kind)) ss u f.3 h in
    let r = ap (λ (x : Span). rank x.kind) e ∙ ap rank k in
    absurd (omega (arith, l, r))

one_of_kind : (rank : ℕ → ℕ) (at n : ℕ) (ss : List Span) (t u : Span) → Follow rank at n ss → Has ss t → Has ss u → t.kind ≡ u.kind → t ≡ u
one_of_kind rank at n [] t u f h k e = absurd h
one_of_kind rank at n (s ∷ ss) t u f (inl h) (inl k) e = sym h ∙ k
one_of_kind rank at n (s ∷ ss) t u f (inl h) (inr k) e = no_twin rank at n s ss t u f h k e
one_of_kind rank at n (s ∷ ss) t u f (inr h) (inl k) e = sym (no_twin rank at n s ss u t f k h (sym e))
one_of_kind rank at n (s ∷ ss) t u f (inr h) (inr k) e = one_of_kind rank s.end (suc (rank s.kind)) ss t u f.3 h k e

all_are_in : (ss all : List Span) → ((s : Span) → Has ss s → Has all s) → AllByRecursion (λ s. 0 < s.items → Has all s) ss
all_are_in [] all f = tt
all_are_in (s ∷ ss) all f = (λ _. f s (inl refl), all_are_in ss all (λ t h. f t (inr h)))

pub record IsIn (ss : List Span) (s : Span) : Type 0 where
  pub place : ℕ
  pub within : place < length ss
  pub same : get_or ss place no_span ≡ s

pub is_in : (ss : List Span) (s : Span) → Has ss s → IsIn ss s
is_in [] s h = absurd h
is_in (t ∷ ss) s (inl e) = record { place = 0; within = omega arith; same = e }
is_in (t ∷ ss) s (inr h) = let r = is_in ss s h in let w = r.within in record { place = suc r.place; within = omega (arith, w); same = r.same }

module _ (rank : ℕ → ℕ) (b : List ℕ) (spans : List Span) (follow : Follow rank 0 0 spans) (named : AllByRecursion (λ s. 0 < s.items → IsNamed b s) spans) (is : MapNames b (filter has_items spans)) (first : (get_or (filter has_items spans) 0 no_span).kind ≡ 0) where
  -- where the next entry begins
  next : (i : ℕ) → i < length (filter has_items spans) → i + 1 < entry_count b → (get_or (filter has_items spans) i no_span).end ≤ place_at b (i + 1)
  next i l m =
      let c = is.count in
      let l1 : i + 1 < length (filter has_items spans) = omega (arith, c, m) in
      let o = before rank 0 0 (filter has_items spans) i (i + 1) (kept rank 0 0 spans follow) l1 (omega arith) in
      let o1 = o.1 in let p = is.places (i + 1) l1 in omega (arith, o1, p)

  pub entry : (i : ℕ) → i < entry_count b → EntryHolds b i
  entry i h =
      let ss = filter has_items spans in
      let k = kept rank 0 0 spans follow in
      let l : i < length ss = let c = is.count in omega (arith, c) in
      let s = get_or ss i no_span in
      let n = all_at (IsNamed b) ss i (all_kept (IsNamed b) spans named) l in
      let some = some_at rank 0 0 ss i k l in
      let kind = is.kinds i l in
      let place = is.places i l in
      let items = is.items i l in
      record {
        known = subst IsKind (sym kind) n.known;
        once = λ j lt e. let o = before rank 0 0 ss j i k l lt in
            let same : (get_or ss j no_span).kind ≡ s.kind = sym (is.kinds j (omega arith)) ∙ e ∙ kind in
            let r : rank (get_or ss j no_span).kind ≡ rank s.kind = ap rank same in
            let o0 = o.0 in absurd (omega (arith, o0, r));
        rising = λ j e. let o = before rank 0 0 ss j i k l (omega arith) in let o1 = o.1 in let sj = some_at rank 0 0 ss j k (omega arith) in let sj1 = sj.1 in let pj = is.places j (omega arith) in omega (arith, o1, sj1, pj, place);
        some = let a = some.0 in omega (arith, a, items);
        first = λ e. first_is i e h;
        header = λ e. let r = n.header (sym kind ∙ e) in (place ∙ r.0, items ∙ r.1);
        table = λ t lt e. let r = n.table t lt (sym kind ∙ e) in record { items = items ∙ r.0; place = place ∙ r.1; ends = λ m. let x = next i l m in let r2 = r.2 in omega (arith, x, r2) };
        map = λ e. let r = n.map (sym kind ∙ e) in record { items = items ∙ r.0; place = place ∙ r.1; ends = λ m. let x = next i l m in let r2 = r.2 in omega (arith, x, r2) };
        inside = λ e. let lo : 0x1000 ≤ s.kind = omega (arith, kind, e) in let r = n.inside lo in let r0 = r.0 in let r1 = r.1 in let s1 = some.1 in (omega (arith, r0, place), omega (arith, r1, s1, place));
      } where
        first_is : (i : ℕ) → i ≡ 0 → i < entry_count b → kind_at b i ≡ 0
        first_is i e h = let c = is.count in rw e (is.kinds 0 (omega (arith, c, h)) ∙ first)

  -- an entry of a span's kind has its items
  pub counted : (s : Span) → Has spans s → (i : ℕ) → i < entry_count b → kind_at b i ≡ s.kind → items_at b i ≡ s.items
  counted s h i lt e =
      let ss = filter has_items spans in
      let c = is.count in
      let l : i < length ss = omega (arith, c, lt) in
      let here = all_at (Has spans) ss i (all_kept (Has spans) spans (all_are_in spans spans (λ t k. k))) l in
      is.items i l ∙ ap (λ (x : Span). x.items) (one_of_kind rank 0 0 spans (get_or ss i no_span) s follow here h (sym (is.kinds i l) ∙ e))

  pub has_kind : (s : Span) → Has spans s → 0 < s.items → HasKind b s.kind
  has_kind s h some =
      let r = is_in (filter has_items spans) s (stays spans s h some) in
      let c = is.count in let w = r.within in
      (r.place, omega (arith, c, w), is.kinds r.place r.within ∙ ap (λ (x : Span). x.kind) r.same)

  pub map_holds : (m : Span) → MapIsPlaced b → Has spans m → 0 < m.items → m.kind ≡ 0x1000
      → ((k : ℕ) → k < 6 → 0 < size_of b k → (s : Span) × Has spans s × (s.kind ≡ k + 1) × (0 < s.items)) → MapHolds b
  map_holds m placed h some kind tables = record {
    placed = placed;
    each = entry;
    map = subst (HasKind b) kind (has_kind m h some);
    tables = λ k lt n. let t = tables k lt n in subst (HasKind b) t.2 (has_kind t.0 t.1 t.3);
  }

  -- the section of a kind of the data that has items
  pub section : (s : Span) → Has spans s → 0 < s.items → 0x1000 ≤ s.kind → SectionReaches b s.kind s.begin s.end
  section s h some kind =
      let r = is_in (filter has_items spans) s (stays spans s h some) in
      let c = is.count in let w = r.within in
      let lt : r.place < entry_count b = omega (arith, c, w) in
      let n = all_at (IsNamed b) (filter has_items spans) r.place (all_kept (IsNamed b) spans named) r.within in
      let kind_is = ap (λ (x : Span). x.kind) r.same in
      let end_is = ap (λ (x : Span). x.end) r.same in
      let i = (n.inside (omega (arith, kind, kind_is))).1 in
      record {
        last = end_at b r.place;
        section = record { entry = r.place; in_map = lt; of_data = kind; named = is.kinds r.place r.within ∙ kind_is; begins = sym (is.places r.place r.within ∙ ap (λ (x : Span). x.begin) r.same); ends = refl };
        reaches = reach r.place r.within s.end (omega (arith, i, end_is)) end_is;
      } where
        reach : (i : ℕ) → i < length (filter has_items spans) → (end : ℕ) → end ≤ data_end b → (get_or (filter has_items spans) i no_span).end ≡ end → end ≤ end_at b i
        reach i l end inside is_end = elim (cases_lt (i + 1) (entry_count b)) [
          | inl m ↦ let x = next i l m in let on : ltb (i + 1) (entry_count b) ≡ true = grind arith in rw on (omega (arith, x, inside, is_end))
          | inr m ↦ let off : ltb (i + 1) (entry_count b) ≡ false = grind arith in rw off inside
        ]
