-- The map's bytes say what the map says.
use Rattle.std.proofs.Common.{◌≡◌, ℕ, zero, suc, ◌+◌, ◌*◌, ◌^◌, ◌<◌, ◌≤◌, Bool, true, false, cond, ltb, List, [], ◌∷◌, ◌++◌, length, map, get_or, drop, refl, sym, ap, ◌∙◌, arith, length-append, append-nil}
use Rattle.std.proofs.lemmas.List.{get_or-append_right, get_or_append_left}
use Rattle.std.specs.List.{flat_map, filter}
use Rattle.dex_base.specs.Fields.{u32_at}
use Rattle.dex_base.specs.Words.{words_bytes}
use Rattle.dex_base.proofs.FieldBounds.{u32_at-drop}
use Rattle.file_layout.proofs.Halves.{u16_at-small, u16_at-high}
use Rattle.dex_base.proofs.WordsBytes.{u32_at-words}
use Rattle.dex_container.specs.Layout.{map_place, entry_count, kind_at, items_at, place_at}
use Rattle.file_layout.specs.declared.map_list.Entry.{Entry}
use Rattle.file_layout.specs.inner.Entries.{entry_words, has_some, list_words, entry_of}
use Rattle.file_layout.specs.inner.Spans.{Span, has_items, no_span, MapNames}

abbrev pub three : Span → List ℕ
three s = s.kind ∷ s.items ∷ s.begin ∷ []

pub length-three : (ss : List Span) → length (flat_map three ss) ≡ 3 * length ss
length-three [] = refl
length-three (s ∷ ss) = let r = length-three ss in omega (arith, r)

three_at : (ss : List Span) (i r : ℕ) → i < length ss → r < 3 → get_or (flat_map three ss) (3 * i + r) 0 ≡ get_or (three (get_or ss i no_span)) r 0
three_at [] i r h lt = absurd (omega arith)
three_at (s ∷ ss) zero r h lt = let e : 3 * 0 + r ≡ r = omega arith in ap (λ k. get_or (flat_map three (s ∷ ss)) k 0) e ∙ get_or_append_left (three s) (flat_map three ss) 0 r (omega arith)
three_at (s ∷ ss) (suc i) r h lt =
    get_or-append_right (three s) (flat_map three ss) 3 (3 * suc i + r) 0 refl (omega arith)
    ∙ ap (λ k. get_or (flat_map three ss) k 0) (omega arith)
    ∙ three_at ss i r (omega arith) lt

-- the map's bytes at its place
pub map_is : (b : List ℕ) (place : ℕ) (ss : List Span) → map_place b ≡ place → drop place b ≡ words_bytes (length ss ∷ flat_map three ss)
    → ((j : ℕ) → get_or (length ss ∷ flat_map three ss) j 0 < 2 ^ 32) → ((i : ℕ) → i < length ss → (get_or ss i no_span).kind < 2 ^ 16) → MapNames b ss
unfolding entry_count kind_at items_at place_at
map_is b place ss at is fits small =
    let ws = length ss ∷ flat_map three ss in
    let word : (j : ℕ) → j < length ws → u32_at b (place + 4 * j) ≡ get_or ws j 0 = λ j lt.
    sym (u32_at-drop b place (4 * j)) ∙ ap (λ x. u32_at x (4 * j)) (is ∙ sym (append-nil (words_bytes ws))) ∙ u32_at-words ws [] j lt fits in
    let n = length-three ss in
    let zero_at : place ≡ place + 4 * 0 = omega arith in
    let count : u32_at b (map_place b) ≡ length ss = ap (u32_at b) at ∙ ap (u32_at b) zero_at ∙ word 0 (omega arith) in
    let field : (i r : ℕ) → i < length ss → r < 3 → u32_at b (map_place b + 4 + 12 * i + 4 * r) ≡ get_or (three (get_or ss i no_span)) r 0 = λ i r lt few.
    let e : place + 4 + 12 * i + 4 * r ≡ place + 4 * (1 + (3 * i + r)) = omega arith in
    let k : 1 + (3 * i + r) ≡ suc (3 * i + r) = omega arith in
    ap (λ q. u32_at b (q + 4 + 12 * i + 4 * r)) at ∙ ap (u32_at b) e ∙ word (1 + (3 * i + r)) (omega (arith, n, lt, few)) ∙ ap (λ k. get_or ws k 0) k ∙ three_at ss i r lt few in
    record {
      count = count;
      kinds = λ i h. let e : u32_at b (map_place b + 4 + 12 * i) ≡ (get_or ss i no_span).kind = (let q : map_place b + 4 + 12 * i ≡ map_place b + 4 + 12 * i + 4 * 0 = omega arith in ap (u32_at b) q) ∙ field i 0 h (omega arith) in
          let k = small i h in u16_at-small b (map_place b + 4 + 12 * i) (omega (arith, e, k)) ∙ e;
      items = λ i h. field i 1 h (omega arith);
      places = λ i h. field i 2 h (omega arith);
      unused = λ i h. let e : u32_at b (map_place b + 4 + 12 * i) ≡ (get_or ss i no_span).kind = (let q : map_place b + 4 + 12 * i ≡ map_place b + 4 + 12 * i + 4 * 0 = omega arith in ap (u32_at b) q) ∙ field i 0 h (omega arith) in
          let k = small i h in u16_at-high b (map_place b + 4 + 12 * i) (omega (arith, e, k));
    }

-- ---- what the code writes

kept_words : (ss : List Span) → flat_map entry_words (map entry_of ss) ≡ flat_map three (filter has_items ss)
kept_words [] = refl
kept_words (s ∷ ss) =
    let r = kept_words ss in
    elim (ltb 0 s.items) as (λ (t : Bool). cond t (s.kind ∷ s.items ∷ s.begin ∷ []) [] ++ flat_map entry_words (map entry_of ss) ≡ flat_map three (cond t (s ∷ filter has_items ss) (filter has_items ss))) [
      | true ↦ ap (λ l. s.kind ∷ s.items ∷ s.begin ∷ l) r
      | false ↦ r
    ]

kept_count : (ss : List Span) → length (filter has_some (map entry_of ss)) ≡ length (filter has_items ss)
kept_count [] = refl
kept_count (s ∷ ss) =
    let r = kept_count ss in
    elim (ltb 0 s.items) as (λ (t : Bool). length (cond t (entry_of s ∷ filter has_some (map entry_of ss)) (filter has_some (map entry_of ss))) ≡ length (cond t (s ∷ filter has_items ss) (filter has_items ss))) [
      | true ↦ ap suc r
      | false ↦ r
    ]

pub list_words_are : (ss : List Span) → list_words (map entry_of ss) ≡ length (filter has_items ss) ∷ flat_map three (filter has_items ss)
list_words_are ss = rw (kept_count ss, kept_words ss) refl

-- no more entries have items than there are
pub few_some : (es : List Entry) → length (filter has_some es) ≤ length es
few_some [] = omega arith
few_some (e ∷ es) = elim (has_some e) as (λ (t : Bool). length (cond t (e ∷ filter has_some es) (filter has_some es)) ≤ suc (length es)) [
  | true ↦ let r = few_some es in omega (arith, r)
  | false ↦ let r = few_some es in omega (arith, r)
]

pub few_words : (es : List Entry) → length (flat_map entry_words es) ≤ 3 * length es
few_words [] = omega arith
few_words (e ∷ es) =
    let r = few_words es in
    let n = length-append (entry_words e) (flat_map entry_words es) in
    let k : length (entry_words e) ≤ 3 = grind arith in
    omega (arith, r, n, k)
