-- Files of one plan have one header and one map.
use Rattle.std.proofs.Common.{◌≡◌, ℕ, zero, suc, ◌+◌, ◌*◌, ◌-◌, ◌/◌, ◌%◌, ◌<◌, ◌≤◌, List, [], ◌∷◌, ◌++◌, length, take, drop, get_or, refl, sym, ap, ◌∙◌, arith, subst, Bool, true, false, inl, inr}
use Rattle.std.proofs.lemmas.List.{get_or-drop, length-drop, take-append-drop, drop-drop}
use Rattle.std.proofs.lemmas.Bool.{cases_lt}
use Rattle.std.specs.Prelude.{slice_index, nat_lt, if◌then◌else◌}
use Rattle.std.specs.List.{filter}
use Rattle.dex_base.specs.Fields.{AreBytes, u16_at, u32_at}
use Rattle.dex_base.specs.Adler32.{adler32}
use Rattle.sha1.specs.Sha1.{sha1}
use Rattle.dex_container.specs.Frame.{HasMagic, HasVersion, HasChecksum, HasSignature, SumsHold}
use Rattle.dex_container.specs.Layout.{map_place, entry_count, entry_place, kind_at, items_at, place_at}
use Rattle.dex_container.specs.Where.{slice}
use Rattle.file_layout.specs.declared.plan.Plan.{Plan}
use Rattle.file_layout.specs.inner.Plan.{spans_of, header_words, IsWritten}
use Rattle.file_layout.specs.inner.Spans.{Span, has_items, MapNames}
use Rattle.file_layout.specs.inner.Once.{part_of}
use Rattle.dex_base.proofs.SameFields.{same_half, same_word}

-- the same byte at a place
abbrev pub SameAt : List ℕ → List ℕ → ℕ → Type 0
SameAt b c i = get_or b i 0 ≡ get_or c i 0

-- ---- lists that are the same byte by byte

pub same_bytes : (b c : List ℕ) → length b ≡ length c → ((i : ℕ) → i < length b → SameAt b c i) → b ≡ c
same_bytes [] [] n h = refl
same_bytes [] (y ∷ ys) n h = absurd (omega arith)
same_bytes (x ∷ xs) [] n h = absurd (omega arith)
same_bytes (x ∷ xs) (y ∷ ys) n h =
    let here = h zero (omega arith) in
    let rest = same_bytes xs ys (omega arith) (λ i lt. h (suc i) (omega arith)) in
    (λ k. here k ∷ rest k)

-- from a place on
pub same_from : (b c : List ℕ) (p : ℕ) → length b ≡ length c → ((i : ℕ) → p ≤ i → i < length b → SameAt b c i) → drop p b ≡ drop p c
same_from b c p n h =
    let u = length-drop p b in let v = length-drop p c in
    same_bytes (drop p b) (drop p c) (omega (arith, n, u, v))
    (λ i lt. get_or-drop p b i 0 ∙ h (p + i) (omega arith) (omega (arith, lt, u)) ∙ sym (get_or-drop p c i 0))

-- a place of a part that is the same
pub same_inside : (b c : List ℕ) (from to i : ℕ) → part_of b from to ≡ part_of c from to → from ≤ i → i < to → to ≤ length b → to ≤ length c → SameAt b c i
unfolding slice
same_inside b c from to i e low high p q =
    let m : from + (i - from) ≡ i = omega (arith, low) in
    let u = taken (to - from) (i - from) (drop from b) (omega (arith, low, high)) in
    let v = taken (to - from) (i - from) (drop from c) (omega (arith, low, high)) in
    ap (λ (k : ℕ). get_or b k 0) (sym m) ∙ sym (get_or-drop from b (i - from) 0) ∙ sym u ∙ ap (λ (l : List ℕ). get_or l (i - from) 0) e ∙ v ∙ get_or-drop from c (i - from) 0 ∙ ap (λ (k : ℕ). get_or c k 0) m
  where
    taken : (n k : ℕ) (xs : List ℕ) → k < n → get_or (take n xs) k 0 ≡ get_or xs k 0
    taken zero k xs lt = absurd (omega arith)
    taken (suc n) k [] lt = refl
    taken (suc n) zero (x ∷ xs) lt = refl
    taken (suc n) (suc k) (x ∷ xs) lt = taken n k xs (omega arith)

-- ---- signature and checksum

-- what is after the signature decides all, with the first eight bytes
pub closed_once : (b c : List ℕ) → AreBytes b → AreBytes c → length b ≡ length c → 32 ≤ length b → SumsHold b → SumsHold c → ((i : ℕ) → i < 8 → SameAt b c i) → drop 32 b ≡ drop 32 c → b ≡ c
unfolding HasChecksum HasSignature
closed_once b c bytes_b bytes_c n long s t front back =
    let sign : take 20 (drop 12 b) ≡ take 20 (drop 12 c) = s.signature ∙ ap sha1 back ∙ sym t.signature in
    let after : drop 12 b ≡ drop 12 c =
    sym (take-append-drop 20 (drop 12 b)) ∙ (λ k. sign k ++ drop 20 (drop 12 b)) ∙ ap (λ (l : List ℕ). take 20 (drop 12 c) ++ l) (twelve b ∙ back ∙ sym (twelve c)) ∙ take-append-drop 20 (drop 12 c) in
    let sum : u32_at b 8 ≡ u32_at c 8 = s.checksum ∙ ap adler32 after ∙ sym t.checksum in
    same_bytes b c n (λ i lt. elim (cases_lt i 8) [
      | inl l ↦ front i l
      | inr l ↦ elim (cases_lt i 12) [
        | inl m ↦ (let k : 8 + (i - 8) ≡ i = omega (arith, l) in subst (λ (j : ℕ). SameAt b c j) k (same_word b c bytes_b bytes_c 8 sum (i - 8) (omega (arith, l, m))))
        | inr m ↦ (
            let k : 12 + (i - 12) ≡ i = omega (arith, m) in
            subst (λ (j : ℕ). SameAt b c j) k (sym (get_or-drop 12 b (i - 12) 0) ∙ ap (λ (l : List ℕ). get_or l (i - 12) 0) after ∙ get_or-drop 12 c (i - 12) 0))
      ]
    ])
  where
    twelve : (xs : List ℕ) → drop 20 (drop 12 xs) ≡ drop 32 xs
    twelve xs = drop-drop 20 12 xs

-- ---- magic and version

pub magic_once : (b c : List ℕ) → AreBytes b → AreBytes c → HasMagic b → HasMagic c → HasVersion b → HasVersion c → (i : ℕ) → i < 8 → SameAt b c i
magic_once b c bytes_b bytes_c m n v w i lt = elim (cases_lt i 4) [
  | inl l ↦ (let e : 0 + i ≡ i = omega arith in subst (λ (j : ℕ). SameAt b c j) e (same_word b c bytes_b bytes_c 0 (m.dex ∙ sym n.dex) i l))
  | inr l ↦ elim (cases_lt i 6) [
    | inl k ↦ (let e : 4 + (i - 4) ≡ i = omega (arith, l) in subst (λ (j : ℕ). SameAt b c j) e (same_half b c bytes_b bytes_c 4 (v.front ∙ sym w.front) (i - 4) (omega (arith, l, k))))
    | inr k ↦ elim (cases_lt i 7) [
      | inl h ↦ (let e : 6 ≡ i = omega (arith, k, h) in subst (λ (j : ℕ). SameAt b c j) e (v.back ∙ sym w.back))
      | inr h ↦ (let e : 7 ≡ i = omega (arith, h, lt) in subst (λ (j : ℕ). SameAt b c j) e (m.zero ∙ sym n.zero))
    ]
  ]
]

-- ---- the header

pub header_once : (b c : List ℕ) (p : Plan) (map : ℕ) → AreBytes b → AreBytes c → IsWritten b p map → IsWritten c p map → length b ≡ length c → (i : ℕ) → 32 ≤ i → i < 112 → SameAt b c i
header_once b c p map bytes_b bytes_c s t n i low high =
    let j = i / 4 in
    let k = i % 4 in
    let e : 4 * j + k ≡ i = omega arith in
    let words : slice_index (header_words p.rows map (length b)) j ≡ slice_index (header_words p.rows map (length c)) j = ap (λ (m : ℕ). slice_index (header_words p.rows map m) j) n in
    let same : u32_at b (4 * j) ≡ u32_at c (4 * j) = s.fields j (omega arith) (omega arith) ∙ words ∙ sym (t.fields j (omega arith) (omega arith)) in
    subst (λ (m : ℕ). SameAt b c m) e (same_word b c bytes_b bytes_c (4 * j) same k (omega arith))

-- ---- the map

abbrev items_of : List Span → List ℕ
items_of [] = []
items_of (s ∷ ss) = s.items ∷ items_of ss

keep : (x y : Bool) (s t : Span) (ss ts : List Span) → x ≡ y → length ss ≡ length ts → length (if x then s ∷ ss else ss) ≡ length (if y then t ∷ ts else ts)
keep true true s t ss ts e n = ap suc n
keep true false s t ss ts e n = absurd cc
keep false true s t ss ts e n = absurd cc
keep false false s t ss ts e n = n

with_items : (ss ts : List Span) → items_of ss ≡ items_of ts → length (filter has_items ss) ≡ length (filter has_items ts)
with_items [] [] e = refl
with_items [] (t ∷ ts) e = absurd (cc e)
with_items (s ∷ ss) [] e = absurd (cc e)
with_items (s ∷ ss) (t ∷ ts) e =
    let h : s.items ≡ t.items = cc in
    let r : items_of ss ≡ items_of ts = cc in
    keep (has_items s) (has_items t) s t (filter has_items ss) (filter has_items ts) (ap (λ (n : ℕ). nat_lt 0 n) h) (with_items ss ts r)

pub length_once : (b c : List ℕ) (p : Plan) (map : ℕ) → IsWritten b p map → IsWritten c p map → length b ≡ length c
length_once b c p map s t =
    let m = with_items (spans_of p map (length b)) (spans_of p map (length c)) refl in
    let e = s.ends in let f = t.ends in
    omega (arith, m, e, f)

map_there : (b : List ℕ) (p : Plan) (map : ℕ) → IsWritten b p map → map_place b ≡ map
unfolding map_place
map_there b p map s = s.fields 13 (omega arith) (omega arith)

pub map_once : (b c : List ℕ) (p : Plan) (map : ℕ) → AreBytes b → AreBytes c → IsWritten b p map → IsWritten c p map → length b ≡ length c → (i : ℕ) → map ≤ i → i < length b → SameAt b c i
unfolding entry_count kind_at items_at place_at
map_once b c p map bytes_b bytes_c s t n i low high =
    let there = map_there b p map s in let also = map_there c p map t in
    let spans : filter has_items (spans_of p map (length b)) ≡ filter has_items (spans_of p map (length c)) = ap (λ (m : ℕ). filter has_items (spans_of p map m)) n in
    let named = s.named in
    let called = subst (λ (ss : List Span). MapNames c ss) (sym spans) t.named in
    let ends = s.ends in
    elim (cases_lt i (map + 4)) [
      | inl l ↦ (
          let e : map + (i - map) ≡ i = omega (arith, low) in
          let same : u32_at b map ≡ u32_at c map = ap (λ (m : ℕ). u32_at b m) (sym there) ∙ named.count ∙ sym called.count ∙ ap (λ (m : ℕ). u32_at c m) also in
          subst (λ (m : ℕ). SameAt b c m) e (same_word b c bytes_b bytes_c map same (i - map) (omega (arith, low, l))))
      | inr l ↦ (
          let k = (i - (map + 4)) / 12 in
          let r = (i - (map + 4)) % 12 in
          let few : k < length (filter has_items (spans_of p map (length b))) = omega (arith, l, high, ends) in
          let e : map + 4 + 12 * k + r ≡ i = omega (arith, l) in
          let small : r < 12 = omega arith in
          let first : entry_place b k ≡ map + 4 + 12 * k = omega (arith, there) in
          let second : entry_place c k ≡ map + 4 + 12 * k = omega (arith, also) in
          subst (λ (m : ℕ). SameAt b c m) e
          (in_entry (map + 4 + 12 * k)
          (ap (λ (m : ℕ). u16_at b m) (sym first) ∙ named.kinds k few ∙ sym (called.kinds k few) ∙ ap (λ (m : ℕ). u16_at c m) second)
          (ap (λ (m : ℕ). u16_at b (m + 2)) (sym first) ∙ named.unused k few ∙ sym (called.unused k few) ∙ ap (λ (m : ℕ). u16_at c (m + 2)) second)
          (ap (λ (m : ℕ). u32_at b (m + 4)) (sym first) ∙ named.items k few ∙ sym (called.items k few) ∙ ap (λ (m : ℕ). u32_at c (m + 4)) second)
          (ap (λ (m : ℕ). u32_at b (m + 8)) (sym first) ∙ named.places k few ∙ sym (called.places k few) ∙ ap (λ (m : ℕ). u32_at c (m + 8)) second)
          r small))
    ]
  where
    in_entry : (at : ℕ) → u16_at b at ≡ u16_at c at → u16_at b (at + 2) ≡ u16_at c (at + 2) → u32_at b (at + 4) ≡ u32_at c (at + 4) → u32_at b (at + 8) ≡ u32_at c (at + 8) → (r : ℕ) → r < 12 → SameAt b c (at + r)
    in_entry at f g h j r small = elim (cases_lt r 2) [
      | inl l ↦ same_half b c bytes_b bytes_c at f r l
      | inr l ↦ elim (cases_lt r 4) [
        | inl m ↦ (let e : at + 2 + (r - 2) ≡ at + r = omega (arith, l) in subst (λ (x : ℕ). SameAt b c x) e (same_half b c bytes_b bytes_c (at + 2) g (r - 2) (omega (arith, l, m))))
        | inr m ↦ elim (cases_lt r 8) [
          | inl k ↦ (let e : at + 4 + (r - 4) ≡ at + r = omega (arith, m) in subst (λ (x : ℕ). SameAt b c x) e (same_word b c bytes_b bytes_c (at + 4) h (r - 4) (omega (arith, m, k))))
          | inr k ↦ (let e : at + 8 + (r - 8) ≡ at + r = omega (arith, k) in subst (λ (x : ℕ). SameAt b c x) e (same_word b c bytes_b bytes_c (at + 8) j (r - 8) (omega (arith, k, small))))
        ]
      ]
    ]

-- ---- the whole file

-- files by one plan that agree between header and map are one
pub written_once : (b c : List ℕ) (p : Plan) (map : ℕ) → AreBytes b → AreBytes c → IsWritten b p map → IsWritten c p map → 112 ≤ map → part_of b 112 map ≡ part_of c 112 map → b ≡ c
written_once b c p map bytes_b bytes_c s t after same =
    let n = length_once b c p map s t in
    let e = s.ends in
    let back : drop 32 b ≡ drop 32 c = same_from b c 32 n (λ i low high. elim (cases_lt i 112) [
      | inl l ↦ header_once b c p map bytes_b bytes_c s t n i low l
      | inr l ↦ elim (cases_lt i map) [
        | inl m ↦ same_inside b c 112 map i same l m (omega (arith, e)) (omega (arith, e, n))
        | inr m ↦ map_once b c p map bytes_b bytes_c s t n i m high
      ]
    ]) in
    closed_once b c bytes_b bytes_c n (omega (arith, e, after)) s.sums t.sums (magic_once b c bytes_b bytes_c s.magic t.magic s.version t.version) back
