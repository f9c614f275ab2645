-- Bytes are those of the numbers that they say, row by row.
use Rattle.std.proofs.Common.{◌≡◌, ℕ, zero, suc, ◌+◌, ◌*◌, ◌/◌, ◌%◌, ◌<◌, ◌≤◌, List, [], ◌∷◌, ◌++◌, length, map, take, drop, get_or, refl, sym, ap, ◌∙◌, subst, arith, Some, length-append, length-drop, option_map, inl, inr}
use Rattle.std.proofs.lemmas.Bool.{cases_lt}
use Rattle.std.proofs.lemmas.Option.{slice_get-get_or, slice_get-map, slice_get_within}
use Rattle.std.specs.List.{AllZip, slice_get}
use Rattle.dex_base.specs.Fields.{AreBytes, u16_at, u16_bytes, u32_at, u32_bytes}
use Rattle.dex_base.specs.Grammar.{Each}
use Rattle.dex_base.specs.Words.{words_bytes}
use Rattle.dex_base.proofs.FieldBounds.{u16_at-drop, u32_at-drop, drop-AreBytes}
use Rattle.dex_container.specs.Where.{slice}
use Rattle.file_layout.proofs.PartLaws.{slice_more}
use Rattle.tables_rows.proofs.HalvesLaws.{u32_bytes-u32_at}
use Rattle.file_write.specs.Packed.{words_of_rows}
use Rattle.file_write.proofs.Retold.{zip_of}
use Rattle.dex_base.proofs.WordsBytes.{words_bytes-push}
use Rattle.dex_base.proofs.ListFacts.{some_inj}

-- ---- numbers

pub word_bytes : (b : List ℕ) (place : ℕ) → AreBytes b → place + 4 ≤ length b → slice b place 4 ≡ u32_bytes (u32_at b place)
unfolding slice
word_bytes b place are low =
    let l = length-drop place b in
    let e = u32_bytes-u32_at (drop place b) (drop-AreBytes b place are) (omega (arith, l, low)) in
    let n : place + 0 ≡ place = omega arith in
    sym e ∙ ap u32_bytes (u32_at-drop b place 0 ∙ ap (u32_at b) n)

first_half : (bytes : List ℕ) → AreBytes bytes → 2 ≤ length bytes → u16_bytes (u16_at bytes 0) ≡ take 2 bytes
unfolding u16_bytes u16_at
first_half (x ∷ y ∷ rest) are long =
    let a = are 0 in let c = are 1 in
    let n : ℕ = x + 256 * (y + 256 * 0) in
    let e0 : n % 256 ≡ x = omega (arith, a, c) in
    let e1 : n / 256 % 256 ≡ y = omega (arith, a, c) in
    (cc)
first_half _ are long = absurd (omega (arith, long))

pub half_bytes : (b : List ℕ) (place : ℕ) → AreBytes b → place + 2 ≤ length b → slice b place 2 ≡ u16_bytes (u16_at b place)
unfolding slice
half_bytes b place are low =
    let l = length-drop place b in
    let e = first_half (drop place b) (drop-AreBytes b place are) (omega (arith, l, low)) in
    let n : place + 0 ≡ place = omega arith in
    sym e ∙ ap u16_bytes (u16_at-drop b place 0 ∙ ap (u16_at b) n)

-- ---- one after the other

pub slice_none : (b : List ℕ) (at n : ℕ) → n ≡ 0 → slice b at n ≡ []
unfolding slice
slice_none b at n e = ap (λ (k : ℕ). take k (drop at b)) e

no_words : words_bytes [] ≡ []
unfolding words_bytes
no_words = refl

pub words_part : (b : List ℕ) (place n : ℕ) (word : ℕ → ℕ) → AreBytes b → place + 4 * n ≤ length b → ((j : ℕ) → j < n → word j ≡ u32_at b (place + 4 * j)) → slice b place (4 * n) ≡ words_bytes (words_of_rows word n)
words_part b place zero word are low is = slice_none b place (4 * 0) refl ∙ sym no_words
words_part b place (suc n) word are low is =
    let e : 4 * suc n ≡ 4 * n + 4 = omega arith in
    ap (λ (k : ℕ). slice b place k) e
    ∙ slice_more b place (4 * n) 4
    ∙ ap (λ (t : List ℕ). t ++ slice b (place + 4 * n) 4) (words_part b place n word are (omega (arith, low)) (λ j lt. is j (omega (arith, lt))))
    ∙ ap (λ (t : List ℕ). words_bytes (words_of_rows word n) ++ t) (word_bytes b (place + 4 * n) are (omega (arith, low)) ∙ ap u32_bytes (sym (is n (omega arith))))
    ∙ sym (words_bytes-push (words_of_rows word n) (word n))

-- rows of so many bytes each
pub rows_part : {V : Type 0} (G : List ℕ → V → Type 0) (size : ℕ) (b : List ℕ) (begin : ℕ) (vs : List V) → ((i : ℕ) (v : V) → slice_get vs i ≡ Some v → G (slice b (begin + size * i) size) v)
    → Each G (slice b begin (size * length vs)) vs
rows_part G size b begin [] f = slice_none b begin (size * 0) (omega arith)
rows_part {V} G size b begin (v ∷ vs) f =
    let e : size * suc (length vs) ≡ size + size * length vs = omega arith in
    let z : begin + size * 0 ≡ begin = omega arith in (
      slice b begin size,
      slice b (begin + size) (size * length vs),
      ap (λ (k : ℕ). slice b begin k) e ∙ slice_more b begin size (size * length vs),
      subst (λ (k : ℕ). G (slice b k size) v) z (f zero v refl),
      rows_part G size b (begin + size) vs (λ i u at. (let k : begin + size * suc i ≡ begin + size + size * i = omega arith in subst (λ (n : ℕ). G (slice b n size) u) k (f (suc i) u at))),
    )

-- ---- words of rows

pub length-words_of : (word : ℕ → ℕ) (n : ℕ) → length (words_of_rows word n) ≡ n
length-words_of word zero = refl
length-words_of word (suc n) = let e = length-words_of word n in let a = length-append (words_of_rows word n) (word n ∷ []) in omega (arith, e, a)

front_got : {V : Type 0} (xs ys : List V) (i : ℕ) → i < length xs → slice_get (xs ++ ys) i ≡ slice_get xs i
front_got [] ys i lt = absurd (omega arith)
front_got (x ∷ xs) ys zero lt = refl
front_got (x ∷ xs) ys (suc i) lt = front_got xs ys i (omega arith)

last_got : {V : Type 0} (xs : List V) (y : V) (i : ℕ) → i ≡ length xs → slice_get (xs ++ y ∷ []) i ≡ Some y
last_got [] y zero e = refl
last_got [] y (suc i) e = absurd (omega (arith, e))
last_got (x ∷ xs) y zero e = absurd (omega (arith, e))
last_got (x ∷ xs) y (suc i) e = last_got xs y i (omega (arith, e))

pub word_got : (word : ℕ → ℕ) (n i : ℕ) → i < n → slice_get (words_of_rows word n) i ≡ Some (word i)
word_got word zero i lt = absurd (omega arith)
word_got word (suc n) i lt = elim (cases_lt i n) [
  | inl l ↦ (let m = length-words_of word n in front_got (words_of_rows word n) (word n ∷ []) i (omega (arith, l, m)) ∙ word_got word n i l)
  | inr l ↦ (
      let m = length-words_of word n in
      let e : i ≡ n = omega (arith, l, lt) in
      last_got (words_of_rows word n) (word n) i (omega (arith, m, e)) ∙ ap (λ (k : ℕ). Some (word k)) (sym e))
]

pub words_zip : {V : Type 0} (R : ℕ → V → Type 0) (word : ℕ → ℕ) (n : ℕ) (vs : List V) → n ≡ length vs → ((i : ℕ) (v : V) → i < n → slice_get vs i ≡ Some v → R (word i) v) → AllZip R (words_of_rows word n) vs
words_zip R word n vs e f =
    let l = length-words_of word n in
    zip_of R (words_of_rows word n) vs (l ∙ e) (λ i place v p q.
    let w = slice_get_within (words_of_rows word n) i place p in
    let lt : i < n = omega (arith, w, l) in
    subst (λ (k : ℕ). R k v) (some_inj (word i) place (sym (word_got word n i lt) ∙ p)) (f i v lt q))

pub word_or : (word : ℕ → ℕ) (n i : ℕ) → i < n → word i ≡ get_or (words_of_rows word n) i 0
word_or word n i lt =
    let l = length-words_of word n in
    some_inj (word i) (get_or (words_of_rows word n) i 0) (sym (word_got word n i lt) ∙ slice_get-get_or (words_of_rows word n) i 0 (omega (arith, l, lt)))

-- ---- names by their keys

-- a name for each key
pub names_from : {K V : Type 0} (key : V → K) (table : List K) → ((i : ℕ) (k : K) → slice_get table i ≡ Some k → (v : V) × (key v ≡ k)) → (names : List V) × (map key names ≡ table)
names_from key [] f = ([], refl)
names_from {K} key (k ∷ ks) f =
    let x = f zero k refl in
    let r = names_from key ks (λ i j e. f (suc i) j e) in
    (x.0 ∷ r.0, (λ t. x.1 t ∷ r.1 t))

pub key_got : {K V : Type 0} (key : V → K) (table : List K) (names : List V) (i : ℕ) (v : V) → map key names ≡ table → slice_get names i ≡ Some v → slice_get table i ≡ Some (key v)
key_got {K} key table names i v e at = sym (ap (λ (ks : List K). slice_get ks i) e) ∙ slice_get-map key names i ∙ ap (option_map key) at

-- places beside values
abbrev pub beside : {V : Type 0} → List ℕ → List V → List (ℕ × V)
beside [] vs = []
beside (p ∷ ps) [] = []
beside (p ∷ ps) (v ∷ vs) = (p, v) ∷ beside ps vs

pub beside_places : {V : Type 0} (ps : List ℕ) (vs : List V) → length ps ≡ length vs → map (λ (x : ℕ × V). x.0) (beside ps vs) ≡ ps
beside_places [] vs n = refl
beside_places (p ∷ ps) [] n = absurd (omega (arith, n))
beside_places (p ∷ ps) (v ∷ vs) n = ap (λ (t : List ℕ). p ∷ t) (beside_places ps vs (omega (arith, n)))

pub beside_keys : {K V : Type 0} (key : V → K) (ps : List ℕ) (vs : List V) → length ps ≡ length vs → map (λ (x : ℕ × V). key x.1) (beside ps vs) ≡ map key vs
beside_keys key [] [] n = refl
beside_keys key [] (v ∷ vs) n = absurd (omega (arith, n))
beside_keys key (p ∷ ps) [] n = absurd (omega (arith, n))
beside_keys {K} key (p ∷ ps) (v ∷ vs) n = ap (λ (t : List K). key v ∷ t) (beside_keys key ps vs (omega (arith, n)))

pub beside_got : {V : Type 0} (ps : List ℕ) (vs : List V) (i : ℕ) (x : ℕ × V) → slice_get (beside ps vs) i ≡ Some x → (slice_get ps i ≡ Some x.0) × (slice_get vs i ≡ Some x.1)
beside_got [] vs i x e = absurd (cc e)
beside_got (p ∷ ps) [] i x e = absurd (cc e)
beside_got {V} (p ∷ ps) (v ∷ vs) zero x e = by x e
  where
    by : (x : ℕ × V) → Some (p, v) ≡ Some x → (Some p ≡ Some x.0) × (Some v ≡ Some x.1)
    by x e = let same : (p, v) ≡ x = cc e in (ap (λ (y : ℕ × V). Some y.0) same, ap (λ (y : ℕ × V). Some y.1) same)
beside_got (p ∷ ps) (v ∷ vs) (suc i) x e = beside_got ps vs i x e
