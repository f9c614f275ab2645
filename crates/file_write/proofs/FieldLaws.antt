-- The fields of a row of a table that stands in a file, with other bytes before and after it.
use Rattle.std.proofs.Common.{◌≡◌, ℕ, zero, suc, ◌+◌, ◌*◌, ◌^◌, ◌<◌, ◌≤◌, List, [], ◌∷◌, ◌++◌, length, take, drop, get_or, refl, sym, ap, ◌∙◌, arith, lit<, append_assoc, append-nil, length-append, length-drop}
use Rattle.std.proofs.lemmas.List.{drop_at}
use Rattle.std.specs.List.{AllByRecursion, AllZip}
use Rattle.byteorder.specs.Numbers.{little_number-reads_back}
use Rattle.dex_base.specs.Fields.{u16_at, u16_bytes, u32_at, u32_bytes}
use Rattle.dex_base.specs.Words.{words_bytes}
use Rattle.dex_base.proofs.FieldBounds.{u16_at-drop, u16_at-front, u16_at-take, u32_at-append, u32_at-bytes, u32_at-drop, u32_at-front, u32_at-take}
use Rattle.dex_base.proofs.WordsBytes.{u32_at-words}
use Rattle.dex_container.specs.Where.{slice}
use Rattle.file_layout.specs.inner.Sections.{never}
use Rattle.file_layout.specs.Tiles.{Among}
use Rattle.file_layout.specs.inner.Tiles.{Refers}
use Rattle.file_layout.proofs.FinishLaws.{row_u16, row_u32}

-- ---- where a field stands

u16_at-append : (xs ys : List ℕ) (p : ℕ) → u16_at (xs ++ ys) (length xs + p) ≡ u16_at ys p
u16_at-append xs ys p = sym (u16_at-drop (xs ++ ys) (length xs) p) ∙ ap (λ (l : List ℕ). u16_at l p) (drop_at xs ys (length xs) refl)

-- a number of four bytes in the row that begins at `start` in a table, where the file has these rows after its header
pub file_u32 : (b rows front table back : List ℕ) (size start j q : ℕ) → slice b 112 (length rows) ≡ rows → rows ≡ front ++ (table ++ back) → j + 4 ≤ size → start + size ≤ length table
    → q ≡ 112 + (length front + (start + j)) → u32_at b q ≡ u32_at (take size (drop start table)) j
file_u32 b rows front table back size start j q are whole few inside e =
    let n = ap length whole ∙ length-append front (table ++ back) in
    let m = length-append table back in
    let d = length-drop start table in
    ap (u32_at b) e
    ∙ row_u32 b rows (length front + (start + j)) are (omega (arith, n, m, few, inside))
    ∙ ap (λ (l : List ℕ). u32_at l (length front + (start + j))) whole
    ∙ u32_at-append front (table ++ back) (length front) (start + j) refl
    ∙ u32_at-front table back (start + j) (omega (arith, few, inside))
    ∙ sym (u32_at-drop table start j)
    ∙ sym (u32_at-take (drop start table) size j few (omega (arith, d, inside)))

-- .. of two bytes
pub file_u16 : (b rows front table back : List ℕ) (size start j q : ℕ) → slice b 112 (length rows) ≡ rows → rows ≡ front ++ (table ++ back) → j + 2 ≤ size → start + size ≤ length table
    → q ≡ 112 + (length front + (start + j)) → u16_at b q ≡ u16_at (take size (drop start table)) j
file_u16 b rows front table back size start j q are whole few inside e =
    let n = ap length whole ∙ length-append front (table ++ back) in
    let m = length-append table back in
    let d = length-drop start table in
    ap (u16_at b) e
    ∙ row_u16 b rows (length front + (start + j)) are (omega (arith, n, m, few, inside))
    ∙ ap (λ (l : List ℕ). u16_at l (length front + (start + j))) whole
    ∙ u16_at-append front (table ++ back) (start + j)
    ∙ u16_at-front table back (start + j) (omega (arith, few, inside))
    ∙ sym (u16_at-drop table start j)
    ∙ sym (u16_at-take (drop start table) size j few (omega (arith, d, inside)))

-- the six tables, cut before one of them
module _ (strings types protos fields methods classes names rows : List ℕ) (whole : rows ≡ names ++ classes) (named : names ≡ strings ++ (types ++ (protos ++ (fields ++ methods)))) where
  joined : rows ≡ (strings ++ (types ++ (protos ++ (fields ++ methods)))) ++ classes
  joined = whole ∙ ap (λ (l : List ℕ). l ++ classes) named

  pub from_strings : rows ≡ strings ++ ((types ++ (protos ++ (fields ++ methods))) ++ classes)
  from_strings = joined ∙ append_assoc strings (types ++ (protos ++ (fields ++ methods))) classes

  pub from_types : rows ≡ strings ++ (types ++ ((protos ++ (fields ++ methods)) ++ classes))
  from_types = joined ∙ simp append_assoc

  pub from_protos : rows ≡ (strings ++ types) ++ (protos ++ ((fields ++ methods) ++ classes))
  from_protos = joined ∙ simp append_assoc

  pub from_fields : rows ≡ (strings ++ (types ++ protos)) ++ (fields ++ (methods ++ classes))
  from_fields = joined ∙ simp append_assoc

  pub from_methods : rows ≡ (strings ++ (types ++ (protos ++ fields))) ++ (methods ++ classes)
  from_methods = joined ∙ simp append_assoc

  pub from_classes : rows ≡ names ++ (classes ++ [])
  from_classes = whole ∙ ap (λ (l : List ℕ). names ++ l) (sym (append-nil classes))

-- ---- what a field is

-- a number that is all of the bytes
pub only_u32 : (bytes : List ℕ) (n : ℕ) → bytes ≡ u32_bytes n → n < 2 ^ 32 → u32_at bytes 0 ≡ n
only_u32 bytes n e h = ap (λ (l : List ℕ). u32_at l 0) (e ∙ sym (append-nil (u32_bytes n))) ∙ u32_at-bytes n [] h

-- number i of bytes that are numbers of four bytes
pub word_is : (bytes words : List ℕ) (i : ℕ) → bytes ≡ words_bytes words → ((j : ℕ) → get_or words j 0 < 2 ^ 32) → i < length words → u32_at bytes (4 * i) ≡ get_or words i 0
word_is bytes words i e fit lt = ap (λ (l : List ℕ). u32_at l (4 * i)) (e ∙ sym (append-nil (words_bytes words))) ∙ u32_at-words words [] i lt fit

-- numbers of 32 bits, one by one
pub all_fit : (words : List ℕ) → AllByRecursion (λ (n : ℕ). n < 2 ^ 32) words → (j : ℕ) → get_or words j 0 < 2 ^ 32
all_fit [] h j = lit< tt
all_fit (n ∷ words) h zero = h.0
all_fit (n ∷ words) h (suc j) = all_fit words h.1 j

-- two numbers of two bytes, and one of four
module _ (bytes : List ℕ) (x y z : ℕ) (whole : bytes ≡ u16_bytes x ++ (u16_bytes y ++ u32_bytes z)) where
  pub first_half : x < 2 ^ 16 → u16_at bytes 0 ≡ x
  unfolding u16_at u16_bytes
  first_half h = ap (λ (l : List ℕ). u16_at l 0) whole ∙ little_number-reads_back 2 x (u16_bytes y ++ u32_bytes z) h

  pub second_half : y < 2 ^ 16 → u16_at bytes 2 ≡ y
  unfolding u16_at u16_bytes
  second_half h = ap (λ (l : List ℕ). u16_at l 2) whole ∙ little_number-reads_back 2 y (u32_bytes z) h

  pub after_halves : z < 2 ^ 32 → u32_at bytes 4 ≡ z
  unfolding u32_at u32_bytes u16_bytes
  after_halves h = ap (λ (l : List ℕ). u32_at l 4) (whole ∙ ap (λ (l : List ℕ). u16_bytes x ++ (u16_bytes y ++ l)) (sym (append-nil (u32_bytes z)))) ∙ little_number-reads_back 4 z [] h

-- ---- places

-- places of items are below what all items are below
pub places_below : {V : Type 0} (items : List (ℕ × V)) (n : ℕ) → 0 < n → ((place : ℕ) (v : V) → Among items place v → place < n) → (places : List ℕ) (vs : List V) → AllZip (Refers never items) places vs → (j : ℕ) → get_or places j 0 < n
places_below items n some low [] [] h j = some
places_below items n some low [] (v ∷ vs) h j = absurd h
places_below items n some low (x ∷ xs) [] h j = absurd h
places_below items n some low (x ∷ xs) (v ∷ vs) h zero = low x v h.0.1
places_below items n some low (x ∷ xs) (v ∷ vs) h (suc j) = places_below items n some low xs vs h.1 j
