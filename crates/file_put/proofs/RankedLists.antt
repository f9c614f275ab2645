-- Type lists by rank.
use Rattle.std.proofs.Common.{◌≡◌, ℕ, ◌+◌, ◌*◌, ◌<◌, ◌≤◌, List, [], ◌∷◌, ◌++◌, length, refl, sym, ap, ◌∙◌, arith, subst, true≢false, false, length-append, append-nil, append_assoc}
use Rattle.dex_base.specs.Fields.{u16_bytes, u32_bytes}
use Rattle.dex_base.specs.Words.{halves_bytes}
use Rattle.dex_base.proofs.FieldBounds.{length-u32_bytes}
use Rattle.program_types.specs.Content.{Descriptor, Units}
use Rattle.program_types.specs.Key.{text_key}
use Rattle.tables_names.specs.Closure.{AreRising, Five}
use Rattle.tables_names.proofs.PlaceLemmas.{rank_at}
use Rattle.tables_names.specs.Rank.{IsAt}
use Rattle.tables_rows.proofs.HalvesLaws.{length-halves_bytes, indexes_unique}
use Rattle.file_layout.specs.Tiles.{gap}
use Rattle.file_layout.specs.inner.Sections.{is_empty_list}
use Rattle.tables_names.specs.inner.Indices.{AreIndices}
use Rattle.file_put.specs.inner.Lists.{AddsIndices, SpellsRanks}
use Rattle.file_limits.specs.Wide.{wide_list}
use Rattle.dex_base.proofs.ListFacts.{zip_length}
use Rattle.tables_names.proofs.PlaceLemmas.{one_key}
use Rattle.program_types.proofs.KeysTell.{text_told}

pub indices_none : (s : Five) (old : List ℕ) → AddsIndices s old old []
unfolding halves_bytes
indices_none s old = record { indexes = []; whole = sym (append-nil old); small = tt; named = tt }

pub halves_push : (xs : List ℕ) (x : ℕ) → halves_bytes (xs ++ x ∷ []) ≡ halves_bytes xs ++ u16_bytes x
unfolding halves_bytes
halves_push [] x = append-nil (u16_bytes x)
halves_push (y ∷ xs) x = ap (λ l. u16_bytes y ++ l) (halves_push xs x) ∙ sym (append_assoc (u16_bytes y) (halves_bytes xs) (u16_bytes x))

pub list_length : (s : Five) (bytes : List ℕ) (ts : List Descriptor) → SpellsRanks s bytes ts → length bytes ≡ 4 + 2 * length ts
list_length s bytes ts p =
    let n = zip_length (λ (j : ℕ) (t : Units). IsAt s.types j (text_key t)) p.indexes ts p.named in
    let e = ap length p.spelled.spelled ∙ length-append (u32_bytes (length p.indexes)) (halves_bytes p.indexes) in
    let f = length-u32_bytes (length p.indexes) in
    let h = length-halves_bytes p.indexes in
    omega (arith, n, e, f, h)

pub gap_four : (n : ℕ) → gap 4 n ≤ 3
gap_four n = omega arith

-- ---- a list that is written once

pub list_some : (s : Five) (bytes : List ℕ) (ts : List Descriptor) → SpellsRanks s bytes ts → 0 < length bytes
list_some s bytes ts p = let l = list_length s bytes ts p in omega (arith, l)

pub list_packs : (s : Five) (bytes : List ℕ) (ts : List Descriptor) → SpellsRanks s bytes ts → SpellsRanks s bytes ts
list_packs s bytes ts p = p

pub list_most : (s : Five) (ts : List Descriptor) → is_empty_list ts ≡ false → (bytes : List ℕ) (at : ℕ) → SpellsRanks s bytes ts → gap 4 at + length bytes ≤ wide_list ts
list_most s [] e bytes at p = absurd (true≢false e)
list_most s (t ∷ ts) e bytes at p =
    let l = list_length s bytes (t ∷ ts) p in
    let g = gap_four at in
    omega (arith, l, g)

pub named_one : (s : Five) (is : List ℕ) (ts us : List Units) → AreIndices s.types is ts → AreIndices s.types is us → ts ≡ us
named_one s [] [] [] p q = refl
named_one s [] [] (u ∷ us) p q = absurd q
named_one s [] (t ∷ ts) us p q = absurd p
named_one s (i ∷ is) [] us p q = absurd p
named_one s (i ∷ is) (t ∷ ts) [] p q = absurd q
named_one s (i ∷ is) (t ∷ ts) (u ∷ us) p q =
    let a = text_told t u (one_key s.types i (text_key t) (text_key u) p.0 q.0) in
    let b = named_one s is ts us p.1 q.1 in
    λ j. a j ∷ b j

-- the bytes of a list have one value
pub list_one : (s : Five) (bytes : List ℕ) (ts us : List Descriptor) → SpellsRanks s bytes ts → SpellsRanks s bytes us → ts ≡ us
list_one s bytes ts us p q =
    let e = (indexes_unique bytes bytes [] [] p.indexes q.indexes p.spelled q.spelled refl).1 in
    named_one s p.indexes ts us p.named (subst (λ (is : List ℕ). AreIndices s.types is us) (sym e) q.named)

-- types have one list of bytes
indexes_once : (s : Five) → AreRising s → (is js : List ℕ) (ts : List Units) → AreIndices s.types is ts → AreIndices s.types js ts → is ≡ js
indexes_once s rising [] [] [] p q = refl
indexes_once s rising [] [] (t ∷ ts) p q = absurd p
indexes_once s rising [] (j ∷ js) [] p q = absurd q
indexes_once s rising [] (j ∷ js) (t ∷ ts) p q = absurd p
indexes_once s rising (i ∷ is) js [] p q = absurd p
indexes_once s rising (i ∷ is) [] (t ∷ ts) p q = absurd q
indexes_once s rising (i ∷ is) (j ∷ js) (t ∷ ts) p q =
    let a : i ≡ j = sym (rank_at s.types i (text_key t) rising.types p.0) ∙ rank_at s.types j (text_key t) rising.types q.0 in
    let b = indexes_once s rising is js ts p.1 q.1 in
    (λ k. a k ∷ b k)

pub lists_once : (s : Five) → AreRising s → (a b : List ℕ) (ts : List Descriptor) → SpellsRanks s a ts → SpellsRanks s b ts → a ≡ b
lists_once s rising a b ts p q =
    let e = indexes_once s rising p.indexes q.indexes ts p.named q.named in
    p.spelled.spelled ∙ (λ k. u32_bytes (length (e k)) ++ halves_bytes (e k)) ∙ sym q.spelled.spelled
