-- Arrays by rank.
use Rattle.std.proofs.Common.{◌≡◌, ℕ, ◌+◌, ◌<◌, ◌≤◌, List, [], length, refl, ap, false, arith}
use Rattle.dex_base.specs.Leb128.{Shortest}
use Rattle.program_types.specs.Content.{OfText, OfDesc, OfField, OfMethod, Value}
use Rattle.tables_names.specs.Closure.{AreRising, Five, NameRanks}
use Rattle.dex_value.specs.Spelling.{SpellsArray}
use Rattle.dex_value.specs.Wide.{wide_array}
use Rattle.dex_value.proofs.Lengths.{SpellsArray-most}
use Rattle.dex_value.proofs.Places.{SpellsArray-least}
use Rattle.file_layout.specs.inner.Sections.{is_empty_list}
use Rattle.file_layout.specs.Tiles.{gap}
use Rattle.dex_value.specs.Unique.{IsFunctionalByType}
use Rattle.dex_value.proofs.FrontLaws.{SpellsArray-unique}
use Rattle.file_layout.proofs.SectionLaws.{gap_one}
use Rattle.code_write.proofs.HandlerOnce.{ranks-injective}
use Rattle.dex_value.proofs.ArrayOnce.{array_once}
use Rattle.file_put.specs.inner.Arrays.{WritesArray}
use Rattle.tables_names.proofs.PlaceLemmas.{one_key}
use Rattle.program_types.proofs.KeysTell.{text_told, field_told, method_told}

-- ---- an array that is written once

pub array_some : (s : Five) (bytes : List ℕ) (vs : List Value) → Shortest (SpellsArray (NameRanks s)) bytes vs → 0 < length bytes
array_some s bytes vs p = SpellsArray-least (NameRanks s) bytes vs p.spelled

pub array_packs : (s : Five) (bytes : List ℕ) (vs : List Value) → WritesArray s bytes vs → Shortest (SpellsArray (NameRanks s)) bytes vs
array_packs s bytes vs p = p.packs

-- values have one list of bytes
pub arrays_once : (s : Five) → AreRising s → (a b : List ℕ) (vs : List Value) → WritesArray s a vs → WritesArray s b vs → a ≡ b
arrays_once s rising a b vs p q = array_once (NameRanks s) (ranks-injective s rising) vs a b p.are q.are p.packs q.packs

pub array_most : (s : Five) (vs : List Value) → is_empty_list vs ≡ false → (bytes : List ℕ) (at : ℕ) → WritesArray s bytes vs → gap 1 at + length bytes ≤ wide_array vs
array_most s vs e bytes at p =
    let g = gap_one at in
    let m = SpellsArray-most (NameRanks s) bytes vs p.packs.spelled in
    omega (arith, g, m)

ranks_functional : (s : Five) → IsFunctionalByType (NameRanks s)
ranks_functional s i (OfText m) (OfText n) e p q = ap OfText (text_told m n (one_key s.strings i _ _ p q))
ranks_functional s i (OfDesc m) (OfDesc n) e p q = ap OfDesc (text_told m n (one_key s.types i _ _ p q))
ranks_functional s i (OfField m) (OfField n) e p q = ap OfField (field_told m n (one_key s.fields i _ _ p q))
ranks_functional s i (OfMethod m) (OfMethod n) e p q = ap OfMethod (method_told m n (one_key s.methods i _ _ p q))
ranks_functional s i _ _ e p q = absurd (omega arith)

-- the bytes of an array have one value
pub array_one : (s : Five) (bytes : List ℕ) (us vs : List Value) → WritesArray s bytes us → WritesArray s bytes vs → us ≡ vs
array_one s bytes us vs p q = (SpellsArray-unique (NameRanks s) (ranks_functional s) bytes bytes [] [] us vs p.packs.spelled q.packs.spelled refl).1
