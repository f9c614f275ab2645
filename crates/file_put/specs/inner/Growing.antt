-- Class data while it is written, list by list.
-- Page: "Dalvik Executable format", "encoded_field", "encoded_method".
use Rattle.std.specs.Prelude.{◌≡◌, ℕ, List, ◌++◌}
use Rattle.dex_base.specs.Grammar.{Each}
use Rattle.dex_base.specs.Leb128.{Spells, Shortest}
use Rattle.file_classes.specs.ClassData.{FieldEntry, MethodEntry, SpellsFieldEntry, SpellsMethodEntry, EntriesAre}
use Rattle.program_types.specs.Content.{Name, Descriptor, Member, Method}
use Rattle.file_put.specs.Data.{code_offs}
use Rattle.file_put.specs.inner.Data.{FieldRanks, MethodRanks}

-- `new` is `old` and after it the entries of these fields of a class.
pub record AddsFields (N : ℕ → Name → Type 0) (class : Descriptor) (old new : List ℕ) (ms : List Member) : Type 0 where
  pub bytes : List ℕ
  pub entries : List FieldEntry
  pub whole : new ≡ old ++ bytes
  pub spelled : Each (SpellsFieldEntry (Shortest Spells)) bytes entries
  pub run : EntriesAre (FieldRanks N class) entries ms

-- `new` is `old` and after it the entries of these methods of a class, whose bodies stand at these places.
pub record AddsMethods (N : ℕ → Name → Type 0) (class : Descriptor) (codes old new : List ℕ) (ms : List Method) : Type 0 where
  pub bytes : List ℕ
  pub entries : List MethodEntry
  pub whole : new ≡ old ++ bytes
  pub spelled : Each (SpellsMethodEntry (Shortest Spells)) bytes entries
  pub run : EntriesAre (MethodRanks N class) entries ms
  pub places : code_offs entries ≡ codes
