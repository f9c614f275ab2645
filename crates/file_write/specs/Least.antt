-- The tables of a file hold exactly these names.
-- Page: "Dalvik Executable format", "File layout": string_ids to method_ids.
use Rattle.std.specs.Prelude.{◌≡◌, ℕ, List, length}
use Rattle.dex_container.specs.Layout.{size_of}
use Rattle.dex_container.specs.Section as section
use Rattle.tables_names.specs.Closure.{Five, NameRanks}
use Rattle.tables_names.specs.Rank.{IsAt}
use Rattle.program_types.specs.Content.{Name, Proto}
use Rattle.program_types.specs.Key.{proto_key}
use Rattle.tables_rows.specs.Stands.{NameStands, ProtoStands}

-- Each table has as many rows as there are such names, and a row denotes the name of its rank and no other.
pub record HoldsExactly (b : List ℕ) (s : Five) : Type 0 where
  pub strings : size_of b section.string_ids ≡ length s.strings
  pub types : size_of b section.type_ids ≡ length s.types
  pub protos : size_of b section.proto_ids ≡ length s.protos
  pub fields : size_of b section.field_ids ≡ length s.fields
  pub methods : size_of b section.method_ids ≡ length s.methods
  pub each : (i : ℕ) (name : Name) → NameRanks s i name → NameStands b i name
  pub only : (i : ℕ) (name : Name) → NameStands b i name → NameRanks s i name
  pub each_proto : (i : ℕ) (proto : Proto) → IsAt s.protos i (proto_key proto) → ProtoStands b i proto
  pub only_proto : (i : ℕ) (proto : Proto) → ProtoStands b i proto → IsAt s.protos i (proto_key proto)
