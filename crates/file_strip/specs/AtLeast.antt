-- The tables of a file hold at least these names, and codes fit the fields of files in which no name has a higher index.
-- Page: "Dalvik Executable format", "File layout": string_ids to method_ids; "code_item".
use Rattle.std.specs.Prelude.{ℕ, ◌≤◌, List, length}
use Rattle.dex_container.specs.Layout.{size_of}
use Rattle.dex_container.specs.Section as section
use Rattle.tables_names.specs.Closure.{Five, NameRanks}
use Rattle.tables_names.specs.Rank.{IsAt}
use Rattle.program_types.specs.Content.{Name, Proto}
use Rattle.program_types.specs.Key.{proto_key}
use Rattle.tables_rows.specs.Stands.{NameStands, ProtoStands}

-- Some row from row i on denotes the name.
pub record NameStandsFrom (b : List ℕ) (i : ℕ) (name : Name) : Type 0 where
  pub row : ℕ
  pub stands : NameStands b row name
  pub after : i ≤ row

-- Some row from row i on denotes the prototype.
pub record ProtoStandsFrom (b : List ℕ) (i : ℕ) (proto : Proto) : Type 0 where
  pub row : ℕ
  pub stands : ProtoStands b row proto
  pub after : i ≤ row

-- Each table is as long as the list of such names or longer, and has a row for each of them, at its rank or after it.
pub record HoldsAtLeast (b : List ℕ) (s : Five) : Type 0 where
  pub strings : length s.strings ≤ size_of b section.string_ids
  pub types : length s.types ≤ size_of b section.type_ids
  pub protos : length s.protos ≤ size_of b section.proto_ids
  pub fields : length s.fields ≤ size_of b section.field_ids
  pub methods : length s.methods ≤ size_of b section.method_ids
  pub names : (i : ℕ) (name : Name) → NameRanks s i name → NameStandsFrom b i name
  pub proto_names : (i : ℕ) (proto : Proto) → IsAt s.protos i (proto_key proto) → ProtoStandsFrom b i proto
