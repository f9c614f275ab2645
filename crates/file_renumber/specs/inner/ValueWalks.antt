-- Walks over values: what the contracts of private functions cite.
use Rattle.std.specs.Prelude.{◌≡◌, ℕ, ◌<◌, ◌≤◌, List, length}
use Rattle.std.specs.List.{flat_map}
use Rattle.dex_base.specs.Grammar.{Takes, Many}
use Rattle.dex_container.specs.Frame.{IsFramed}
use Rattle.dex_value.specs.Faults.{widest_of}
use Rattle.dex_value.specs.Spelling.{SpellsValue}
use Rattle.dex_value.specs.inner.Reading.{ValueStands}
use Rattle.dex_value.specs.Wide.{wide_value, wide_values}
use Rattle.program_types.specs.Content.{Value, values}
use Rattle.program_types.specs.Mentions.{NamesHold, AllNamesHold, names_of_value}
use Rattle.tables_names.specs.Closure.{Five, AreRising, NameRanks}
use Rattle.file_renumber.specs.inner.Marked.{Columns, Marked, AddsNames}
use Rattle.file_renumber.specs.inner.Numbers.{Carries}
use Rattle.tables_rows.specs.Stands.{NameStands}

-- Of a value the names are marked, it takes so many bytes at most, and this follows it.
pub record MarksValue (b : List ℕ) (old new : Marked) (v : Value) (rest : List ℕ) (most : ℕ) (after : List ℕ) : Type 0 where
  pub follows : after ≡ rest
  pub wide : most ≡ wide_value v
  pub marked : AddsNames b old new (names_of_value v)

-- Of these values the names are marked, they take so many bytes at most, and this follows them.
pub record MarksValues (b : List ℕ) (old new : Marked) (vs : List Value) (rest : List ℕ) (most : ℕ) (after : List ℕ) : Type 0 where
  pub follows : after ≡ rest
  pub wide : most ≡ wide_values (values vs)
  pub marked : AddsNames b old new (flat_map names_of_value vs)

-- After a head of this type these bytes stand for a value of the file.
pub record IsLow (b : List ℕ) (type : ℕ) (low : List ℕ) (v : Value) : Type 0 where
  pub framed : IsFramed b
  pub some : 0 < length low
  pub few : length low ≤ widest_of type
  pub stands : ValueStands (NameStands b) type low v

-- The value of a file for which these bytes after a head of this type stand, and names among which each name in it has
-- its rank by these numbers.
pub record CarriedLow (numbers : Columns) (type : ℕ) (bytes : List ℕ) : Type 0 where
  pub file : List ℕ
  pub names : Five
  pub value : Value
  pub low : IsLow file type bytes value
  pub rise : AreRising names
  pub carried : NamesHold (Carries (NameStands file) (NameRanks names) numbers) value

-- The value of a file that is spelled at the front of these bytes, what follows it, and names among which each name in
-- it has its rank by these numbers.
pub record CarriedValue (numbers : Columns) (bytes : List ℕ) : Type 0 where
  pub file : List ℕ
  pub names : Five
  pub value : Value
  pub rest : List ℕ
  pub framed : IsFramed file
  pub rise : AreRising names
  pub taken : Takes (SpellsValue (NameStands file)) bytes value rest
  pub carried : NamesHold (Carries (NameStands file) (NameRanks names) numbers) value

-- The n values of a file that are spelled at the front of these bytes, what follows them, and names among which each
-- name in them has its rank by these numbers.
pub record CarriedValues (numbers : Columns) (n : ℕ) (bytes : List ℕ) : Type 0 where
  pub file : List ℕ
  pub names : Five
  pub all : List Value
  pub rest : List ℕ
  pub framed : IsFramed file
  pub rise : AreRising names
  pub taken : Takes (Many (SpellsValue (NameStands file)) n) bytes all rest
  pub carried : AllNamesHold (Carries (NameStands file) (NameRanks names) numbers) (values all)
