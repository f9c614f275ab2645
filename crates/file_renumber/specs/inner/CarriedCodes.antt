-- Codes of a file whose names have numbers, by which they are encoded again.
-- Page: "Dalvik Executable format", "code_item".
use Rattle.std.specs.Prelude.{ℕ, ◌+◌, ◌*◌, ◌≤◌, ◌++◌, List}
use Rattle.std.specs.List.{AllByRecursion, flat_map}
use Rattle.dex_base.specs.Fields.{u16_bytes, u32_bytes}
use Rattle.dex_base.specs.Grammar.{Takes, Many}
use Rattle.dex_insn.specs.declared.opcode.IndexKind.{IndexKind}
use Rattle.program_types.specs.Content.{Catch, Try, Code}
use Rattle.program_types.specs.Mentions.{names_of_try, names_of_code}
use Rattle.tables_names.specs.Closure.{Five, AreRising, NameRanks}
use Rattle.tables_rows.specs.Stands.{NameStands}
use Rattle.file_renumber.specs.inner.Marked.{Columns}
use Rattle.file_renumber.specs.inner.Numbers.{Carries}
use Rattle.code_read.specs.Code.{CodeStands}
use Rattle.code_read.specs.Handlers.{Handler}
use Rattle.code_read.specs.inner.Handlers.{SpellsCatch, SpellsHandler}
use Rattle.code_read.specs.inner.ItemReading.{ReadTries}
use Rattle.code_read.specs.declared.item.Item.{Item}
use Rattle.code_write.specs.Fits.{AllInsns, ShortFits, catches_in, wide_code}
use Rattle.file_renumber.specs.inner.Fronts.{types_of}

-- The code stands at this offset, and by these numbers each name in it has its rank among the names s, which fits its
-- field; the code takes few bytes.
pub record IsCarriedCode (b : List ℕ) (off : ℕ) (numbers : Columns) (s : Five) (c : Code) : Type 0 where
  pub stands : CodeStands (NameStands b) b off c
  pub rise : AreRising s
  pub carried : AllByRecursion (Carries (NameStands b) (NameRanks s) numbers) (names_of_code c)
  pub fits : (kind : IndexKind) → AllInsns (ShortFits (NameRanks s) kind) c
  pub short : wide_code c ≤ 4294967295

-- registers_size to insns_size, as they are written
abbrev pub head_of : Item → List ℕ
head_of i = u16_bytes i.registers ++ u16_bytes i.ins ++ u16_bytes i.outs ++ u16_bytes i.tries ++ u32_bytes 0 ++ u32_bytes i.size

-- So many catches at the front of the bytes, what follows them, and names among which each of their types has its rank
-- by these numbers.
pub record CarriedCatches (numbers : Columns) (n : ℕ) (bytes : List ℕ) : Type 0 where
  pub file : List ℕ
  pub names : Five
  pub starts : List ℕ
  pub catches : List Catch
  pub rest : List ℕ
  pub taken : Takes (Many (SpellsCatch (NameStands file) starts) n) bytes catches rest
  pub carried : AllByRecursion (Carries (NameStands file) (NameRanks names) numbers) (types_of catches)

-- A handler at the front of the bytes, what follows it, and names among which each type that it catches has its rank by
-- these numbers.
pub record CarriedHandler (numbers : Columns) (bytes : List ℕ) : Type 0 where
  pub file : List ℕ
  pub names : Five
  pub starts : List ℕ
  pub handler : Handler
  pub rest : List ℕ
  pub taken : Takes (SpellsHandler (NameStands file) starts) bytes handler rest
  pub carried : AllByRecursion (Carries (NameStands file) (NameRanks names) numbers) (types_of handler.catches)

-- The tries of a file that the item's try_items and handlers spell, and names among which each type that they catch has
-- its rank by these numbers.
pub record CarriedTries (numbers : Columns) (i : Item) : Type 0 where
  pub file : List ℕ
  pub names : Five
  pub starts : List ℕ
  pub tries : List Try
  pub read : ReadTries (NameStands file) starts i.size i.tries i.items.now i.list.now tries
  pub rise : AreRising names
  pub carried : AllByRecursion (Carries (NameStands file) (NameRanks names) numbers) (flat_map names_of_try tries)
  pub short : 26 + 18 * i.tries + 10 * catches_in tries ≤ 4294967295
