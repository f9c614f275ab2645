-- The parts of a written file, one by one.
-- Page: "Dalvik Executable format", "File layout".
use Rattle.std.specs.Prelude.{◌≡◌, ℕ, ◌+◌, ◌≤◌, List, ◌++◌, length, take, drop}
use Rattle.dex_base.specs.Mutf8.{PacksText}
use Rattle.dex_base.specs.Fields.{AreBytes}
use Rattle.dex_base.specs.Grammar.{Each}
use Rattle.dex_base.specs.Leb128.{Shortest}
use Rattle.dex_container.specs.Where.{slice}
use Rattle.file_layout.specs.inner.Plan.{tables_end, IsPlanned, IsWritten}
use Rattle.file_layout.specs.inner.Sections.{is_empty_list, never}
use Rattle.file_layout.specs.Tiles.{IsNext, gap}
use Rattle.file_layout.specs.inner.Tiles.{AreShared, Lays}
use Rattle.file_layout.specs.declared.plan.Plan.{Plan}
use Rattle.file_layout.specs.declared.plan.Rows.{Rows}
use Rattle.file_limits.specs.Wide.{wide_of}
use Rattle.file_limits.specs.inner.Wide.{array_values, body_values, list_values, text_values}
use Rattle.tables_names.specs.Closure.{Five, NameRanks}
use Rattle.program_types.specs.Content.{Program}
use Rattle.file_put.specs.inner.Rows.{SpellsRows}
use Rattle.file_put.specs.inner.Codes.{PacksBody, is_bodiless}
use Rattle.file_put.specs.inner.Data.{PacksData, has_no_members, with_code_places}
use Rattle.file_put.specs.inner.Lists.{SpellsRanks}
use Rattle.dex_value.specs.Spelling.{SpellsArray}
use Rattle.file_put.specs.inner.ClassDefs.{SpellsClassRow, with_places}

-- how many rows each table has
abbrev pub rows_of : Five → Program → Rows
rows_of s p = record { strings = length s.strings; types = length s.types; protos = length s.protos; fields = length s.fields; methods = length s.methods; classes = length p }

-- The places by which items are referred to, part by part.
pub record Places : Type 0 where
  pub lists : List ℕ
  pub codes : List ℕ
  pub texts : List ℕ
  pub arrays : List ℕ
  pub datas : List ℕ

-- Where the items of the data lie in these bytes: the parts stand one after the other, each with its items. The part of the code items
-- begins at the first of them, at the next place after the type lists that 4 divides.
pub record DataLies (b : List ℕ) (s : Five) (p : Program) (plan : Plan) (at : Places) : Type 0 where
  pub lists_begin : plan.lists.begin ≡ tables_end plan.rows
  pub codes_begin : plan.codes.begin ≡ plan.lists.end + gap 4 plan.lists.end
  pub strings_begin : plan.strings.begin ≡ plan.codes.end
  pub arrays_begin : plan.arrays.begin ≡ plan.strings.end
  pub datas_begin : plan.datas.begin ≡ plan.arrays.end
  pub lists : Lays is_empty_list (SpellsRanks s) 4 plan.lists.begin plan.lists.end b (list_values s p) at.lists plan.lists.items
  pub codes : Lays is_bodiless (PacksBody (NameRanks s)) 4 plan.lists.end plan.codes.end b (body_values p) at.codes plan.codes.items
  pub strings : Lays never PacksText 1 plan.strings.begin plan.strings.end b (text_values s) at.texts plan.strings.items
  pub arrays : Lays is_empty_list (Shortest (SpellsArray (NameRanks s))) 1 plan.arrays.begin plan.arrays.end b (array_values p) at.arrays plan.arrays.items
  pub datas : Lays has_no_members (PacksData (NameRanks s)) 1 plan.datas.begin plan.datas.end b (with_code_places p at.codes) at.datas plan.datas.items

-- Of each kind equal items stand once: equal type lists, bodies, texts, arrays and class data are each referred to by one place.
pub record StandOnce (s : Five) (p : Program) (at : Places) : Type 0 where
  pub lists : AreShared at.lists (list_values s p)
  pub codes : AreShared at.codes (body_values p)
  pub texts : AreShared at.texts (text_values s)
  pub arrays : AreShared at.arrays (array_values p)
  pub datas : AreShared at.datas (with_code_places p at.codes)

-- The data is laid after room for header and tables, and with the map, which takes at most 163 bytes, it is within the plain sum.
pub record DataIsLaid (out : List ℕ) (s : Five) (p : Program) (plan : Plan) (at : Places) : Type 0 where
  pub counts : plan.rows ≡ rows_of s p
  pub planned : IsPlanned plan
  pub end : length out ≡ plan.datas.end
  pub front : tables_end plan.rows ≤ length out
  pub bound : length out + 163 ≤ wide_of s p
  pub lies : DataLies out s p plan at
  pub once : StandOnce s p at

-- The bytes are the rows of the six tables, one table after the other, where the items stand at these places.
pub record SpellsTables (s : Five) (p : Program) (at : Places) (rows : List ℕ) : Type 0 where
  pub names : List ℕ
  pub classes : List ℕ
  pub whole : rows ≡ names ++ classes
  pub name_rows : SpellsRows s at.texts (take (length s.protos) at.lists) names
  pub class_rows : Each (SpellsClassRow s) classes (with_places p (drop (length s.protos) at.lists) at.datas at.arrays)

-- A file of these names and these classes, by a plan, equal items once, no longer than the plain sum.
pub record Assembled (b : List ℕ) (s : Five) (p : Program) : Type 0 where
  pub plan : Plan
  pub map : ℕ
  pub at : Places
  pub written : IsWritten b plan map
  pub next : IsNext 4 b plan.datas.end map
  pub counts : plan.rows ≡ rows_of s p
  pub lies : DataLies b s p plan at
  pub once : StandOnce s p at
  pub rows : List ℕ
  pub rows_are : slice b 112 (length rows) ≡ rows
  pub tables : SpellsTables s p at rows
  pub bytes : AreBytes b
  pub short : length b ≤ wide_of s p
