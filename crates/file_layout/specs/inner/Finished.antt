-- A file that is finished: the map after the data, header and rows in front, signature and checksum.
-- Page: "Dalvik Executable format", "header_item".
use Rattle.std.specs.Prelude.{◌≡◌, ℕ, ◌^◌, ◌<◌, ◌++◌, List, length, drop, slice_index}
use Rattle.dex_base.specs.Fields.{AreBytes}
use Rattle.dex_base.specs.Words.{words_bytes}
use Rattle.dex_container.specs.Closed.{SetsSums}
use Rattle.dex_container.specs.Where.{slice}
use Rattle.file_layout.specs.declared.plan.Rows.{Rows}
use Rattle.file_layout.specs.declared.plan.Plan.{Plan}
use Rattle.file_layout.specs.Tiles.{IsNext}
use Rattle.file_layout.specs.inner.Tiles.{Agree}
use Rattle.file_layout.specs.inner.Plan.{tables_end, header_words, IsWritten}

-- `new` is `old` with header and rows in front, with signature and checksum.
pub record IsFronted (old new : List ℕ) (r : Rows) (map total : ℕ) (rows : List ℕ) : Type 0 where
  pub front : List ℕ
  pub whole : front ≡ words_bytes (header_words r map total) ++ (rows ++ drop (tables_end r) old)
  pub header_fits : (j : ℕ) → slice_index (header_words r map total) j < 2 ^ 32
  pub closed : SetsSums front new
  pub bytes : AreBytes new

-- `new` has the data of `old`, after it zeros up to the map, the map, and in front header and rows.
pub record Finishes (old new : List ℕ) (p : Plan) (rows : List ℕ) : Type 0 where
  pub map : ℕ
  pub written : IsWritten new p map
  pub next : IsNext 4 new (length old) map
  pub rows_are : slice new 112 (length rows) ≡ rows
  pub same : Agree old new (tables_end p.rows) (length old)
  pub bytes : AreBytes new
