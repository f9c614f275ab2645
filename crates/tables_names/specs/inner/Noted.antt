-- Beside Noted.antt: what no promise reaches.
use Rattle.std.specs.Prelude.{ℕ, slice_index}
use Rattle.tables_names.specs.Closure.{Five}
use Rattle.tables_names.specs.Numbers.{RanksOf}
use Rattle.tables_names.specs.declared.noted.Number.{Number}
use Rattle.tables_names.specs.declared.noted.Number.TheVariants.{Text, Desc, Field, Method}
use Rattle.tables_names.specs.declared.noted.RankOf.{RankOf}

-- of each name of lists in the order of first need, by its number, its rank among sorted ones
pub record HasRanks (names sorted : Five) (rank_of : RankOf) : Type 0 where
  pub strings : RanksOf names.strings sorted.strings rank_of.strings.items
  pub types : RanksOf names.types sorted.types rank_of.types.items
  pub fields : RanksOf names.fields sorted.fields rank_of.fields.items
  pub methods : RanksOf names.methods sorted.methods rank_of.methods.items

-- the rank that stands at a number
abbrev pub rank_by : RankOf → Number → ℕ
rank_by rank_of (Text n) = slice_index rank_of.strings.items n
rank_by rank_of (Desc n) = slice_index rank_of.types.items n
rank_by rank_of (Field n) = slice_index rank_of.fields.items n
rank_by rank_of (Method n) = slice_index rank_of.methods.items n
