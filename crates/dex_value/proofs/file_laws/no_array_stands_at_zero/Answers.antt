use Rattle.dex_container.proofs.NoneAtZero.{none_at_zero}
use Rattle.tables_rows.specs.Names.{NameIsAt}
use Rattle.dex_value.specs.Spelling.{SpellsArray}
use Rattle.dex_value.proofs.file_laws.no_array_stands_at_zero.Goals as goal

pub returns : goal.returns
returns c = λ b names f most vs a. none_at_zero (SpellsArray (NameIsAt names)) b 0x2005 1 vs f a.stands
