use Rattle.dex_container.proofs.NoneAtZero.{none_at_zero}
use Rattle.tables_rows.specs.Names.{NameIsAt}
use Rattle.code_read.specs.Code.{SpellsCode}
use Rattle.code_read.proofs.file_laws.no_code_stands_at_zero.Goals as goal

pub returns : goal.returns
returns c = λ b names f code a. none_at_zero (SpellsCode (NameIsAt names)) b 0x2001 4 code f a
