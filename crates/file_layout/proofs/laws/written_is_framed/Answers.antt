use Rattle.file_layout.proofs.FrameLaws.{framed, header_of, lists_part, codes_part, strings_part, arrays_part, datas_part, kinds_known}
use Rattle.file_layout.proofs.laws.written_is_framed.Goals as goal

pub returns-clause-framed : goal.returns-clause-framed
returns-clause-framed c = framed

pub returns-clause-header : goal.returns-clause-header
returns-clause-header c = header_of

pub returns-clause-lists : goal.returns-clause-lists
returns-clause-lists c = lists_part

pub returns-clause-codes : goal.returns-clause-codes
returns-clause-codes c = codes_part

pub returns-clause-strings : goal.returns-clause-strings
returns-clause-strings c = strings_part

pub returns-clause-arrays : goal.returns-clause-arrays
returns-clause-arrays c = arrays_part

pub returns-clause-datas : goal.returns-clause-datas
returns-clause-datas c = datas_part

pub returns-clause-kinds : goal.returns-clause-kinds
returns-clause-kinds c = kinds_known
