use Rattle.tables_names.specs.Closure.{NameRanks}
use Rattle.code_write.proofs.HandlerOnce.{ranks-injective}
use Rattle.file_put.proofs.DataOnce.{data_once}
use Rattle.file_put.proofs.RankedLists.{lists_once}
use Rattle.file_put.proofs.row_laws.lists_and_data_are_one.Goals as goal

pub returns-clause-lists : goal.returns-clause-lists
returns-clause-lists c = λ s rising a b ts p q. lists_once s rising a b ts p q

pub returns-clause-datas : goal.returns-clause-datas
returns-clause-datas c = λ s rising a b v i j p q. data_once (NameRanks s) (ranks-injective s rising) a b v i j p q
