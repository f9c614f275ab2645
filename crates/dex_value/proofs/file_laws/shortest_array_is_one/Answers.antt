use Rattle.tables_names.specs.Closure.{NameRanks}
use Rattle.dex_value.proofs.ArrayOnce.{array_once}
use Rattle.dex_value.proofs.file_laws.shortest_array_is_one.Goals as goal
use Rattle.tables_names.proofs.PlaceLemmas.{rank_one}

pub returns : goal.returns
returns c = λ s rising a b vs i j p q. array_once (NameRanks s) (λ m n which f g. rank_one s m n which rising f g) vs a b i j p q
