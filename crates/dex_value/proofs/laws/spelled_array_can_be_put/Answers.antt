use Rattle.tables_names.specs.Closure.{NameRanks}
use Rattle.dex_value.proofs.Fitting.{spelled_ranked, spelled_fits, narrow_fits}
use Rattle.dex_value.proofs.laws.spelled_array_can_be_put.Goals as goal

pub returns-clause-named : goal.returns-clause-named
returns-clause-named c = λ ranks bytes vs s. spelled_ranked ranks bytes vs s

pub returns-clause-counts : goal.returns-clause-counts
returns-clause-counts c = λ ranks bytes vs s. spelled_fits (NameRanks ranks) bytes vs s

pub returns-clause-short : goal.returns-clause-short
returns-clause-short c = λ vs h. narrow_fits vs h
