use Rattle.code_write.proofs.BreakLaws.{clear_fits, fits_clear}
use Rattle.tables_names.specs.Closure.{NameRanks}
use Rattle.code_write.proofs.fit_laws.code_limits_are_decided.Goals as goal

pub returns : goal.returns
returns c = λ ranks code. (λ fits number. fits_clear (NameRanks ranks) code number fits, clear_fits (NameRanks ranks) code)
