-- The exit status and the line of a failed run.
use Rattle.std.specs.Prelude.{ℕ, List, ◌++◌, codes}
use Rattle.std.specs.Fmt.{decimal}
use Rattle.dex_base.specs.Fault.{fault_name}
use Rattle.dexasm_run.specs.declared.error.RunFault.{RunFault}
use Rattle.dexasm_run.specs.declared.error.RunFault.TheVariants.{Refused, Input, Output, Memory}

-- the exit status for each way to fail
abbrev pub exit_status : RunFault → ℕ
exit_status (Refused fault) = 1
exit_status Input = 3
exit_status Output = 3
exit_status Memory = 4

-- the line for each way to fail
abbrev pub error_line : RunFault → List ℕ
error_line (Refused fault) = codes "dexasm: refused " ++ decimal fault.code ++ codes " "
    ++ fault_name fault.code ++ codes " at " ++ decimal fault.place
error_line Input = codes "dexasm: cannot read"
error_line Output = codes "dexasm: cannot write"
error_line Memory = codes "dexasm: out of memory"
