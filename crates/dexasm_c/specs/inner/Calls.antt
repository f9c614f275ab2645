-- Beside Calls.antt: what no promise reaches.
use Rattle.std.specs.Prelude.{◌≡◌, ◌≢◌}
use Rattle.dex_base.specs.Fault.{memory}
use Rattle.dex_base.specs.declared.fault.Fault.{Fault}
use Rattle.dexasm_c.specs.declared.ending.CFault.{CFault}
use Rattle.dexasm_c.specs.declared.ending.Ending.{Ending}
use Rattle.dexasm_c.specs.declared.ending.Ending.TheVariants.{Refused, Memory}
use Rattle.dexasm_c.specs.Calls.{as_fault}

-- A fault is reported: out of memory, or another one.
abbrev pub Reports : Ending → Fault → CFault → Type 0
Reports Refused fault c_fault = (fault.code ≢ 255) × (as_fault c_fault ≡ fault)
Reports Memory fault c_fault = (fault.code ≡ 255) × (as_fault c_fault ≡ memory)
Reports _ fault c_fault = ⊥
