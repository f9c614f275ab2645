-- The contracts of the private functions of aligning.
use Rattle.dex_base.specs.declared.fault.Fault.{Fault}

-- more instructions would result than a code can have
abbrev pub too_many : Fault
too_many = record { code = 90; place = 0 }
