-- What is said of a code's registers when its instructions are read, said of the code.
use Rattle.std.proofs.Common.{◌≡◌, ℕ, ◌+◌, ◌*◌, ◌<◌, ◌≤◌, length, Option, Some, None, subst, inl, inr, arith}
use Rattle.std.specs.Prelude.{IfSome, IfNone, ◌⊎◌}
use Rattle.dex_base.specs.declared.fault.Fault.{Fault}
use Rattle.program_types.specs.Content.{Code}
use Rattle.program_types.specs.Formed.{RegistersHold}
use Rattle.code_rules.specs.First.{AllHold}
use Rattle.code_read.specs.Registers.{AmongAt, IsPast}
use Rattle.code_read.specs.Faults.{RegistersBreak}

-- no fault
pub named_of : (c : Code) (o : Option Fault) (past : Option ℕ) → IfNone o ((c.ins ≤ c.registers) × (past ≡ None)) → IfNone past (AllHold (AmongAt c.registers c.insns) (length c.insns)) → IfNone o (RegistersHold c)
named_of c None past n a = record { ins = n.0; each = subst (λ (p : Option ℕ). IfNone p (AllHold (AmongAt c.registers c.insns) (length c.insns))) n.1 a }
named_of c (Some e) past n a = tt

-- the fault of ins, or that of an instruction
abbrev pub Given : ℕ → Code → Option ℕ → Fault → Type 0
Given off c past e =
    ((c.registers < c.ins) × (e ≡ record { code = 73; place = off }))
    ⊎ ((c.ins ≤ c.registers) × (at : ℕ) × (past ≡ Some at) × (e ≡ record { code = 73; place = off + 16 + 2 * at }))

past_given : (off : ℕ) (c : Code) (past : Option ℕ) (e : Fault) → Given off c past e → IfSome past (IsPast c.registers c.insns) → RegistersBreak off c e
past_given off c past e (inl p) a = let many = p.0 in inl (λ few. omega (arith, few, many), p.1)
past_given off c past e (inr p) a = inr (p.0, (p.1, subst (λ (o : Option ℕ). IfSome o (IsPast c.registers c.insns)) p.2 a, p.3))

pub past_of : (off : ℕ) (c : Code) (o : Option Fault) (past : Option ℕ) → IfSome o (Given off c past) → IfSome past (IsPast c.registers c.insns) → IfSome o (RegistersBreak off c)
past_of off c None past s a = tt
past_of off c (Some e) past s a = past_given off c past e s a
