-- Operands that fit their fields, and targets that are instructions, are those of a well-formed code; and the other way round.
use Rattle.std.proofs.Common.{ℕ, ◌<◌, ◌≤◌, List, [], ◌∷◌, length, Some, arith}
use Rattle.std.specs.Prelude.{IfSome}
use Rattle.std.specs.List.{AllByRecursion}
use Rattle.program_types.specs.Content.{Insn, Code}
use Rattle.program_types.specs.Content as made
use Rattle.program_types.specs.Formed.{AreAlike, IsFormed, IsTarget, insn_at, insn_branch, insn_reach, insn_targets, insn_wants, wanted_by}
use Rattle.program_types.specs.Operands.{IsOperand}
use Rattle.program_types.specs.declared.payload.Payload.{Payload}
use Rattle.program_types.specs.declared.payload.Payload.TheVariants as payload
use Rattle.code_rules.specs.CodeRules.{FitsFields, OperandsHold, TargetsHold, PayloadsHold}

-- ---- from the rules to operands

pub alike_itself : (p : Payload) → AreAlike (Some p) (Some p)
alike_itself payload.PackedSwitch = tt
alike_itself _ = tt

all_inside : (is : List Insn) (ts : List ℕ) → AllByRecursion (IsTarget is) ts → AllByRecursion (λ to. to < length is) ts
all_inside is [] h = tt
all_inside is (t ∷ ts) h = (h.0.inside, all_inside is ts h.1)

operand_of : (is : List Insn) (i : Insn) → FitsFields i → IfSome (insn_branch i) (IsTarget is) → AllByRecursion (IsTarget is) (insn_targets i) → (AreAlike (insn_wants i) (insn_wants i) → insn_reach i < length is) → IsOperand (length is) i
unfolding insn_branch insn_targets insn_wants insn_reach
operand_of is (made.I10t op to) f b t r = (f.0, b.inside)
operand_of is (made.I20t op to) f b t r = (f.0, b.inside)
operand_of is (made.I21t op a to) f b t r = (f.0, f.1, b.inside)
operand_of is (made.I22t op a c to) f b t r = (f.0, f.1, f.2, b.inside)
operand_of is (made.I30t op to) f b t r = (f.0, b.inside)
operand_of is (made.I31t op a to) f b t r = (f.0, f.1, r (alike_itself (wanted_by op)))
operand_of is (made.Packed first to) f b t r = (f.0, f.1, all_inside is to t)
operand_of is (made.Sparse keys to) f b t r = (f.0, f.1, f.2, f.3, all_inside is to t)
operand_of is _ f b t r = f

pub operands_of : (c : Code) → OperandsHold c → TargetsHold c → PayloadsHold c → (k : ℕ) → k < length c.insns → IsOperand (length c.insns) (insn_at c.insns k)
operands_of c o t p k l = operand_of c.insns (insn_at c.insns k) (o.operands k l) (t k l).lands (t k l).all (λ w. ((p k l).refers w).payload)

-- ---- and back

all_wide : (count : ℕ) (ts : List ℕ) → count ≤ 2147483647 → AllByRecursion (λ to. to < count) ts → AllByRecursion (λ to. to < 4294967296) ts
all_wide count [] l h = tt
all_wide count (t ∷ ts) l h = let a = h.0 in (omega arith, all_wide count ts l h.1)

fields_of : (count : ℕ) (i : Insn) → count ≤ 2147483647 → IsOperand count i → FitsFields i
fields_of count (made.I10t op to) l h = let a = h.1 in (h.0, omega arith)
fields_of count (made.I20t op to) l h = let a = h.1 in (h.0, omega arith)
fields_of count (made.I21t op a to) l h = let b = h.2 in (h.0, h.1, omega arith)
fields_of count (made.I22t op a c to) l h = let b = h.3 in (h.0, h.1, h.2, omega arith)
fields_of count (made.I30t op to) l h = let a = h.1 in (h.0, omega arith)
fields_of count (made.I31t op a to) l h = let b = h.2 in (h.0, h.1, omega arith)
fields_of count (made.Packed first to) l h = (h.0, h.1, all_wide count to l h.2)
fields_of count (made.Sparse keys to) l h = (h.0, h.1, h.2, h.3, all_wide count to l h.4)
fields_of count _ l h = h

pub formed_operands : (c : Code) → IsFormed c → OperandsHold c
formed_operands c f = record { some = f.some; few = f.few; operands = λ k l. fields_of (length c.insns) (insn_at c.insns k) f.few (f.operands k l) }
