-- A program breaks one rule: the first of the first class that breaks one.
use Rattle.std.proofs.Common.{◌≡◌, ℕ}
use Rattle.dex_base.specs.declared.fault.Fault.{Fault}
use Rattle.dex_base.proofs.FirstFaultLaws.{else_clear, else_one, none_one, first_clear, entry_clear, first_entry_one}
use Rattle.program_types.specs.Content.{Class, Program}
use Rattle.program_rules.specs.Rules.{ClassHolds, ClassBreaks, RulesHold, RuleBreaks}

-- a class that keeps its rules breaks none
class_keeps : (p : Program) (i : ℕ) (c : Class) (e : Fault) → ClassHolds p i c → ClassBreaks p i c e → ⊥
class_keeps p i c e h = else_clear h.names (else_clear h.members (else_clear h.order (else_clear h.values (
    else_clear h.operands (else_clear h.targets (else_clear h.payloads (else_clear h.tries (else_clear h.registers (λ none. none)))))))))

-- nor does a program
pub rules_clear : (p : Program) (e : Fault) → RulesHold p → RuleBreaks p e → ⊥
rules_clear p e h = first_clear (entry_clear p (ClassHolds p) (ClassBreaks p) (class_keeps p)) (λ i lt. h i)

class_breaks_one : (p : Program) (i : ℕ) (c : Class) (e f : Fault) → ClassBreaks p i c e → ClassBreaks p i c f → e ≡ f
class_breaks_one p i c e f = else_one (else_one (else_one (else_one (else_one (else_one (else_one (else_one (else_one none_one))))))))

pub rule_one : (p : Program) (e f : Fault) → RuleBreaks p e → RuleBreaks p f → e ≡ f
rule_one p = first_entry_one p (ClassHolds p) (ClassBreaks p) (class_keeps p) (class_breaks_one p)
