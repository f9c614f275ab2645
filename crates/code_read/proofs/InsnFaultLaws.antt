-- Where units spell instructions, no rule is broken.
use Rattle.std.proofs.Common.{◌≡◌, ℕ, ◌*◌, ◌/◌, List, length, subst, sym, inl, inr}
use Rattle.dex_base.specs.declared.fault.Fault.{Fault}
use Rattle.dex_base.proofs.FirstFaultLaws.{else_clear, later_clear, first_clear, broken_clear}
use Rattle.dex_insn.specs.Raw.{Raw}
use Rattle.program_types.specs.Content.{Name, Insn}
use Rattle.code_rules.specs.First.{AllHold}
use Rattle.code_rules.specs.Branches.{BranchHolds}
use Rattle.code_read.specs.Walk.{raw_at, starts}
use Rattle.code_read.specs.inner.Symbols.{IsFunctional}
use Rattle.code_read.specs.Linked.{NameHolds, AreLinked, KeepRules, SpellsInsns}
use Rattle.code_read.specs.InsnFaults.{BranchBreaks, LinkedBreak, RulesBreak, InsnsBreak}
use Rattle.code_read.proofs.Runs.{no-walk-fault}
use Rattle.code_read.proofs.InsnsOnce.{walks-one, linked-one}
use Rattle.code_read.proofs.LinkLaws.{has-name}

pub names-hold : (N : ℕ → Name → Type 0) (rs : List Raw) (is : List Insn) → AreLinked N rs is → AllHold (NameHolds N rs) (length rs)
names-hold N rs is a = λ k l. has-name N (raw_at rs k) _ (a.each k l).resolves.named

module _ (ss : List ℕ) (is : List Insn) (base : ℕ) where
  pub branch-clear : (k : ℕ) (fault : Fault) → BranchHolds is k → BranchBreaks ss is base k fault → ⊥
  branch-clear k fault h = else_clear h.lands (else_clear h.moves (λ none. none))

  linked-clear : (fault : Fault) → KeepRules is → LinkedBreak ss is base fault → ⊥
  linked-clear fault keep =
      later_clear (first_clear branch-clear) (
      later_clear broken_clear (
      later_clear broken_clear (λ none. none)
      (λ i l. (keep.targets i l).all))
      keep.payloads)
      (λ i l. record { lands = (keep.targets i l).lands; moves = (keep.targets i l).moves })

pub insns-clear : (N : ℕ → Name → Type 0) (us : List ℕ) (rs : List Raw) (is : List Insn) (base : ℕ) (fault : Fault) → IsFunctional N → length us ≡ 2 * (length us / 2) → SpellsInsns N us rs is → InsnsBreak N us base fault → ⊥
insns-clear N us rs is base fault f even s (inl w) = no-walk-fault us rs base fault even s.walk w
insns-clear N us rs is base fault f even s (inr b) = clear (subst (λ (ss : List Raw). RulesBreak N ss base fault) (sym (walks-one us rs b.0 s.walk b.1)) b.2)
  where
    clear : RulesBreak N rs base fault → ⊥
    clear (inl x) = broken_clear (names-hold N rs is s.linked) x
    clear (inr x) =
        let same = linked-one N rs x.0 is x.1 s.linked f in
        linked-clear (starts rs) x.0 base fault (subst KeepRules (sym same) s.keep) x.2
