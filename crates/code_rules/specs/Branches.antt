-- The rules of branches and switches one by one, for files and for programs, and the origin of offsets.
-- Page: "Dalvik bytecode": goto, packed-switch, sparse-switch.
use Rattle.std.specs.Prelude.{ℕ, ◌≡◌, ◌≢◌, ◌≤◌, ◌⊎◌, List, IfSome}
use Rattle.std.specs.List.{AllByRecursion}
use Rattle.program_types.specs.Content.{Insn}
use Rattle.program_types.specs.Formed.{insn_at, insn_payload, insn_branch, insn_short_branch, insn_targets, IsSwitch, IsTarget, RefersToPayload}

-- a branch targets an instruction that is no payload
abbrev pub BranchLands : List Insn → ℕ → Type 0
BranchLands is k = IfSome (insn_branch (insn_at is k)) (IsTarget is)

-- and not to itself, goto/32 aside
abbrev pub BranchMoves : List Insn → ℕ → Type 0
BranchMoves is k = IfSome (insn_short_branch (insn_at is k)) (λ to. to ≢ k)

-- both
pub record BranchHolds (is : List Insn) (k : ℕ) : Type 0 where
  pub lands : BranchLands is k
  pub moves : BranchMoves is k

-- the targets of a switch's payload are instructions that are no payloads
abbrev pub SwitchLands : List Insn → ℕ → Type 0
SwitchLands is k = AllByRecursion (IsTarget is) (insn_targets (insn_at is k))

-- ---- from where offsets count

-- instruction j is the switch of payload k: the last, if there are more
abbrev pub IsLastSwitch : List Insn → ℕ → ℕ → Type 0
IsLastSwitch is j k = IsSwitch (insn_payload (insn_at is k)) × RefersToPayload is j k × ((i : ℕ) → RefersToPayload is i k → i ≤ j)

-- The offsets of instruction k count from instruction j: those of a payload that has a switch from it, all others from themselves.
abbrev pub IsOrigin : List Insn → ℕ → ℕ → Type 0
IsOrigin is k j = IsLastSwitch is j k ⊎ (((i : ℕ) → ¬ IsLastSwitch is i k) × (j ≡ k))
