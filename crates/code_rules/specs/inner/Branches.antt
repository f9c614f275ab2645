-- Beside Branches.antt: what no promise reaches.
use Rattle.std.specs.Prelude.{ℕ, ◌≡◌, ◌≢◌, ◌<◌, List, length, slice_index, IfSome}
use Rattle.program_types.specs.Content.{Insn}
use Rattle.program_types.specs.Formed.{insn_branch, insn_short_branch}
use Rattle.code_rules.specs.Branches.{IsOrigin}

-- A branch targets one of `count` instructions, and one that must not target itself, number k, targets another.
pub record BranchStays (count k : ℕ) (i : Insn) : Type 0 where
  pub inside : IfSome (insn_branch i) (λ to. to < count)
  pub moves : IfSome (insn_short_branch i) (λ to. to ≢ k)

-- The offsets of each instruction count from these.
pub record AreOrigins (is : List Insn) (js : List ℕ) : Type 0 where
  pub count : length js ≡ length is
  pub each : (k : ℕ) → k < length is → IsOrigin is k (slice_index js k)
