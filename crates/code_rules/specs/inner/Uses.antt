-- What is known of the payloads of a code after some of its instructions.
use Rattle.std.specs.Prelude.{◌≡◌, ◌<◌, ℕ, List, length, slice_index_or}
use Rattle.program_types.specs.Content.{Insn}
use Rattle.program_types.specs.Formed.{RefersToPayload}
use Rattle.code_rules.specs.declared.payloads.Use.{Use}
use Rattle.code_rules.specs.declared.payloads.Use.TheVariants as users

-- How many of the first m instructions refer to payload k: none, exactly one, or at least two.
abbrev pub CountsUses : List Insn → ℕ → ℕ → Use → Type 0
CountsUses is m k users.Unused = (i : ℕ) → i < m → ¬ RefersToPayload is i k
CountsUses is m k users.Once =
    (by : ℕ) × (by < m) × RefersToPayload is by k × ((i : ℕ) → i < m → RefersToPayload is i k → i ≡ by)
CountsUses is m k users.Shared = (i : ℕ) × (j : ℕ) × (i < j) × (j < m) × RefersToPayload is i k × RefersToPayload is j k

-- How many of the first m instructions refer to each payload: none, exactly one, or at least two.
pub record AreUses (is : List Insn) (m : ℕ) (us : List Use) : Type 0 where
  pub count : length us ≡ length is
  pub each : (k : ℕ) → k < length us → CountsUses is m k (slice_index_or us k users.Unused)

-- one use more
abbrev pub used_again : Use → Use
used_again users.Unused = users.Once
used_again _ = users.Shared
