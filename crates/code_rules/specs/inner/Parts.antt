-- One key, one payload or one try: what the contracts of private functions cite.
use Rattle.std.specs.Prelude.{◌≡◌, ◌≢◌, ◌<◌, ◌≤◌, ◌+◌, ◌<ℤ◌, ℕ, ℤ, pos, List, [], slice_index_or, None, IfSome, IfNone}
use Rattle.std.specs.List.{AllByRecursion}
use Rattle.program_types.specs.Content.{Insn, Try}
use Rattle.program_types.specs.Formed.{try_at, insn_payload, insn_wants, RefersToPayload}

-- Key k is below the next one.
abbrev pub KeyIsBelow : List ℤ → ℕ → Type 0
KeyIsBelow keys k = slice_index_or keys k (pos 0) <ℤ slice_index_or keys (k + 1) (pos 0)

-- An instruction is no payload and refers to none.
pub record HasNoPayload (i : Insn) : Type 0 where
  pub wants : insn_wants i ≡ None
  pub is : insn_payload i ≡ None

-- Exactly one instruction refers to payload k.
pub record IsUsedOnce (is : List Insn) (k : ℕ) : Type 0 where
  pub by : ℕ
  pub refers : RefersToPayload is by k
  pub only : (i : ℕ) → RefersToPayload is i k → i ≡ by

-- A try begins where the one before it ends, or after.
abbrev pub IsBehind : List Try → ℕ → Type 0
IsBehind ts i = (j : ℕ) → j + 1 ≡ i → (try_at ts j).to ≤ (try_at ts i).from

-- A try has a handler, and its handlers are instructions.
pub record HandlersHold (count : ℕ) (t : Try) : Type 0 where
  pub places : AllByRecursion (λ c. c.at < count) t.catches
  pub last : IfSome t.catch_all (λ k. k < count)
  pub handled : IfNone t.catch_all (t.catches ≢ [])
