-- Instructions that are read: what the contracts of private functions cite.
use Rattle.std.specs.Prelude.{ℕ, ◌≡◌, ◌<◌, List, length, None, IfNone, IfSome}
use Rattle.dex_insn.specs.Raw.{Raw}
use Rattle.program_types.specs.Content.{Name, Insn}
use Rattle.program_types.specs.Formed.{insn_at, insn_payload}
use Rattle.code_rules.specs.First.{AllHold}
use Rattle.code_read.specs.Registers.{AmongAt, IsPast}
use Rattle.code_read.specs.Walk.{starts, raw_at, address}
use Rattle.code_read.specs.inner.Walk.{IsTable}
use Rattle.code_read.specs.Symbols.{Resolves}
use Rattle.code_read.specs.Linked.{target_number, payload_of, SpellsInsns}
use Rattle.code_read.specs.declared.insns.Insns.{Insns}

-- The raw instruction at this address, linked: of a payload its kind alone is right.
pub record IsHalfLinked (N : ℕ → Name → Type 0) (ss : List ℕ) (at : ℕ) (r : Raw) (i : Insn) : Type 0 where
  pub kind : insn_payload i ≡ payload_of r
  pub resolves : payload_of r ≡ None → Resolves N (target_number ss at) r i

-- All of them are.
pub record AreHalfLinked (N : ℕ → Name → Type 0) (rs : List Raw) (is : List Insn) : Type 0 where
  pub count : length is ≡ length rs
  pub each : (k : ℕ) → k < length rs → IsHalfLinked N (starts rs) (address rs k) (raw_at rs k) (insn_at is k)

-- The units spell these instructions, which begin at these addresses.
pub record ReadInsns (N : ℕ → Name → Type 0) (us begins : List ℕ) (is : List Insn) : Type 0 where
  pub raws : List Raw
  pub table : IsTable begins raws
  pub insns : SpellsInsns N us raws is

-- This is kept of instructions that the units spell: where each begins, and the first that names a register past the first `count`.
pub record AreRead {I : Type 0} (Are : I → List Insn → Type 0) (N : ℕ → Name → Type 0) (us : List ℕ) (count : ℕ) (i : Insns I) : Type 0 where
  pub insns : List Insn
  pub are : Are i.insns insns
  pub read : ReadInsns N us i.starts.items insns
  pub among : IfNone i.past (AllHold (AmongAt count insns) (length insns))
  pub first : IfSome i.past (IsPast count insns)
