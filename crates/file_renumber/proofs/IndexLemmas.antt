-- Where an instruction's index stands, by its shape.
use Rattle.std.proofs.Common.{◌≡◌, ℕ, ◌≤◌, List, length, false, sym, ◌∙◌, arith}
use Rattle.dex_insn.specs.Fields.{number, field}
use Rattle.dex_insn.specs.Raw as raw
use Rattle.dex_insn.specs.Raw.{Raw}
use Rattle.dex_insn.specs.RawInsns.{SpellsInsn}
use Rattle.code_read.specs.inner.Symbols.{has_index}
use Rattle.file_renumber.specs.declared.shapes.Shape.TheVariants.{Plain, Short, Long, Five, Payload}
use Rattle.file_renumber.specs.inner.Indices.{IsIndex}
use Rattle.file_renumber.specs.inner.Shapes.{shape_of}

pub plain_unindexed : (r : Raw) (n : ℕ) → shape_of r ≡ Plain n → has_index r ≡ false
unfolding has_index
plain_unindexed (raw.I21c op a index) n e = absurd cc
plain_unindexed _ n e = cc

pub payload_unindexed : (r : Raw) → shape_of r ≡ Payload → has_index r ≡ false
unfolding has_index
payload_unindexed (raw.I21c op a index) e = absurd cc
payload_unindexed _ e = cc

module _ (us : List ℕ) where
  pub short_index : (r : Raw) (n i : ℕ) → i ≡ number us 1 1 → SpellsInsn us r → shape_of r ≡ Short n → IsIndex r (field us 0 0 8) i
  short_index (raw.I21c op a index) n i at s e = (s.0.opcode, s.2 ∙ sym at)
  short_index (raw.I22c op a b index) n i at s e = (s.0.opcode, s.3 ∙ sym at)
  short_index (raw.I3rc op k first index) n i at s e = (s.0.opcode, s.2 ∙ sym at)
  short_index _ n i at s e = absurd cc

  pub five_index : (r : Raw) (i : ℕ) → i ≡ number us 1 1 → SpellsInsn us r → shape_of r ≡ Five → IsIndex r (field us 0 0 8) i
  five_index (raw.I35c op k regs index) i at s e = (s.0.opcode, s.3 ∙ sym at)
  five_index _ i at s e = absurd cc

  pub long_index : (r : Raw) (i : ℕ) → i ≡ number us 1 2 → SpellsInsn us r → shape_of r ≡ Long → IsIndex r (field us 0 0 8) i
  long_index (raw.I31c op a index) i at s e = (s.0.opcode, s.2 ∙ sym at)
  long_index _ i at s e = absurd cc

  -- the units that hold it are there
  pub short_there : (r : Raw) (n : ℕ) → SpellsInsn us r → shape_of r ≡ Short n → 4 ≤ length us
  short_there (raw.I21c op a index) n s e = let w = s.0.whole in omega (arith, w)
  short_there (raw.I22c op a b index) n s e = let w = s.0.whole in omega (arith, w)
  short_there (raw.I3rc op k first index) n s e = let w = s.0.whole in omega (arith, w)
  short_there _ n s e = absurd cc

  pub five_there : (r : Raw) → SpellsInsn us r → shape_of r ≡ Five → 4 ≤ length us
  five_there (raw.I35c op k regs index) s e = let w = s.0.whole in omega (arith, w)
  five_there _ s e = absurd cc

  pub long_there : (r : Raw) → SpellsInsn us r → shape_of r ≡ Long → 6 ≤ length us
  long_there (raw.I31c op a index) s e = let w = s.0.whole in omega (arith, w)
  long_there _ s e = absurd cc
