use Rattle.std.proofs.Common.{ℕ, List, ◌≡◌, ◌∙◌, sym, subst}
use Rattle.std.specs.Prelude.{Result, Ok, Err, IfOk, IsOk, IsOkAnd}
use Rattle.dex_base.specs.declared.fault.Fault.{Fault}
use Rattle.dex_insn.specs.Raw.{Raw, raw}
use Rattle.dex_insn.specs.RawInsns.{InsnStands}
use Rattle.dex_insn.specs.declared.raw.RawInsn.{RawInsn}
use Rattle.dex_insn.proofs.Unique.{once}
use Rattle.dex_insn.proofs.read.read_insn.Goals as goal

module _ (us : List ℕ) (at : ℕ) where
  whole : (x : Result RawInsn Fault) → IfOk x (λ insn. (r : Raw) × InsnStands us at r × (raw insn ≡ r)) → IfOk x (λ insn. InsnStands us at (raw insn))
  whole (Ok insn) h = subst (InsnStands us at) (sym h.2) h.1
  whole (Err e) h = tt

  only : (x : Result RawInsn Fault) → IfOk x (λ insn. (r : Raw) × InsnStands us at r × (raw insn ≡ r)) → ((r : Raw) → InsnStands us at r → IsOk x) → (r : Raw) → InsnStands us at r → IsOkAnd x (λ insn. raw insn ≡ r)
  only (Ok insn) h made r s = h.2 ∙ once _ h.0 r h.1.spelled s.spelled
  only (Err e) h made r s = let f = made r s in absurd cc

pub returns-clause-ok : goal.returns-clause-ok
returns-clause-ok c = whole c.args.units.now c.args.at _ c.take_insn.ensures.ok

pub returns-clause-only : goal.returns-clause-only
returns-clause-only c = only c.args.units.now c.args.at _ c.take_insn.ensures.ok c.take_insn.ensures.only
