-- What is written over what a path leads to.
use Rattle.std.proofs.Common.{◌≡◌, ◌⊎◌, inl, inr, ℕ, List, [], subst}
use Rattle.dexasm_world.specs.State.{Path, Files, Passes}
use Rattle.dexasm_world.specs.inner.Steps.{Same, Wrote, Begun}
use Rattle.dexasm_world.specs.inner.Parts.{Overwrites}
use Rattle.dexasm_world.proofs.Passing.{weaker, goes_on}
use Rattle.dexasm_world.proofs.Stepping.{IsFront}
use Rattle.dexasm_world.proofs.States.{TouchesPlace, begins, touches_on, overwrites, nothing_overwritten}

pub over_begun : (f b : Files) (place : Path) → Passes f b (λ t. Same f.now t ⊎ ((n : ℕ) × Begun place n f.now t)) → Passes f b (Overwrites place f.now)
over_begun f b place p = weaker f b (λ t. Same f.now t ⊎ ((n : ℕ) × Begun place n f.now t)) (Overwrites place f.now)
    (λ t m. elim m [ inl same ↦ nothing_overwritten place f.now t same | inr begun ↦ overwrites place begun.0 f.now t (begins place begun.0 f.now t begun.1) ]) p

-- all the bytes, or a front of them, are written
pub over_put : (f b c : Files) (place : Path) (n : ℕ) (bytes : List ℕ) → Passes f b (Overwrites place f.now) → TouchesPlace place n f.now b.now
    → Passes b c (IsFront b n bytes) → Passes f c (Overwrites place f.now)
over_put f b c place n bytes p at q = goes_on f b c (Overwrites place f.now) (IsFront b n bytes) p q
    (λ t front. overwrites place n f.now t (touches_on place n f.now b.now t at front.2.only))

-- and the disk is to keep them
pub over_kept : (f b c : Files) (place : Path) (n m : ℕ) → Passes f b (Overwrites place f.now) → TouchesPlace place n f.now b.now → m ≡ n
    → Passes b c (Wrote m [] b.now) → Passes f c (Overwrites place f.now)
over_kept f b c place n m p at same q =
    let q' = subst (λ k. Passes b c (Wrote k [] b.now)) same q in
    goes_on f b c (Overwrites place f.now) (Wrote n [] b.now) p q'
    (λ t kept. overwrites place n f.now t (touches_on place n f.now b.now t at kept.only))
