-- Units are instructions, end to end, or after some of them stands none.
use Rattle.std.proofs.Common.{◌≡◌, ℕ, zero, suc, ◌+◌, ◌*◌, ◌/◌, ◌≤◌, ◌⊎◌, inl, inr, List, [], ◌∷◌, ◌++◌, length, refl, subst, arith}
use Rattle.std.proofs.lemmas.Bool.{cases_lt}
use Rattle.dex_base.specs.Fields.{AreBytes}
use Rattle.dex_base.specs.declared.fault.Fault.{Fault}
use Rattle.dex_insn.specs.Raw.{Raw, units}
use Rattle.dex_insn.proofs.Decided.{insn-decided}
use Rattle.dex_insn.proofs.StandingLaws.{stands-whole}
use Rattle.code_read.specs.Walk.{Run, Walks, IsWalkFault}
use Rattle.code_read.proofs.Runs.{run-more}

module _ (us : List ℕ) (base : ℕ) (are : AreBytes us) (even : length us ≡ 2 * (length us / 2)) where
  abbrev IsWalkDecided : Type 0
  IsWalkDecided = ((rs : List Raw) × Walks us rs) ⊎ ((e : Fault) × IsWalkFault us base e)

  walked : (at : ℕ) (before : List Raw) → Run us 0 before at → at ≡ length us / 2 → IsWalkDecided
  walked at before run e = inl (before, record { run = subst (λ (x : ℕ). Run us 0 before x) e run })

  walk-from : (fuel at : ℕ) (before : List Raw) → Run us 0 before at → length us / 2 ≤ at + fuel → at ≤ length us / 2 → IsWalkDecided
  walk-from zero at before run far near = walked at before run (omega (arith, far, near))
  walk-from (suc fuel) at before run far near = elim (cases_lt at (length us / 2)) [
    | inr done ↦ walked at before run (omega (arith, done, near))
    | inl more ↦ elim (insn-decided us at are (omega (arith, more, even))) [
      | inl x ↦
          let w = stands-whole us at x.0 x.1 in
          let some = w.0 in let there = w.1 in
          walk-from fuel (at + units x.0) (before ++ x.0 ∷ []) (run-more us 0 before at x.0 run x.1) (omega (arith, far, some)) (omega (arith, there, even))
      | inr f ↦ inr (
        record { code = f.0.code; place = base + 2 * at },
        record { before = before; at = at; run = run; inside = omega (arith, more, even); inner = f.0; broken = f.1; is = refl },
      )
    ]
  ]

  pub walk-decided : ((rs : List Raw) × Walks us rs) ⊎ ((e : Fault) × IsWalkFault us base e)
  walk-decided = walk-from (length us / 2) 0 [] refl (omega arith) (omega arith)
