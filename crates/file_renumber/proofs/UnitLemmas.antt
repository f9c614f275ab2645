-- The units of a code's instructions.
use Rattle.std.proofs.Common.{◌≡◌, ℕ, zero, suc, ◌+◌, ◌/◌, ◌<◌, List, [], ◌∷◌, length, map, refl, ap, ◌∙◌, arith}
use Rattle.dex_insn.specs.Raw.{Raw, units}
use Rattle.program_types.specs.Content.{Name, Insn}
use Rattle.program_types.specs.Formed.{insn_at}
use Rattle.program_types.specs.Sizes.{insn_units, length_of, total}
use Rattle.code_read.specs.Walk.{Run, raw_at}
use Rattle.code_read.specs.Linked.{SpellsInsns}
use Rattle.code_read.proofs.LinkLaws.{units-linked}

module _ (N : ℕ → Name → Type 0) (us : List ℕ) (rs : List Raw) (is : List Insn) (s : SpellsInsns N us rs is) where
  pub units-at : (k : ℕ) → k < length rs → units (raw_at rs k) ≡ insn_units (insn_at is k)
  units-at k l = units-linked _ _ (raw_at rs k) ∙ ap insn_units (s.linked.each k l).resolves.symbol

  same-units : (qs : List Raw) (js : List Insn) → length js ≡ length qs → ((k : ℕ) → k < length qs → units (raw_at qs k) ≡ insn_units (insn_at js k)) → map units qs ≡ map insn_units js
  unfolding raw_at
  same-units [] [] e h = refl
  same-units [] (j ∷ js) e h = absurd (omega (arith, e))
  same-units (q ∷ qs) [] e h = absurd (omega (arith, e))
  same-units (q ∷ qs) (j ∷ js) e h =
      let first = h zero (omega arith) in
      let rest = same-units qs js (omega (arith, e)) (λ k l. h (suc k) (omega (arith, l))) in
      λ i. first i ∷ rest i

  run-total : (a : ℕ) (qs : List Raw) (e : ℕ) → Run us a qs e → a + total (map units qs) ≡ e
  unfolding total
  run-total a [] e r = omega (arith, r)
  run-total a (q ∷ qs) e r = let t = run-total (a + units q) qs e r.1 in omega (arith, t)

  pub length-is : length_of is ≡ length us / 2
  length-is =
      let same = ap total (same-units rs is s.linked.count units-at) in
      let run = run-total 0 rs (length us / 2) s.walk.run in
      omega (arith, same, run)
