use Rattle.std.proofs.Common.{◌≡◌, ℕ, List, map, length, get_or, arith, sym, ◌∙◌, ◌++◌, ◌∷◌, [], ap, subst, inl, inr, length-append}
use Rattle.std.proofs.lemmas.Bool.{cases_lt}
use Rattle.std.proofs.lemmas.List.{length-map, take_at, get_or_append_left}
use Rattle.std.proofs.Math.Seq.{get_or-append_seam}
use Rattle.program_types.specs.View.{insn}
use Rattle.code_rules.specs.inner.Branches.{AreOrigins}
use Rattle.code_rules.proofs.origins.origins_of.Goals as goal

pub loop-k-preserved : goal.loop-k-preserved
loop-k-preserved c =
    let xs = c.loop-k.all.items in
    let e : c.push.new.self.items ≡ xs ++ c.loop-k.k ∷ [] = c.in_ok-push.ensures.items in
    let n = c.loop-k.invariant.count in
    record {
      count = omega (arith, ap length e, length-append xs (c.loop-k.k ∷ []), n);
      each = λ j l. ap (λ (ys : List ℕ). get_or ys j 0) e ∙ elim (cases_lt j c.loop-k.k) [
        | inl a ↦ get_or_append_left xs (c.loop-k.k ∷ []) 0 j (omega (arith, a, n)) ∙ c.loop-k.invariant.each j a
        | inr a ↦ let q : length xs ≡ j = omega (arith, a, l, n) in ap (λ (i : ℕ). get_or (xs ++ c.loop-k.k ∷ []) i 0) (sym q) ∙ get_or-append_seam xs c.loop-k.k [] 0 ∙ (let z : c.loop-k.k ≡ j = omega (arith, a, l) in z)
      ];
    }

pub mark_switches-requires-clause-count : goal.mark_switches-requires-clause-count
mark_switches-requires-clause-count c =
    let n = c.loop-k.invariant.count in
    subst (λ (ys : List ℕ). length ys ≡ length c.args.insns.now) (sym c.deref_mut.ensures.value) (omega (arith, n))

pub mark_switches-requires-clause-own : goal.mark_switches-requires-clause-own
mark_switches-requires-clause-own c = λ k l. ap (λ (ys : List ℕ). get_or ys k 0) c.deref_mut.ensures.value ∙ c.loop-k.invariant.each k (omega (arith, l))

pub returns : goal.returns
returns c =
    let m = length-map c.args.insns.now insn in
    let a = c.mark_switches.ensures in
    let n = a.count in
    let o = c.loop-k.invariant.count in
    subst (λ (ys : List ℕ). AreOrigins (map insn c.args.insns.now) ys) (sym (take_at c.mark_switches.new.all _ c.loop-k.all.len (omega (arith, m, n, o)))) a
