-- What is read is linked.
use Rattle.std.proofs.Common.{◌≡◌, ℕ, ◌+◌, ◌*◌, ◌<◌, None, List, map, length, get_or, refl, sym, ap, ◌∙◌, subst, arith, false, true}
use Rattle.std.proofs.lemmas.List.{length-map}
use Rattle.dex_base.specs.declared.fault.Fault.{Fault}
use Rattle.dex_insn.specs.Raw as spelled
use Rattle.dex_insn.specs.Raw.{Raw, raw, is_payload}
use Rattle.dex_insn.specs.declared.raw.RawInsn.{RawInsn}
use Rattle.dex_insn.specs.declared.raw.RawInsn.TheVariants as held
use Rattle.program_types.specs.Content.{Name, Insn}
use Rattle.program_types.specs.Formed.{insn_at, insn_payload}
use Rattle.code_rules.specs.inner.Branches.{AreOrigins}
use Rattle.code_read.specs.Walk.{starts, raw_at}
use Rattle.code_read.specs.inner.Walk.{IsTable}
use Rattle.code_read.specs.Symbols.{Resolves}
use Rattle.code_read.specs.Linked.{target_number, payload_of, NameHolds, AreLinked}
use Rattle.code_read.specs.InsnFaults.{NamesBreak}
use Rattle.code_read.specs.inner.InsnReading.{IsHalfLinked, AreHalfLinked}
use Rattle.code_read.proofs.Lists.{EachSoFar}
use Rattle.code_read.proofs.LinkLaws.{at_raw, kind-linked, half-named, own-origin, all-linked}

some-payload : (r : Raw) → is_payload r ≡ true → payload_of r ≡ None → ⊥
unfolding is_payload payload_of
some-payload (spelled.Packed first offsets) e f = cc
some-payload (spelled.Sparse keys offsets) e f = cc
some-payload (spelled.Data width bytes) e f = cc
some-payload _ e f = cc

no-payload : (r : Raw) → is_payload r ≡ false → payload_of r ≡ None
unfolding is_payload payload_of
no-payload (spelled.Packed first offsets) e = absurd cc
no-payload (spelled.Sparse keys offsets) e = absurd cc
no-payload (spelled.Data width bytes) e = absurd cc
no-payload _ e = refl

module _ (N : ℕ → Name → Type 0) (xs : List RawInsn) where
  pub half-payload : (ss : List ℕ) (at k : ℕ) (i : Insn) → is_payload (raw (get_or xs k (held.I10x 0))) ≡ true → insn_payload i ≡ payload_of (raw (get_or xs k (held.I10x 0))) → IsHalfLinked N ss at (raw_at (map raw xs) k) i
  half-payload ss at k i p e = rw at_raw (record { kind = e; resolves = λ none. absurd (some-payload _ p none) })

  pub half-plain : (ss : List ℕ) (at k : ℕ) (i : Insn) → Resolves N (target_number ss at) (raw (get_or xs k (held.I10x 0))) i → IsHalfLinked N ss at (raw_at (map raw xs) k) i
  half-plain ss at k i s = rw at_raw (record { kind = ap insn_payload (sym s.symbol) ∙ kind-linked _ _ _; resolves = λ _. s })

  module _ (begins : List ℕ) (table : IsTable begins (map raw xs)) where
    pub half-all : (is : List Insn) (k : ℕ) → k ≡ length xs → EachSoFar (λ j. IsHalfLinked N begins (get_or begins j 0) (raw_at (map raw xs) j)) is k → AreHalfLinked N (map raw xs) is
    half-all is k e s =
        let m = length-map xs raw in
        record { count = s.count ∙ e ∙ sym m; each = λ j l. subst (λ (ss : List ℕ). IsHalfLinked N ss (get_or ss j 0) (raw_at (map raw xs) j) (insn_at is j)) table.is (s.each j (omega (arith, l, m, e))) }

    pub name-broken : (is : List Insn) (base k : ℕ) (fault : Fault) → k < length xs → EachSoFar (λ j. IsHalfLinked N begins (get_or begins j 0) (raw_at (map raw xs) j)) is k → ¬ NameHolds N (map raw xs) k
        → fault ≡ record { code = 65; place = base + 2 * get_or begins k 0 } → NamesBreak N (map raw xs) begins base fault
    name-broken is base k fault l s bad e =
        let n = table.count in let m = length-map xs raw in
        record { number = k; within = omega (arith, l, n, m); breaks = record { broken = bad; is = e }; before = λ j i. half-named N begins _ _ (insn_at is j) (s.each j i) }

    module _ (half : List Insn) (js : List ℕ) (h : AreHalfLinked N (map raw xs) half) (origins : AreOrigins half js) where
      pub own-linked : (k : ℕ) (i : Insn) → k < length xs → is_payload (raw (get_or xs k (held.I10x 0))) ≡ false → insn_at half k ≡ i → Resolves N (target_number begins (get_or begins (get_or js k 0) 0)) (raw_at (map raw xs) k) i
      own-linked k i l p e =
          let n = h.count in let m = length-map xs raw in
          let x = h.each k (omega (arith, l, m)) in
          let none : payload_of (raw_at (map raw xs) k) ≡ None = rw at_raw (no-payload _ p) in
          let own : get_or js k 0 ≡ k = own-origin half k _ (origins.each k (omega (arith, l, m, n))) (x.kind ∙ none) in
          rw (own, table.is) (subst (Resolves N (target_number (starts (map raw xs)) (get_or (starts (map raw xs)) k 0)) (raw_at (map raw xs) k)) e (x.resolves none))

      pub linked-all : (is : List Insn) (k : ℕ) → k ≡ length xs → EachSoFar (λ j. Resolves N (target_number begins (get_or begins (get_or js j 0) 0)) (raw_at (map raw xs) j)) is k → AreLinked N (map raw xs) is
      linked-all is k e s =
          let m = length-map xs raw in
          all-linked N (map raw xs) half is js h origins (s.count ∙ e ∙ sym m)
          (λ j l. subst (λ (ss : List ℕ). Resolves N (target_number ss (get_or ss (get_or js j 0) 0)) (raw_at (map raw xs) j) (insn_at is j)) table.is (s.each j (omega (arith, l, m, e))))
