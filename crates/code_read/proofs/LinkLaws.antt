-- What a linked instruction is like: of the kind, the size and the registers of the raw one, wherever it leads.
use Rattle.std.proofs.Common.{◌≡◌, ℕ, ℤ, zero, suc, ◌+◌, ◌/◌, ◌<◌, Option, Some, None, List, [], ◌∷◌, length, map, get_or, refl, sym, ap, ◌∙◌, subst, arith, inl, inr, ◌⊎◌}
use Rattle.std.proofs.lemmas.List.{length-map}
use Rattle.dex_insn.specs.Raw as raw
use Rattle.dex_insn.specs.Raw.{Raw, units}
use Rattle.dex_insn.specs.declared.raw.RawInsn.{RawInsn}
use Rattle.dex_insn.specs.declared.raw.RawInsn.TheVariants as held
use Rattle.dex_insn.specs.Registers.{named_registers}
use Rattle.program_types.specs.Content.{Name, Insn}
use Rattle.program_types.specs.Content as made
use Rattle.program_types.specs.Formed.{AreAlike, IsSwitch, insn_at, insn_payload, insn_wants, insn_reach, insn_registers, RefersToPayload}
use Rattle.program_types.specs.Sizes.{insn_units, addresses_of, starts_from}
use Rattle.program_types.specs.declared.payload.Payload.{Payload}
use Rattle.code_rules.specs.Branches.{IsOrigin}
use Rattle.code_rules.specs.inner.Branches.{AreOrigins}
use Rattle.code_read.specs.Walk.{starts, raw_at, address}
use Rattle.code_read.specs.Symbols.{linked, ints, ints_from, name_in, Resolves, InsnNames, InsnHasName}
use Rattle.code_read.specs.Linked.{target_number, payload_of, AreLinked}
use Rattle.code_read.specs.inner.InsnReading.{IsHalfLinked, AreHalfLinked}

pub at_raw : (xs : List RawInsn) (k : ℕ) → raw_at (map raw.raw xs) k ≡ raw.raw (get_or xs k (held.I10x 0))
unfolding raw_at raw.raw
at_raw [] k = refl
at_raw (x ∷ xs) zero = refl
at_raw (x ∷ xs) (suc k) = at_raw xs k

pub kind-linked : (T : ℤ → ℕ) (w : Name) (r : Raw) → insn_payload (linked T w r) ≡ payload_of r
unfolding linked insn_payload payload_of
kind-linked T w (raw.I10x op) = refl
kind-linked T w _ = refl

pub wants-linked : (S T : ℤ → ℕ) (v w : Name) (r : Raw) → insn_wants (linked S v r) ≡ insn_wants (linked T w r)
unfolding linked insn_wants
wants-linked S T v w (raw.I10x op) = refl
wants-linked S T v w _ = refl

pub reach-linked : (T : ℤ → ℕ) (v w : Name) (r : Raw) → insn_reach (linked T v r) ≡ insn_reach (linked T w r)
unfolding linked insn_reach
reach-linked T v w (raw.I10x op) = refl
reach-linked T v w _ = refl

pub registers-linked : (T : ℤ → ℕ) (w : Name) (r : Raw) → named_registers r ≡ insn_registers (linked T w r)
unfolding linked named_registers insn_registers
registers-linked T w (raw.I10x op) = refl
registers-linked T w _ = refl

pub length-ints_from : (b : List ℕ) (i n : ℕ) → length (ints_from b i n) ≡ n
length-ints_from b i zero = refl
length-ints_from b i (suc n) = ap suc (length-ints_from b (i + 1) n)

pub units-linked : (T : ℤ → ℕ) (w : Name) (r : Raw) → units r ≡ insn_units (linked T w r)
unfolding linked units insn_units ints
units-linked T w (raw.Packed first offsets) = let k = length-ints_from offsets 0 (length offsets / 4) in let m = length-map (ints_from offsets 0 (length offsets / 4)) T in omega (arith, m, k)
units-linked T w (raw.Sparse keys offsets) = let k = length-ints_from keys 0 (length keys / 4) in omega (arith, k)
units-linked T w _ = refl

none-alike : (p : Option Payload) → AreAlike None p → ⊥
none-alike None h = h
none-alike _ h = h

-- what refers to a payload is none
pub wants-plain : (i : Insn) (p : Option Payload) → AreAlike (insn_wants i) p → insn_payload i ≡ None
unfolding insn_wants insn_payload
wants-plain (made.I31t op a to) p h = refl
wants-plain _ p h = absurd (none-alike p h)

-- ---- the same but for where payloads lead

pub record IsLike (i j : Insn) : Type 0 where
  pub kind : insn_payload i ≡ insn_payload j
  pub wants : insn_wants i ≡ insn_wants j
  pub reach : insn_payload i ≡ None → insn_reach i ≡ insn_reach j

back : (i j : Insn) → IsLike i j → IsLike j i
back i j l = record { kind = sym l.kind; wants = sym l.wants; reach = λ e. sym (l.reach (l.kind ∙ e)) }

pub refers-like : (is js : List Insn) (j k : ℕ) → length is ≡ length js → IsLike (insn_at is j) (insn_at js j) → IsLike (insn_at is k) (insn_at js k) → RefersToPayload is j k → RefersToPayload js j k
refers-like is js j k n a b r =
    let l = r.there in let m = r.payload in
    record {
      there = omega (arith, l, n);
      payload = omega (arith, m, n);
      kind = rw (← a.wants, ← b.kind) r.kind;
      leads = sym (a.reach (wants-plain (insn_at is j) _ r.kind)) ∙ r.leads;
    }

pub origin-like : (is js : List Insn) (k o : ℕ) → length is ≡ length js → ((j : ℕ) → j < length is → IsLike (insn_at is j) (insn_at js j)) → k < length is → IsOrigin is k o → IsOrigin js k o
origin-like is js k o n like l c = elim c [
  | inl s ↦ inl (rw (← (like k l).kind) s.0, refers-like is js o k n (like o s.1.there) (like k l) s.1, λ i r. s.2 i (from i r))
  | inr s ↦ inr (λ i x. s.0 i (rw ((like k l).kind) x.0, from i x.1, λ h r. x.2 h (refers-like is js h k n (like h r.there) (like k l) r)), s.1)
]
  where
    from : (i : ℕ) → RefersToPayload js i k → RefersToPayload is i k
    from i r = let m = r.there in refers-like js is i k (sym n) (back _ _ (like i (omega (arith, m, n)))) (back _ _ (like k l)) r

-- ---- linked in turn

option-cases : {A : Type 0} (o : Option A) → (o ≡ None) ⊎ ((x : A) × (o ≡ Some x))
option-cases None = inl refl
option-cases (Some x) = inr (x, refl)

-- a payload refers to none
no-wants : (i : Insn) (p : Payload) → insn_payload i ≡ Some p → insn_wants i ≡ None
unfolding insn_payload insn_wants
no-wants (made.I31t op a to) p e = absurd cc
no-wants _ p e = refl

pub own-origin : (is : List Insn) (k o : ℕ) → IsOrigin is k o → insn_payload (insn_at is k) ≡ None → o ≡ k
own-origin is k o (inl s) e = absurd (subst IsSwitch e s.0)
own-origin is k o (inr s) e = s.1

module _ (N : ℕ → Name → Type 0) (rs : List Raw) (half is : List Insn) (js : List ℕ) (h : AreHalfLinked N rs half) (origins : AreOrigins half js) (count : length is ≡ length rs)
    (resolves : (k : ℕ) → k < length rs → Resolves N (target_number (starts rs) (address rs (get_or js k 0))) (raw_at rs k) (insn_at is k)) where
  like : (k : ℕ) → k < length half → IsLike (insn_at half k) (insn_at is k)
  like k l =
      let n = h.count in
      let m : k < length rs = omega (arith, l, n) in
      let x = h.each k m in
      let s = resolves k m in
      let kind : insn_payload (insn_at is k) ≡ payload_of (raw_at rs k) = ap insn_payload (sym s.symbol) ∙ kind-linked _ _ (raw_at rs k) in
      record {
        kind = x.kind ∙ sym kind;
        wants = elim (option-cases (payload_of (raw_at rs k))) [
          | inl plain ↦ ap insn_wants (sym (x.resolves plain).symbol) ∙ wants-linked _ _ _ _ (raw_at rs k) ∙ ap insn_wants s.symbol
          | inr p ↦ no-wants _ p.0 (x.kind ∙ p.1) ∙ sym (no-wants _ p.0 (kind ∙ p.1))
        ];
        reach = λ e.
            let own : get_or js k 0 ≡ k = own-origin half k _ (origins.each k l) e in
            ap insn_reach (sym (x.resolves (sym x.kind ∙ e)).symbol) ∙ reach-linked _ _ _ (raw_at rs k) ∙ ap (λ (o : ℕ). insn_reach (linked (target_number (starts rs) (address rs o)) (name_in (insn_at is k)) (raw_at rs k))) (sym own) ∙ ap insn_reach s.symbol;
      }

  pub all-linked : AreLinked N rs is
  all-linked = record {
    count = count;
    each = λ k l. record { origin = get_or js k 0; counts = let n = h.count in origin-like half is k _ (n ∙ sym count) like (omega (arith, l, n)) (origins.each k (omega (arith, l, n))); resolves = resolves k l };
  }

-- ---- of all instructions

starts-same : (at : ℕ) (is : List Insn) (rs : List Raw) → length is ≡ length rs → ((k : ℕ) → k < length rs → units (get_or rs k (raw.I10x 0)) ≡ insn_units (get_or is k (made.I10x 0))) → starts_from at (map units rs) ≡ starts_from at (map insn_units is)
starts-same at [] [] e h = refl
starts-same at (i ∷ is) [] e h = absurd (omega (arith, e))
starts-same at [] (r ∷ rs) e h = absurd (omega (arith, e))
starts-same at (i ∷ is) (r ∷ rs) e h =
    let s = h zero (omega arith) in
    ap (λ (x : ℕ). at ∷ starts_from (at + x) (map units rs)) s ∙ ap (λ (l : List ℕ). at ∷ l) (starts-same (at + insn_units i) is rs (omega (arith, e)) (λ k l. h (suc k) (omega (arith, l))))

pub addresses-same : (N : ℕ → Name → Type 0) (rs : List Raw) (is : List Insn) → AreLinked N rs is → starts rs ≡ addresses_of is
unfolding raw_at
addresses-same N rs is a = starts-same 0 is rs a.count (λ k l. units-linked _ _ (get_or rs k (raw.I10x 0)) ∙ ap insn_units (a.each k l).resolves.symbol)

-- an index that stands for a name stands for some name
pub has-name : (N : ℕ → Name → Type 0) (r : Raw) (w : Name) → InsnNames N r w → InsnHasName N r
has-name N (raw.I21c op a n) w h = (w, h)
has-name N (raw.I22c op a b n) w h = (w, h)
has-name N (raw.I31c op a n) w h = (w, h)
has-name N (raw.I35c op m regs n) w h = (w, h)
has-name N (raw.I3rc op m first n) w h = (w, h)
has-name N _ w h = tt

-- a payload has no index
pub half-named : (N : ℕ → Name → Type 0) (ss : List ℕ) (at : ℕ) (r : Raw) (i : Insn) → IsHalfLinked N ss at r i → InsnHasName N r
unfolding payload_of
half-named N ss at (raw.Packed first offsets) i h = tt
half-named N ss at (raw.Sparse keys offsets) i h = tt
half-named N ss at (raw.Data width bytes) i h = tt
half-named N ss at r i h = has-name N r (name_in i) (h.resolves refl).named
