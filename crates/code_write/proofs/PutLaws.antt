-- Instructions one after the other.
use Rattle.std.proofs.Common.{◌≡◌, ◌≢◌, ℕ, ◌+◌, ◌<◌, ◌++◌, List, [], ◌∷◌, length, get_or, refl, ap, sym, ◌∙◌, arith, append_assoc, append-nil, subst, inl, inr, length-append, None, true}
use Rattle.std.proofs.lemmas.Bool.{cases_lt}
use Rattle.dex_insn.specs.Raw as raw
use Rattle.dex_insn.specs.Raw.{Raw, is_payload}
use Rattle.dex_insn.specs.Written.{written}
use Rattle.program_types.specs.Content.{Name, Insn}
use Rattle.program_types.specs.Content as made
use Rattle.program_types.specs.Formed.{insn_at, insn_payload, insn_targets, IsSwitch, PayloadHolds}
use Rattle.std.specs.Prelude.{FitsSigned, ◌⊎◌}
use Rattle.std.specs.Int.{w32}
use Rattle.std.specs.List.{AllByRecursion}
use Rattle.code_read.specs.Walk.{raw_at}
use Rattle.code_read.specs.Linked.{payload_of}
use Rattle.code_read.proofs.Lists.{at-old, at-new}
use Rattle.code_write.specs.Packs.{joined, Lowers, IsLowered}
use Rattle.code_write.specs.inner.Packs.{PutInsns}
use Rattle.code_rules.specs.Branches.{IsOrigin}
use Rattle.code_write.specs.Fits.{IsEven, OffsetsFit, BranchFits, TargetsFit, distance_of}
use Rattle.code_write.specs.inner.Writing.{PutInsn}

joined-more : (rs : List Raw) (r : Raw) → joined (rs ++ r ∷ []) ≡ joined rs ++ written r
joined-more [] r = append-nil (written r)
joined-more (q ∷ rs) r = ap (λ (zs : List ℕ). written q ++ zs) (joined-more rs r) ∙ sym (append_assoc (written q) (joined rs) (written r))

-- the first n are written
pub record PutSome (N : ℕ → Name → Type 0) (is : List Insn) (ss old new : List ℕ) (n : ℕ) : Type 0 where
  pub raws : List Raw
  pub so_far : new ≡ old ++ joined raws
  pub count : length raws ≡ n
  pub each : (k : ℕ) → k < n → IsLowered N is ss k (raw_at raws k)

payload-some : (r : Raw) → is_payload r ≡ true → payload_of r ≢ None
unfolding is_payload payload_of
payload-some (raw.Packed first offsets) e f = cc
payload-some (raw.Sparse keys offsets) e f = cc
payload-some (raw.Data width bytes) e f = cc
payload-some _ e f = cc

is-lowered : (N : ℕ → Name → Type 0) (is : List Insn) (ss : List ℕ) (k j : ℕ) (r : Raw) → IsOrigin is k j → IsEven is ss k → Lowers N ss (get_or ss j 0) (insn_at is k) r → IsLowered N is ss k r
is-lowered N is ss k j r o e l = record { origin = j; counts = o; lowers = l; even = λ p. e (λ f. payload-some r p (l.kind ∙ f)) }

pub put-none : (N : ℕ → Name → Type 0) (is : List Insn) (ss old : List ℕ) → PutSome N is ss old old 0
put-none N is ss old = record { raws = []; so_far = sym (append-nil old); count = refl; each = λ k l. absurd (omega arith) }

pub put-turn : (N : ℕ → Name → Type 0) (is : List Insn) (ss old mid new : List ℕ) (k j at : ℕ) (i : Insn) → PutSome N is ss old mid k → IsOrigin is k j → IsEven is ss k → i ≡ insn_at is k → at ≡ get_or ss j 0 → PutInsn N ss at i mid new → PutSome N is ss old new (k + 1)
unfolding raw_at
put-turn N is ss old mid new k j at i w o e f g p =
    let n = w.count in
    let l : Lowers N ss (get_or ss j 0) (insn_at is k) p.raw = subst (λ (x : ℕ). Lowers N ss x (insn_at is k) p.raw) g (subst (λ (x : Insn). Lowers N ss at x p.raw) f p.lowers) in
    let s = is-lowered N is ss k j p.raw o e l in
    record {
      raws = w.raws ++ p.raw ∷ [];
      so_far = p.is_new ∙ ap (λ (zs : List ℕ). zs ++ written p.raw) w.so_far ∙ append_assoc old (joined w.raws) (written p.raw) ∙ ap (λ (zs : List ℕ). old ++ zs) (sym (joined-more w.raws p.raw));
      count = omega (arith, length-append w.raws (p.raw ∷ []));
      each = λ m q. elim (cases_lt m k) [
        | inl a ↦ subst (λ (r : Raw). IsLowered N is ss m r) (sym (at-old w.raws p.raw (raw.I10x 0) m (omega arith))) (w.each m a)
        | inr a ↦
            let b : k ≡ m = omega arith in
            let c : get_or (w.raws ++ p.raw ∷ []) k (raw.I10x 0) ≡ p.raw = subst (λ (x : ℕ). get_or (w.raws ++ p.raw ∷ []) x (raw.I10x 0) ≡ p.raw) n (at-new w.raws p.raw (raw.I10x 0)) in
            subst (λ (x : ℕ). IsLowered N is ss x (get_or (w.raws ++ p.raw ∷ []) x (raw.I10x 0))) b (subst (λ (r : Raw). IsLowered N is ss k r) (sym c) s)
      ];
    }

pub put-all : (N : ℕ → Name → Type 0) (is : List Insn) (ss old new : List ℕ) (k : ℕ) → k ≡ length is → PutSome N is ss old new k → PutInsns N is ss old new
put-all N is ss old new k e w = let n = w.count in record { raws = w.raws; lowered = record { count = n ∙ e; each = λ j l. w.each j (omega arith) }; is_new = w.so_far }

-- where an instruction's targets count from is an instruction
pub origin-inside : (is : List Insn) (k j : ℕ) → k < length is → IsOrigin is k j → j < length is
origin-inside is k j l (inl o) = o.1.there
origin-inside is k j l (inr o) = let e = o.1 in omega arith

-- ---- what fits, counted from where the targets count

switch-branch : (ss : List ℕ) (at : ℕ) (i : Insn) → IsSwitch (insn_payload i) → BranchFits ss at i
unfolding insn_payload
switch-branch ss at (made.Packed first to) s = tt
switch-branch ss at (made.Sparse keys to) s = tt
switch-branch ss at (made.Data width bytes) s = tt
switch-branch ss at _ s = absurd s

pub targets-or : (i : Insn) → IsSwitch (insn_payload i) ⊎ (insn_targets i ≡ [])
unfolding insn_payload insn_targets
targets-or (made.Packed first to) = inl tt
targets-or (made.Sparse keys to) = inl tt
targets-or _ = inr refl

pub origin-branch : (is : List Insn) (ss : List ℕ) (k j : ℕ) → IsOrigin is k j → OffsetsFit is ss k → BranchFits ss (get_or ss j 0) (insn_at is k)
origin-branch is ss k j (inl o) f = switch-branch ss (get_or ss j 0) (insn_at is k) o.0
origin-branch is ss k j (inr o) f = subst (λ (x : ℕ). BranchFits ss (get_or ss x 0) (insn_at is k)) (sym o.1) f.branch

pub origin-targets : (is : List Insn) (ss : List ℕ) (k j : ℕ) → PayloadHolds is k → IsOrigin is k j → OffsetsFit is ss k → TargetsFit ss (get_or ss j 0) (insn_at is k)
origin-targets is ss k j h (inl o) f = f.targets j o.1
origin-targets is ss k j h (inr o) f = elim (targets-or (insn_at is k)) [
  | inl s ↦ let u = h.used s in absurd (o.0 u.0 (s, u.1, λ i r. let e = u.2 i r in omega (arith, e)))
  | inr none ↦ subst (λ (ts : List ℕ). AllByRecursion (λ to. FitsSigned w32 (distance_of ss (get_or ss j 0) to)) ts) (sym none) tt
]
