-- Decisions that those of code are made of: of bounded quantifiers, of options, and of grammars made of others.
use Rattle.std.proofs.Common.{◌≡◌, ℕ, ℤ, zero, suc, pos, ◌+ℤ◌, ◌^◌, ◌<◌, ◌≤ℤ◌, ◌<ℤ◌, ◌⊎◌, inl, inr, Option, Some, None, List, [], ◌∷◌, length, get_or, refl, sym, ap, subst, arith}
use Rattle.std.specs.Prelude.{IfSome}
use Rattle.std.proofs.lemmas.Int.{ints, by_lt_z}
use Rattle.dex_base.specs.Deciding.{Decided, DecidedFront}
use Rattle.dex_base.specs.Grammar.{Takes, IsPrefixUnique, Then, Many}
use Rattle.dex_base.specs.Leb128.{SpellsSigned, signed_low_first}
use Rattle.dex_base.specs.Via.{Via}
use Rattle.dex_base.specs.FirstFault.{FirstBroken}
use Rattle.dex_base.proofs.FirstFaultLaws.{broken_clear, broken_decided}
use Rattle.dex_base.proofs.Deciding.{decide_like, decide_both, decide_le, decide_by, DecidedEach, decide_each, decide_sequence}
use Rattle.dex_base.proofs.TakesLaws.{Takes-then, Then-takes, Takes-unique, Takes-none, NoneBegins-from_takes}
use Rattle.dex_base.proofs.ViaLaws.{via-takes, via-none, via-nothing}
use Rattle.code_rules.specs.First.{AllHold}

-- ---- numbers below a bound

pub decide-all-below : (P : ℕ → Type 0) → ((k : ℕ) → Decided (P k)) → (n : ℕ) → Decided (AllHold P n)
decide-all-below P d n =
    let first : AllHold P n ⊎ ((k : ℕ) × FirstBroken n P (λ i. i) k) = broken_decided d in
    elim first [ inl all ↦ inl all | inr f ↦ inr (λ all. broken_clear all f.1) ]

-- a list of n values, each with what it must have
pub build : {V : Type 0} (d : V) (P : ℕ → V → Type 0) (n : ℕ) → ((k : ℕ) → k < n → (v : V) × P k v) → (vs : List V) × (length vs ≡ n) × ((k : ℕ) → k < n → P k (get_or vs k d))
build {V} d P zero f = ([], refl, λ k l. absurd (omega (arith, l)))
build {V} d P (suc n) f =
    let first = f 0 (omega arith) in
    let rest = build d (λ k. P (suc k)) n (λ k l. f (suc k) (omega (arith, l))) in
    (first.0 ∷ rest.0, ap suc rest.1, each first.0 first.1 rest.0 rest.2)
  where
    each : (v : V) → P 0 v → (vs : List V) → ((k : ℕ) → k < n → P (suc k) (get_or vs k d)) → (k : ℕ) → k < suc n → P k (get_or (v ∷ vs) k d)
    each v p vs q zero l = p
    each v p vs q (suc k) l = q k (omega (arith, l))

-- ---- parts

pub decide-implied : {P Q : Type 0} → Decided P → (P → Decided Q) → Decided (P → Q)
decide-implied (inr nay) d = inl (λ p. absurd (nay p))
decide-implied (inl p) d = elim (d p) [ inl q ↦ inl (λ _. q) | inr nay ↦ inr (λ f. nay (f p)) ]

pub decide-there : {A : Type 0} (o : Option A) → Decided ((x : A) × (o ≡ Some x))
decide-there None = inr (λ x. let e = x.1 in absurd cc)
decide-there (Some x) = inl (x, refl)

pub decide-if-some : {A : Type 0} (P : A → Type 0) → ((x : A) → Decided (P x)) → (o : Option A) → Decided (IfSome o P)
decide-if-some P d None = inl tt
decide-if-some P d (Some x) = d x

-- ---- grammars

pub decide-then : {V W : Type 0} (G : List ℕ → V → Type 0) (H : V → List ℕ → W → Type 0) → IsPrefixUnique G → ((bytes : List ℕ) → DecidedFront G bytes) → ((v : V) (bytes : List ℕ) → DecidedFront (H v) bytes) → (bytes : List ℕ) → DecidedFront (Then G H) bytes
decide-then {V} {W} G H one g h bytes = elim (g bytes) [
  | inl x ↦ elim (h x.0 x.1) [
    | inl y ↦ inl ((x.0, y.0), y.1, Takes-then G H bytes x.1 y.1 x.0 y.0 x.2 y.2)
    | inr none ↦ inr (λ p rest t.
        let s = Then-takes G H bytes rest p t in
        let same = Takes-unique G bytes x.0 p.0 x.1 s.0 one x.2 s.1 in
        none p.1 rest (subst (λ (v : V). Takes (H v) x.1 p.1 rest) (sym same.0) (subst (λ (l : List ℕ). Takes (H p.0) l p.1 rest) (sym same.1) s.2)))
  ]
  | inr none ↦ inr (λ p rest t. let s = Then-takes G H bytes rest p t in none p.0 s.0 s.1)
]

pub decide-many : {V : Type 0} (G : List ℕ → V → Type 0) → IsPrefixUnique G → ((bytes : List ℕ) → DecidedFront G bytes) → (n : ℕ) (bytes : List ℕ) → DecidedFront (Many G n) bytes
unfolding DecidedEach
decide-many G one d n bytes = elim (decide_each G one d n bytes) [
  | inl x ↦ inl (x.0, x.1, record { front = x.3.front; whole = x.3.whole; spelled = (x.2, x.3.spelled) })
  | inr none ↦ inr (λ vs rest t. none vs rest t.spelled.0 (record { front = t.front; whole = t.whole; spelled = t.spelled.1 }))
]

pub decide-via : {U V : Type 0} (G : List ℕ → U → Type 0) (R : U → V → Type 0) → IsPrefixUnique G → ((bytes : List ℕ) → DecidedFront G bytes) → ((u : U) → Decided ((v : V) × R u v)) → (bytes : List ℕ) → DecidedFront (Via G R) bytes
decide-via G R one g r bytes = elim (g bytes) [
  | inl x ↦ elim (r x.0) [
    | inl y ↦ inl (y.0, x.1, via-takes G R bytes x.1 x.0 y.0 x.2 y.1)
    | inr none ↦ inr (λ v rest t. Takes-none (Via G R) bytes v rest (via-nothing G R bytes x.1 x.0 one x.2 (λ w m. none (w, m))) t)
  ]
  | inr none ↦ inr (λ v rest t. Takes-none (Via G R) bytes v rest (via-none G R bytes (NoneBegins-from_takes G bytes none)) t)
]

decide-lt-z : (a b : ℤ) → Decided (a <ℤ b)
decide-lt-z a b = by_lt_z a b (λ less. inl less) (λ more. inr (λ less. omega (arith, ints, less, more)))

decide-le-z : (a b : ℤ) → Decided (a ≤ℤ b)
decide-le-z a b = by_lt_z b a (λ less. inr (λ more. omega (arith, ints, less, more))) (λ more. inl more)

pub decide-sleb : (bytes : List ℕ) → DecidedFront SpellsSigned bytes
decide-sleb = decide_by SpellsSigned signed_low_first (λ front v s. s.number) (λ front.
    decide_like (λ x. record { short = x.0; sequence = x.1.0; number = refl; low = x.1.1.0; high = x.1.1.1 })
    (λ (s : SpellsSigned front (signed_low_first front)). (s.short, (s.sequence, (s.low, s.high))))
    (decide_both (decide_le (length front) 5) (decide_both (decide_sequence front) (decide_both (decide-le-z (pos 0) (signed_low_first front +ℤ pos (2 ^ 31))) (decide-lt-z (signed_low_first front) (pos (2 ^ 31)))))))
