-- Decisions: by search below a bound, and of grammars.
use Rattle.std.proofs.Common.{◌≡◌, ℕ, zero, suc, ◌+◌, ◌^◌, ◌<◌, ◌≤◌, ◌⊎◌, inl, inr, List, [], ◌∷◌, length, take, drop, refl, sym, ap, ◌∙◌, subst, arith}
use Rattle.std.proofs.lemmas.List.{take-append-drop, take_at}
use Rattle.std.proofs.lemmas.Bool.{cases_lt, cases_eq}
use Rattle.std.specs.List.{AllByRecursion}
use Rattle.dex_base.specs.Grammar.{Takes, Each, Counted, Ended, IsPrefixUnique}
use Rattle.dex_base.specs.Leb128.{Spells, IsSequence, low_first}
use Rattle.dex_base.proofs.TakesLaws.{Takes-length, Takes-unique, Takes-each_none, Takes-each_first, Each-takes_first, Takes-counted, Counted-takes, Takes-ended, Ended-takes}
use Rattle.dex_base.specs.Deciding.{Decided, DecidedFront}

-- ---- parts

pub decide_like : {P Q : Type 0} → (P → Q) → (Q → P) → Decided P → Decided Q
decide_like f g (inl p) = inl (f p)
decide_like f g (inr nay) = inr (λ q. nay (g q))

pub decide_both : {P Q : Type 0} → Decided P → Decided Q → Decided (P × Q)
decide_both (inl p) (inl q) = inl (p, q)
decide_both (inl p) (inr nay) = inr (λ x. nay x.1)
decide_both (inr nay) d = inr (λ x. nay x.0)

pub decide_either : {P Q : Type 0} → Decided P → Decided Q → Decided (P ⊎ Q)
decide_either (inl p) d = inl (inl p)
decide_either (inr nay) (inl q) = inl (inr q)
decide_either (inr nay) (inr nor) = inr (λ x. elim x [ inl p ↦ nay p | inr q ↦ nor q ])

pub decide_lt : (a b : ℕ) → Decided (a < b)
decide_lt a b = elim (cases_lt a b) [ inl lt ↦ inl lt | inr ge ↦ inr (λ lt. omega (arith, lt, ge)) ]

pub decide_le : (a b : ℕ) → Decided (a ≤ b)
decide_le a b = elim (cases_lt b a) [ inl lt ↦ inr (λ le. omega (arith, lt, le)) | inr ge ↦ inl ge ]

pub decide_eq : (a b : ℕ) → Decided (a ≡ b)
decide_eq a b = cases_eq a b

pub decide_list : (xs ys : List ℕ) → Decided (xs ≡ ys)
decide_list [] [] = inl refl
decide_list [] (y ∷ ys) = inr (λ e. absurd cc)
decide_list (x ∷ xs) [] = inr (λ e. absurd cc)
decide_list (x ∷ xs) (y ∷ ys) = elim (cases_eq x y) [
  | inl e ↦ elim (decide_list xs ys) [ inl f ↦ inl (rw (e, f) refl) | inr nay ↦ inr (λ h. let t : xs ≡ ys = cc in nay t) ]
  | inr nay ↦ inr (λ h. let t : x ≡ y = cc in nay t)
]

pub decide_all : {A : Type 0} (P : A → Type 0) → ((x : A) → Decided (P x)) → (xs : List A) → Decided (AllByRecursion P xs)
decide_all P d [] = inl tt
decide_all P d (x ∷ xs) = decide_both (d x) (decide_all P d xs)

-- some number below n
pub decide_below : (P : ℕ → Type 0) → ((k : ℕ) → Decided (P k)) → (n : ℕ) → Decided ((k : ℕ) × (k < n) × P k)
decide_below P d zero = inr (λ x. let lt = x.1 in omega (arith, lt))
decide_below P d (suc n) = elim (d n) [
  | inl p ↦ inl (n, omega arith, p)
  | inr nay ↦ elim (decide_below P d n) [
    | inl x ↦ inl (x.0, (let lt = x.1 in omega (arith, lt)), x.2)
    | inr none ↦ inr (λ x. elim (cases_lt x.0 n) [
      | inl lt ↦ none (x.0, lt, x.2)
      | inr ge ↦ let lt = x.1 in let e : x.0 ≡ n = omega (arith, ge, lt) in nay (subst P e x.2)
    ])
  ]
]

-- ---- grammars

-- the front of what stands there
pub front_is : {V : Type 0} (G : List ℕ → V → Type 0) (bytes rest : List ℕ) (v : V) (t : Takes G bytes v rest) → take (length t.front) bytes ≡ t.front
front_is G bytes rest v t = ap (take (length t.front)) t.whole ∙ take_at t.front rest (length t.front) refl

front_within : {V : Type 0} (G : List ℕ → V → Type 0) (bytes rest : List ℕ) (v : V) (t : Takes G bytes v rest) → length t.front < length bytes + 1
front_within G bytes rest v t = let n = Takes-length G bytes v rest t in omega (arith, n)

-- a spelling, whose value is a function of the bytes
pub decide_by : {V : Type 0} (G : List ℕ → V → Type 0) (f : List ℕ → V) → ((front : List ℕ) (v : V) → G front v → v ≡ f front) → ((front : List ℕ) → Decided (G front (f front))) → (bytes : List ℕ) → DecidedFront G bytes
decide_by {V} G f one d bytes = elim (decide_below (λ n. G (take n bytes) (f (take n bytes))) (λ n. d (take n bytes)) (length bytes + 1)) [
  | inl x ↦ inl (f (take x.0 bytes), drop x.0 bytes, record { front = take x.0 bytes; whole = sym (take-append-drop x.0 bytes); spelled = x.2 })
  | inr none ↦ inr (λ v rest t. none (
    length t.front,
    front_within G bytes rest v t,
    subst (λ (l : List ℕ). G l (f l)) (sym (front_is G bytes rest v t)) (subst (λ (w : V). G t.front w) (one t.front v t.spelled) t.spelled),
  ))
]

-- a spelling of a number below a bound
pub decide_bounded : (G : List ℕ → ℕ → Type 0) (bound : ℕ) → ((front : List ℕ) (v : ℕ) → G front v → v < bound) → ((front : List ℕ) (v : ℕ) → Decided (G front v)) → (bytes : List ℕ) → DecidedFront G bytes
decide_bounded G bound below d bytes = elim (decide_below (λ n. (v : ℕ) × (v < bound) × G (take n bytes) v) (λ n. decide_below (G (take n bytes)) (d (take n bytes)) bound) (length bytes + 1)) [
  | inl x ↦ inl (x.2.0, drop x.0 bytes, record { front = take x.0 bytes; whole = sym (take-append-drop x.0 bytes); spelled = x.2.2 })
  | inr none ↦ inr (λ v rest t. none (
    length t.front,
    front_within G bytes rest v t,
    (
      v,
      below t.front v t.spelled,
      subst (λ (l : List ℕ). G l v) (sym (front_is G bytes rest v t)) t.spelled,
    ),
  ))
]

-- so many values, one after the other
unfoldable pub DecidedEach : {V : Type 0} → (List ℕ → V → Type 0) → ℕ → List ℕ → Type 0
DecidedEach {V} G n bytes = ((vs : List V) × (rest : List ℕ) × (length vs ≡ n) × Takes (Each G) bytes vs rest) ⊎ ((vs : List V) (rest : List ℕ) → length vs ≡ n → Takes (Each G) bytes vs rest → ⊥)

module _ {V : Type 0} (G : List ℕ → V → Type 0) (unique : IsPrefixUnique G) (d : (bytes : List ℕ) → DecidedFront G bytes) where
  no_first : (n : ℕ) (bytes : List ℕ) → ((v : V) (rest : List ℕ) → Takes G bytes v rest → ⊥) → (vs : List V) (rest : List ℕ) → length vs ≡ suc n → Takes (Each G) bytes vs rest → ⊥
  no_first n bytes none [] rest e t = omega (arith, e)
  no_first n bytes none (v ∷ vs) rest e t = let x = Each-takes_first G bytes rest v vs t in none v x.0 x.1

  no_rest : (n : ℕ) (bytes mid : List ℕ) (w : V) → Takes G bytes w mid → ((vs : List V) (rest : List ℕ) → length vs ≡ n → Takes (Each G) mid vs rest → ⊥) → (vs : List V) (rest : List ℕ) → length vs ≡ suc n → Takes (Each G) bytes vs rest → ⊥
  no_rest n bytes mid w p none [] rest e t = omega (arith, e)
  no_rest n bytes mid w p none (v ∷ vs) rest e t =
      let x = Each-takes_first G bytes rest v vs t in
      let same = (Takes-unique G bytes v w x.0 mid unique x.1 p).1 in
      none vs rest (omega (arith, e)) (subst (λ (l : List ℕ). Takes (Each G) l vs rest) same x.2)

  pub decide_each : (n : ℕ) (bytes : List ℕ) → DecidedEach G n bytes
  unfolding DecidedEach
  decide_each zero bytes = inl ([], bytes, refl, Takes-each_none G bytes)
  decide_each (suc n) bytes = elim (d bytes) [
    | inl x ↦ elim (decide_each n x.1) [
      | inl y ↦ inl (x.0 ∷ y.0, y.1, ap suc y.2, Takes-each_first G bytes x.1 y.1 x.0 y.0 x.2 y.3)
      | inr none ↦ inr (no_rest n bytes x.1 x.0 x.2 none)
    ]
    | inr none ↦ inr (no_first n bytes none)
  ]

  pub decide_counted : (C : List ℕ → ℕ → Type 0) → IsPrefixUnique C → ((bytes : List ℕ) → DecidedFront C bytes) → (bytes : List ℕ) → DecidedFront (Counted C G) bytes
  unfolding DecidedEach
  decide_counted C one count bytes = elim (count bytes) [
    | inl x ↦ elim (decide_each x.0 x.1) [
      | inl y ↦ inl (y.0, y.1, Takes-counted C G bytes x.1 y.1 y.0 (subst (λ (n : ℕ). Takes C bytes n x.1) (sym y.2) x.2) y.3)
      | inr none ↦ inr (λ vs rest t.
          let c = Counted-takes C G bytes rest vs t in
          let same = Takes-unique C bytes (length vs) x.0 c.0 x.1 one c.1 x.2 in
          none vs rest same.0 (subst (λ (l : List ℕ). Takes (Each G) l vs rest) same.1 c.2))
    ]
    | inr none ↦ inr (λ vs rest t. let c = Counted-takes C G bytes rest vs t in none (length vs) c.0 c.1)
  ]

  pub decide_ended : (bytes : List ℕ) → DecidedFront (Ended G) bytes
  decide_ended bytes = elim (d bytes) [
    | inl x ↦ zero_next x.0 x.1 x.2 x.1 refl
    | inr none ↦ inr (λ v rest t. none v (0 ∷ rest) (Ended-takes G bytes rest v t))
  ]
    where
      other : (w : V) (mid : List ℕ) → Takes G bytes w mid → (v : V) (rest : List ℕ) → Takes (Ended G) bytes v rest → mid ≡ 0 ∷ rest
      other w mid p v rest t = (Takes-unique G bytes w v mid (0 ∷ rest) unique p (Ended-takes G bytes rest v t)).1

      zero_next : (w : V) (mid : List ℕ) → Takes G bytes w mid → (l : List ℕ) → mid ≡ l → DecidedFront (Ended G) bytes
      zero_next w mid p [] e = inr (λ v rest t. let o = other w mid p v rest t in absurd cc)
      zero_next w mid p (x ∷ xs) e = elim (cases_eq x 0) [
        | inl z ↦ inl (w, xs, Takes-ended G bytes xs w (subst (λ (l : List ℕ). Takes G bytes w l) (e ∙ ap (λ y. y ∷ xs) z) p))
        | inr nay ↦ inr (λ v rest t. let o = other w mid p v rest t in let z : x ≡ 0 = cc in nay z)
      ]

-- ---- numbers and texts

pub decide_sequence : (bytes : List ℕ) → Decided (IsSequence bytes)
decide_sequence [] = inr (λ e. e)
decide_sequence (b ∷ []) = decide_lt b 128
decide_sequence (b ∷ c ∷ bs) = decide_both (decide_le 128 b) (decide_sequence (c ∷ bs))

pub decide_uleb : (bytes : List ℕ) → DecidedFront Spells bytes
decide_uleb = decide_by Spells low_first (λ front v s. s.number) (λ front.
    decide_like (λ x. record { short = x.0; sequence = x.1.0; number = refl; range = x.1.1 }) (λ (s : Spells front (low_first front)). (s.short, (s.sequence, s.range)))
    (decide_both (decide_le (length front) 5) (decide_both (decide_sequence front) (decide_lt (low_first front) (2 ^ 32)))))
