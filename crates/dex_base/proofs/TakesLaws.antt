-- The two ways to say that a spelling stands at the front: how many bytes it takes, or which bytes follow it.
use Rattle.std.proofs.Common.{◌≡◌, ℕ, ◌+◌, List, [], ◌∷◌, ◌++◌, length, take, drop, refl, sym, ap, subst, ◌∙◌, append_assoc, arith}
use Rattle.std.proofs.lemmas.List.{length-append, take-append-drop, take_at, drop_at}
use Rattle.dex_base.specs.Grammar.{Begins, NoneBegins, Takes, IsPrefixUnique, Then, Each, Counted, Ended}
use Rattle.dex_base.proofs.GrammarLaws.{rest_same, Each-push}

-- ---- from one to the other

pub Takes-from_begins : {V : Type 0} (G : List ℕ → V → Type 0) (bytes : List ℕ) (v : V) (n : ℕ) → Begins G bytes v n → Takes G bytes v (drop n bytes)
Takes-from_begins G bytes v n p = record { front = take n bytes; whole = sym (take-append-drop n bytes); spelled = p.spelled }

-- the length is that of the front
pub Begins-from_takes : {V : Type 0} (G : List ℕ → V → Type 0) (bytes : List ℕ) (v : V) (rest : List ℕ) (t : Takes G bytes v rest) → Begins G bytes v (length t.front) × (drop (length t.front) bytes ≡ rest)
Begins-from_takes {V} G bytes v rest t = (
  record {
    inside = let l = ap length t.whole ∙ length-append t.front rest in omega arith;
    spelled = subst (λ (l : List ℕ). G l v) (sym (ap (take (length t.front)) t.whole ∙ take_at t.front rest (length t.front) refl)) t.spelled;
  },
  ap (drop (length t.front)) t.whole ∙ drop_at t.front rest (length t.front) refl,
)

pub Takes-none : {V : Type 0} (G : List ℕ → V → Type 0) (bytes : List ℕ) (v : V) (rest : List ℕ) → NoneBegins G bytes → Takes G bytes v rest → ⊥
Takes-none G bytes v rest none t = none t.front rest v t.whole t.spelled

pub NoneBegins-from_takes : {V : Type 0} (G : List ℕ → V → Type 0) (bytes : List ℕ) → ((v : V) (rest : List ℕ) → Takes G bytes v rest → ⊥) → NoneBegins G bytes
NoneBegins-from_takes G bytes none front rest v e s = none v rest (record { front = front; whole = e; spelled = s })

pub Takes-unique : {V : Type 0} (G : List ℕ → V → Type 0) (bytes : List ℕ) (v w : V) (r s : List ℕ) → IsPrefixUnique G → Takes G bytes v r → Takes G bytes w s → (v ≡ w) × (r ≡ s)
Takes-unique G bytes v w r s g p q =
    let e : p.front ++ r ≡ q.front ++ s = sym p.whole ∙ q.whole in
    let one = g p.front q.front r s v w p.spelled q.spelled e in
    (one.1, rest_same p.front q.front r s one.0 e)

pub Takes-length : {V : Type 0} (G : List ℕ → V → Type 0) (bytes : List ℕ) (v : V) (rest : List ℕ) (t : Takes G bytes v rest) → length bytes ≡ length t.front + length rest
Takes-length G bytes v rest t = ap length t.whole ∙ length-append t.front rest

-- ---- grammars made of others

pub Takes-then : {V W : Type 0} (G : List ℕ → V → Type 0) (H : V → List ℕ → W → Type 0) (bytes mid rest : List ℕ) (v : V) (w : W)
    → Takes G bytes v mid → Takes (H v) mid w rest → Takes (Then G H) bytes (v, w) rest
Takes-then G H bytes mid rest v w p q = record {
  front = p.front ++ q.front;
  whole = p.whole ∙ ap (λ l. p.front ++ l) q.whole ∙ sym (append_assoc p.front q.front rest);
  spelled = record { front = p.front; back = q.front; joined = refl; first = p.spelled; second = q.spelled };
}

pub Then-takes : {V W : Type 0} (G : List ℕ → V → Type 0) (H : V → List ℕ → W → Type 0) (bytes rest : List ℕ) (p : V × W)
    → Takes (Then G H) bytes p rest → (mid : List ℕ) × Takes G bytes p.0 mid × Takes (H p.0) mid p.1 rest
Then-takes G H bytes rest p t =
    let s = t.spelled in (
      s.back ++ rest,
      record { front = s.front; whole = t.whole ∙ ap (λ l. l ++ rest) s.joined ∙ append_assoc s.front s.back rest; spelled = s.first },
      record { front = s.back; whole = refl; spelled = s.second },
    )

pub Takes-each_none : {V : Type 0} (G : List ℕ → V → Type 0) (bytes : List ℕ) → Takes (Each G) bytes [] bytes
Takes-each_none G bytes = record { front = []; whole = refl; spelled = refl }

pub Takes-each_first : {V : Type 0} (G : List ℕ → V → Type 0) (bytes mid rest : List ℕ) (v : V) (vs : List V) → Takes G bytes v mid → Takes (Each G) mid vs rest → Takes (Each G) bytes (v ∷ vs) rest
Takes-each_first G bytes mid rest v vs p q = record {
  front = p.front ++ q.front;
  whole = p.whole ∙ ap (λ l. p.front ++ l) q.whole ∙ sym (append_assoc p.front q.front rest);
  spelled = (p.front, q.front, refl, p.spelled, q.spelled);
}

pub Takes-each_push : {V : Type 0} (G : List ℕ → V → Type 0) (bytes mid rest : List ℕ) (vs : List V) (v : V) → Takes (Each G) bytes vs mid → Takes G mid v rest → Takes (Each G) bytes (vs ++ v ∷ []) rest
Takes-each_push G bytes mid rest vs v p q = record {
  front = p.front ++ q.front;
  whole = p.whole ∙ ap (λ l. p.front ++ l) q.whole ∙ sym (append_assoc p.front q.front rest);
  spelled = Each-push G p.front q.front vs v p.spelled q.spelled;
}

pub Each-takes_first : {V : Type 0} (G : List ℕ → V → Type 0) (bytes rest : List ℕ) (v : V) (vs : List V) → Takes (Each G) bytes (v ∷ vs) rest → (mid : List ℕ) × Takes G bytes v mid × Takes (Each G) mid vs rest
Each-takes_first G bytes rest v vs t =
    let s = t.spelled in (
      s.1 ++ rest,
      record { front = s.0; whole = t.whole ∙ ap (λ l. l ++ rest) s.2 ∙ append_assoc s.0 s.1 rest; spelled = s.3 },
      record { front = s.1; whole = refl; spelled = s.4 },
    )

pub Takes-counted : {V : Type 0} (C : List ℕ → ℕ → Type 0) (G : List ℕ → V → Type 0) (bytes mid rest : List ℕ) (vs : List V)
    → Takes C bytes (length vs) mid → Takes (Each G) mid vs rest → Takes (Counted C G) bytes vs rest
Takes-counted C G bytes mid rest vs p q = record {
  front = p.front ++ q.front;
  whole = p.whole ∙ ap (λ l. p.front ++ l) q.whole ∙ sym (append_assoc p.front q.front rest);
  spelled = record { front = p.front; back = q.front; joined = refl; first = p.spelled; second = (refl, q.spelled) };
}

pub Counted-takes : {V : Type 0} (C : List ℕ → ℕ → Type 0) (G : List ℕ → V → Type 0) (bytes rest : List ℕ) (vs : List V)
    → Takes (Counted C G) bytes vs rest → (mid : List ℕ) × Takes C bytes (length vs) mid × Takes (Each G) mid vs rest
Counted-takes C G bytes rest vs t =
    let s = t.spelled in (
      s.back ++ rest,
      record { front = s.front; whole = t.whole ∙ ap (λ l. l ++ rest) s.joined ∙ append_assoc s.front s.back rest; spelled = s.first },
      record { front = s.back; whole = refl; spelled = s.second.1 },
    )

pub Takes-ended : {V : Type 0} (G : List ℕ → V → Type 0) (bytes rest : List ℕ) (v : V) → Takes G bytes v (0 ∷ rest) → Takes (Ended G) bytes v rest
Takes-ended G bytes rest v t = record {
  front = t.front ++ 0 ∷ [];
  whole = t.whole ∙ sym (append_assoc t.front (0 ∷ []) rest);
  spelled = record { front = t.front; joined = refl; spelled = t.spelled };
}

pub Ended-takes : {V : Type 0} (G : List ℕ → V → Type 0) (bytes rest : List ℕ) (v : V) → Takes (Ended G) bytes v rest → Takes G bytes v (0 ∷ rest)
Ended-takes G bytes rest v t =
    let s = t.spelled in
    record { front = s.front; whole = t.whole ∙ ap (λ l. l ++ rest) s.joined ∙ append_assoc s.front (0 ∷ []) rest; spelled = s.spelled }
