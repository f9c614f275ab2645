-- A grammar that implies another: what is said of its spellings carries over.
use Rattle.std.proofs.Common.{ℕ, List, [], ◌∷◌}
use Rattle.dex_base.specs.Grammar.{Takes, IsPrefixUnique, Then, Pair, Each, Many, Counted, Ended}
use Rattle.dex_base.specs.Leb128.{Shortest}

-- every spelling of the first is one of the second, of the same value
abbrev pub Implies : {V : Type 0} → (List ℕ → V → Type 0) → (List ℕ → V → Type 0) → Type 0
Implies {V} G H = (bytes : List ℕ) (v : V) → G bytes v → H bytes v

-- ---- where a spelling stands

pub Takes-weaker : {V : Type 0} (G H : List ℕ → V → Type 0) → Implies G H → (bytes : List ℕ) (v : V) (rest : List ℕ) → Takes G bytes v rest → Takes H bytes v rest
Takes-weaker G H f bytes v rest p = record { front = p.front; whole = p.whole; spelled = f p.front v p.spelled }

pub IsPrefixUnique-weaker : {V : Type 0} (G H : List ℕ → V → Type 0) → Implies G H → IsPrefixUnique H → IsPrefixUnique G
IsPrefixUnique-weaker G H f h a b x y v w p q e = h a b x y v w (f a v p) (f b w q) e

-- ---- grammars made of others

pub Shortest-weaker : {V : Type 0} (G : List ℕ → V → Type 0) → Implies (Shortest G) G
Shortest-weaker G bytes v p = p.spelled

pub Then-weaker : {V W : Type 0} (G G' : List ℕ → V → Type 0) (H H' : V → List ℕ → W → Type 0) → Implies G G' → ((v : V) → Implies (H v) (H' v)) → Implies (Then G H) (Then G' H')
Then-weaker G G' H H' f g bytes p s = record { front = s.front; back = s.back; joined = s.joined; first = f s.front p.0 s.first; second = g p.0 s.back p.1 s.second }

pub Pair-weaker : {V W : Type 0} (G G' : List ℕ → V → Type 0) (H H' : List ℕ → W → Type 0) → Implies G G' → Implies H H' → Implies (Pair G H) (Pair G' H')
Pair-weaker {V} G G' H H' f g = Then-weaker G G' (λ (v : V). H) (λ (v : V). H') f (λ v. g)

pub Each-weaker : {V : Type 0} (G H : List ℕ → V → Type 0) → Implies G H → Implies (Each G) (Each H)
Each-weaker G H f bytes [] p = p
Each-weaker G H f bytes (v ∷ vs) p = (p.0, p.1, p.2, f p.0 v p.3, Each-weaker G H f p.1 vs p.4)

pub Many-weaker : {V : Type 0} (G H : List ℕ → V → Type 0) (n : ℕ) → Implies G H → Implies (Many G n) (Many H n)
Many-weaker G H n f bytes vs p = (p.0, Each-weaker G H f bytes vs p.1)

pub Counted-weaker : {V : Type 0} (C D : List ℕ → ℕ → Type 0) (G H : List ℕ → V → Type 0) → Implies C D → Implies G H → Implies (Counted C G) (Counted D H)
Counted-weaker C D G H f g bytes vs p = Then-weaker C D (Many G) (Many H) f (λ n. Many-weaker G H n g) bytes _ p

pub Ended-weaker : {V : Type 0} (G H : List ℕ → V → Type 0) → Implies G H → Implies (Ended G) (Ended H)
Ended-weaker G H f bytes v p = record { front = p.front; joined = p.joined; spelled = f p.front v p.spelled }
