-- Grammars through a relation, and what stands after a front that is known.
use Rattle.std.proofs.Common.{◌≡◌, ℕ, List, length, sym, subst}
use Rattle.dex_base.specs.Grammar.{IsPrefixUnique, Takes, NoneBegins, Then}
use Rattle.dex_base.specs.Via.{Via}
use Rattle.dex_base.proofs.GrammarLaws.{Then-none_second}
use Rattle.dex_base.proofs.TakesLaws.{Begins-from_takes, Takes-unique}

pub Via-unique : {U V : Type 0} (G : List ℕ → U → Type 0) (R : U → V → Type 0) → IsPrefixUnique G → ((u : U) (v w : V) → R u v → R u w → v ≡ w) → IsPrefixUnique (Via G R)
Via-unique {U} {V} G R g f a b x y v w p q e =
    let one = g a b x y p.raw q.raw p.spelled q.spelled e in
    (one.0, f p.raw v w p.means (subst (λ (u : U). R u w) (sym one.1) q.means))

pub via-takes : {U V : Type 0} (G : List ℕ → U → Type 0) (R : U → V → Type 0) (bytes rest : List ℕ) (u : U) (v : V) → Takes G bytes u rest → R u v → Takes (Via G R) bytes v rest
via-takes G R bytes rest u v t r = record { front = t.front; whole = t.whole; spelled = record { raw = u; spelled = t.spelled; means = r } }

pub via-none : {U V : Type 0} (G : List ℕ → U → Type 0) (R : U → V → Type 0) (bytes : List ℕ) → NoneBegins G bytes → NoneBegins (Via G R) bytes
via-none G R bytes none front rest v e s = none front rest s.raw e s.spelled

pub via-nothing : {U V : Type 0} (G : List ℕ → U → Type 0) (R : U → V → Type 0) (bytes rest : List ℕ) (u : U) → IsPrefixUnique G → Takes G bytes u rest → ((v : V) → R u v → ⊥) → NoneBegins (Via G R) bytes
via-nothing {U} {V} G R bytes rest u g t nothing front r v e s =
    let one = Takes-unique G bytes u s.raw rest r g t (record { front = front; whole = e; spelled = s.spelled }) in
    nothing v (subst (λ (w : U). R w v) (sym one.0) s.means)

-- what stands after a known front spells nothing
pub second-none : {V W : Type 0} (G : List ℕ → V → Type 0) (H : V → List ℕ → W → Type 0) (bytes mid : List ℕ) (v : V) → IsPrefixUnique G → Takes G bytes v mid → NoneBegins (H v) mid → NoneBegins (Then G H) bytes
second-none G H bytes mid v g t none =
    let b = Begins-from_takes G bytes v mid t in
    Then-none_second G H bytes v (length t.front) g b.0 (subst (λ (l : List ℕ). NoneBegins (H v) l) (sym b.1) none)
