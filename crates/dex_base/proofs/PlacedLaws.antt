-- Values one after the other, with the places where their spellings begin.
use Rattle.std.proofs.Common.{◌≡◌, ℕ, ◌+◌, List, [], ◌∷◌, ◌++◌, length, map, refl, sym, ap, subst, ◌∙◌, append_assoc, append-nil, length-append, arith}
use Rattle.dex_base.specs.Grammar.{IsPrefixUnique, Each, Placed}
use Rattle.dex_base.proofs.GrammarLaws.{regrouped, rest_same}
use Rattle.dex_base.proofs.WeakerLaws.{Implies}

-- without their places they are the values one after the other
pub Placed-each : {V : Type 0} (G : List ℕ → V → Type 0) (place : ℕ) (bytes : List ℕ) (ps : List (ℕ × V)) → Placed G place bytes ps → Each G bytes (map (λ (p : ℕ × V). p.1) ps)
Placed-each G place bytes [] h = h
Placed-each G place bytes (p ∷ ps) h = (h.0, h.1, h.2, h.4, Placed-each G (place + length h.0) h.1 ps h.5)

-- and all that stand one after the other have places
pub Placed-from_each : {V : Type 0} (G : List ℕ → V → Type 0) (place : ℕ) (bytes : List ℕ) (vs : List V) → Each G bytes vs → (ps : List (ℕ × V)) × Placed G place bytes ps × (map (λ (p : ℕ × V). p.1) ps ≡ vs)
Placed-from_each G place bytes [] h = ([], h, refl)
Placed-from_each G place bytes (v ∷ vs) h =
    let r = Placed-from_each G (place + length h.0) h.1 vs h.4 in
    ((place, v) ∷ r.0, (h.0, h.1, h.2, refl, h.3, r.1), ap (λ l. v ∷ l) r.2)

pub Placed-weaker : {V : Type 0} (G H : List ℕ → V → Type 0) → Implies G H → (place : ℕ) (bytes : List ℕ) (ps : List (ℕ × V)) → Placed G place bytes ps → Placed H place bytes ps
Placed-weaker G H f place bytes [] h = h
Placed-weaker G H f place bytes (p ∷ ps) h = (h.0, h.1, h.2, h.3, f h.0 p.1 h.4, Placed-weaker G H f (place + length h.0) h.1 ps h.5)

-- one more at the end
pub Placed-push : {V : Type 0} (G : List ℕ → V → Type 0) (place : ℕ) (a b : List ℕ) (ps : List (ℕ × V)) (v : V)
    → Placed G place a ps → G b v → Placed G place (a ++ b) (ps ++ (place + length a, v) ∷ [])
Placed-push G place a b [] v h g =
    let n : place + length a ≡ place = omega (arith, ap length h) in
    (b, [], ap (λ l. l ++ b) h ∙ sym (append-nil b), n, g, refl)
Placed-push {V} G place a b (p ∷ ps) v h g =
    let r = Placed-push G (place + length h.0) h.1 b ps v h.5 g in
    let n : place + length h.0 + length h.1 ≡ place + length a = omega (arith, ap length h.2, length-append h.0 h.1) in
    (h.0, h.1 ++ b, ap (λ l. l ++ b) h.2 ∙ append_assoc h.0 h.1 b, h.3, h.4, subst (λ (k : ℕ). Placed G (place + length h.0) (h.1 ++ b) (ps ++ (k, v) ∷ [])) n r)

pair_same : {V : Type 0} (v w : ℕ × V) → v.0 ≡ w.0 → v.1 ≡ w.1 → v ≡ w
pair_same (a, x) (b, y) p q = cc

-- so many of them stand at one place in one way
pub Placed-unique : {V : Type 0} (G : List ℕ → V → Type 0) → IsPrefixUnique G → (place : ℕ) (ps qs : List (ℕ × V)) (a b x y : List ℕ)
    → length ps ≡ length qs → Placed G place a ps → Placed G place b qs → a ++ x ≡ b ++ y → (a ≡ b) × (ps ≡ qs)
Placed-unique G g place [] [] a b x y n p q e = (p ∙ sym q, refl)
Placed-unique G g place [] (w ∷ ws) a b x y n p q e = absurd (omega arith)
Placed-unique G g place (v ∷ vs) [] a b x y n p q e = absurd (omega arith)
Placed-unique {V} G g place (v ∷ vs) (w ∷ ws) a b x y n p q e =
    let r = regrouped a p.0 p.1 b q.0 q.1 x y p.2 q.2 e in
    let one = g p.0 q.0 (p.1 ++ x) (q.1 ++ y) v.1 w.1 p.4 q.4 r in
    let there : Placed G (place + length p.0) q.1 ws = subst (λ (l : List ℕ). Placed G (place + length l) q.1 ws) (sym one.0) q.5 in
    let two = Placed-unique G g (place + length p.0) vs ws p.1 q.1 x y (omega arith) p.5 there (rest_same p.0 q.0 (p.1 ++ x) (q.1 ++ y) one.0 r) in
    let head : v ≡ w = pair_same v w (p.3 ∙ sym q.3) one.1 in
    let i = one.0 in let k = two.0 in let l = two.1 in
    let s = p.2 in let t = q.2 in
    (cc, cc)
