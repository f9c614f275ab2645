-- Laws of `Each`.
use Rattle.std.proofs.Common.{◌≡◌, List, [], ◌∷◌, ◌++◌, refl, sym, subst, ◌∙◌}
use Rattle.listing_words.specs.Taking.{EachTaken}
use Rattle.listing_words.specs.inner.Taking.{NoneAt}

-- A front is read in one way at most.
abbrev pub IsDecided : {X V : Type 0} → (List X → V → List X → Type 0) → Type 0
IsDecided {X} {V} G = (text : List X) (v w : V) (r s : List X) → G text v r → G text w s → (v ≡ w) × (r ≡ s)

-- where no further value stands, the values are all that stand there
pub Each-one : {X V : Type 0} (G : List X → V → List X → Type 0) → IsDecided G → (vs ws : List V) (text r s : List X)
    → EachTaken G text vs r → EachTaken G text ws s → NoneAt G r → NoneAt G s → (vs ≡ ws) × (r ≡ s)
Each-one G g [] [] text r s p q n m = (refl, sym p ∙ q)
Each-one {X} G g [] (w ∷ ws) text r s p q n m = absurd (n w q.0 (subst (λ (t : List X). G t w q.0) p q.1))
Each-one {X} G g (v ∷ vs) [] text r s p q n m = absurd (m v p.0 (subst (λ (t : List X). G t v p.0) q p.1))
Each-one {X} G g (v ∷ vs) (w ∷ ws) text r s p q n m =
    let one = g text v w p.0 q.0 p.1 q.1 in
    let more = Each-one G g vs ws q.0 r s (subst (λ (t : List X). EachTaken G t vs r) one.1 p.2) q.2 n m in
    let i = one.0 in let j = more.0 in
    (cc, more.1)

pub Each-push : {X V : Type 0} (G : List X → V → List X → Type 0) (vs : List V) (v : V) (text m r : List X)
    → EachTaken G text vs m → G m v r → EachTaken G text (vs ++ v ∷ []) r
Each-push {X} G [] v text m r p q = (r, subst (λ (t : List X). G t v r) (sym p) q, refl)
Each-push G (w ∷ ws) v text m r p q = (p.0, p.1, Each-push G ws v p.0 m r p.2 q)
