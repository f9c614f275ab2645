-- Fields of a row, and tables, one after the other.
use Rattle.std.proofs.Common.{◌≡◌, ℕ, ◌+◌, List, ◌++◌, ap, ◌∙◌, append_assoc}

-- three fields after what there is
pub three_joined : (old a b new x y z : List ℕ) → a ≡ old ++ x → b ≡ a ++ y → new ≡ b ++ z → new ≡ old ++ (x ++ (y ++ z))
three_joined old a b new x y z e f g =
    g ∙ ap (λ (l : List ℕ). l ++ z) (f ∙ ap (λ (l : List ℕ). l ++ y) e ∙ append_assoc old x y) ∙ append_assoc old (x ++ y) z ∙ ap (λ (l : List ℕ). old ++ l) (append_assoc x y z)

-- five tables, one after the other
pub five_joined : (s t p f m ws w x y z : List ℕ) → s ≡ ws → t ≡ s ++ w → p ≡ t ++ x → f ≡ p ++ y → m ≡ f ++ z → m ≡ ws ++ (w ++ (x ++ (y ++ z)))
five_joined s t p f m ws w x y z a b c d e =
    e ∙ ap (λ (l : List ℕ). l ++ z) (d ∙ ap (λ (l : List ℕ). l ++ y) c ∙ append_assoc t x y)
    ∙ append_assoc t (x ++ y) z ∙ ap (λ (l : List ℕ). t ++ l) (append_assoc x y z)
    ∙ ap (λ (l : List ℕ). l ++ (x ++ (y ++ z))) (b ∙ ap (λ (l : List ℕ). l ++ w) a) ∙ append_assoc ws w (x ++ (y ++ z))
