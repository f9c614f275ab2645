-- The table of code points below 128 says of each what the page says, by computing over the table.
use Rattle.std.proofs.Common.{◌≡◌, ℕ, zero, suc, ◌+◌, ◌<◌, Bool, true, false, ◌&&◌, ◌||◌, not, List, [], ◌∷◌, length, get_or, refl, arith, nat_eq, nat_le, ◌↔◌, IsTrue, subst, sym, ap, ◌∙◌}
use Rattle.std.specs.Bool.{Decides}
use Rattle.std.proofs.lemmas.Bool.Decides.{nat_tests}
use Rattle.dex_base.specs.Descriptor.{IsNamePoint}
use Rattle.dex_base.specs.declared.simple_name.TheConstants.{LOW_POINTS}
use Rattle.std.proofs.lemmas.Bool.{and_parts}

-- a letter, a digit, `$`, `-` or `_`
abbrev pub is_low : ℕ → Bool
is_low c = (nat_le 65 c && nat_le c 90) || ((nat_le 97 c && nat_le c 122) || ((nat_le 48 c && nat_le c 57) || (nat_eq c 36 || (nat_eq c 45 || nat_eq c 95))))

pub is_low-decides : (c : ℕ) → c < 128 → Decides (is_low c) (IsNamePoint c)
is_low-decides c lt = grind (arith, nat_tests)

abbrev same : Bool → Bool → Bool
same true b = b
same false b = not b

same-is : (a b : Bool) → same a b ≡ true → a ≡ b
same-is true true e = refl
same-is false false e = refl
same-is true false e = absurd (cc)
same-is false true e = absurd (cc)

-- each byte is `.` exactly if its place is no such character, from a place on
abbrev says : ℕ → List ℕ → Bool
says c [] = true
says c (b ∷ bs) = same (not (nat_eq b 46)) (is_low c) && says (suc c) bs

all_say : says 0 LOW_POINTS ≡ true
all_say = refl

said : (c : ℕ) (bs : List ℕ) (i : ℕ) → says c bs ≡ true → i < length bs → not (nat_eq (get_or bs i 0) 46) ≡ is_low (i + c)
said c [] i e lt = absurd (omega arith)
said c (b ∷ bs) zero e lt = same-is (not (nat_eq b 46)) (is_low c) (and_parts _ _ e).0 ∙ ap is_low (let at : c ≡ 0 + c = omega arith in at)
said c (b ∷ bs) (suc i) e lt = said (suc c) bs i (and_parts _ _ e).1 (omega arith) ∙ ap is_low (let at : i + suc c ≡ suc i + c = omega arith in at)

pub low_points : (c : ℕ) → c < 128 → IsTrue (not (nat_eq (get_or LOW_POINTS c 0) 46)) ↔ IsNamePoint c
low_points c lt = let d = is_low-decides c lt in subst (λ (b : Bool). IsTrue b ↔ IsNamePoint c) (sym (said 0 LOW_POINTS c all_say lt ∙ ap is_low (let at : c + 0 ≡ c = omega arith in at))) (d.0, d.1)
