-- Bits and bytes in hexadecimal.
use Rattle.std.proofs.Common.{◌≡◌, ℕ, ◌+◌, ◌*◌, ◌^◌, ◌<◌, ◌≤◌, List, [], ◌∷◌, ◌++◌, length, refl, sym, ◌∙◌, append_assoc, arith}
use Rattle.std.specs.Prelude.{Option, Some, None, SomeIff, IfNone}
use Rattle.std.specs.Str.Parse.{IsNumeral, AllDigits, digits_value}
use Rattle.std.specs.Char.{digit_value}
use Rattle.std.proofs.lemmas.Int.Digits.{digits_value-lt}
use Rattle.std.proofs.Math.Nat.{pow-le-pow_right}
use Rattle.std.proofs.lemmas.List.{append-nil}
use Rattle.listing_words.specs.Numbers.{SpellsBits, SpellsElements}

pub bits_small : (count : ℕ) (w : List ℕ) → count ≤ 16 → length w ≡ count → AllDigits 16 w → digits_value 16 w ≤ 18446744073709551615
bits_small count w h e a =
    let l = digits_value-lt 16 w a in
    let p : 16 ^ length w ≤ 16 ^ 16 = pow-le-pow_right {n = 16} (omega arith) {i = length w} {j = 16} (omega arith) in
    omega arith

pub elements_one : (w bs cs : List ℕ) → SpellsElements w bs → SpellsElements w cs → bs ≡ cs
elements_one [] bs cs p q = p ∙ sym q
elements_one (a ∷ []) bs cs p q = absurd p
elements_one (a ∷ b ∷ ds) bs cs (h, k, (x, m, e)) (i, l, (y, n, f)) = e ∙ rw (elements_one ds x y m n) (sym f)

pub bits_one : (count : ℕ) (w : List ℕ) (m n : ℕ) → SpellsBits count w m → SpellsBits count w n → m ≡ n
bits_one count w m n p q = p.number ∙ sym q.number

pub bits_numeral : (count : ℕ) (w : List ℕ) (n : ℕ) → 0 < count → count ≤ 16 → SpellsBits count w n → IsNumeral 16 w × (digits_value 16 w ≤ 18446744073709551615)
bits_numeral count w n h k b = ((let e = b.many in omega arith, b.digits), bits_small count w k b.many b.digits)

-- one pair more
pub elements_pair : (a b : ℕ) (ds more : List ℕ) → digit_value a < 16 → digit_value b < 16 → SpellsElements ds more → SpellsElements (a ∷ b ∷ ds) ((digit_value a * 16 + digit_value b) ∷ more)
elements_pair a b ds more h k s = (h, k, (more, s, refl))

pub elements_tail : (a b : ℕ) (ds bs : List ℕ) → SpellsElements (a ∷ b ∷ ds) bs → (more : List ℕ) × SpellsElements ds more
elements_tail a b ds bs (h, k, (more, m, e)) = (more, m)

pub elements_more : (w rest done : List ℕ) (a b : ℕ) (ds : List ℕ) → rest ≡ a ∷ b ∷ ds → digit_value a < 16 → digit_value b < 16 → ((more : List ℕ) → SpellsElements rest more → SpellsElements w (done ++ more))
    → (more : List ℕ) → SpellsElements ds more → SpellsElements w ((done ++ (digit_value a * 16 + digit_value b) ∷ []) ++ more)
elements_more w rest done a b ds e h k f more s = rw (append_assoc done ((digit_value a * 16 + digit_value b) ∷ []) more) (f ((digit_value a * 16 + digit_value b) ∷ more) (rw e (elements_pair a b ds more h k s)))

pub elements_less : (rest : List ℕ) (a b : ℕ) (ds bs : List ℕ) → rest ≡ a ∷ b ∷ ds → SpellsElements rest bs → (more : List ℕ) × SpellsElements ds more
elements_less rest a b ds bs e s = elements_tail a b ds bs (rw e at s)

pub bits_none : (count : ℕ) (w : List ℕ) (r : Option ℕ) → 0 < count → count ≤ 16 → SomeIff r (IsNumeral 16 w × (digits_value 16 w ≤ 18446744073709551615)) (digits_value 16 w) → IfNone r ((n : ℕ) → SpellsBits count w n → ⊥)
bits_none count w None a b h = λ n s. h (bits_numeral count w n a b s)
bits_none count w (Some n) a b h = tt

pub elements_end : (w rest done : List ℕ) → length rest ≡ 0 → ((more : List ℕ) → SpellsElements rest more → SpellsElements w (done ++ more)) → SpellsElements w done
elements_end w [] done e f = rw append-nil at (f [] refl)
elements_end w (x ∷ rest) done e f = absurd (omega arith)

pub digit_small : (n c : ℕ) → n ≡ digit_value c → n < 16 → digit_value c < 16
digit_small n c e h = rw (← e) h
