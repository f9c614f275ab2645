-- Sequences of bytes, one byte after the other.
use Rattle.std.proofs.Common.{add-one, ◌≡◌, ℕ, ◌+◌, ◌*◌, ◌%◌, ◌^◌, ◌<◌, ◌≤◌, List, [], ◌∷◌, ◌++◌, length, take, get_or, refl, subst, arith}
use Rattle.std.proofs.Math.Nat.{pow-suc, pow-le-pow_right}
use Rattle.std.proofs.lemmas.Nat.{mul-le}
use Rattle.std.proofs.lemmas.List.{take_more, length-take-le}
use Rattle.dex_base.specs.Leb128.{IsSequence, low_first}
use Rattle.dex_base.specs.inner.Sequence.{IsWhole}

-- each byte has its top bit set, so a sequence goes on after them
abbrev pub IsOpen : List ℕ → Type 0
IsOpen [] = Unit {0}
IsOpen (b ∷ bs) = (128 ≤ b) × IsOpen bs

pub IsOpen-push : (xs : List ℕ) (b : ℕ) → IsOpen xs → 128 ≤ b → IsOpen (xs ++ b ∷ [])
IsOpen-push [] b o h = (h, tt)
IsOpen-push (x ∷ xs) b o h = (o.0, IsOpen-push xs b o.1 h)

pub IsSequence-push : (xs : List ℕ) (b : ℕ) → IsOpen xs → b < 128 → IsSequence (xs ++ b ∷ [])
IsSequence-push [] b o h = h
IsSequence-push (x ∷ []) b o h = (o.0, h)
IsSequence-push (x ∷ y ∷ xs) b o h = (o.0, IsSequence-push (y ∷ xs) b o.1 h)

pub low_first-push : (xs : List ℕ) (b : ℕ) → low_first (xs ++ b ∷ []) ≡ low_first xs + (b % 128) * 128 ^ length xs
low_first-push [] b = omega arith
low_first-push (x ∷ xs) b = rw pow-suc (omega (arith, low_first-push xs b))

pub low_first_below : (xs : List ℕ) → low_first xs < 128 ^ length xs
low_first_below [] = omega arith
low_first_below (x ∷ xs) = omega (arith, low_first_below xs, pow-suc 128 (length xs))

-- the loop has read i bytes
pub record IsRead (bytes : List ℕ) (i number scale : ℕ) : Type 0 where
  pub inside : i ≤ length bytes
  pub goes_on : IsOpen (take i bytes)
  pub number_is : number ≡ low_first (take i bytes)
  pub scale_is : scale ≡ 128 ^ i

pub scale_small : (i scale : ℕ) → i < 5 → scale ≡ 128 ^ i → scale ≤ 268435456
scale_small i scale h e = let p : 0 < 128 = omega arith in let q : i ≤ 4 = omega arith in let k : 128 ^ i ≤ 128 ^ 4 = pow-le-pow_right p q in omega arith

pub number_small : (bytes : List ℕ) (i number scale : ℕ) → IsRead bytes i number scale → number < scale
number_small bytes i number scale r =
    rw (r.number_is, r.scale_is) (subst (λ n. low_first (take i bytes) < 128 ^ n) (length-take-le i bytes r.inside) (low_first_below (take i bytes)))

-- one byte more
pub number_more : (bytes : List ℕ) (i number scale : ℕ) → IsRead bytes i number scale → i < length bytes
    → number + (get_or bytes i 0 % 128) * scale ≡ low_first (take (i + 1) bytes)
number_more bytes i number scale r h =
    rw (take_more bytes i 0 h, low_first-push (take i bytes) (get_or bytes i 0), length-take-le i bytes r.inside, r.scale_is, r.number_is) refl

pub scale_more : (i scale : ℕ) → scale ≡ 128 ^ i → scale * 128 ≡ 128 ^ (i + 1)
scale_more i scale e = rw (add-one, pow-suc, e) refl

pub read_more : (bytes : List ℕ) (i number scale : ℕ) → IsRead bytes i number scale → i < length bytes → 128 ≤ get_or bytes i 0
    → IsRead bytes (i + 1) (number + (get_or bytes i 0 % 128) * scale) (scale * 128)
read_more bytes i number scale r h high = record {
  inside = omega arith;
  goes_on = rw (take_more bytes i 0 h) (IsOpen-push (take i bytes) (get_or bytes i 0) r.goes_on high);
  number_is = number_more bytes i number scale r h;
  scale_is = scale_more i scale r.scale_is;
}

pub read_last : (bytes : List ℕ) (i number scale : ℕ) → IsRead bytes i number scale → i < length bytes → i < 5 → get_or bytes i 0 < 128
    → IsWhole bytes (i + 1) (number + (get_or bytes i 0 % 128) * scale) (scale * 128)
read_last bytes i number scale r h short low = record {
  inside = omega arith;
  short = omega arith;
  some = omega arith;
  sequence = rw (take_more bytes i 0 h) (IsSequence-push (take i bytes) (get_or bytes i 0) r.goes_on low);
  number_is = number_more bytes i number scale r h;
  scale_is = scale_more i scale r.scale_is;
  below = let b = number_small bytes i number scale r in let m = mul-le (get_or bytes i 0 % 128) scale 127 scale (omega arith) (omega arith) in omega arith;
  small = omega (arith, scale_small i scale short r.scale_is);
}
