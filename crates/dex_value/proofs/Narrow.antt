-- The fewest bytes of a number.
use Rattle.std.proofs.Common.{◌≡◌, ℕ, zero, suc, ℤ, pos, negsuc, ◌-ℤ◌, if◌then◌else◌, ◌+◌, ◌*◌, ◌-◌, ◌/◌, ◌%◌, ◌^◌, ◌<◌, ◌≤◌, inl, inr, nat_lt, true, false, List, [], ◌++◌, length, take, slice_index, refl, sym, ap, subst, ◌∙◌, lit<, lit≤, arith}
use Rattle.std.proofs.Math.Nat.{pow-succ', mul-suc, mul_comm, mul-mod_left, mod-lt, mod-eq-sub-div-mul, div-mul-le_self, mul-add-mod_self_right, mod-eq_of_lt, one-le-pow}
use Rattle.std.proofs.lemmas.Bool.Decides.{nat_tests}
use Rattle.std.proofs.lemmas.Bool.{cases_lt}
use Rattle.std.proofs.lemmas.Int.{ints}
use Rattle.std.proofs.lemmas.List.{append-nil, take_at}
use Rattle.std.proofs.lemmas.Nat.{pow-add, div_below}
use mir.Val.{of_z}
use mir.Syntax.{w64}
use Rattle.std.specs.Int.{bytes_low_first}
use Rattle.byteorder.specs.Endian.{twos_complement, little_number, little_bytes}
use Rattle.byteorder.specs.Numbers.{little_from-lt, little_number-reads_back, length-bytes_low_first}
use Rattle.dex_base.specs.Leb128.{Shortest}
use Rattle.dex_value.specs.Spelling.{Sized, unsigned_of, signed_of, high_of}
use Rattle.dex_value.specs.Writing.{UnsignedAs}
use Rattle.dex_value.specs.inner.Writing.{IsNumberWidth, IsHighWidth, magnitude_of, sized, SignedAs, HighAs}
use Rattle.dex_value.proofs.Ranges.{power_most, power_some}

-- a number of at least 256 ^ j doesn't fit j bytes
above : (j k n : ℕ) → 256 ^ j ≤ n → n < 256 ^ k → j < k
above j k n low high = elim (cases_lt j k) [
  | inl less ↦ less
  | inr more ↦ let p = power_most k j more in absurd (omega (arith, low, high, p))
]

pub width_more : (n j : ℕ) → suc j ≤ 8 → 256 ^ j ≤ n → n < 256 ^ suc j → IsNumberWidth n (suc j)
width_more n j few low high = record { some = omega arith; few = few; fits = high; least = λ k some fits. above j k n low fits }

-- ---- in two's complement

pow-suc_left : (a k : ℕ) → a ^ suc k ≡ a * a ^ k
pow-suc_left a k = pow-succ' a k

eight : (k : ℕ) → 2 ^ (8 * k) ≡ 256 ^ k
eight zero = refl
eight (suc k) =
    let e : 8 * suc k ≡ 8 + 8 * k = omega arith in
    ap (λ n. 2 ^ n) e ∙ pow-add 2 8 (8 * k) ∙ ap (λ n. 256 * n) (eight k) ∙ sym (pow-suc_left 256 k)

half : (k : ℕ) → 0 < k → 2 * 2 ^ (8 * k - 1) ≡ 256 ^ k
half k some =
    let e : suc (8 * k - 1) ≡ 8 * k = omega arith in
    sym (pow-suc_left 2 (8 * k - 1)) ∙ ap (λ n. 2 ^ n) e ∙ eight k

two_size : (h p q x : ℕ) → p ≡ q → 2 * h ≡ q → x < q → 2 * magnitude_of (if nat_lt x h then pos x else pos x -ℤ pos p) < q
two_size h p q x e f below = elim (cases_lt x h) [
  | inl low ↦ let t : nat_lt x h ≡ true = grind (arith, nat_tests) in rw t (omega arith)
  | inr high ↦
      let t : nat_lt x h ≡ false = grind (arith, nat_tests) in
      let z : pos x -ℤ pos p ≡ negsuc (p - x - 1) = omega (arith, ints, e, f, below) in
      rw (t, z) (omega arith)
]

-- a number of so many bytes is that far from 0
pub twos_size : (k x : ℕ) → 0 < k → x < 256 ^ k → 2 * magnitude_of (twos_complement k x) < 256 ^ k
twos_size k x some h = let e = eight k in let f = half k some in two_size (2 ^ (8 * k - 1)) (2 ^ (8 * k)) (256 ^ k) x e f h

low_pos : (h p m : ℕ) → m < h → p ≡ 2 * h → (if nat_lt (m % p) h then pos (m % p) else pos (m % p) -ℤ pos p) ≡ pos m
low_pos h p m small e =
    let same : m % p ≡ m = mod-eq_of_lt (omega arith) in
    let t : nat_lt m h ≡ true = grind (arith, nat_tests) in
    rw (same, t) refl

-- the complement within the low bytes
wrap : (p q m : ℕ) → suc m ≤ p → (p * suc q - suc m) % p ≡ p - suc m
wrap p q m small =
    let e : p * suc q - suc m ≡ q * p + (p - suc m) = let k = mul-suc p q in let l = mul_comm p q in omega (arith, k, l) in
    ap (λ n. n % p) e ∙ mul-add-mod_self_right q p (p - suc m) ∙ mod-eq_of_lt (omega arith)

low_neg : (h p q m : ℕ) → m < h → p ≡ 2 * h → 2 ^ 64 ≡ p * suc q → (if nat_lt ((2 ^ 64 - suc m) % p) h then pos ((2 ^ 64 - suc m) % p) else pos ((2 ^ 64 - suc m) % p) -ℤ pos p) ≡ negsuc m
low_neg h p q m small e whole =
    let same : (2 ^ 64 - suc m) % p ≡ p - suc m = ap (λ n. (n - suc m) % p) whole ∙ wrap p q m (omega arith) in
    let t : nat_lt (p - suc m) h ≡ false = grind (arith, nat_tests) in
    let z : pos (p - suc m) -ℤ pos p ≡ negsuc m = omega (arith, ints, small, e) in
    rw (same, t) z

power_whole : (w : ℕ) → w ≤ 8 → 2 ^ 64 ≡ 2 ^ (8 * w) * suc (2 ^ (64 - 8 * w) - 1)
power_whole w few =
    let a : 2 ^ 64 ≡ 2 ^ (8 * w) * 2 ^ (64 - 8 * w) = ap (λ n. 2 ^ n) (let e : 64 ≡ 8 * w + (64 - 8 * w) = omega arith in e) ∙ pow-add 2 (8 * w) (64 - 8 * w) in
    let some = one-le-pow (64 - 8 * w) 2 (lit≤ tt) in
    let b : 2 ^ (64 - 8 * w) ≡ suc (2 ^ (64 - 8 * w) - 1) = omega (arith, some) in
    a ∙ ap (λ n. 2 ^ (8 * w) * n) b

-- the number of the low bytes of a number that they hold
pub twos_low : (w : ℕ) (n : ℤ) → 0 < w → w ≤ 8 → 2 * magnitude_of n < 256 ^ w → twos_complement w (of_z w64 n % 2 ^ (8 * w)) ≡ n
twos_low w (pos m) some few h = let e = eight w in let f = half w some in low_pos (2 ^ (8 * w - 1)) (2 ^ (8 * w)) m (omega (arith, h, e, f)) (omega (arith, f, e))
twos_low w (negsuc m) some few h = let e = eight w in let f = half w some in low_neg (2 ^ (8 * w - 1)) (2 ^ (8 * w)) (2 ^ (64 - 8 * w) - 1) m (omega (arith, h, e, f)) (omega (arith, f, e)) (power_whole w few)

-- ---- bytes of numbers

byte_small : (i n x : ℕ) → (k : ℕ) → slice_index (bytes_low_first i n x) k < 256
byte_small i zero x k = lit< tt
byte_small zero (suc n) x zero = omega arith
byte_small (suc i) (suc n) x zero = let b = mod-lt (x / 256 ^ suc i) {m = 256} (lit< tt) in omega (arith, b)
byte_small i (suc n) x (suc k) = byte_small (suc i) n x k

pub little_small : (n x : ℕ) (k : ℕ) → slice_index (little_bytes n x) k < 256
little_small n x k = byte_small 0 n x k

pub little_length : (n x : ℕ) → length (little_bytes n x) ≡ n
little_length n x = length-bytes_low_first 0 n x

-- the number of a number's bytes
pub little_reads : (n x : ℕ) → x < 256 ^ n → little_number n (little_bytes n x) ≡ x
little_reads n x h = ap (little_number n) (sym (append-nil (little_bytes n x))) ∙ little_number-reads_back n x [] h

-- a number in so many bytes
pub unsigned_low : (n x : ℕ) → x < 256 ^ n → unsigned_of (little_bytes n x) ≡ x
unfolding unsigned_of
unsigned_low n x h = ap (λ k. little_number k (little_bytes n x)) (little_length n x) ∙ little_reads n x h

low_below : (w c : ℕ) → c % 2 ^ (8 * w) < 256 ^ w
low_below w c = let e = eight w in let p = power_some w in let m = mod-lt c {m = 2 ^ (8 * w)} (omega (arith, e, p)) in omega (arith, e, m)

pub signed_low : (w : ℕ) (n : ℤ) → 0 < w → w ≤ 8 → 2 * magnitude_of n < 256 ^ w → signed_of (little_bytes w (of_z w64 n % 2 ^ (8 * w))) ≡ n
unfolding signed_of
signed_low w n some few h =
    let x = of_z w64 n % 2 ^ (8 * w) in
    ap (λ k. twos_complement k (little_number k (little_bytes w x))) (little_length w x) ∙ ap (twos_complement w) (little_reads w x (low_below w (of_z w64 n))) ∙ twos_low w n some few h

-- bits that end in zeros, of the high ones
high_means : (bits q x w z : ℕ) (low : List ℕ) → length low ≡ w → q ≡ 256 ^ z → x < 256 ^ w → bits % q ≡ 0 → x ≡ bits / q → low ≡ little_bytes w x → bits ≡ little_number (length low) low * 256 ^ z
high_means bits q x w z low len scale small zeros is e =
    let n : little_number (length low) low ≡ x = ap (λ k. little_number k low) len ∙ ap (little_number w) e ∙ little_reads w x small in
    let d = mod-eq-sub-div-mul bits q in
    let below : bits / q * q ≤ bits = div-mul-le_self bits q in
    let exact : bits ≡ bits / q * q = omega (arith, d, zeros, below) in
    exact ∙ ap (λ k. k * q) (sym is ∙ sym n) ∙ ap (λ k. little_number (length low) low * k) scale

-- ---- the shortest spellings

module _ (code widest w : ℕ) where
  -- the bytes of x, where they mean it and no fewer do
  shortest_sized : {V : Type 0} (Means : V → List ℕ → Type 0) (v : V) (x : ℕ) (low : List ℕ) → 0 < w → w ≤ widest → low ≡ little_bytes w x → Means v (little_bytes w x)
      → ((other : List ℕ) → ((i : ℕ) → slice_index other i < 256) → 0 < length other → length other ≤ widest → Means v other → w ≤ length other)
      → Shortest (λ bytes u. Sized code widest (Means u) bytes) (sized code low) v
  shortest_sized Means v x low some few e means least =
      let len = little_length w x in
      subst (λ (l : List ℕ). Shortest (λ bytes u. Sized code widest (Means u) bytes) (sized code l) v) (sym e) (record {
        spelled = record {
          low = little_bytes w x;
          some = omega (arith, len, some);
          few = omega (arith, len, few);
          bytes = little_small w x;
          joined = refl;
          means = means;
        };
        least = λ other o.
            let k = least o.low o.bytes o.some o.few o.means in
            let j = ap length o.joined in
            omega (arith, k, len, j);
      })

  pub shortest_unsigned : (n : ℕ) (low : List ℕ) → IsNumberWidth n w → 0 < widest → n < 256 ^ widest → low ≡ little_bytes w n → Shortest (UnsignedAs code widest) (sized code low) n
  unfolding unsigned_of
  shortest_unsigned n low is some fits e =
      shortest_sized (λ v bytes. v ≡ unsigned_of bytes) n n low is.some (is.least widest some fits) e (sym (unsigned_low w n is.fits))
      (λ other are more few m.
      let b = little_from-lt 0 (length other) other are in
      is.least (length other) more (omega (arith, b, m)))

  pub shortest_signed : (n : ℤ) (low : List ℕ) → IsNumberWidth (2 * magnitude_of n) w → 0 < widest → 2 * magnitude_of n < 256 ^ widest → low ≡ little_bytes w (of_z w64 n % 2 ^ (8 * w)) → Shortest (SignedAs code widest) (sized code low) n
  unfolding signed_of
  shortest_signed n low is some fits e =
      shortest_sized (λ v bytes. v ≡ signed_of bytes) n (of_z w64 n % 2 ^ (8 * w)) low is.some (is.least widest some fits) e (sym (signed_low w n is.some is.few is.fits))
      (λ other are more few m.
      let b = little_from-lt 0 (length other) other are in
      let s = twos_size (length other) (little_number (length other) other) more b in
      let size : magnitude_of n ≡ magnitude_of (twos_complement (length other) (little_number (length other) other)) = ap magnitude_of m in
      is.least (length other) more (omega (arith, s, size)))

  pub shortest_high : (bits : ℕ) (low : List ℕ) → IsHighWidth bits widest w → bits < 256 ^ widest → low ≡ little_bytes w (bits / 256 ^ (widest - w)) → Shortest (HighAs code widest) (sized code low) bits
  unfolding high_of
  shortest_high bits low is fits e =
      let few = is.few in
      let q = 256 ^ (widest - w) in
      let x = bits / q in
      let whole : 256 ^ w * q ≡ 256 ^ widest = sym (pow-add 256 w (widest - w)) ∙ ap (λ k. 256 ^ k) (omega (arith, few)) in
      let small : x < 256 ^ w = div_below bits q (256 ^ w) (power_some (widest - w)) (let c = mul_comm (256 ^ w) q in omega (arith, fits, whole, c)) in
      let len = little_length w x in
      shortest_sized (λ v high. v ≡ high_of widest high) bits x low is.some few e
      (high_means bits q x w (widest - length (little_bytes w x)) (little_bytes w x) len (ap (λ k. 256 ^ (widest - k)) (sym len)) small is.zeros refl refl)
      (λ other are more few m.
      let h = mul-mod_left (little_number (length other) other) (256 ^ (widest - length other)) in
      is.least (length other) more few (ap (λ k. k % 256 ^ (widest - length other)) m ∙ h))

-- the bytes of a number at the front of a buffer
pub low_is : (w x : ℕ) (buffer rest : List ℕ) → buffer ≡ little_bytes w x ++ rest → take w buffer ≡ little_bytes w x
low_is w x buffer rest e = ap (take w) e ∙ take_at (little_bytes w x) rest w (little_length w x)

-- the high bytes of a number fit as many
pub high_fits : (bits full w p : ℕ) → w ≤ full → bits < 256 ^ full → p ≡ 256 ^ (full - w) → bits / p < 256 ^ w
high_fits bits full w p few fits e =
    let whole : 256 ^ w * 256 ^ (full - w) ≡ 256 ^ full = sym (pow-add 256 w (full - w)) ∙ ap (λ k. 256 ^ k) (omega (arith, few)) in
    rw e (div_below bits (256 ^ (full - w)) (256 ^ w) (power_some (full - w)) (omega (arith, fits, whole)))
