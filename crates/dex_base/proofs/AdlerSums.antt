-- The sums of Adler-32 over joined lists, and under the remainder.
use Rattle.std.proofs.Common.{lit<, ◌^◌, ◌≡◌, ℕ, ◌+◌, ◌*◌, ◌%◌, ◌<◌, ◌≤◌, List, [], ◌∷◌, ◌++◌, length, take, drop, get_or, sum, refl, sym, ap, ◌∙◌, arith}
use Rattle.std.proofs.lemmas.List.{length-append, length-drop, get_or-drop, take_more}
use Rattle.std.proofs.lemmas.List.Sums.{sum_by-append, sum_by-cons}
use Rattle.std.proofs.lemmas.Nat.{mul-mod_second}
use Rattle.std.proofs.Math.Nat.{mod-add-mod, add-mod-mod, mod-lt}
use Rattle.dex_base.specs.Adler32.{weighted_sum, adler32}

pub sum-append : (xs ys : List ℕ) → sum (xs ++ ys) ≡ sum xs + sum ys
sum-append xs ys = sum_by-append (λ x. x) xs ys

pub sum-cons : (x : ℕ) (xs : List ℕ) → sum (x ∷ xs) ≡ x + sum xs
sum-cons x xs = sum_by-cons (λ x. x) x xs

pub weighted_sum-append : (xs ys : List ℕ) → weighted_sum (xs ++ ys) ≡ weighted_sum xs + length ys * sum xs + weighted_sum ys
weighted_sum-append [] ys = omega arith
weighted_sum-append (x ∷ xs) ys =
    let n = ap (λ n. (n + 1) * x) (length-append xs ys) in
    rw (sum-cons x xs) (omega (arith, weighted_sum-append xs ys, n))

-- the sums over i bytes
pub record IsSummed (a b : ℕ) (bytes : List ℕ) (i : ℕ) (x y : ℕ) : Type 0 where
  pub a_is : x ≡ a + sum (take i bytes)
  pub b_is : y ≡ b + i * a + weighted_sum (take i bytes)
  pub a_small : x ≤ 65520 + 255 * i
  pub b_small : y ≤ 65520 + 1034520 * i

-- one byte more of those after the first n
pub summed_more : (a b : ℕ) (bytes rest : List ℕ) (n k x y byte : ℕ) → IsSummed a b bytes (n + k) x y → rest ≡ drop n bytes → k < length rest → n + k < 3800
    → byte ≡ get_or rest k 0 → get_or bytes (n + k) 0 < 256 → IsSummed a b bytes (n + (k + 1)) (x + byte) (y + (x + byte))
summed_more a b bytes rest n k x y byte s back h small is fits =
    let front = take (n + k) bytes in
    let within : n + k < length bytes = omega (arith, ap length back, length-drop n bytes) in
    let same : byte ≡ get_or bytes (n + k) 0 = is ∙ ap (λ xs. get_or xs k 0) back ∙ get_or-drop n bytes k 0 in
    let next : n + (k + 1) ≡ n + k + 1 = omega arith in
    let more : take (n + (k + 1)) bytes ≡ front ++ (byte ∷ []) = ap (λ i. take i bytes) next ∙ rw same (take_more bytes (n + k) 0 within) in
    record {
      a_is = rw (more, sum-append front (byte ∷ []), s.a_is) (omega arith);
      b_is = rw (more, weighted_sum-append front (byte ∷ []), s.a_is, s.b_is) (omega arith);
      a_small = omega (arith, s.a_small);
      b_small = omega (arith, s.a_small, s.b_small);
    }

-- ---- the outer loop: what the rest still adds

abbrev pub a_after : ℕ → List ℕ → ℕ
a_after a xs = (a + sum xs) % 65521

abbrev pub b_after : ℕ → ℕ → List ℕ → ℕ
b_after a b xs = (b + length xs * a + weighted_sum xs) % 65521

pub a_joined : (a : ℕ) (xs ys : List ℕ) → a_after ((a + sum xs) % 65521) ys ≡ a_after a (xs ++ ys)
a_joined a xs ys = rw (sum-append xs ys, mod-add-mod (a + sum xs) 65521 (sum ys)) (ap (λ n. n % 65521) (omega arith))

-- one sum, as the code reduces it
reduced : (b n a w : ℕ) → (b % 65521 + n * (a % 65521) + w) % 65521 ≡ (b + n * a + w) % 65521
reduced b n a w =
    let one : (b % 65521 + n * (a % 65521) + w) % 65521 ≡ (b + (n * (a % 65521) + w)) % 65521 = ap (λ k. k % 65521) (omega arith) ∙ mod-add-mod b 65521 (n * (a % 65521) + w) in
    let two : (b + (n * (a % 65521) + w)) % 65521 ≡ ((b + w) + n * (a % 65521)) % 65521 = ap (λ k. k % 65521) (omega arith) in
    let three : ((b + w) + n * (a % 65521)) % 65521 ≡ ((b + w) + (n * (a % 65521)) % 65521) % 65521 = sym (add-mod-mod (b + w) (n * (a % 65521)) 65521) in
    let four : ((b + w) + (n * (a % 65521)) % 65521) % 65521 ≡ ((b + w) + (n * a) % 65521) % 65521 = ap (λ k. ((b + w) + k) % 65521) (mul-mod_second n a 65521) in
    let five : ((b + w) + (n * a) % 65521) % 65521 ≡ ((b + w) + n * a) % 65521 = add-mod-mod (b + w) (n * a) 65521 in
    let six : ((b + w) + n * a) % 65521 ≡ (b + n * a + w) % 65521 = ap (λ k. k % 65521) (omega arith) in
    one ∙ two ∙ three ∙ four ∙ five ∙ six

pub b_joined : (a b : ℕ) (xs ys : List ℕ) → b_after ((a + sum xs) % 65521) ((b + length xs * a + weighted_sum xs) % 65521) ys ≡ b_after a b (xs ++ ys)
b_joined a b xs ys =
    reduced (b + length xs * a + weighted_sum xs) (length ys) (a + sum xs) (weighted_sum ys)
    ∙ ap (λ k. k % 65521) (omega (arith, weighted_sum-append xs ys, ap (λ n. n * a) (length-append xs ys)))

-- what is still to be added completes the sums
pub record IsCompleted (bytes rest : List ℕ) (a b : ℕ) : Type 0 where
  pub a_small : a < 65521
  pub b_small : b < 65521
  pub a_is : a_after a rest ≡ a_after 1 bytes
  pub b_is : b_after a b rest ≡ b_after 1 0 bytes

pub completed_more : (bytes piece after rest : List ℕ) (a b x y : ℕ) → IsCompleted bytes rest a b → rest ≡ piece ++ after
    → x ≡ a + sum piece → y ≡ b + length piece * a + weighted_sum piece → IsCompleted bytes after (x % 65521) (y % 65521)
completed_more bytes piece after rest a b x y s parts x_is y_is = record {
  a_small = omega arith;
  b_small = omega arith;
  a_is = rw x_is (a_joined a piece after) ∙ ap (a_after a) (sym parts) ∙ s.a_is;
  b_is = rw (x_is, y_is) (b_joined a b piece after) ∙ ap (b_after a b) (sym parts) ∙ s.b_is;
}

pub completed_all : (bytes rest : List ℕ) (a b : ℕ) → IsCompleted bytes rest a b → rest ≡ [] → b * 65536 + a ≡ adler32 bytes
unfolding adler32
completed_all bytes [] a b s e =
    let x : a ≡ (1 + sum bytes) % 65521 = omega (arith, s.a_is, s.a_small) in
    let y : b_after 1 0 bytes ≡ (length bytes + weighted_sum bytes) % 65521 = ap (λ k. k % 65521) (omega arith) in
    let z : b ≡ (length bytes + weighted_sum bytes) % 65521 = omega (arith, s.b_is, s.b_small, y) in
    rw (x, z) refl
completed_all bytes (r ∷ rest) a b s e = absurd cc

pub adler32-fits : (xs : List ℕ) → adler32 xs < 2 ^ 32
unfolding adler32
adler32-fits xs =
    omega (arith, mod-lt (length xs + weighted_sum xs) {m = 65521} (lit< tt), mod-lt (1 + sum xs) {m = 65521} (lit< tt))
