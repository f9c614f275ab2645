-- The sums of Adler-32 over rows of sixteen bytes, kept by columns.
use Rattle.std.proofs.Common.{◌≡◌, ℕ, zero, suc, ◌+◌, ◌*◌, ◌<◌, ◌≤◌, ◌^◌, List, [], ◌∷◌, ◌++◌, length, take, drop, get_or, sum, refl, ap, ◌∙◌, arith, mul-le-mul_left, mul-le-mul_right, take-add, Fits, w8, w32}
use Rattle.std.specs.Simd.Lanes.{zip2, Each2, sum_l, chunk, products}
use Rattle.std.proofs.lemmas.List.Sums.{sum_by-take-drop}
use Rattle.std.proofs.lemmas.List.{length-take, length-take-le, take_all}
use Rattle.std.proofs.lemmas.Simd.{sum-zip2, length-zip2, length-chunk}
use Rattle.dex_base.specs.Adler32.{weighted_sum}
use Rattle.dex_base.proofs.AdlerSums.{IsSummed, sum-append, sum-cons, weighted_sum-append}

sum_of_lanes : (xs : List ℕ) → sum_l xs ≡ sum xs
sum_of_lanes [] = refl
sum_of_lanes (x ∷ xs) = rw (sum-cons x xs) (omega (arith, sum_of_lanes xs))

weighted_sum-zip2 : (xs ys : List ℕ) → length xs ≡ length ys → weighted_sum (zip2 (λ a b. a + b) xs ys) ≡ weighted_sum xs + weighted_sum ys
weighted_sum-zip2 [] [] e = refl
weighted_sum-zip2 [] (y ∷ ys) e = absurd (omega arith)
weighted_sum-zip2 (x ∷ xs) [] e = absurd (omega arith)
weighted_sum-zip2 (x ∷ xs) (y ∷ ys) e =
    let same : length xs ≡ length ys = omega arith in
    let long = ap (λ n. (n + 1) * (x + y)) (length-zip2 (λ (a b : ℕ). a + b) xs ys same) in
    let weight = ap (λ n. (n + 1) * y) same in
    omega (arith, weighted_sum-zip2 xs ys same, long, weight)

-- ---- how great the sums may be

sum_take-le : (n : ℕ) (xs : List ℕ) → ((i : ℕ) → Fits w8 (get_or xs i 0)) → sum (take n xs) ≤ 255 * n
sum_take-le zero xs h = omega arith
sum_take-le (suc n) [] h = omega arith
sum_take-le (suc n) (x ∷ xs) h = rw (sum-cons x (take n xs)) (omega (arith, h 0, sum_take-le n xs (λ i. h (suc i))))

weighted_sum-le : (n : ℕ) (xs : List ℕ) → length xs ≤ n → weighted_sum xs ≤ n * sum xs
weighted_sum-le n [] h = omega arith
weighted_sum-le n (x ∷ xs) h =
    let most : (length xs + 1) * x ≤ n * x = mul-le-mul_right x (omega arith) in
    rw (sum-cons x xs) (omega (arith, most, weighted_sum-le n xs (omega arith)))

-- ---- the sum of a row, its bytes weighed one by one

-- from n down to 1
abbrev pub weights : ℕ → List ℕ
weights zero = []
weights (suc n) = suc n ∷ weights n

weighed : (n : ℕ) (xs : List ℕ) → length xs ≡ n → sum_l (products xs (weights n)) ≡ weighted_sum xs
weighed zero [] e = refl
weighed zero (x ∷ xs) e = absurd (omega arith)
weighed (suc n) [] e = absurd (omega arith)
weighed (suc n) (x ∷ xs) e =
    let long : length xs ≡ n = omega arith in
    omega (arith, weighed n xs long, ap (λ k. (k + 1) * x) long)

pub products_fit : (xs ys : List ℕ) → sum_l (products xs ys) < 2 ^ 32 → Each2 (λ a b. Fits w32 (a * b)) xs ys
products_fit [] ys h = tt
products_fit (x ∷ xs) [] h = tt
products_fit (x ∷ xs) (y ∷ ys) h = (record { fits = omega arith }, products_fit xs ys (omega arith))

-- ---- the loop over the rows

-- of the columns of the first i bytes: their sums, and those of what these were before each row
pub record AreColumns (bytes : List ℕ) (i : ℕ) (sums late : List ℕ) : Type 0 where
  pub sum_is : sum_l sums ≡ sum (take i bytes)
  pub weighted_is : 16 * sum_l late + weighted_sum sums ≡ weighted_sum (take i bytes)

pub columns_more : (bytes : List ℕ) (i j : ℕ) (sums late row : List ℕ) → AreColumns bytes i sums late
    → length sums ≡ 16 → length late ≡ 16 → j ≡ i + 16 → j ≤ length bytes → row ≡ chunk i 16 bytes
    → AreColumns bytes j (zip2 (λ a b. a + b) sums row) (zip2 (λ a b. a + b) late sums)
columns_more bytes i j sums late row s wide even next within is =
    let front = take i bytes in
    let more : take j bytes ≡ front ++ row = ap (λ n. take n bytes) next ∙ rw is (take-add i 16 bytes) in
    let long : length row ≡ 16 = ap length is ∙ length-chunk i 16 bytes (omega arith) in
    let added = ap (λ n. n * sum front) long in
    record {
      sum_is = rw (more, sum-append front row) (omega (arith, sum-zip2 sums row (omega arith), s.sum_is, sum_of_lanes row));
      weighted_is = rw (more, weighted_sum-append front row)
          (omega (arith, sum-zip2 late sums (omega arith), weighted_sum-zip2 sums row (omega arith), s.sum_is, s.weighted_is, added));
    }

-- the bounds of the sums, and of the sums of a row more
pub record AreSmall (bytes : List ℕ) (i : ℕ) (sums late : List ℕ) : Type 0 where
  pub sums_small : sum_l sums + sum_l (chunk i 16 bytes) ≤ 969000
  pub late_small : 16 * sum_l late + weighted_sum sums ≤ 3682200000

pub columns_small : (bytes : List ℕ) (i : ℕ) (sums late : List ℕ) → AreColumns bytes i sums late
    → length bytes ≤ 3800 → ((k : ℕ) → Fits w8 (get_or bytes k 0)) → AreSmall bytes i sums late
columns_small bytes i sums late s short fit =
    let all = sum_take-le 3800 bytes fit in
    let whole = ap sum (take_all 3800 bytes short) in
    let front = sum_by-take-drop (λ x. x) bytes i in
    let row = sum_by-take-drop (λ x. x) (drop i bytes) 16 in
    let weighted = weighted_sum-le 3800 (take i bytes) (omega (arith, length-take i bytes, short)) in
    record {
      sums_small = omega (arith, all, whole, front, row, s.sum_is, sum_of_lanes (chunk i 16 bytes));
      late_small = omega (arith, all, whole, front, weighted, s.weighted_is);
    }

-- ---- after the last row

-- the sums of all lanes, and their bounds
pub record AreTotals (bytes sums late : List ℕ) : Type 0 where
  pub sum_is : sum_l sums ≡ sum bytes
  pub weighted_is : 16 * sum_l late + sum_l (products sums (weights 16)) ≡ weighted_sum bytes
  pub sum_small : sum_l sums ≤ 969000
  pub weighted_small : 16 * sum_l late + sum_l (products sums (weights 16)) ≤ 3682200000

pub columns_all : (bytes : List ℕ) (i : ℕ) (sums late : List ℕ) → AreColumns bytes i sums late
    → length sums ≡ 16 → i ≡ length bytes → length bytes ≤ 3800 → ((k : ℕ) → Fits w8 (get_or bytes k 0)) → AreTotals bytes sums late
columns_all bytes i sums late s wide e short fit =
    let small = columns_small bytes i sums late s short fit in
    let weights = weighed 16 sums wide in
    let whole : take i bytes ≡ bytes = take_all i bytes (omega arith) in
    record {
      sum_is = s.sum_is ∙ ap sum whole;
      weighted_is = omega (arith, weights, s.weighted_is, ap weighted_sum whole);
      sum_small = omega (arith, small.sums_small);
      weighted_small = omega (arith, weights, small.late_small);
    }

-- where the loop over the bytes after them begins
pub summed_rows : (a b : ℕ) (bytes rows : List ℕ) (n x y : ℕ) → rows ≡ take n bytes → n ≤ length bytes → length bytes ≤ 3800 → a < 65521 → b < 65521
    → x ≡ a + sum rows → y ≡ b + length rows * a + weighted_sum rows → ((k : ℕ) → Fits w8 (get_or bytes k 0)) → IsSummed a b bytes n x y
summed_rows a b bytes rows n x y is within short a_small b_small x_is y_is fit =
    let long : length rows ≡ n = ap length is ∙ length-take-le n bytes within in
    let most : n * a ≤ n * 65520 = mul-le-mul_left n (omega arith) in
    let all = sum_take-le n bytes fit in
    let weighted = weighted_sum-le 3800 rows (omega arith) in
    record {
      a_is = omega (arith, x_is, ap sum is);
      b_is = omega (arith, y_is, ap weighted_sum is, ap (λ k. k * a) long);
      a_small = omega (arith, x_is, ap sum is, all);
      b_small = omega (arith, y_is, ap (λ k. k * a) long, ap sum is, most, all, weighted);
    }
