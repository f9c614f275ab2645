-- The bytes of units, as they stand and as they are written.
use Rattle.std.proofs.Common.{◌≡◌, ℕ, suc, ◌+◌, ◌*◌, ◌/◌, ◌%◌, ◌<◌, ◌≤◌, ◌++◌, ◌≡◌, List, [], ◌∷◌, length, take, drop, get_or, refl, sym, ap, ◌∙◌, ⊎_elim, arith, length-take-le, drop-cons, add-one}
use Rattle.std.proofs.lemmas.List.{take-append-drop, drop-drop}
use Rattle.std.proofs.Math.Seq.{set-append_seam}
use Rattle.std.proofs.Math.ListN.{set}
use Rattle.std.specs.Int.{cast_unsigned, w8, w16, w32, w64}
use Rattle.std.proofs.lemmas.Int.{ints}
use Rattle.std.proofs.lemmas.Bool.Decides.{nat_tests}
use Rattle.dex_base.specs.Fields.{AreBytes, u32_bytes}
use Rattle.dex_insn.specs.Fields.{number, field, signed}
use Rattle.dex_insn.specs.RawInsns.{register, IsElementWidth}
use Rattle.dex_insn.specs.Written.{bytes_of}
use Rattle.file_renumber.specs.inner.InPlace.{named_unit, with_named}
use Rattle.dex_insn.proofs.Fits.{register-fits}

-- ---- signed numbers: their bits are those that were read

pub nibble_bits : (n : ℕ) → n < 16 → cast_unsigned w8 (signed 4 n) % 16 ≡ n
nibble_bits n h = grind (arith, ints, nat_tests)

pub byte_bits : (n : ℕ) → n < 256 → cast_unsigned w8 (signed 8 n) ≡ n
byte_bits n h = grind (arith, ints, nat_tests)

pub wide_byte_bits : (n : ℕ) → n < 256 → cast_unsigned w32 (signed 8 n) % 256 ≡ n
wide_byte_bits n h = grind (arith, ints, nat_tests)

pub half_bits : (n : ℕ) → n < 65536 → cast_unsigned w16 (signed 16 n) ≡ n
half_bits n h = grind (arith, ints, nat_tests)

pub wide_half_bits : (n : ℕ) → n < 65536 → cast_unsigned w32 (signed 16 n) % 65536 ≡ n
wide_half_bits n h = grind (arith, ints, nat_tests)

pub word_bits : (n : ℕ) → n < 4294967296 → cast_unsigned w32 (signed 32 n) ≡ n
word_bits n h = grind (arith, ints, nat_tests)

pub long_bits : (n : ℕ) → n < 18446744073709551616 → cast_unsigned w64 (signed 64 n) ≡ n
long_bits n h = grind (arith, ints, nat_tests)

-- ---- units that are written as they stand

one_unit : (a b a' b' : ℕ) (xs ys : List ℕ) → a ≡ a' → b ≡ b' → xs ≡ ys → a ∷ b ∷ xs ≡ a' ∷ b' ∷ ys
one_unit a b a' b' xs ys p q r = cc

pub kept_1 : (us : List ℕ) (u : ℕ) → AreBytes us → 2 ≤ length us → u ≡ number us 0 1 → bytes_of (u ∷ []) ++ drop 2 us ≡ us
unfolding number
kept_1 (a ∷ b ∷ rest) u are l e =
    let p = are 0 in let q = are 1 in
    one_unit (u % 256) (u / 256 % 256) a b rest rest (omega arith) (omega arith) refl
kept_1 _ u are l e = absurd (omega arith)

pub kept_2 : (us : List ℕ) (u v : ℕ) → AreBytes us → 4 ≤ length us → u ≡ number us 0 1 → v ≡ number us 1 1 → bytes_of (u ∷ v ∷ []) ++ drop 4 us ≡ us
unfolding number
kept_2 (a ∷ b ∷ c ∷ d ∷ rest) u v are l e f =
    let p = are 0 in let q = are 1 in let r = are 2 in let s = are 3 in
    one_unit (u % 256) (u / 256 % 256) a b _ _ (omega arith) (omega arith) (one_unit (v % 256) (v / 256 % 256) c d rest rest (omega arith) (omega arith) refl)
kept_2 _ u v are l e f = absurd (omega arith)

pub kept_3 : (us : List ℕ) (u v w : ℕ) → AreBytes us → 6 ≤ length us → u ≡ number us 0 1 → v ≡ number us 1 1 → w ≡ number us 2 1 → bytes_of (u ∷ v ∷ w ∷ []) ++ drop 6 us ≡ us
unfolding number
kept_3 (a ∷ b ∷ c ∷ d ∷ e ∷ f ∷ rest) u v w are l p q r =
    let p0 = are 0 in let p1 = are 1 in let p2 = are 2 in let p3 = are 3 in let p4 = are 4 in let p5 = are 5 in
    one_unit (u % 256) (u / 256 % 256) a b _ _ (omega arith) (omega arith)
    (one_unit (v % 256) (v / 256 % 256) c d _ _ (omega arith) (omega arith) (one_unit (w % 256) (w / 256 % 256) e f rest rest (omega arith) (omega arith) refl))
kept_3 _ u v w are l p q r = absurd (omega arith)

-- of a number of two units
pub kept_long : (us : List ℕ) (u n : ℕ) → AreBytes us → 6 ≤ length us → u ≡ number us 0 1 → n ≡ number us 1 2 → bytes_of (u ∷ n % 65536 ∷ n / 65536 ∷ []) ++ drop 6 us ≡ us
unfolding number
kept_long (a ∷ b ∷ c ∷ d ∷ e ∷ f ∷ rest) u n are l p q =
    let p0 = are 0 in let p1 = are 1 in let p2 = are 2 in let p3 = are 3 in let p4 = are 4 in let p5 = are 5 in
    one_unit (u % 256) (u / 256 % 256) a b _ _ (omega arith) (omega arith)
    (one_unit (n % 65536 % 256) (n % 65536 / 256 % 256) c d _ _ (omega arith) (omega arith) (one_unit (n / 65536 % 256) (n / 65536 / 256 % 256) e f rest rest (omega arith) (omega arith) refl))
kept_long _ u n are l p q = absurd (omega arith)

-- of a number of four units
pub kept_wide : (us : List ℕ) (u n : ℕ) → AreBytes us → 10 ≤ length us → u ≡ number us 0 1 → n ≡ number us 1 4
    → bytes_of (u ∷ n % 65536 ∷ n / 65536 % 65536 ∷ n / 4294967296 % 65536 ∷ n / 281474976710656 ∷ []) ++ drop 10 us ≡ us
unfolding number
kept_wide (a ∷ b ∷ c ∷ d ∷ e ∷ f ∷ g ∷ h ∷ i ∷ j ∷ rest) u n are l p q =
    let p0 = are 0 in let p1 = are 1 in let p2 = are 2 in let p3 = are 3 in let p4 = are 4 in let p5 = are 5 in let p6 = are 6 in let p7 = are 7 in let p8 = are 8 in let p9 = are 9 in
    one_unit (u % 256) (u / 256 % 256) a b _ _ (omega arith) (omega arith)
    (one_unit (n % 65536 % 256) (n % 65536 / 256 % 256) c d _ _ (omega arith) (omega arith)
    (one_unit (n / 65536 % 65536 % 256) (n / 65536 % 65536 / 256 % 256) e f _ _ (omega arith) (omega arith)
    (one_unit (n / 4294967296 % 65536 % 256) (n / 4294967296 % 65536 / 256 % 256) g h _ _ (omega arith) (omega arith)
    (one_unit (n / 281474976710656 % 256) (n / 281474976710656 / 256 % 256) i j rest rest (omega arith) (omega arith) refl))))
kept_wide _ u n are l p q = absurd (omega arith)

-- ---- with another index

pub short_2 : (us : List ℕ) (u x : ℕ) → AreBytes us → 4 ≤ length us → u ≡ number us 0 1 → x < 65536 → bytes_of (u ∷ x ∷ []) ++ drop 4 us ≡ set (set us 2 (x % 256)) 3 (x / 256)
unfolding number
short_2 (a ∷ b ∷ c ∷ d ∷ rest) u x are l e fits =
    let p = are 0 in let q = are 1 in
    one_unit (u % 256) (u / 256 % 256) a b _ _ (omega arith) (omega arith) (one_unit (x % 256) (x / 256 % 256) (x % 256) (x / 256) rest rest refl (omega arith) refl)
short_2 _ u x are l e fits = absurd (omega arith)

pub short_3 : (us : List ℕ) (u x w : ℕ) → AreBytes us → 6 ≤ length us → u ≡ number us 0 1 → x < 65536 → w ≡ number us 2 1 → bytes_of (u ∷ x ∷ w ∷ []) ++ drop 6 us ≡ set (set us 2 (x % 256)) 3 (x / 256)
unfolding number
short_3 (a ∷ b ∷ c ∷ d ∷ e ∷ f ∷ rest) u x w are l p fits q =
    let p0 = are 0 in let p1 = are 1 in let p4 = are 4 in let p5 = are 5 in
    one_unit (u % 256) (u / 256 % 256) a b _ _ (omega arith) (omega arith)
    (one_unit (x % 256) (x / 256 % 256) (x % 256) (x / 256) _ _ refl (omega arith) (one_unit (w % 256) (w / 256 % 256) e f rest rest (omega arith) (omega arith) refl))
short_3 _ u x w are l p fits q = absurd (omega arith)

pub long_3 : (us : List ℕ) (u x : ℕ) → AreBytes us → 6 ≤ length us → u ≡ number us 0 1 → x < 4294967296 → bytes_of (u ∷ x % 65536 ∷ x / 65536 ∷ []) ++ drop 6 us ≡ take 2 us ++ (u32_bytes x ++ drop 6 us)
unfolding number u32_bytes
long_3 (a ∷ b ∷ c ∷ d ∷ e ∷ f ∷ rest) u x are l p fits =
    let p0 = are 0 in let p1 = are 1 in
    one_unit (u % 256) (u / 256 % 256) a b _ _ (omega arith) (omega arith)
    (one_unit _ _ _ _ _ _ (omega arith) (omega arith) (one_unit _ _ _ _ rest rest (omega arith) (omega arith) refl))
long_3 _ u x are l p fits = absurd (omega arith)

pub five_3 : (us : List ℕ) (op n x : ℕ) → AreBytes us → 6 ≤ length us → op ≡ field us 0 0 8 → n ≤ 5 → x < 65536
    → bytes_of ((op + 256 * register n 4 (field us 0 8 4) + 4096 * n) ∷ x ∷ named_unit us n ∷ []) ++ drop 6 us ≡ set (set (with_named us n) 2 (x % 256)) 3 (x / 256)
unfolding number
five_3 (a ∷ b ∷ c ∷ d ∷ e ∷ f ∷ rest) op n x are l p few fits =
    let us : List ℕ = a ∷ b ∷ c ∷ d ∷ e ∷ f ∷ rest in
    let p0 = are 0 in
    let g = register-fits n 4 (field us 0 8 4) (omega arith) in
    let c0 = register-fits n 0 (field us 2 0 4) (omega arith) in
    let c1 = register-fits n 1 (field us 2 4 4) (omega arith) in
    let c2 = register-fits n 2 (field us 2 8 4) (omega arith) in
    let c3 = register-fits n 3 (field us 2 12 4) (omega arith) in
    let w = named_unit us n in
    let low : w < 65536 = omega arith in
    let u = op + 256 * register n 4 (field us 0 8 4) + 4096 * n in
    one_unit (u % 256) (u / 256 % 256) a (register n 4 (field us 0 8 4) + 16 * n) _ _ (omega arith) (omega arith)
    (one_unit (x % 256) (x / 256 % 256) (x % 256) (x / 256) _ _ refl (omega arith) (one_unit (w % 256) (w / 256 % 256) (w % 256) (w / 256) rest rest refl (omega arith) refl))
five_3 _ op n x are l p few fits = absurd (omega arith)

-- ---- payloads

pub head_4 : (us : List ℕ) (u v : ℕ) → AreBytes us → 4 ≤ length us → u ≡ number us 0 1 → v ≡ number us 1 1 → bytes_of (u ∷ v ∷ []) ≡ take 4 us
unfolding number
head_4 (a ∷ b ∷ c ∷ d ∷ rest) u v are l p q =
    let p0 = are 0 in let p1 = are 1 in let p2 = are 2 in let p3 = are 3 in
    one_unit (u % 256) (u / 256 % 256) a b _ _ (omega arith) (omega arith) (one_unit (v % 256) (v / 256 % 256) c d [] [] (omega arith) (omega arith) refl)
head_4 _ u v are l p q = absurd (omega arith)

pub head_8 : (us : List ℕ) (u v n : ℕ) → AreBytes us → 8 ≤ length us → u ≡ number us 0 1 → v ≡ number us 1 1 → n ≡ number us 2 2 → bytes_of (u ∷ v ∷ n % 65536 ∷ n / 65536 ∷ []) ≡ take 8 us
unfolding number
head_8 (a ∷ b ∷ c ∷ d ∷ e ∷ f ∷ g ∷ h ∷ rest) u v n are l p q r =
    let p0 = are 0 in let p1 = are 1 in let p2 = are 2 in let p3 = are 3 in let p4 = are 4 in let p5 = are 5 in let p6 = are 6 in let p7 = are 7 in
    one_unit (u % 256) (u / 256 % 256) a b _ _ (omega arith) (omega arith)
    (one_unit (v % 256) (v / 256 % 256) c d _ _ (omega arith) (omega arith)
    (one_unit (n % 65536 % 256) (n % 65536 / 256 % 256) e f _ _ (omega arith) (omega arith) (one_unit (n / 65536 % 256) (n / 65536 / 256 % 256) g h [] [] (omega arith) (omega arith) refl)))
head_8 _ u v n are l p q r = absurd (omega arith)

-- a head, a part after it and the rest are all
pub joined_again : (us : List ℕ) (k m : ℕ) → take k us ++ (take m (drop k us) ++ drop (k + m) us) ≡ us
joined_again us k m =
    ap (λ (xs : List ℕ). take k us ++ (take m (drop k us) ++ xs)) (sym (drop-drop m k us))
    ∙ ap (λ (xs : List ℕ). take k us ++ xs) (take-append-drop m (drop k us)) ∙ take-append-drop k us

-- an item is replaced
pub replaced : (us : List ℕ) (i x : ℕ) → i < length us → take i us ++ (x ∷ drop (i + 1) us) ≡ set us i x
replaced us i x l =
    let long : length (take i us) ≡ i = length-take-le i us (omega arith) in
    let split : us ≡ take i us ++ (get_or us i 0 ∷ drop (suc i) us) = sym (take-append-drop i us) ∙ ap (λ (xs : List ℕ). take i us ++ xs) (drop-cons us i 0 l) in
    let seam : set (take i us ++ (get_or us i 0 ∷ drop (suc i) us)) (length (take i us)) x ≡ take i us ++ (x ∷ drop (suc i) us) = set-append_seam (take i us) (get_or us i 0) (drop (suc i) us) x in
    rw add-one (sym seam ∙ ap (λ (k : ℕ). set (take i us ++ (get_or us i 0 ∷ drop (suc i) us)) k x) long ∙ ap (λ (xs : List ℕ). set xs i x) (sym split))

pub by_width : (n width : ℕ) → IsElementWidth width → (n * width) / width ≡ n
by_width n width h = ⊎_elim
    (λ (e : width ≡ 1). rw e (omega arith))
    (⊎_elim (λ (e : width ≡ 2). rw e (omega arith)) (⊎_elim (λ (e : width ≡ 4). rw e (omega arith)) (λ (e : width ≡ 8). rw e (omega arith))))
    h
