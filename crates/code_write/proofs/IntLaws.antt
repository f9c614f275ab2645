-- Numbers of 32 bits as bytes.
use Rattle.std.proofs.Common.{◌≡◌, ℕ, ℤ, pos, ◌+◌, ◌*◌, ◌/◌, ◌<◌, ◌≤◌, ◌++◌, List, [], ◌∷◌, length, get_or, drop, refl, ap, sym, ◌∙◌, arith, zero, suc, append_assoc, append-nil, length-append}
use Rattle.std.specs.Prelude.{FitsSigned}
use Rattle.std.specs.Int.{cast_unsigned, w32}
use Rattle.std.proofs.lemmas.List.{drop_more}
use Rattle.byteorder.specs.Endian.{little_number}
use Rattle.dex_base.specs.Fields.{u32_at, u32_bytes}
use Rattle.dex_base.proofs.FieldBounds.{u32_at-front, u32_at-append, u32_at-bytes, length-u32_bytes}
use Rattle.dex_insn.specs.Fields.{number, int_at, signed}
use Rattle.dex_insn.proofs.Signs.{signed_32, unsigned_32}
use Rattle.code_read.specs.Symbols.{ints, ints_from}

pub number-u32 : (b : List ℕ) (i : ℕ) → number b (2 * i) 2 ≡ u32_at b (4 * i)
unfolding number u32_at
number-u32 b i = let e : 2 * (2 * i) ≡ 4 * i = omega arith in ap (λ (m : ℕ). little_number 4 (drop m b)) e

pub int-front : (b x : List ℕ) (i : ℕ) → 4 * i + 4 ≤ length b → int_at (b ++ x) i ≡ int_at b i
int-front b x i l = ap (signed 32) (number-u32 (b ++ x) i ∙ u32_at-front b x (4 * i) l ∙ sym (number-u32 b i))

pub int-last : (b : List ℕ) (n : ℕ) (z : ℤ) → length b ≡ 4 * n → FitsSigned w32 z → int_at (b ++ u32_bytes (cast_unsigned w32 z)) n ≡ z
int-last b n z l f =
    let u = cast_unsigned w32 z in
    let at : u32_at (b ++ u32_bytes u) (4 * n + 0) ≡ u32_at (u32_bytes u) 0 = u32_at-append b (u32_bytes u) (4 * n) 0 l in
    let zero_more : 4 * n + 0 ≡ 4 * n = omega arith in
    let here : u32_at (u32_bytes u) 0 ≡ u = ap (λ (ys : List ℕ). u32_at ys 0) (sym (append-nil (u32_bytes u))) ∙ u32_at-bytes u [] (unsigned_32 z f) in
    ap (signed 32) (number-u32 (b ++ u32_bytes u) n ∙ sym (ap (u32_at (b ++ u32_bytes u)) zero_more) ∙ at ∙ here) ∙ signed_32 z f

from-front : (b x : List ℕ) (i n : ℕ) → 4 * (i + n) ≤ length b → ints_from (b ++ x) i n ≡ ints_from b i n
from-front b x i zero l = refl
from-front b x i (suc n) l =
    let h = int-front b x i (omega arith) in
    let t = from-front b x (i + 1) n (omega arith) in
    (λ j. h j ∷ t j)

from-more : (b : List ℕ) (i n : ℕ) → ints_from b i (suc n) ≡ ints_from b i n ++ int_at b (i + n) ∷ []
from-more b i zero = let e : i ≡ i + 0 = omega arith in ap (λ (m : ℕ). int_at b m ∷ []) e
from-more b i (suc n) =
    let e : (i + 1) + n ≡ i + suc n = omega arith in
    ap (λ (zs : List ℤ). int_at b i ∷ zs) (from-more b (i + 1) n ∙ ap (λ (m : ℕ). ints_from b (i + 1) n ++ int_at b m ∷ []) e)

pub ints-more : (b : List ℕ) (n : ℕ) (z : ℤ) → length b ≡ 4 * n → FitsSigned w32 z → ints (b ++ u32_bytes (cast_unsigned w32 z)) ≡ ints b ++ z ∷ []
unfolding ints
ints-more b n z l f =
    let u = u32_bytes (cast_unsigned w32 z) in
    let m : length (b ++ u) / 4 ≡ suc n = omega (arith, length-append b u, length-u32_bytes (cast_unsigned w32 z)) in
    let k : length b / 4 ≡ n = omega arith in
    let zero_more : 0 + n ≡ n = omega arith in
    ap (ints_from (b ++ u) 0) m ∙ from-more (b ++ u) 0 n ∙ (λ j. from-front b u 0 n (omega arith) j ++ int_at (b ++ u) (zero_more j) ∷ [])
    ∙ ap (λ (y : ℤ). ints_from b 0 n ++ y ∷ []) (int-last b n z l f) ∙ ap (λ (q : ℕ). ints_from b 0 q ++ z ∷ []) (sym k)

pub ints-none : (b : List ℕ) → b ≡ [] → ints b ≡ []
unfolding ints
ints-none b e = let l : length b / 4 ≡ 0 = omega (arith, ap length e) in ap (ints_from b 0) l

-- a turn of writing numbers
pub ints-turn : (b new : List ℕ) (n : ℕ) (z : ℤ) (all : List ℤ) → n < length all → z ≡ get_or all n (pos 0) → length b ≡ 4 * n → FitsSigned w32 z → new ≡ b ++ u32_bytes (cast_unsigned w32 z)
    → ints b ++ drop n all ≡ all → ints new ++ drop (n + 1) all ≡ all
ints-turn b new n z all k g l f e h =
    let d : drop n all ≡ z ∷ drop (n + 1) all = drop_more all n (pos 0) k ∙ ap (λ (y : ℤ). y ∷ drop (n + 1) all) (sym g) in
    ap (λ (c : List ℕ). ints c ++ drop (n + 1) all) e ∙ ap (λ (zs : List ℤ). zs ++ drop (n + 1) all) (ints-more b n z l f)
    ∙ append_assoc (ints b) (z ∷ []) (drop (n + 1) all) ∙ ap (λ (zs : List ℤ). ints b ++ zs) (sym d) ∙ h
