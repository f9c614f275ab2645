-- Numbers of two bytes in one of four.
use Rattle.std.proofs.Common.{◌≡◌, ℕ, ◌+◌, ◌*◌, ◌^◌, ◌<◌, List, drop, get_or, refl, arith, get_or-drop}
use Rattle.dex_base.specs.Fields.{u16_at, u32_at}

-- the four bytes of a number
module _ (b : List ℕ) (p : ℕ) where
  byte : (i : ℕ) → get_or (drop p b) i 0 ≡ get_or b (p + i) 0
  byte i = get_or-drop p b i 0

  byte_high : (i : ℕ) → get_or (drop (p + 2) b) i 0 ≡ get_or b (p + 2 + i) 0
  byte_high i = get_or-drop (p + 2) b i 0

  pub u32_at-halves : u32_at b p ≡ u16_at b p + 65536 * u16_at b (p + 2)
  unfolding u16_at u32_at
  u32_at-halves =
      let a2 : get_or (drop p b) 2 0 ≡ get_or (drop (p + 2) b) 0 0 = same 2 0 refl in
      let a3 : get_or (drop p b) 3 0 ≡ get_or (drop (p + 2) b) 1 0 = same 3 1 refl in
      omega (arith, a2, a3)
    where
      same : (i j : ℕ) → i ≡ 2 + j → get_or (drop p b) i 0 ≡ get_or (drop (p + 2) b) j 0
      same i j e = let n : p + i ≡ p + 2 + j = omega arith in rw (byte i, byte_high j, n) refl

-- a small number is in its first two bytes
pub u16_at-small : (b : List ℕ) (p : ℕ) → u32_at b p < 2 ^ 16 → u16_at b p ≡ u32_at b p
u16_at-small b p h = let e = u32_at-halves b p in omega (arith, e)

pub u16_at-high : (b : List ℕ) (p : ℕ) → u32_at b p < 2 ^ 16 → u16_at b (p + 2) ≡ 0
u16_at-high b p h = let e = u32_at-halves b p in omega (arith, e)
