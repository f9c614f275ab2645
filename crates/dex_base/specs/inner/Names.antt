-- Names, descriptors and MUTF-8, unit by unit: what the contracts of private functions cite.
use Rattle.std.specs.Prelude.{◌≡◌, ◌≢◌, ℕ, ◌+◌, ◌-◌, ◌/◌, ◌%◌, ◌<◌, ◌≤◌, ◌⊎◌, List, ◌++◌, length, take, drop, replicate, slice_index, codes}
use Rattle.dex_base.specs.Grammar.{Begins, NoneBegins, Each}
use Rattle.dex_base.specs.Descriptor.{IsNamePoint, point_units, IsClassName}

-- The front of the bytes is that of the unit in MUTF-8, byte by byte.
abbrev pub HasUnit : List ℕ → ℕ → ℕ → Type 0
HasUnit bytes u len =
    ((0 < u) × (u < 128) × (len ≡ 1) × (1 ≤ length bytes) × (slice_index bytes 0 ≡ u))
    ⊎ (((u ≡ 0) ⊎ (128 ≤ u)) × (u < 2048) × (len ≡ 2) × (2 ≤ length bytes) × (slice_index bytes 0 ≡ 192 + u / 64) × (slice_index bytes 1 ≡ 128 + u % 64))
    ⊎ ((2048 ≤ u) × (u < 65536) × (len ≡ 3) × (3 ≤ length bytes) × (slice_index bytes 0 ≡ 224 + u / 4096) × (slice_index bytes 1 ≡ 128 + u / 64 % 64) × (slice_index bytes 2 ≡ 128 + u % 64))

-- One code point of a name.
abbrev pub SpellsPoint : List ℕ → ℕ → Type 0
SpellsPoint units c = IsNamePoint c × (units ≡ point_units c)

-- From one place up to another all units are code points of names below 128.
abbrev pub AreLowPoints : List ℕ → ℕ → ℕ → Type 0
AreLowPoints units from to = (k : ℕ) → from ≤ k → k < to → (slice_index units k < 128) × IsNamePoint (slice_index units k)

-- The front of the units is that of the code point.
abbrev pub HasPoint : List ℕ → ℕ → ℕ → Type 0
HasPoint units c len =
    (IsNamePoint c × (c < 0x10000) × (len ≡ 1) × (1 ≤ length units) × (slice_index units 0 ≡ c))
    ⊎ ((0x10000 ≤ c) × (c ≤ 0x10ffff) × (len ≡ 2) × (2 ≤ length units) × (slice_index units 0 ≡ 0xd800 + (c - 0x10000) / 1024) × (slice_index units 1 ≡ 0xdc00 + (c - 0x10000) % 1024))

-- The longest front that is made of code points.
pub record IsRun (units : List ℕ) (len : ℕ) : Type 0 where
  pub points : List ℕ
  pub read : Begins (Each SpellsPoint) units points len
  pub ends : NoneBegins SpellsPoint (drop len units)

-- What stands after the `L` of a class: a class name and `;`.
abbrev pub IsClassTail : List ℕ → Type 0
IsClassTail units = (name : List ℕ) × IsClassName name × (units ≡ name ++ codes ";")

-- The units begin with exactly so many `[`.
pub record IsDepth (units : List ℕ) (n : ℕ) : Type 0 where
  pub front : take n units ≡ replicate n 91
  pub next : n < length units → slice_index units n ≢ 91
