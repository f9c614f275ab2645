-- The faults of header, map and checksums. Each condition is that a rule of Frame doesn't hold. Past the
-- end bytes count as 0, so each has a meaning for any bytes; if there is a lower fault, it has no effect.
use Rattle.std.specs.Prelude.{◌≡◌, ℕ, ◌+◌, ◌<◌, ◌≤◌, ◌==◌, List, length, MatchBool, ◌⊎◌}
use Rattle.dex_base.specs.declared.fault.Fault.{Fault}
use Rattle.dex_base.specs.Fields.{u32_at}
use Rattle.dex_container.specs.Layout.{size_field, size_of, entry_count, entry_place}
use Rattle.dex_container.specs.Frame.{HasMagic, HasVersion, HasChecksum, HasSignature, SectionHolds, HasFewRows, MapIsPlaced, EntryHolds, HasKind}

-- at this number P, else Q
abbrev pub on : ℕ → ℕ → Type 0 → Type 0 → Type 0
on code number P Q = MatchBool (code == number) P Q

-- The fault of this number is at this place.
abbrev pub FrameBreaks : List ℕ → ℕ → ℕ → Type 0
FrameBreaks b code place =
    on code 1 ((length b < 112) × (place ≡ length b)) (
    on code 2 (¬ HasMagic b × (place ≡ 0)) (
    on code 3 (¬ HasVersion b × (place ≡ 4)) (
    on code 4 (¬ (u32_at b 32 ≡ length b) × (place ≡ 32)) (
    on code 5 (¬ (u32_at b 36 ≡ 112) × (place ≡ 36)) (
    on code 6 (¬ (u32_at b 40 ≡ 0x12345678) × (place ≡ 40)) (
    on code 7 (¬ (u32_at b 44 ≡ 0) × (place ≡ 44)) (
    on code 8 (¬ HasChecksum b × (place ≡ 8)) (
    on code 9 (¬ HasSignature b × (place ≡ 12)) (
    on code 10 ((k : ℕ) × (k < 7) × (¬ SectionHolds b k) × (place ≡ size_field k)) (
    on code 11 ((k : ℕ) × ((k ≡ 1) ⊎ (k ≡ 2)) × (¬ HasFewRows b k) × (place ≡ size_field k)) (
    on code 12 (¬ MapIsPlaced b × (place ≡ 52)) (
    on code 13 ((i : ℕ) × (i < entry_count b) × (¬ EntryHolds b i) × (place ≡ entry_place b i)) (
    on code 14 ((¬ HasKind b 0x1000 × (place ≡ 52))
    ⊎ ((k : ℕ) × (k < 6) × (0 < size_of b k) × (¬ HasKind b (k + 1)) × (place ≡ size_field k)))
    ⊥)))))))))))))

-- There is no fault of a lower number.
abbrev pub IsClearBelow : List ℕ → ℕ → Type 0
IsClearBelow b code = (c place : ℕ) → FrameBreaks b c place → code ≤ c

-- The fault has the lowest number of all faults, at its lowest place.
pub record IsFrameFault (b : List ℕ) (fault : Fault) : Type 0 where
  pub stands : FrameBreaks b fault.code fault.place
  pub number : IsClearBelow b fault.code
  pub place : (place : ℕ) → FrameBreaks b fault.code place → fault.place ≤ place
