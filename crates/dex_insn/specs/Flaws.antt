-- Which rule the units at some place break.
use Rattle.std.specs.Prelude.{ℕ, ◌≡◌, ◌≢◌, ◌≤◌, ◌*◌, ◌+◌, ◌%◌, Option, Some, None, List, length, drop, slice_range, if◌then◌else◌, ◌==◌, Bool, true, false, IsTrue}
use Rattle.dex_base.specs.declared.fault.Fault.{Fault}
use Rattle.dex_base.specs.FirstFault.{or_else}
use Rattle.dex_insn.specs.Fields.{number, field, SwitchKeysRise}
use Rattle.dex_insn.specs.Opcodes.{format_of, units_of}
use Rattle.dex_insn.specs.Raw.{packed_units, sparse_units, data_units}
use Rattle.dex_insn.specs.RawInsns.{IsPayload, IsElementWidth}
use Rattle.dex_insn.specs.declared.opcode.Format.{Format}
use Rattle.dex_insn.specs.declared.opcode.Format.TheVariants.{F10x, F20t, F30t, F32x, F35c}

-- the high byte of the first unit has no field
abbrev pub has_zero_byte : Format → Bool
has_zero_byte F10x = true
has_zero_byte F20t = true
has_zero_byte F30t = true
has_zero_byte F32x = true
has_zero_byte _ = false

-- the format of the opcode in the first unit
abbrev pub format_at : List ℕ → Option Format
format_at us = format_of (field us 0 0 8)

-- the units of a payload's head, which has its length, by the identifier in the first unit
abbrev pub head_units : List ℕ → ℕ
head_units us = if field us 0 8 8 == 3 then 4 else 2

-- the units of the whole payload, by its head
abbrev pub payload_units : List ℕ → ℕ
payload_units us = if field us 0 8 8 == 1 then packed_units (number us 1 1)
    else (if field us 0 8 8 == 2 then sparse_units (number us 1 1) else data_units (number us 2 2 * number us 1 1))

-- no payload: the opcode has this format
abbrev pub HasFormat : List ℕ → Format → Type 0
HasFormat us format = (¬ IsPayload us) × (format_at us ≡ Some format)

-- The number of the first rule that a payload at the front of the bytes violates: an even unit, the whole head, the
-- width, the whole payload, the order of keys. Its first unit is unit `at` of the code.
unfoldable pub PayloadBreaks : ℕ → List ℕ → ℕ → Type 0
PayloadBreaks at us code =
    or_else 67 code (IsPayload us → at % 2 ≡ 0) (
    or_else 63 code (IsPayload us → 2 * head_units us ≤ length us) (
    or_else 67 code (number us 0 1 ≡ 0x0300 → IsElementWidth (number us 1 1)) (
    or_else 63 code (IsPayload us → 2 * payload_units us ≤ length us) (
    or_else 67 code (number us 0 1 ≡ 0x0200 → SwitchKeysRise (slice_range us 4 (4 + 4 * number us 1 1)) (number us 1 1)) ⊥))))

-- The number of the first rule that the instruction at the front of the bytes violates: a whole unit, the opcode, the
-- whole instruction, zero bits, the register count, then the rules of payloads. A rule says of which instructions it
-- speaks.
unfoldable pub InsnBreaks : ℕ → List ℕ → ℕ → Type 0
InsnBreaks at us code =
    or_else 63 code (2 ≤ length us) (
    or_else 62 code (format_at us ≢ None) (
    or_else 63 code ((format : Format) → HasFormat us format → 2 * units_of format ≤ length us) (
    or_else 64 code ((format : Format) → HasFormat us format → IsTrue (has_zero_byte format) → field us 0 8 8 ≡ 0) (
    or_else 66 code (format_at us ≡ Some F35c → field us 0 12 4 ≤ 5) (
    PayloadBreaks at us code)))))

-- Each rule is kept, by itself.
pub record KeepsRules (at : ℕ) (us : List ℕ) : Type 0 where
  pub unit : 2 ≤ length us
  pub opcode : format_at us ≢ None
  pub whole : (format : Format) → HasFormat us format → 2 * units_of format ≤ length us
  pub zero : (format : Format) → HasFormat us format → IsTrue (has_zero_byte format) → field us 0 8 8 ≡ 0
  pub count : format_at us ≡ Some F35c → field us 0 12 4 ≤ 5
  pub even : IsPayload us → at % 2 ≡ 0
  pub head : IsPayload us → 2 * head_units us ≤ length us
  pub width : number us 0 1 ≡ 0x0300 → IsElementWidth (number us 1 1)
  pub payload : IsPayload us → 2 * payload_units us ≤ length us
  pub keys : number us 0 1 ≡ 0x0200 → SwitchKeysRise (slice_range us 4 (4 + 4 * number us 1 1)) (number us 1 1)

-- the fault of the instruction at unit `at`
pub record IsFaultAt (bytes : List ℕ) (at : ℕ) (fault : Fault) : Type 0 where
  pub place : fault.place ≡ at
  pub broken : InsnBreaks at (drop (2 * at) bytes) fault.code
