-- The contracts of the private functions of reading.
use Rattle.std.specs.Prelude.{◌≡◌, ℕ, List}
use Rattle.program_types.specs.Content.{Name, Value, Byte, Short, Char, Int, Long, Float, Double, Enum}
use Rattle.dex_insn.specs.declared.opcode.IndexKind.{IndexKind}
use Rattle.dex_insn.specs.declared.opcode.IndexKind.TheVariants as kind
use Rattle.dex_value.specs.Spelling.{unsigned_of, signed_of, high_of}
use Rattle.dex_value.specs.declared.types.NumberType.{NumberType}
use Rattle.dex_value.specs.declared.types.NumberType.TheVariants as number
use Rattle.dex_value.specs.declared.types.NameType.{NameType}
use Rattle.dex_value.specs.declared.types.NameType.TheVariants as named
use Rattle.dex_value.specs.declared.types.SizedType.{SizedType}
use Rattle.dex_value.specs.declared.types.SizedType.TheVariants as sized

-- The type in the head of a number.
abbrev pub number_code : NumberType → ℕ
number_code number.Byte = 0x00
number_code number.Short = 0x02
number_code number.Char = 0x03
number_code number.Int = 0x04
number_code number.Long = 0x06
number_code number.Float = 0x10
number_code number.Double = 0x11

-- The type in the head of a name.
abbrev pub name_code : NameType → ℕ
name_code named.String = 0x17
name_code named.Type = 0x18
name_code named.Field = 0x19
name_code named.Method = 0x1a
name_code named.Enum = 0x1b

-- The table of the names of a type.
abbrev pub table_of_type : NameType → IndexKind
table_of_type named.String = kind.String
table_of_type named.Type = kind.Type
table_of_type named.Field = kind.Field
table_of_type named.Method = kind.Method
table_of_type named.Enum = kind.Field

-- The type in the head of a number or a name.
abbrev pub sized_code : SizedType → ℕ
sized_code (sized.Number ty) = number_code ty
sized_code (sized.Name ty) = name_code ty

-- After a head of this type these bytes are the value's number.
abbrev pub IsNumber : ℕ → List ℕ → Value → Type 0
IsNumber type low (Byte n) = (type ≡ 0x00) × (n ≡ signed_of low)
IsNumber type low (Short n) = (type ≡ 0x02) × (n ≡ signed_of low)
IsNumber type low (Char unit) = (type ≡ 0x03) × (unit ≡ unsigned_of low)
IsNumber type low (Int n) = (type ≡ 0x04) × (n ≡ signed_of low)
IsNumber type low (Long n) = (type ≡ 0x06) × (n ≡ signed_of low)
IsNumber type low (Float bits) = (type ≡ 0x10) × (bits ≡ high_of 4 low)
IsNumber type low (Double bits) = (type ≡ 0x11) × (bits ≡ high_of 8 low)
IsNumber type low _ = ⊥
