-- Beside Shown.antt: what no promise reaches.
use Rattle.std.specs.Prelude.{◌≡◌, ◌<◌, ◌≤◌, ◌^◌, length}
use Rattle.std.specs.List.{AllByRecursion}
use Rattle.dex_base.specs.Descriptor.{IsDescriptor, IsMemberName}
use Rattle.program_types.specs.Content.{OfText, OfDesc, OfField, OfMethod, Proto, FieldRef, MethodRef, AreUnits}
use Rattle.listing_words.specs.Words.{Word}
use Rattle.listing_words.specs.Written.{proto_units, field_units, method_units}
use Rattle.listing_slots.specs.declared.slot.Slot.{Slot}
use Rattle.listing_slots.specs.declared.slot.Slot.TheVariants as slot
use Rattle.listing_slots.specs.Slots.{IsSignedWithin}
use Rattle.listing_slots.specs.Data.{Datum, byte, half, word, wide, tiny, short, int, long, elements, named, constant, prototype, key_word}

-- The parts of a prototype meet their grammars.
pub record IsProto (p : Proto) : Type 0 where
  pub params : AllByRecursion IsDescriptor p.params
  pub ret : IsDescriptor p.ret
  pub units : AreUnits (proto_units p)

-- The parts of a field meet their grammars.
pub record IsFieldRef (f : FieldRef) : Type 0 where
  pub class : IsDescriptor f.class
  pub name : IsMemberName f.name
  pub ty : IsDescriptor f.ty
  pub units : AreUnits (field_units f)

-- The parts of a method meet their grammars.
pub record IsMethodRef (m : MethodRef) : Type 0 where
  pub class : IsDescriptor m.class
  pub name : IsMemberName m.name
  pub params : AllByRecursion IsDescriptor m.proto.params
  pub ret : IsDescriptor m.proto.ret
  pub units : AreUnits (method_units m)

-- What can be printed in a slot.
abbrev pub FitsSlot : Slot → Datum → Type 0
FitsSlot (slot.Byte m most) (byte n) = (n ≤ most) × (n < 2 ^ 64)
FitsSlot (slot.Half m most) (half n) = (n ≤ most) × (n < 2 ^ 64)
FitsSlot (slot.Word m most) (word n) = (n ≤ most) × (n < 2 ^ 64)
FitsSlot slot.Nibble (tiny z) = IsSignedWithin 7 z
FitsSlot slot.Tiny (tiny z) = IsSignedWithin 127 z
FitsSlot slot.Short (short z) = IsSignedWithin 32767 z
FitsSlot slot.Int (int z) = IsSignedWithin 2147483647 z
FitsSlot slot.Long (long z) = IsSignedWithin 9223372036854775807 z
FitsSlot slot.Flags (word n) = n < 2 ^ 32
FitsSlot slot.Float (word n) = n < 2 ^ 32
FitsSlot slot.Double (wide n) = n < 2 ^ 64
FitsSlot slot.Elements (elements bs) = (0 < length bs) × AllByRecursion (λ b. b < 256) bs
FitsSlot slot.Text (named (OfText us)) = AreUnits us
FitsSlot slot.Member (named (OfText us)) = IsMemberName us × AreUnits us
FitsSlot slot.Desc (named (OfDesc d)) = IsDescriptor d × AreUnits d
FitsSlot slot.Field (named (OfField f)) = IsFieldRef f
FitsSlot slot.Method (named (OfMethod m)) = IsMethodRef m
FitsSlot slot.Enum (constant f) = IsFieldRef f
FitsSlot slot.Proto (prototype p) = IsProto p
FitsSlot (slot.Key k) (key_word l) = k ≡ l
FitsSlot _ _ = ⊥
