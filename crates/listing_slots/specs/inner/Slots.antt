-- Beside Slots.antt: what no promise reaches.
use Rattle.std.specs.Prelude.{◌≡◌, ℕ, Bool, true, false, List}
use Rattle.dex_base.specs.Descriptor.{IsDescriptor, IsMemberName}
use Rattle.program_types.specs.Content.{FieldRef, MethodRef, Proto, OfText, OfDesc, OfField, OfMethod}
use Rattle.listing_words.specs.Words.{Word}
use Rattle.listing_words.specs.Names.{IsProtoText, IsFieldText, IsMethodText}
use Rattle.listing_slots.specs.declared.slot.Slot.{Slot}
use Rattle.listing_slots.specs.declared.slot.Slot.TheVariants as slot
use Rattle.listing_slots.specs.Data.{Datum, named, constant, prototype}

-- The slot is one of signed numbers.
abbrev pub is_signed_slot : Slot → Bool
is_signed_slot slot.Nibble = true
is_signed_slot slot.Tiny = true
is_signed_slot slot.Short = true
is_signed_slot slot.Int = true
is_signed_slot slot.Long = true
is_signed_slot _ = false

-- The slot is one of numbers.
abbrev pub is_number_slot : Slot → Bool
is_number_slot (slot.Byte m most) = true
is_number_slot (slot.Half m most) = true
is_number_slot (slot.Word m most) = true
is_number_slot slot.Flags = true
is_number_slot slot.Float = true
is_number_slot slot.Double = true
is_number_slot s = is_signed_slot s

-- The value of units in a name's slot.
abbrev pub SpellsUnitsIn : Slot → List ℕ → Datum → Type 0
SpellsUnitsIn slot.Member us d = IsMemberName us × (d ≡ named (OfText us))
SpellsUnitsIn slot.Desc us d = IsDescriptor us × (d ≡ named (OfDesc us))
SpellsUnitsIn slot.Field us d = (f : FieldRef) × IsFieldText us f × (d ≡ named (OfField f))
SpellsUnitsIn slot.Method us d = (m : MethodRef) × IsMethodText us m × (d ≡ named (OfMethod m))
SpellsUnitsIn slot.Enum us d = (f : FieldRef) × IsFieldText us f × (d ≡ constant f)
SpellsUnitsIn slot.Proto us d = (p : Proto) × IsProtoText us p × (d ≡ prototype p)
SpellsUnitsIn _ us d = ⊥
