-- How words are printed in their slots.
-- Page: docs/LISTING.md, "What a word can be".
use Rattle.std.specs.Prelude.{[], ◌++◌}
use Rattle.std.specs.Fmt.{decimal, signed_decimal}
use Rattle.program_types.specs.Content.{OfText, OfDesc, OfField, OfMethod, Proto}
use Rattle.listing_words.specs.Words.{Word, plain_word, text_in_quotes}
use Rattle.listing_words.specs.Written.{hex_digits, flags_text, elements_text, name_text, proto_units, field_units, method_units}
use Rattle.listing_slots.specs.declared.slot.Slot.{Slot}
use Rattle.listing_slots.specs.declared.slot.Slot.TheVariants as slot
use Rattle.listing_slots.specs.Keys.{key_text}
use Rattle.listing_slots.specs.Slots.{mark_text}
use Rattle.listing_slots.specs.Data.{Datum, byte, half, word, wide, tiny, short, int, long, elements, named, constant, prototype}

-- A datum as it is printed in its slot: flags, floats, doubles and the bytes of arrays in hexadecimal, all other numbers in
-- decimal.
abbrev pub shown : Slot → Datum → Word
shown (slot.Byte m most) (byte n) = plain_word (mark_text m ++ decimal n)
shown (slot.Half m most) (half n) = plain_word (mark_text m ++ decimal n)
shown (slot.Word m most) (word n) = plain_word (mark_text m ++ decimal n)
shown slot.Nibble (tiny z) = plain_word (signed_decimal z)
shown slot.Tiny (tiny z) = plain_word (signed_decimal z)
shown slot.Short (short z) = plain_word (signed_decimal z)
shown slot.Int (int z) = plain_word (signed_decimal z)
shown slot.Long (long z) = plain_word (signed_decimal z)
shown slot.Flags (word n) = plain_word (flags_text n)
shown slot.Float (word n) = plain_word (hex_digits 8 n)
shown slot.Double (wide n) = plain_word (hex_digits 16 n)
shown slot.Elements (elements bs) = plain_word (elements_text bs)
shown slot.Text (named (OfText us)) = text_in_quotes us
shown slot.Member (named (OfText us)) = plain_word (name_text us)
shown slot.Desc (named (OfDesc d)) = plain_word (name_text d)
shown slot.Field (named (OfField f)) = plain_word (name_text (field_units f))
shown slot.Method (named (OfMethod m)) = plain_word (name_text (method_units m))
shown slot.Enum (constant f) = plain_word (name_text (field_units f))
shown slot.Proto (prototype p) = plain_word (name_text (proto_units p))
shown (slot.Key k) d = plain_word (key_text k)
shown _ _ = plain_word []

-- ---- what can be printed
