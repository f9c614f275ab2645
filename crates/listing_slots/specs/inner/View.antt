-- What is in memory, as its content.
use Rattle.program_types.specs.View.{name, field_ref, proto}
use Rattle.listing_slots.specs.Data as spec
use Rattle.listing_slots.specs.declared.datum.Datum.{Datum}
use Rattle.listing_slots.specs.declared.datum.Datum.TheVariants as made

-- The value of a word, in memory.
abbrev pub datum : Datum → spec.Datum
datum (made.Byte n) = spec.byte n
datum (made.Half n) = spec.half n
datum (made.Word n) = spec.word n
datum (made.Wide n) = spec.wide n
datum (made.Tiny z) = spec.tiny z
datum (made.Short z) = spec.short z
datum (made.Int z) = spec.int z
datum (made.Long z) = spec.long z
datum (made.Elements bs) = spec.elements bs.now
datum (made.Name n) = spec.named (name n)
datum (made.Enum f) = spec.constant (field_ref f.now)
datum (made.Proto p) = spec.prototype (proto p.now)
datum (made.Key k) = spec.key_word k
