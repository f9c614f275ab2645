-- A word says one thing in a slot.
use Rattle.std.proofs.Common.{◌≡◌, ℕ, ℤ, List, sym, ap, subst, ◌∙◌}
use Rattle.program_types.specs.Content.{OfText, OfDesc, OfField, OfMethod}
use Rattle.listing_words.specs.Words.{Word}
use Rattle.listing_words.specs.Numbers.{SpellsWhole, SpellsBits, SpellsElements}
use Rattle.listing_words.specs.Names.{SpellsUnits, IsProtoText, IsFieldText, IsMethodText}
use Rattle.listing_words.proofs.NameLaws.{units_one, field_one, method_one, proto_one}
use Rattle.listing_words.proofs.BitLaws.{bits_one, elements_one}
use Rattle.listing_slots.specs.declared.slot.Mark.TheVariants as mark
use Rattle.listing_slots.specs.declared.slot.Slot.{Slot}
use Rattle.listing_slots.specs.declared.slot.Slot.TheVariants as slot
use Rattle.listing_slots.specs.Data.{Datum, byte, half, word, wide, tiny, short, int, long, elements, named, constant, prototype}
use Rattle.listing_slots.specs.Slots.{SpellsInteger, SpellsNamed, IsMember, IsType, SpellsSlot}
use Rattle.listing_slots.proofs.SpellLaws.{number_one, plain_one}
use Rattle.listing_slots.proofs.NumberReadLaws.{whole_one}

signed_one : (most : ℕ) (w : Word) (y z : ℤ) → SpellsInteger most w y → SpellsInteger most w z → y ≡ z
signed_one most w y z p q =
    let i = p.joined in let j = q.joined in
    let same : p.digits ≡ q.digits = cc in
    whole_one q.digits y z (subst (λ (t : List ℕ). SpellsWhole t y) same p.spelled) q.spelled

named_one : {V : Type 0} (G : List ℕ → V → Type 0) → ((us : List ℕ) (a b : V) → G us a → G us b → a ≡ b) → (w : Word) (a b : V) → SpellsNamed G w a → SpellsNamed G w b → a ≡ b
named_one {V} G one w a b p q =
    let i = p.2 in let j = q.2 in
    let same : p.0 ≡ q.0 = cc in
    let us = units_one q.0 p.1 q.1 (subst (λ (t : List ℕ). SpellsUnits t p.1) same p.3) q.3 in
    one q.1 a b (subst (λ (t : List ℕ). G t a) us p.4) q.4

pub spells_one : (s : Slot) (w : Word) (d e : Datum) → SpellsSlot s w d → SpellsSlot s w e → d ≡ e
spells_one (slot.Byte m most) w d e p q = p.2 ∙ ap byte (number_one m most w p.0 q.0 p.1 q.1) ∙ sym q.2
spells_one (slot.Half m most) w d e p q = p.2 ∙ ap half (number_one m most w p.0 q.0 p.1 q.1) ∙ sym q.2
spells_one (slot.Word m most) w d e p q = p.2 ∙ ap word (number_one m most w p.0 q.0 p.1 q.1) ∙ sym q.2
spells_one slot.Nibble w d e p q = p.2 ∙ ap tiny (signed_one 7 w p.0 q.0 p.1 q.1) ∙ sym q.2
spells_one slot.Tiny w d e p q = p.2 ∙ ap tiny (signed_one 127 w p.0 q.0 p.1 q.1) ∙ sym q.2
spells_one slot.Short w d e p q = p.2 ∙ ap short (signed_one 32767 w p.0 q.0 p.1 q.1) ∙ sym q.2
spells_one slot.Int w d e p q = p.2 ∙ ap int (signed_one 2147483647 w p.0 q.0 p.1 q.1) ∙ sym q.2
spells_one slot.Long w d e p q = p.2 ∙ ap long (signed_one 9223372036854775807 w p.0 q.0 p.1 q.1) ∙ sym q.2
spells_one slot.Flags w d e p q = p.2 ∙ ap word (number_one mark.Nothing 4294967295 w p.0 q.0 p.1 q.1) ∙ sym q.2
spells_one slot.Float w d e p q = p.2 ∙ ap word (plain_one (SpellsBits 8) (bits_one 8) w p.0 q.0 p.1 q.1) ∙ sym q.2
spells_one slot.Double w d e p q = p.2 ∙ ap wide (plain_one (SpellsBits 16) (bits_one 16) w p.0 q.0 p.1 q.1) ∙ sym q.2
spells_one slot.Elements w d e p q = p.2 ∙ ap elements (plain_one SpellsElements elements_one w p.0 q.0 p.1 q.1) ∙ sym q.2
spells_one slot.Text w d e p q = let i = p.1 in let j = q.1 in let f : p.0 ≡ q.0 = cc in p.2 ∙ ap (λ us. named (OfText us)) f ∙ sym q.2
spells_one slot.Member w d e p q = p.2 ∙ ap (λ us. named (OfText us)) (named_one IsMember (λ us a b x y. x.1 ∙ sym y.1) w p.0 q.0 p.1 q.1) ∙ sym q.2
spells_one slot.Desc w d e p q = p.2 ∙ ap (λ us. named (OfDesc us)) (named_one IsType (λ us a b x y. x.1 ∙ sym y.1) w p.0 q.0 p.1 q.1) ∙ sym q.2
spells_one slot.Field w d e p q = p.2 ∙ ap (λ f. named (OfField f)) (named_one IsFieldText field_one w p.0 q.0 p.1 q.1) ∙ sym q.2
spells_one slot.Method w d e p q = p.2 ∙ ap (λ m. named (OfMethod m)) (named_one IsMethodText method_one w p.0 q.0 p.1 q.1) ∙ sym q.2
spells_one slot.Enum w d e p q = p.2 ∙ ap constant (named_one IsFieldText field_one w p.0 q.0 p.1 q.1) ∙ sym q.2
spells_one slot.Proto w d e p q = p.2 ∙ ap prototype (named_one IsProtoText proto_one w p.0 q.0 p.1 q.1) ∙ sym q.2
spells_one (slot.Key k) w d e p q = p ∙ sym q
