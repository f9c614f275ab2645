-- Words that are printed in their slots are read again.
use Rattle.std.proofs.Common.{◌≡◌, ◌≢◌, ℕ, ℤ, pos, negsuc, suc, ◌^◌, ◌<◌, ◌≤◌, Bool, true, false, ◌&&◌, ltb, inl, inr, List, [], ◌∷◌, ◌++◌, length, get_or, refl, sym, ap, arith}
use Rattle.std.specs.List.{list_all, AllByRecursion}
use Rattle.std.specs.Char.{digit_value}
use Rattle.std.specs.Str.Parse.{AllDigits}
use Rattle.std.specs.Fmt.{decimal, signed_decimal}
use Rattle.std.proofs.lemmas.Fmt.{decimal_is_IsNumeral}
use Rattle.std.proofs.lemmas.Bool.{ltb-true, eq-eqb, and_parts}
use Rattle.dex_base.specs.Descriptor.{IsMemberName}
use Rattle.program_types.specs.Content.{OfText, OfDesc, OfField, OfMethod}
use Rattle.listing_words.specs.Numbers.{SpellsNatural}
use Rattle.listing_words.specs.Words.{Word, IsGraphic, plain_word}
use Rattle.listing_words.specs.inner.Words.{IsWritable}
use Rattle.listing_words.specs.Written.{hex_digits, hex_width, flags_text, elements_text, name_text, proto_units, field_units, method_units}
use Rattle.listing_words.proofs.WrittenLaws.{bits_again, flags_again, elements_again, name_again, name_writable, hex_graphic, hex_length}
use Rattle.listing_slots.specs.declared.key.Key.{Key}
use Rattle.listing_slots.specs.declared.key.Key.TheVariants as key
use Rattle.listing_slots.specs.declared.slot.Mark.{Mark}
use Rattle.listing_slots.specs.declared.slot.Mark.TheVariants as mark
use Rattle.listing_slots.specs.declared.slot.Slot.{Slot}
use Rattle.listing_slots.specs.declared.slot.Slot.TheVariants as slot
use Rattle.listing_slots.specs.Keys.{key_text, same}
use Rattle.listing_slots.specs.Data.{Datum, byte, half, word, wide, tiny, short, int, long, elements, named, constant, prototype, key_word}
use Rattle.listing_slots.specs.Slots.{mark_text, SpellsNumber, SpellsInteger, IsSignedWithin, SpellsSlot, SpellsSlots, has_form}
use Rattle.listing_slots.specs.Shown.{shown}
use Rattle.listing_slots.specs.inner.Shown.{FitsSlot}
use Rattle.dex_base.proofs.NameLaws.{simple_some}
use Rattle.program_types.proofs.Letters.{descriptor_some}
use Rattle.dex_base.proofs.ListFacts.{all_append}

pub natural_printed : (n : ℕ) → n < 2 ^ 64 → SpellsNatural (decimal n) n
natural_printed n h = let d = decimal_is_IsNumeral n h in inl (d.0, sym d.1)

number_printed : (m : Mark) (most n : ℕ) → n ≤ most → n < 2 ^ 64 → SpellsNumber m most (plain_word (mark_text m ++ decimal n)) n
number_printed m most n h k = record { digits = decimal n; joined = refl; spelled = natural_printed n k; small = h }

flags_printed : (n : ℕ) → n < 2 ^ 32 → SpellsNumber mark.Nothing 4294967295 (plain_word (flags_text n)) n
flags_printed n h = record { digits = flags_text n; joined = refl; spelled = flags_again n h; small = omega arith }

signed_printed : (most : ℕ) (z : ℤ) → IsSignedWithin most z → most < 2 ^ 63 → SpellsInteger most (plain_word (signed_decimal z)) z
signed_printed most (pos n) h k = record { digits = decimal n; joined = refl; spelled = inl (n, natural_printed n (omega arith), refl); small = h }
signed_printed most (negsuc n) h k = record { digits = 45 ∷ decimal (suc n); joined = refl; spelled = inr (decimal (suc n), suc n, refl, natural_printed (suc n) (omega arith), refl); small = h }

-- ---- what is printed says what was printed

pub shown_reads : (s : Slot) (d : Datum) → FitsSlot s d → SpellsSlot s (shown s d) d
shown_reads (slot.Byte m most) (byte n) h = (n, number_printed m most n h.0 h.1, refl)
shown_reads (slot.Half m most) (half n) h = (n, number_printed m most n h.0 h.1, refl)
shown_reads (slot.Word m most) (word n) h = (n, number_printed m most n h.0 h.1, refl)
shown_reads slot.Nibble (tiny z) h = (z, signed_printed 7 z h (omega arith), refl)
shown_reads slot.Tiny (tiny z) h = (z, signed_printed 127 z h (omega arith), refl)
shown_reads slot.Short (short z) h = (z, signed_printed 32767 z h (omega arith), refl)
shown_reads slot.Int (int z) h = (z, signed_printed 2147483647 z h (omega arith), refl)
shown_reads slot.Long (long z) h = (z, signed_printed 9223372036854775807 z h (omega arith), refl)
shown_reads slot.Flags (word n) h = (n, flags_printed n h, refl)
shown_reads slot.Float (word n) h = (n, (hex_digits 8 n, refl, bits_again 8 n h), refl)
shown_reads slot.Double (wide n) h = (n, (hex_digits 16 n, refl, bits_again 16 n h), refl)
shown_reads slot.Elements (elements bs) h = (bs, (elements_text bs, refl, elements_again bs h.1), refl)
shown_reads slot.Text (named (OfText us)) h = (us, refl, refl)
shown_reads slot.Member (named (OfText us)) h = (us, (name_text us, us, refl, name_again us h.1, (h.0, refl)), refl)
shown_reads slot.Desc (named (OfDesc d)) h = (d, (name_text d, d, refl, name_again d h.1, (h.0, refl)), refl)
shown_reads slot.Field (named (OfField f)) h = (f, (name_text (field_units f), field_units f, refl, name_again (field_units f) h.units, record { class = h.class; name = h.name; ty = h.ty; joined = refl }), refl)
shown_reads slot.Method (named (OfMethod m)) h = (m, (name_text (method_units m), method_units m, refl, name_again (method_units m) h.units, record { class = h.class; name = h.name; tail = proto_units m.proto; proto = record { params = h.params; ret = h.ret; joined = refl }; joined = refl }), refl)
shown_reads slot.Enum (constant f) h = (f, (name_text (field_units f), field_units f, refl, name_again (field_units f) h.units, record { class = h.class; name = h.name; ty = h.ty; joined = refl }), refl)
shown_reads slot.Proto (prototype p) h = (p, (name_text (proto_units p), proto_units p, refl, name_again (proto_units p) h.units, record { params = h.params; ret = h.ret; joined = refl }), refl)
shown_reads (slot.Key k) (key_word l) h = ap key_word (sym h)
shown_reads _ _ h = absurd h

-- ---- it has the slot's form

pub same_refl : (xs : List ℕ) → same xs xs ≡ true
unfolding same
same_refl [] = refl
same_refl (x ∷ xs) = rw (eq-eqb x x refl) (same_refl xs)

pub shown_form : (s : Slot) (d : Datum) → FitsSlot s d → has_form s (shown s d) ≡ true
shown_form (slot.Byte m most) (byte n) h = refl
shown_form (slot.Half m most) (half n) h = refl
shown_form (slot.Word m most) (word n) h = refl
shown_form slot.Nibble (tiny z) h = refl
shown_form slot.Tiny (tiny z) h = refl
shown_form slot.Short (short z) h = refl
shown_form slot.Int (int z) h = refl
shown_form slot.Long (long z) h = refl
shown_form slot.Flags (word n) h = refl
shown_form slot.Float (word n) h = refl
shown_form slot.Double (wide n) h = refl
shown_form slot.Elements (elements bs) h = refl
shown_form slot.Text (named (OfText us)) h = refl
shown_form slot.Member (named (OfText us)) h = refl
shown_form slot.Desc (named (OfDesc d)) h = refl
shown_form slot.Field (named (OfField f)) h = refl
shown_form slot.Method (named (OfMethod m)) h = refl
shown_form slot.Enum (constant f) h = refl
shown_form slot.Proto (prototype p) h = refl
shown_form (slot.Key k) (key_word l) h = same_refl (key_text k)
shown_form _ _ h = absurd h

-- Each datum in its slot.
abbrev pub shown_all : List Slot → List Datum → List Word
shown_all (s ∷ ss) (d ∷ ds) = shown s d ∷ shown_all ss ds
shown_all _ _ = []

-- Each can be printed in its slot.
abbrev pub FitSlots : List Slot → List Datum → Type 0
FitSlots [] [] = Unit {0}
FitSlots (s ∷ ss) (d ∷ ds) = FitsSlot s d × FitSlots ss ds
FitSlots _ _ = ⊥

pub shown_spelled : (ss : List Slot) (ds : List Datum) → FitSlots ss ds → SpellsSlots ss (shown_all ss ds) ds
shown_spelled [] [] h = tt
shown_spelled [] (d ∷ ds) h = absurd h
shown_spelled (s ∷ ss) [] h = absurd h
shown_spelled (s ∷ ss) (d ∷ ds) h = (shown_reads s d h.0, shown_spelled ss ds h.1)

-- ---- it can be written

-- a text of graphic characters that doesn't begin with a quote
abbrev pub is_word : List ℕ → Bool
is_word [] = false
is_word (c ∷ cs) = ltb 34 c && list_all (λ b. ltb 32 b && ltb b 127) (c ∷ cs)

all_graphic : (cs : List ℕ) → list_all (λ b. ltb 32 b && ltb b 127) cs ≡ true → AllByRecursion IsGraphic cs
all_graphic [] e = tt
all_graphic (c ∷ cs) e =
    let x = and_parts (ltb 32 c && ltb c 127) (list_all (λ b. ltb 32 b && ltb b 127) cs) e in
    let y = and_parts (ltb 32 c) (ltb c 127) x.0 in
    let a = ltb-true 32 c y.0 in
    ((omega arith, ltb-true c 127 y.1), all_graphic cs x.1)

pub word_written : (cs : List ℕ) → is_word cs ≡ true → IsWritable (plain_word cs)
word_written [] e = absurd cc
word_written (c ∷ cs) e =
    let x = and_parts (ltb 34 c) (list_all (λ b. ltb 32 b && ltb b 127) (c ∷ cs)) e in
    let a = ltb-true 34 c x.0 in
    (omega arith, (λ q. omega arith), all_graphic (c ∷ cs) x.1)

key_is_word : (k : Key) → is_word (key_text k) ≡ true
unfolding key_text
key_is_word key.Dex = refl
key_is_word _ = refl

-- a digit's byte is graphic, and no quote
pub digit_range : (c : ℕ) → digit_value c < 10 → (48 ≤ c) × (c < 58)
digit_range c h = grind arith

pub digits_graphic : (cs : List ℕ) → AllDigits 10 cs → AllByRecursion IsGraphic cs
digits_graphic [] h = tt
digits_graphic (c ∷ cs) h = let r = digit_range c h.0 in ((omega arith, omega arith), digits_graphic cs h.1)

decimal_graphic : (n : ℕ) → n < 2 ^ 64 → AllByRecursion IsGraphic (decimal n)
decimal_graphic n h = digits_graphic (decimal n) (decimal_is_IsNumeral n h).0.1

pub digits_written : (cs : List ℕ) → 0 < length cs → AllDigits 10 cs → IsWritable (plain_word cs)
digits_written [] s h = absurd (omega arith)
digits_written (c ∷ cs) s h = let r = digit_range c h.0 in (s, (λ q. omega arith), digits_graphic (c ∷ cs) h)

decimal_written : (n : ℕ) → n < 2 ^ 64 → IsWritable (plain_word (decimal n))
decimal_written n h = let d = decimal_is_IsNumeral n h in digits_written (decimal n) d.0.0 d.0.1

-- a graphic byte in front
pub front_written : (c : ℕ) (cs : List ℕ) → 34 < c → c < 127 → AllByRecursion IsGraphic cs → IsWritable (plain_word (c ∷ cs))
front_written c cs a b g = (omega arith, (λ q. omega arith), ((omega arith, b), g))

pub number_written : (m : Mark) (n : ℕ) → n < 2 ^ 64 → IsWritable (plain_word (mark_text m ++ decimal n))
number_written mark.Nothing n h = decimal_written n h
number_written mark.Register n h = front_written 118 (decimal n) (omega arith) (omega arith) (decimal_graphic n h)
number_written mark.Target n h = front_written 64 (decimal n) (omega arith) (omega arith) (decimal_graphic n h)

signed_written : (most : ℕ) (z : ℤ) → IsSignedWithin most z → most < 2 ^ 63 → IsWritable (plain_word (signed_decimal z))
signed_written most (pos n) h k = decimal_written n (omega arith)
signed_written most (negsuc n) h k = front_written 45 (decimal (suc n)) (omega arith) (omega arith) (decimal_graphic (suc n) (omega arith))

hex_first : (ds : List ℕ) → AllDigits 16 ds → 0 < length ds → get_or ds 0 0 ≢ 34
hex_first [] h s = absurd (omega arith)
hex_first (c ∷ cs) h s = λ e. (let k : digit_value c < 16 = h.0 in let l : digit_value 34 < 16 = rw e at k in omega arith)

pub hex_written : (width n : ℕ) → 0 < width → n < 16 ^ width → IsWritable (plain_word (hex_digits width n))
hex_written width n s h =
    let b = bits_again width n h in let l = hex_length width n in
    (omega arith, hex_first (hex_digits width n) b.digits (omega arith), hex_graphic width n)

elements_graphic : (bs : List ℕ) → AllByRecursion IsGraphic (elements_text bs)
elements_graphic [] = tt
elements_graphic (b ∷ bs) = all_append IsGraphic (hex_digits 2 b) (elements_text bs) (hex_graphic 2 b) (elements_graphic bs)

elements_written : (bs : List ℕ) → 0 < length bs → AllByRecursion (λ b. b < 256) bs → IsWritable (plain_word (elements_text bs))
elements_written [] s h = absurd (omega arith)
elements_written (b ∷ bs) s h = let w = hex_written 2 b (omega arith) h.0 in (omega arith, w.1, elements_graphic (b ∷ bs))

joined_some : (xs ys : List ℕ) → 0 < length ys → 0 < length (xs ++ ys)
joined_some [] ys h = h
joined_some (x ∷ xs) ys h = omega arith

member_some : (us : List ℕ) → IsMemberName us → 0 < length us
member_some us h = elim h [
  | inl s ↦ simple_some us s
  | inr s ↦ rw s.2 (omega arith)
]

pub shown_written : (s : Slot) (d : Datum) → FitsSlot s d → IsWritable (shown s d)
shown_written (slot.Byte m most) (byte n) h = number_written m n h.1
shown_written (slot.Half m most) (half n) h = number_written m n h.1
shown_written (slot.Word m most) (word n) h = number_written m n h.1
shown_written slot.Nibble (tiny z) h = signed_written 7 z h (omega arith)
shown_written slot.Tiny (tiny z) h = signed_written 127 z h (omega arith)
shown_written slot.Short (short z) h = signed_written 32767 z h (omega arith)
shown_written slot.Int (int z) h = signed_written 2147483647 z h (omega arith)
shown_written slot.Long (long z) h = signed_written 9223372036854775807 z h (omega arith)
shown_written slot.Flags (word n) h = front_written 48 (120 ∷ hex_digits (hex_width n) n) (omega arith) (omega arith) ((omega arith, omega arith), hex_graphic (hex_width n) n)
shown_written slot.Float (word n) h = hex_written 8 n (omega arith) h
shown_written slot.Double (wide n) h = hex_written 16 n (omega arith) h
shown_written slot.Elements (elements bs) h = elements_written bs h.0 h.1
shown_written slot.Text (named (OfText us)) h = h
shown_written slot.Member (named (OfText us)) h = name_writable us (member_some us h.0)
shown_written slot.Desc (named (OfDesc d)) h = name_writable d (descriptor_some d h.0)
shown_written slot.Field (named (OfField f)) h = name_writable (field_units f) (joined_some f.class (45 ∷ 62 ∷ (f.name ++ (58 ∷ f.ty))) (omega arith))
shown_written slot.Method (named (OfMethod m)) h = name_writable (method_units m) (joined_some m.class (45 ∷ 62 ∷ (m.name ++ proto_units m.proto)) (omega arith))
shown_written slot.Enum (constant f) h = name_writable (field_units f) (joined_some f.class (45 ∷ 62 ∷ (f.name ++ (58 ∷ f.ty))) (omega arith))
shown_written slot.Proto (prototype p) h = name_writable (proto_units p) (omega arith)
shown_written (slot.Key k) (key_word l) h = word_written (key_text k) (key_is_word k)
shown_written _ _ h = absurd h
