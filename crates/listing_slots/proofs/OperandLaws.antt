-- Words in slots, one after the other.
use Rattle.std.proofs.Common.{true, ◌≡◌, ℕ, ◌+◌, ◌<◌, ◌≤◌, inr, List, [], ◌∷◌, ◌++◌, length, get_or, drop, map, refl, ap, subst, ◌∙◌, arith, add-one, drop-cons, drop_of_length-le}
use Rattle.listing_words.specs.inner.View.{word}
use Rattle.listing_words.specs.declared.words.Word.{Word as Made}
use Rattle.listing_slots.specs.declared.slot.Slot.{Slot}
use Rattle.listing_slots.specs.Data.{Datum, named}
use Rattle.std.specs.Prelude.{Option, Some, None, Result, Ok, Err, IfOk, IfSome, IfNone}
use Rattle.dex_base.specs.declared.fault.Fault.{Fault}
use Rattle.dex_base.proofs.ListFacts.{all_append}
use Rattle.program_types.specs.Content.{OfText, OfDesc}
use Rattle.listing_words.specs.Words.{plain_word}
use Rattle.listing_words.specs.Names.{SpellsUnits, IsProtoText, IsFieldText, IsMethodText}
use Rattle.listing_words.proofs.NameLaws.{units_one}
use Rattle.listing_slots.specs.declared.slot.Slot.TheVariants as slot
use Rattle.listing_slots.specs.declared.datum.Datum.{Datum as Put}
use Rattle.listing_slots.specs.inner.ValidNames.{IsValidDatum, Spellings, StayValid}
use Rattle.listing_slots.specs.inner.View.{datum}
use Rattle.listing_slots.specs.Slots.{SpellsNamed, IsMember, IsType, is_name_slot, SpellsSlot, SpellsSlots, MisspellsSlots}
use Rattle.listing_slots.specs.inner.Slots.{SpellsUnitsIn}

pub all_end : (ss : List Slot) (ws : List Made) (i : ℕ) → length ss ≤ i → length ss ≡ length ws → SpellsSlots (drop i ss) (map word (drop i ws)) []
all_end ss ws i h e = rw (drop_of_length-le ss {i = i} h, drop_of_length-le ws {i = i} (omega arith)) tt

pub all_more : (ss : List Slot) (ws : List Made) (i : ℕ) (x : Slot) (y : Made) (d : Datum) (ds : List Datum) → i < length ss → length ss ≡ length ws → SpellsSlot (get_or ss i x) (word (get_or ws i y)) d
    → SpellsSlots (drop (i + 1) ss) (map word (drop (i + 1) ws)) ds → SpellsSlots (drop i ss) (map word (drop i ws)) (d ∷ ds)
all_more ss ws i x y d ds h e s more =
    let f : drop i ss ≡ get_or ss i x ∷ drop (i + 1) ss = rw add-one (drop-cons ss i x h) in
    let g : drop i ws ≡ get_or ws i y ∷ drop (i + 1) ws = rw add-one (drop-cons ws i y (omega arith)) in
    rw (f, g) (s, more)

pub bad_more : (ss : List Slot) (ws : List Made) (i : ℕ) (x : Slot) (y : Made) (d : Datum) (code : ℕ) → i < length ss → length ss ≡ length ws → SpellsSlot (get_or ss i x) (word (get_or ws i y)) d
    → MisspellsSlots (drop (i + 1) ss) (map word (drop (i + 1) ws)) code → MisspellsSlots (drop i ss) (map word (drop i ws)) code
bad_more ss ws i x y d code h e s more =
    let f : drop i ss ≡ get_or ss i x ∷ drop (i + 1) ss = rw add-one (drop-cons ss i x h) in
    let g : drop i ws ≡ get_or ws i y ∷ drop (i + 1) ws = rw add-one (drop-cons ws i y (omega arith)) in
    rw (f, g) (inr (d, s, more))

-- what is kept of the names, after one word more
pub stay_more : (old now new : Spellings) (ds : List Datum) (d : Datum) → StayValid old now ds → StayValid now new (d ∷ []) → StayValid old new (ds ++ d ∷ [])
stay_more old now new ds d before here = λ valid.
    let h = here valid in
    let b = before h.0 in
    (b.0, all_append IsValidDatum ds (d ∷ []) b.1 h.1)

-- a datum more
pub data_push : (ds : List Put) (d : Put) (more : List Datum) → map datum (ds ++ d ∷ []) ++ more ≡ map datum ds ++ (datum d ∷ more)
data_push [] d more = refl
data_push (x ∷ ds) d more = ap (λ t. datum x ∷ t) (data_push ds d more)

-- ---- names: a word's units are decoded, and then read

pub named_reads : (s : Slot) (text us : List ℕ) (d : Datum) → is_name_slot s ≡ true → SpellsUnits text us → SpellsUnitsIn s us d → SpellsSlot s (plain_word text) d
named_reads slot.Member text us d e u h = (us, (text, us, refl, u, (h.0, refl)), h.1)
named_reads slot.Desc text us d e u h = (us, (text, us, refl, u, (h.0, refl)), h.1)
named_reads slot.Field text us d e u h = (h.0, (text, us, refl, u, h.1), h.2)
named_reads slot.Method text us d e u h = (h.0, (text, us, refl, u, h.1), h.2)
named_reads slot.Enum text us d e u h = (h.0, (text, us, refl, u, h.1), h.2)
named_reads slot.Proto text us d e u h = (h.0, (text, us, refl, u, h.1), h.2)
named_reads _ text us d e u h = absurd h

-- the units that are read are those of the word
same_units : {V : Type 0} (G : List ℕ → V → Type 0) (text us : List ℕ) (v : V) → SpellsUnits text us → SpellsNamed G (plain_word text) v → G us v
same_units {V} G text us v u n =
    let e : n.0 ≡ text = (let i = n.2 in cc) in
    let f = units_one text n.1 us (subst (λ (t : List ℕ). SpellsUnits t n.1) e n.3) u in
    subst (λ (t : List ℕ). G t v) f n.4

pub named_none : (s : Slot) (text us : List ℕ) → is_name_slot s ≡ true → SpellsUnits text us → ((d : Datum) → SpellsUnitsIn s us d → ⊥) → (d : Datum) → SpellsSlot s (plain_word text) d → ⊥
named_none slot.Member text us e u none d h = let m = same_units IsMember text us h.0 u h.1 in none d (m.0, h.2 ∙ ap (λ x. named (OfText x)) m.1)
named_none slot.Desc text us e u none d h = let m = same_units IsType text us h.0 u h.1 in none d (m.0, h.2 ∙ ap (λ x. named (OfDesc x)) m.1)
named_none slot.Field text us e u none d h = none d (h.0, same_units IsFieldText text us h.0 u h.1, h.2)
named_none slot.Method text us e u none d h = none d (h.0, same_units IsMethodText text us h.0 u h.1, h.2)
named_none slot.Enum text us e u none d h = none d (h.0, same_units IsFieldText text us h.0 u h.1, h.2)
named_none slot.Proto text us e u none d h = none d (h.0, same_units IsProtoText text us h.0 u h.1, h.2)
named_none _ text us e u none d h = absurd cc

undecoded_in : {V : Type 0} (G : List ℕ → V → Type 0) (text : List ℕ) (v : V) → ((us : List ℕ) → SpellsUnits text us → ⊥) → SpellsNamed G (plain_word text) v → ⊥
undecoded_in {V} G text v none n =
    let e : n.0 ≡ text = (let i = n.2 in cc) in
    none n.1 (subst (λ (t : List ℕ). SpellsUnits t n.1) e n.3)

-- the same of what a reader answers
pub encoded_reads : (s : Slot) (text us : List ℕ) (r : Result (Option Put) Fault) → is_name_slot s ≡ true → SpellsUnits text us → IfOk r (λ o. IfSome o (λ d. SpellsUnitsIn s us (datum d))) → IfOk r (λ o. IfSome o (λ d. SpellsSlot s (plain_word text) (datum d)))
encoded_reads s text us (Ok (Some d)) e u h = named_reads s text us (datum d) e u h
encoded_reads s text us (Ok None) e u h = tt
encoded_reads s text us (Err f) e u h = tt

pub encoded_none : (s : Slot) (text us : List ℕ) (r : Result (Option Put) Fault) → is_name_slot s ≡ true → SpellsUnits text us → IfOk r (λ o. IfNone o ((d : Datum) → SpellsUnitsIn s us d → ⊥)) → IfOk r (λ o. IfNone o ((d : Datum) → SpellsSlot s (plain_word text) d → ⊥))
encoded_none s text us (Ok (Some d)) e u h = tt
encoded_none s text us (Ok None) e u h = named_none s text us e u h
encoded_none s text us (Err f) e u h = tt

-- a word that can't be decoded says nothing
pub undecoded : (s : Slot) (text : List ℕ) → is_name_slot s ≡ true → ((us : List ℕ) → SpellsUnits text us → ⊥) → (d : Datum) → SpellsSlot s (plain_word text) d → ⊥
undecoded slot.Member text e none d h = undecoded_in IsMember text h.0 none h.1
undecoded slot.Desc text e none d h = undecoded_in IsType text h.0 none h.1
undecoded slot.Field text e none d h = undecoded_in IsFieldText text h.0 none h.1
undecoded slot.Method text e none d h = undecoded_in IsMethodText text h.0 none h.1
undecoded slot.Enum text e none d h = undecoded_in IsFieldText text h.0 none h.1
undecoded slot.Proto text e none d h = undecoded_in IsProtoText text h.0 none h.1
undecoded _ text e none d h = absurd cc
