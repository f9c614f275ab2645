-- A word says one thing in a slot, and words that say something have no first bad one.
use Rattle.std.proofs.Common.{◌≡◌, ℕ, inl, inr, List, [], ◌∷◌, ◌++◌, refl, subst}
use Rattle.listing_words.specs.Words.{Word}
use Rattle.listing_words.specs.Numbers.{SpellsNatural}
use Rattle.listing_words.proofs.NaturalLaws.{natural_one}
use Rattle.listing_slots.specs.declared.slot.Mark.{Mark}
use Rattle.listing_slots.specs.declared.slot.Mark.TheVariants as mark
use Rattle.listing_slots.specs.declared.slot.Slot.{Slot}
use Rattle.listing_slots.specs.Data.{Datum}
use Rattle.listing_slots.specs.Slots.{mark_text, SpellsNumber, SpellsPlain, SpellsSlot, SpellsSlots, MisspellsSlots}

unmarked : (m : Mark) (a b : List ℕ) → mark_text m ++ a ≡ mark_text m ++ b → a ≡ b
unmarked mark.Nothing a b e = e
unmarked _ a b e = cc

pub number_one : (b : Mark) (most : ℕ) (w : Word) (m n : ℕ) → SpellsNumber b most w m → SpellsNumber b most w n → m ≡ n
number_one b most w m n p q =
    let i = p.joined in let j = q.joined in
    let same : p.digits ≡ q.digits = unmarked b p.digits q.digits (cc) in
    natural_one q.digits m n (subst (λ (t : List ℕ). SpellsNatural t m) same p.spelled) q.spelled

-- what G says of texts it says of words
pub plain_one : {V : Type 0} (G : List ℕ → V → Type 0) → ((t : List ℕ) (a b : V) → G t a → G t b → a ≡ b) → (w : Word) (a b : V) → SpellsPlain G w a → SpellsPlain G w b → a ≡ b
plain_one {V} G one w a b p q =
    let i = p.1 in let j = q.1 in
    let same : p.0 ≡ q.0 = cc in
    one q.0 a b (subst (λ (t : List ℕ). G t a) same p.2) q.2

pub all_one : ((s : Slot) (w : Word) (d e : Datum) → SpellsSlot s w d → SpellsSlot s w e → d ≡ e) → (ss : List Slot) (ws : List Word) (ds es : List Datum) → SpellsSlots ss ws ds → SpellsSlots ss ws es → ds ≡ es
all_one one [] [] [] [] p q = refl
all_one one [] [] [] (e ∷ es) p q = absurd q
all_one one [] [] (d ∷ ds) es p q = absurd p
all_one one [] (w ∷ ws) ds es p q = absurd p
all_one one (s ∷ ss) [] ds es p q = absurd p
all_one one (s ∷ ss) (w ∷ ws) [] es p q = absurd p
all_one one (s ∷ ss) (w ∷ ws) (d ∷ ds) [] p q = absurd q
all_one one (s ∷ ss) (w ∷ ws) (d ∷ ds) (e ∷ es) p q = let i = one s w d e p.0 q.0 in let j = all_one one ss ws ds es p.1 q.1 in cc

pub none_bad : (ss : List Slot) (ws : List Word) (ds : List Datum) (code : ℕ) → SpellsSlots ss ws ds → MisspellsSlots ss ws code → ⊥
none_bad [] ws ds code p b = b
none_bad (s ∷ ss) [] ds code p b = b
none_bad (s ∷ ss) (w ∷ ws) [] code p b = p
none_bad (s ∷ ss) (w ∷ ws) (d ∷ ds) code p b = elim b [
  | inl n ↦ n.0 d p.0
  | inr m ↦ none_bad ss ws ds code p.1 m.2
]
