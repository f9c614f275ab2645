-- Words say one thing in the slots of the second form, and a fault stands only where they say nothing.
use Rattle.std.proofs.Common.{◌≡◌, ℕ, ◌+◌, ◌<◌, ◌≤◌, Bool, true, false, inl, inr, List, [], ◌∷◌, length, get_or, drop, map, refl, sym, ap, ◌∙◌, arith, add-one, drop-cons, drop_of_length-le}
use Rattle.listing_words.specs.inner.View.{word as word_of}
use Rattle.listing_words.specs.declared.words.Word.{Word as Made}
use Rattle.listing_words.specs.Words.{Word}
use Rattle.listing_slots.specs.declared.slot.Slot.{Slot}
use Rattle.listing_slots.specs.Data.{Datum, word}
use Rattle.listing_slots.proofs.SpellsOneLaws.{spells_one}
use Rattle.listing_lines.specs.Labels.{Label, is_target, lookup, marked_by, SpellsLabel, SpellsBy, SpellsHere, SpellsAll, MisspellsAll, fault_here}

label_reads_one : (es : List Label) (w : Word) (d e : Datum) → SpellsLabel es w d → SpellsLabel es w e → d ≡ e
label_reads_one es w d e p q =
    let i = p.1 in let j = q.1 in
    let t : p.0 ≡ q.0 = cc in
    p.3 ∙ ap (λ (x : List ℕ). word (marked_by (lookup x es))) t ∙ sym q.3

chosen_one : (b : Bool) (es : List Label) (s : Slot) (w : Word) (d e : Datum) → SpellsBy b es s w d → SpellsBy b es s w e → d ≡ e
chosen_one true es s w d e p q = label_reads_one es w d e p q
chosen_one false es s w d e p q = spells_one s w d e p q

reads_one : (es : List Label) (s : Slot) (w : Word) (d e : Datum) → SpellsHere es s w d → SpellsHere es s w e → d ≡ e
reads_one es s w d e p q = chosen_one (is_target s) es s w d e p q

pub here_one : (es : List Label) (ss : List Slot) (ws : List Word) (ds gs : List Datum) → SpellsAll es ss ws ds → SpellsAll es ss ws gs → ds ≡ gs
here_one es [] [] [] [] p q = refl
here_one es [] [] [] (g ∷ gs) p q = absurd q
here_one es [] [] (d ∷ ds) gs p q = absurd p
here_one es [] (w ∷ ws) ds gs p q = absurd p
here_one es (s ∷ ss) [] ds gs p q = absurd p
here_one es (s ∷ ss) (w ∷ ws) [] gs p q = absurd p
here_one es (s ∷ ss) (w ∷ ws) (d ∷ ds) [] p q = absurd q
here_one es (s ∷ ss) (w ∷ ws) (d ∷ ds) (g ∷ gs) p q = let e = reads_one es s w d g p.0 q.0 in let f = here_one es ss ws ds gs p.1 q.1 in cc

pub here_bad : (es : List Label) (ss : List Slot) (ws : List Word) (ds : List Datum) (code : ℕ) → SpellsAll es ss ws ds → MisspellsAll es ss ws code → ⊥
here_bad es [] ws ds code p q = q
here_bad es (s ∷ ss) [] ds code p q = q
here_bad es (s ∷ ss) (w ∷ ws) [] code p q = p
here_bad es (s ∷ ss) (w ∷ ws) (d ∷ ds) code p (inl b) = b.0 d p.0
here_bad es (s ∷ ss) (w ∷ ws) (d ∷ ds) code p (inr b) = here_bad es ss ws ds code p.1 b.2

-- ---- words in memory, one after the other

pub all_end : (es : List Label) (ss : List Slot) (ws : List Made) (i : ℕ) → length ss ≤ i → length ss ≡ length ws → SpellsAll es (drop i ss) (map word_of (drop i ws)) []
all_end es ss ws i h e = rw (drop_of_length-le ss {i = i} h, drop_of_length-le ws {i = i} (omega arith)) tt

pub all_more : (es : List Label) (ss : List Slot) (ws : List Made) (i : ℕ) (x : Slot) (y : Made) (d : Datum) (ds : List Datum) → i < length ss → length ss ≡ length ws → SpellsHere es (get_or ss i x) (word_of (get_or ws i y)) d
    → SpellsAll es (drop (i + 1) ss) (map word_of (drop (i + 1) ws)) ds → SpellsAll es (drop i ss) (map word_of (drop i ws)) (d ∷ ds)
all_more es ss ws i x y d ds h e s more =
    let f : drop i ss ≡ get_or ss i x ∷ drop (i + 1) ss = rw add-one (drop-cons ss i x h) in
    let g : drop i ws ≡ get_or ws i y ∷ drop (i + 1) ws = rw add-one (drop-cons ws i y (omega arith)) in
    rw (f, g) (s, more)

pub bad_more : (es : List Label) (ss : List Slot) (ws : List Made) (i : ℕ) (x : Slot) (y : Made) (d : Datum) (code : ℕ) → i < length ss → length ss ≡ length ws → SpellsHere es (get_or ss i x) (word_of (get_or ws i y)) d
    → MisspellsAll es (drop (i + 1) ss) (map word_of (drop (i + 1) ws)) code → MisspellsAll es (drop i ss) (map word_of (drop i ws)) code
bad_more es ss ws i x y d code h e s more =
    let f : drop i ss ≡ get_or ss i x ∷ drop (i + 1) ss = rw add-one (drop-cons ss i x h) in
    let g : drop i ws ≡ get_or ws i y ∷ drop (i + 1) ws = rw add-one (drop-cons ws i y (omega arith)) in
    rw (f, g) (inr (d, s, more))

pub bad_here : (es : List Label) (ss : List Slot) (ws : List Made) (i : ℕ) (x : Slot) (y : Made) (code : ℕ) → i < length ss → length ss ≡ length ws → ((d : Datum) → SpellsHere es (get_or ss i x) (word_of (get_or ws i y)) d → ⊥)
    → code ≡ fault_here (get_or ss i x) → MisspellsAll es (drop i ss) (map word_of (drop i ws)) code
bad_here es ss ws i x y code h e none c =
    let f : drop i ss ≡ get_or ss i x ∷ drop (i + 1) ss = rw add-one (drop-cons ss i x h) in
    let g : drop i ws ≡ get_or ws i y ∷ drop (i + 1) ws = rw add-one (drop-cons ws i y (omega arith)) in
    rw (f, g) (inl (none, c))
