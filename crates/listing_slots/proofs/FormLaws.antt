-- Forms of words.
use Rattle.std.proofs.Common.{◌≡◌, ◌≢◌, ℕ, zero, suc, ◌+◌, ◌-◌, ◌<◌, ◌≤◌, true, false, List, [], ◌∷◌, length, get_or, drop, map, refl, sym, ap, arith, add-one, drop-cons, drop_of_length-le}
use Rattle.std.proofs.lemmas.Bool.{and_right}
use Rattle.listing_words.specs.Words.{Word}
use Rattle.listing_words.specs.inner.View.{word}
use Rattle.listing_words.specs.declared.words.Word.{Word as Made}
use Rattle.listing_slots.specs.declared.slot.Slot.{Slot}
use Rattle.listing_slots.specs.declared.key.Key.TheVariants as key
use Rattle.listing_slots.specs.Slots.{has_form, have_forms}
use Rattle.listing_slots.specs.Shapes.{is_key, before_close}

pub forms_lengths : (ss : List Slot) (ws : List Made) → length ss ≢ length ws → false ≡ have_forms ss (map word ws)
unfolding have_forms
forms_lengths [] [] n = absurd (n refl)
forms_lengths [] (w ∷ ws) n = refl
forms_lengths (s ∷ ss) [] n = refl
forms_lengths (s ∷ ss) (w ∷ ws) n = sym (and_right (has_form s (word w)) (have_forms ss (map word ws)) (sym (forms_lengths ss ws (λ e. n (omega arith)))))

pub close_none : (n : ℕ) (ws : List Word) → 5 ≤ n → before_close (5 - n) ws ≡ 0
unfolding before_close
close_none n [] h = refl
close_none n (w ∷ ws) h = let e : 5 - n ≡ zero = omega arith in rw e refl

pub close_end : (m n : ℕ) (ws : List Made) → length ws ≤ n → before_close m (map word (drop n ws)) ≡ 0
unfolding before_close
close_end m n ws h = rw (drop_of_length-le ws {i = n} h) refl

pub close_here : (m n : ℕ) (ws : List Made) (x : Made) → n < length ws → is_key key.Close (word (get_or ws n x)) ≡ true → before_close m (map word (drop n ws)) ≡ 0
unfolding before_close
close_here zero n ws x h e = let d : drop n ws ≡ get_or ws n x ∷ drop (n + 1) ws = rw add-one (drop-cons ws n x h) in rw d refl
close_here (suc m) n ws x h e = let d : drop n ws ≡ get_or ws n x ∷ drop (n + 1) ws = rw add-one (drop-cons ws n x h) in rw (d, e) refl

pub close_more : (n : ℕ) (ws : List Made) (x : Made) → n < length ws → n < 5 → is_key key.Close (word (get_or ws n x)) ≡ false → n + before_close (5 - n) (map word (drop n ws)) ≡ (n + 1) + before_close (5 - (n + 1)) (map word (drop (n + 1) ws))
unfolding before_close
close_more n ws x h k e =
    let d : drop n ws ≡ get_or ws n x ∷ drop (n + 1) ws = rw add-one (drop-cons ws n x h) in
    let m : 5 - n ≡ suc (5 - (n + 1)) = omega arith in
    rw (d, m, e) (omega arith)

pub close_empty : (ws : List Made) → length ws ≡ 0 → 0 ≡ before_close 5 (drop 1 (map word ws))
unfolding before_close
close_empty [] h = refl
close_empty (w ∷ ws) h = absurd (omega arith)

pub close_after : (ws after : List Made) → after ≡ drop 1 ws → before_close 5 (map word after) ≡ before_close 5 (drop 1 (map word ws))
close_after [] after e = ap (λ (l : List Made). before_close 5 (map word l)) e
close_after (w ∷ ws) after e = ap (λ (l : List Made). before_close 5 (map word l)) e

pub forms_bad : (ss : List Slot) (ws : List Made) (i : ℕ) (x : Slot) (y : Made) → i < length ss → i < length ws → has_form (get_or ss i x) (word (get_or ws i y)) ≡ false → false ≡ have_forms (drop i ss) (map word (drop i ws))
unfolding have_forms
forms_bad ss ws i x y h k e =
    let d : drop i ss ≡ get_or ss i x ∷ drop (i + 1) ss = rw add-one (drop-cons ss i x h) in
    let f : drop i ws ≡ get_or ws i y ∷ drop (i + 1) ws = rw add-one (drop-cons ws i y k) in
    rw (d, f, e) refl
