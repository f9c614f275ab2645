-- Labels ahead, line by line.
use Rattle.std.proofs.Common.{◌≡◌, ◌≢◌, ℕ, ◌+◌, true, false, inl, inr, List, [], ◌∷◌, length, refl, sym, arith}
use Rattle.std.proofs.lemmas.Bool.{cases_Bool, eqb-true, ne_eqb}
use lib.Dec.{eqb}
use Rattle.listing_words.specs.Words.{up_to_space}
use Rattle.listing_slots.specs.Keys.{key_text, same}
use Rattle.listing_lines.specs.Splitting.{is_skipped}
use Rattle.listing_lines.specs.Labels.{Label, labels_ahead, with_label, first_word, is_stop, is_mark}
use Rattle.listing_lines.specs.inner.Labels.{insns_ahead}

pub ahead_none : (es : List Label) (line k : ℕ) → labels_ahead es line k [] ≡ es
unfolding labels_ahead
ahead_none es line k = refl

pub ahead_skips : (es : List Label) (line k : ℕ) (l : List ℕ) (ls : List (List ℕ)) → is_skipped l ≡ true → labels_ahead es line k (l ∷ ls) ≡ labels_ahead es (line + 1) k ls
unfolding labels_ahead
ahead_skips es line k l ls e = rw e refl

pub ahead_stops : (es : List Label) (line k : ℕ) (l : List ℕ) (ls : List (List ℕ)) → is_skipped l ≡ false → is_stop (first_word l) ≡ true → labels_ahead es line k (l ∷ ls) ≡ es
unfolding labels_ahead
ahead_stops es line k l ls e f = rw (e, f) refl

pub ahead_marks : (es : List Label) (line k : ℕ) (l : List ℕ) (ls : List (List ℕ)) → is_skipped l ≡ false → is_stop (first_word l) ≡ false → is_mark (first_word l) ≡ true
    → labels_ahead es line k (l ∷ ls) ≡ labels_ahead (with_label es (record { name = first_word l; line = line; number = k })) (line + 1) k ls
unfolding labels_ahead
ahead_marks es line k l ls e f g = rw (e, f, g) refl

pub ahead_counts : (es : List Label) (line k : ℕ) (l : List ℕ) (ls : List (List ℕ)) → is_skipped l ≡ false → is_stop (first_word l) ≡ false → is_mark (first_word l) ≡ false → labels_ahead es line k (l ∷ ls) ≡ labels_ahead es (line + 1) (k + 1) ls
unfolding labels_ahead
ahead_counts es line k l ls e f g = rw (e, f, g) refl

-- ---- how many instructions they are

pub count_none : insns_ahead [] ≡ 0
unfolding insns_ahead
count_none = refl

pub count_skips : (l : List ℕ) (ls : List (List ℕ)) → is_skipped l ≡ true → insns_ahead (l ∷ ls) ≡ insns_ahead ls
unfolding insns_ahead
count_skips l ls e = rw e refl

pub count_stops : (l : List ℕ) (ls : List (List ℕ)) → is_skipped l ≡ false → is_stop (first_word l) ≡ true → insns_ahead (l ∷ ls) ≡ 0
unfolding insns_ahead
count_stops l ls e f = rw (e, f) refl

pub count_marks : (l : List ℕ) (ls : List (List ℕ)) → is_skipped l ≡ false → is_stop (first_word l) ≡ false → is_mark (first_word l) ≡ true → insns_ahead (l ∷ ls) ≡ insns_ahead ls
unfolding insns_ahead
count_marks l ls e f g = rw (e, f, g) refl

pub count_counts : (l : List ℕ) (ls : List (List ℕ)) → is_skipped l ≡ false → is_stop (first_word l) ≡ false → is_mark (first_word l) ≡ false → insns_ahead (l ∷ ls) ≡ insns_ahead ls + 1
unfolding insns_ahead
count_counts l ls e f g = rw (e, f, g) refl

-- ---- what the first byte tells of the first word

none_stops : is_stop [] ≡ false
unfolding same key_text
none_stops = refl

stops_not : (c : ℕ) (cs : List ℕ) → c ≢ 116 → c ≢ 101 → is_stop (c ∷ cs) ≡ false
unfolding same key_text
stops_not c cs n m = rw (ne_eqb 116 c (λ e. n (sym e)), ne_eqb 101 c (λ e. m (sym e))) refl

pub nothing_stops : (ws : List ℕ) → length ws ≡ 0 → false ≡ is_stop (up_to_space ws)
nothing_stops [] e = sym none_stops
nothing_stops (c ∷ cs) e = absurd (omega arith)

pub goes_on : (c : ℕ) (cs ws : List ℕ) → ws ≡ c ∷ cs → c ≢ 116 → c ≢ 101 → false ≡ is_stop (up_to_space ws)
goes_on c cs ws w n m = rw w (elim (cases_Bool (eqb c 32)) [
  | inl e ↦ rw e (sym none_stops)
  | inr e ↦ rw e (sym (stops_not c (up_to_space cs) n m))
])

pub marks : (ws : List ℕ) → is_mark (up_to_space ws) ≡ is_mark ws
marks [] = refl
marks (c ∷ cs) = elim (cases_Bool (eqb c 32)) [
  | inl e ↦ rw e (let i : c ≡ 32 = eqb-true c 32 e in sym (ne_eqb c 58 (λ f. omega arith)))
  | inr e ↦ rw e refl
]
