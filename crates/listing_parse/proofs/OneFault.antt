-- A listing has one fault, at one place.
use Rattle.std.proofs.Common.{◌≡◌, ◌⊎◌, ℕ, ◌+◌, ◌<◌, true, inl, inr, List, [], ◌∷◌, ◌++◌, length, Some, None, refl, sym, ap, subst, ◌∙◌, arith}
use Rattle.std.proofs.lemmas.Bool.{cases_lt}
use Rattle.dex_base.specs.declared.fault.Fault.{Fault}
use Rattle.program_types.specs.Content.{Program}
use Rattle.program_rules.specs.Rules.{RuleBreaks}
use Rattle.program_rules.proofs.OneRule.{rule_one}
use Rattle.listing_words.specs.Words.{Word, HasWords}
use Rattle.listing_words.proofs.WordLaws.{words_one}
use Rattle.listing_slots.specs.declared.slot.Slot.{Slot}
use Rattle.listing_slots.specs.Slots.{MisspellsSlots}
use Rattle.listing_slots.specs.Shapes.{Shape}
use Rattle.listing_lines.specs.Splitting.{lines}
use Rattle.listing_lines.specs.Labels.{Label, MisspellsAll}
use Rattle.listing_lines.specs.declared.form.Form.{Form}
use Rattle.listing_lines.specs.declared.form.Form.TheVariants.{One, Two}
use Rattle.listing_parse.specs.Forms.{HasShapeInForm, may_stand_in_form, MisspellsInForm}
use Rattle.listing_parse.specs.declared.form_line.FormLine.TheVariants.{Nothing, Refused}
use Rattle.listing_parse.specs.Text.{Reading, begin, line_counted, IsMisplaced, IsMisspelled, IsTwice, IsMeaningless, AreRefused, Reads, LineIsRefused, IsBadLine, ListingBreaks}
use Rattle.listing_parse.proofs.ExactLaws.{not_both, shape_one, reads_none, reads_one, reads_over, refused_takes, bad_is_unread}

-- ---- the first word that says nothing in its slot

slots_one : (ss : List Slot) (ws : List Word) (c d : ℕ) → MisspellsSlots ss ws c → MisspellsSlots ss ws d → c ≡ d
slots_one (s ∷ ss) (w ∷ ws) c d (inl p) (inl q) = p.1 ∙ sym q.1
slots_one (s ∷ ss) (w ∷ ws) c d (inl p) (inr q) = absurd (p.0 q.0 q.1)
slots_one (s ∷ ss) (w ∷ ws) c d (inr p) (inl q) = absurd (q.0 p.0 p.1)
slots_one (s ∷ ss) (w ∷ ws) c d (inr p) (inr q) = slots_one ss ws c d p.2 q.2
slots_one _ _ c d p q = absurd p

here_one : (es : List Label) (ss : List Slot) (ws : List Word) (c d : ℕ) → MisspellsAll es ss ws c → MisspellsAll es ss ws d → c ≡ d
here_one es (s ∷ ss) (w ∷ ws) c d (inl p) (inl q) = p.1 ∙ sym q.1
here_one es (s ∷ ss) (w ∷ ws) c d (inl p) (inr q) = absurd (p.0 q.0 q.1)
here_one es (s ∷ ss) (w ∷ ws) c d (inr p) (inl q) = absurd (q.0 p.0 p.1)
here_one es (s ∷ ss) (w ∷ ws) c d (inr p) (inr q) = here_one es ss ws c d p.2 q.2
here_one es _ _ c d p q = absurd p

misspells_one : (f : Form) (es : List Label) (ss : List Slot) (ws : List Word) (c d : ℕ) → MisspellsInForm f es ss ws c → MisspellsInForm f es ss ws d → c ≡ d
misspells_one One es ss ws c d p q = slots_one ss ws c d p q
misspells_one Two es ss ws c d p q = here_one es ss ws c d p q

-- ---- why words are refused

not_misplaced : (r : Reading) (ws : List Word) (s : Shape) → IsMisplaced r ws → HasShapeInForm r.form ws s → may_stand_in_form r.form r.base s ≡ true → ⊥
not_misplaced r ws s m h stands =
    let e = shape_one r.form ws m.shape s m.has_shape h in
    not_both (may_stand_in_form r.form r.base s) stands (sym (ap (may_stand_in_form r.form r.base) e) ∙ m.refused)

not_misspelled : (r : Reading) (ws : List Word) (c : ℕ) → IsMisspelled r ws c → IsTwice r ws → ⊥
not_misspelled r ws c m t =
    let e = shape_one r.form ws m.shape t.shape m.has_shape t.has_shape in
    reads_none r.form r.labels t.shape.slots t.shape.words t.word_values c t.spelled (subst (λ (x : Shape). MisspellsInForm r.form r.labels x.slots x.words c) e m.bad)

misspelled_one : (r : Reading) (ws : List Word) (c d : ℕ) → IsMisspelled r ws c → IsMisspelled r ws d → c ≡ d
misspelled_one r ws c d a b =
    let e = shape_one r.form ws a.shape b.shape a.has_shape b.has_shape in
    misspells_one r.form r.labels b.shape.slots b.shape.words c d (subst (λ (x : Shape). MisspellsInForm r.form r.labels x.slots x.words c) e a.bad) b.bad

meaningless_one : (r : Reading) (ws : List Word) (c d : ℕ) → IsMeaningless r ws c → IsMeaningless r ws d → c ≡ d
meaningless_one r ws c d (inl a) (inl b) = a.0 ∙ sym b.0
meaningless_one r ws c d (inl a) (inr (inl b)) = absurd (a.1 b.1.shape b.1.has_shape)
meaningless_one r ws c d (inl a) (inr (inr (inl b))) = absurd (a.1 b.shape b.has_shape)
meaningless_one r ws c d (inl a) (inr (inr (inr b))) = absurd (a.1 b.1.shape b.1.has_shape)
meaningless_one r ws c d (inr (inl a)) (inl b) = absurd (b.1 a.1.shape a.1.has_shape)
meaningless_one r ws c d (inr (inl a)) (inr (inl b)) = a.0 ∙ sym b.0
meaningless_one r ws c d (inr (inl a)) (inr (inr (inl b))) = absurd (not_misplaced r ws b.shape a.1 b.has_shape b.may_stand)
meaningless_one r ws c d (inr (inl a)) (inr (inr (inr b))) = absurd (not_misplaced r ws b.1.shape a.1 b.1.has_shape b.1.may_stand)
meaningless_one r ws c d (inr (inr (inl a))) (inl b) = absurd (b.1 a.shape a.has_shape)
meaningless_one r ws c d (inr (inr (inl a))) (inr (inl b)) = absurd (not_misplaced r ws a.shape b.1 a.has_shape a.may_stand)
meaningless_one r ws c d (inr (inr (inl a))) (inr (inr (inl b))) = misspelled_one r ws c d a b
meaningless_one r ws c d (inr (inr (inl a))) (inr (inr (inr b))) = absurd (not_misspelled r ws c a b.1)
meaningless_one r ws c d (inr (inr (inr a))) (inl b) = absurd (b.1 a.1.shape a.1.has_shape)
meaningless_one r ws c d (inr (inr (inr a))) (inr (inl b)) = absurd (not_misplaced r ws a.1.shape b.1 a.1.has_shape a.1.may_stand)
meaningless_one r ws c d (inr (inr (inr a))) (inr (inr (inl b))) = absurd (not_misspelled r ws d b a.1)
meaningless_one r ws c d (inr (inr (inr a))) (inr (inr (inr b))) = a.0 ∙ sym b.0

words_refused_one : (r : Reading) (ws : List Word) (c d : ℕ) → AreRefused r ws c → AreRefused r ws d → c ≡ d
words_refused_one r ws c d (inl a) (inl b) = let x : Refused c ≡ Refused d = sym a ∙ b in cc
words_refused_one r ws c d (inl a) (inr b) = let x : Refused c ≡ Nothing = sym a ∙ b.0 in absurd cc
words_refused_one r ws c d (inr a) (inl b) = let x : Refused d ≡ Nothing = sym b ∙ a.0 in absurd cc
words_refused_one r ws c d (inr a) (inr b) = meaningless_one r ws c d a.1 b.1

-- ---- the first line that is refused

line_refused_one : (r : Reading) (l : List ℕ) (c d : ℕ) → LineIsRefused r l c → LineIsRefused r l d → c ≡ d
line_refused_one r l c d a b = by a.why b.why
  where
    by : ((c ≡ 100) × ((ws : List Word) → HasWords l ws → ⊥)) ⊎ ((ws : List Word) × HasWords l ws × AreRefused r ws c)
        → ((d ≡ 100) × ((ws : List Word) → HasWords l ws → ⊥)) ⊎ ((ws : List Word) × HasWords l ws × AreRefused r ws d) → c ≡ d
    by (inl x) (inl y) = x.0 ∙ sym y.0
    by (inl x) (inr y) = absurd (x.1 y.0 y.1)
    by (inr x) (inl y) = absurd (y.1 x.0 x.1)
    by (inr x) (inr y) = words_refused_one r y.0 c d (subst (λ (ws : List Word). AreRefused r ws c) (words_one l x.0 y.0 x.1 y.1) x.2) y.2

module _ {A : Type 0} where
  -- Of two places in a list the first lies in what is before the second.
  lies_before : (xs ys : List A) (x y : A) (us vs : List A) → xs ++ x ∷ us ≡ ys ++ y ∷ vs → length xs < length ys → (mid : List A) × (ys ≡ xs ++ x ∷ mid) × (us ≡ mid ++ y ∷ vs)
  lies_before [] (z ∷ ys) x y us vs e less = (ys, cc, cc)
  lies_before (w ∷ xs) (z ∷ ys) x y us vs e less =
      let tails : xs ++ x ∷ us ≡ ys ++ y ∷ vs = cc in
      let h = lies_before xs ys x y us vs tails (omega (arith, less)) in
      let m = h.1 in
      (h.0, cc, h.2)
  lies_before _ _ x y us vs e less = absurd (omega (arith, less))

  -- At one place of a list one thing stands, before and after it too.
  stands_once : (xs ys : List A) (x y : A) (us vs : List A) → xs ++ x ∷ us ≡ ys ++ y ∷ vs → length xs ≡ length ys → (xs ≡ ys) × (x ≡ y) × (us ≡ vs)
  stands_once [] [] x y us vs e n = (refl, cc, cc)
  stands_once (w ∷ xs) (z ∷ ys) x y us vs e n =
      let tails : xs ++ x ∷ us ≡ ys ++ y ∷ vs = cc in
      let h = stands_once xs ys x y us vs tails (omega (arith, n)) in
      let m = h.0 in
      (cc, h.1, h.2)
  stands_once _ _ x y us vs e n = absurd (omega (arith, n))

-- The bad line of the one isn't among those that the other accepts.
not_earlier : (ls : List (List ℕ)) (c d p q : ℕ) (a : IsBadLine ls c p) (b : IsBadLine ls d q) → length a.before < length b.before → ⊥
not_earlier ls c d p q a b less =
    let s = lies_before a.before b.before a.bad b.bad a.after b.after (sym a.joined ∙ b.joined) less in
    let t = subst (λ (k : List (List ℕ)). Reads begin a.before (a.bad ∷ k) a.state) s.2 a.accepted in
    let u = subst (λ (k : List (List ℕ)). Reads begin k (b.bad ∷ b.after) b.state) s.1 b.accepted in
    let o = reads_over a.before a.bad s.0 (b.bad ∷ b.after) begin a.state b.state t u in
    refused_takes a.state (s.0 ++ b.bad ∷ b.after) a.bad o.0 c a.refused o.1

bad_line_one : (ls : List (List ℕ)) (c d p q : ℕ) → IsBadLine ls c p → IsBadLine ls d q → (c ≡ d) × (p ≡ q)
bad_line_one ls c d p q a b = elim (cases_lt (length a.before) (length b.before)) [
  | inl less ↦ absurd (not_earlier ls c d p q a b less)
  | inr most ↦ elim (cases_lt (length b.before) (length a.before)) [
    | inl less ↦ absurd (not_earlier ls d c q p b a less)
    | inr least ↦
        let n : length a.before ≡ length b.before = omega (arith, most, least) in
        let s = stands_once a.before b.before a.bad b.bad a.after b.after (sym a.joined ∙ b.joined) n in
        let k : a.bad ∷ a.after ≡ b.bad ∷ b.after = let x = s.1 in let y = s.2 in cc in
        let read = subst (λ (m : List (List ℕ)). Reads begin m (b.bad ∷ b.after) a.state) s.0 (subst (λ (m : List (List ℕ)). Reads begin a.before m a.state) k a.accepted) in
        let e = reads_one b.before (b.bad ∷ b.after) begin a.state b.state read b.accepted in
        let w = subst (λ (r : Reading). LineIsRefused (line_counted r) b.bad c) e (subst (λ (l : List ℕ). LineIsRefused (line_counted a.state) l c) s.1 a.refused) in
        (line_refused_one (line_counted b.state) b.bad c d w b.refused, a.number ∙ ap (λ (k : ℕ). k + 1) n ∙ sym b.number)
  ]
]

-- ---- a text

pub fault_one : (text : List ℕ) (c d p q : ℕ) → ListingBreaks text c p → ListingBreaks text d q → (c ≡ d) × (p ≡ q)
fault_one text c d p q (inl a) (inl b) = bad_line_one (lines text) c d p q a b
fault_one text c d p q (inl a) (inr (inl b)) = absurd (bad_is_unread (lines text) c p b.2.state a b.2.accepted)
fault_one text c d p q (inl a) (inr (inr (inl b))) = absurd (bad_is_unread (lines text) c p b.1.state a b.1.accepted)
fault_one text c d p q (inl a) (inr (inr (inr b))) = absurd (bad_is_unread (lines text) c p b.state a b.accepted)
fault_one text c d p q (inr (inl a)) (inl b) = absurd (bad_is_unread (lines text) d q a.2.state b a.2.accepted)
fault_one text c d p q (inr (inl a)) (inr (inl b)) = (a.0 ∙ sym b.0, a.1 ∙ sym b.1)
fault_one text c d p q (inr (inl a)) (inr (inr (inl b))) =
    absurd (a.2.inside (ap (λ (r : Reading). r.base.block) (reads_one (lines text) [] begin a.2.state b.1.state a.2.accepted b.1.accepted) ∙ b.1.whole))
fault_one text c d p q (inr (inl a)) (inr (inr (inr b))) =
    absurd (a.2.inside (ap (λ (r : Reading). r.base.block) (reads_one (lines text) [] begin a.2.state b.state a.2.accepted b.accepted) ∙ b.whole))
fault_one text c d p q (inr (inr (inl a))) (inl b) = absurd (bad_is_unread (lines text) d q a.1.state b a.1.accepted)
fault_one text c d p q (inr (inr (inl a))) (inr (inl b)) =
    absurd (b.2.inside (ap (λ (r : Reading). r.base.block) (reads_one (lines text) [] begin b.2.state a.1.state b.2.accepted a.1.accepted) ∙ a.1.whole))
fault_one text c d p q (inr (inr (inl a))) (inr (inr (inl b))) =
    let e = ap (λ (r : Reading). r.base.late) (reads_one (lines text) [] begin a.1.state b.1.state a.1.accepted b.1.accepted) in
    let x : Some p ≡ Some q = sym a.1.late ∙ e ∙ b.1.late in
    (a.0 ∙ sym b.0, cc)
fault_one text c d p q (inr (inr (inl a))) (inr (inr (inr b))) =
    let e = ap (λ (r : Reading). r.base.late) (reads_one (lines text) [] begin a.1.state b.state a.1.accepted b.accepted) in
    let x : Some p ≡ None = sym a.1.late ∙ e ∙ b.targets in
    absurd cc
fault_one text c d p q (inr (inr (inr a))) (inl b) = absurd (bad_is_unread (lines text) d q a.state b a.accepted)
fault_one text c d p q (inr (inr (inr a))) (inr (inl b)) =
    absurd (b.2.inside (ap (λ (r : Reading). r.base.block) (reads_one (lines text) [] begin b.2.state a.state b.2.accepted a.accepted) ∙ a.whole))
fault_one text c d p q (inr (inr (inr a))) (inr (inr (inl b))) =
    let e = ap (λ (r : Reading). r.base.late) (reads_one (lines text) [] begin b.1.state a.state b.1.accepted a.accepted) in
    let x : Some q ≡ None = sym b.1.late ∙ e ∙ a.targets in
    absurd cc
fault_one text c d p q (inr (inr (inr a))) (inr (inr (inr b))) =
    let e = ap (λ (r : Reading). r.base.done) (reads_one (lines text) [] begin a.state b.state a.accepted b.accepted) in
    let f : Fault = record { code = c; place = p } in
    let g : Fault = record { code = d; place = q } in
    let same = rule_one b.state.base.done f g (subst (λ (x : Program). RuleBreaks x f) e a.breaks) b.breaks in
    (ap (λ (x : Fault). x.code) same, ap (λ (x : Fault). x.place) same)
