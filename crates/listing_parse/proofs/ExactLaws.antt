-- A text is one program, and none where a fault stands.
use Rattle.std.proofs.Common.{◌≡◌, ◌⊎◌, ℕ, Bool, true, false, inl, inr, List, [], ◌∷◌, ◌++◌, Some, None, sym, ap, subst, ◌∙◌, append_assoc}
use Rattle.std.proofs.lemmas.List.{append-nil}
use Rattle.program_types.specs.Content.{Program}
use Rattle.program_rules.specs.Rules.{RuleBreaks}
use Rattle.program_rules.proofs.OneRule.{rules_clear}
use Rattle.listing_words.specs.Words.{Word}
use Rattle.listing_words.proofs.WordLaws.{words_one}
use Rattle.listing_slots.specs.declared.slot.Slot.{Slot}
use Rattle.listing_slots.specs.Data.{Datum}
use Rattle.listing_slots.specs.Shapes.{Shape}
use Rattle.listing_lines.specs.Splitting.{lines, is_skipped}
use Rattle.listing_lines.specs.Labels.{Label}
use Rattle.listing_lines.proofs.SpellLaws.{here_one, here_bad}
use Rattle.listing_lines.specs.declared.form.Form.{Form}
use Rattle.listing_lines.specs.declared.form.Form.TheVariants.{One, Two}
use Rattle.listing_parse.specs.Forms.{HasShapeInForm, may_stand_in_form, SpellsInForm, MisspellsInForm}
use Rattle.listing_parse.specs.declared.form_line.FormLine.TheVariants.{Nothing, Refused, First, Mark}
use Rattle.listing_lines.specs.Lines.{line_of}
use Rattle.listing_slots.proofs.SpellLaws.{all_one, none_bad}
use Rattle.listing_parse.specs.States.{add}
use Rattle.listing_parse.specs.Text.{Reading, begin, line_counted, line_of_form, in_second, LineMeans, AddsLine, IsMeaningless, AreRefused, TakesLine, Reads, IsListing, LineIsRefused, IsBadLine, ListingBreaks}
use Rattle.listing_slots.proofs.SpellsOneLaws.{spells_one}
use Rattle.listing_slots.proofs.ShapeLaws.{shapes_one, bare_one}

pub not_both : (b : Bool) → b ≡ true → b ≡ false → ⊥
not_both b e f = let g = sym e ∙ f in cc

-- ---- by the form

pub shape_one : (f : Form) (ws : List Word) (s t : Shape) → HasShapeInForm f ws s → HasShapeInForm f ws t → s ≡ t
shape_one One ws s t p q = shapes_one ws s t p q
shape_one Two ws s t p q = bare_one ws s t p q

values_one : (f : Form) (es : List Label) (ss : List Slot) (ws : List Word) (ds gs : List Datum) → SpellsInForm f es ss ws ds → SpellsInForm f es ss ws gs → ds ≡ gs
values_one One es ss ws ds gs p q = all_one spells_one ss ws ds gs p q
values_one Two es ss ws ds gs p q = here_one es ss ws ds gs p q

pub reads_none : (f : Form) (es : List Label) (ss : List Slot) (ws : List Word) (ds : List Datum) (code : ℕ) → SpellsInForm f es ss ws ds → MisspellsInForm f es ss ws code → ⊥
reads_none One es ss ws ds code p q = none_bad ss ws ds code p q
reads_none Two es ss ws ds code p q = here_bad es ss ws ds code p q

pub at_shape : (f : Form) (es : List Label) (s t : Shape) (ds gs : List Datum) → s ≡ t → SpellsInForm f es s.slots s.words ds → SpellsInForm f es t.slots t.words gs → ds ≡ gs
at_shape f es s t ds gs e p q = values_one f es t.slots t.words ds gs (subst (λ (x : Shape). SpellsInForm f es x.slots x.words ds) e p) q

-- ---- a line makes one thing

line_is_one : (r : Reading) (ls : List (List ℕ)) (ws : List Word) (t u : Reading) → LineMeans r ls ws t → LineMeans r ls ws u → t ≡ u
line_is_one r ls ws t u a b =
    let e = shape_one r.form ws a.shape b.shape a.has_shape b.has_shape in
    let d = at_shape r.form r.labels a.shape b.shape a.word_values b.word_values e a.spelled b.spelled in
    let k = ap (λ (x : Shape). x.kind) e in
    let l : line_of a.shape.kind a.word_values ≡ line_of b.shape.kind b.word_values = cc in
    let x : Some a.next ≡ Some b.next = sym a.added ∙ ap (add r.base) l ∙ b.added in
    let n : a.next ≡ b.next = cc in
    a.is ∙ rw (k, n) (sym b.is)

abbrev Makes : Reading → List (List ℕ) → List Word → Reading → Type 0
Makes r ls ws t = ((line_of_form r ws ≡ First) × (t ≡ in_second r)) ⊎ ((line_of_form r ws ≡ Mark) × (t ≡ r)) ⊎ ((line_of_form r ws ≡ Nothing) × LineMeans r ls ws t)

makes_one : (r : Reading) (ls : List (List ℕ)) (ws : List Word) (t u : Reading) → Makes r ls ws t → Makes r ls ws u → t ≡ u
makes_one r ls ws t u (inl a) (inl b) = a.1 ∙ sym b.1
makes_one r ls ws t u (inl a) (inr (inl b)) = let x : First ≡ Mark = sym a.0 ∙ b.0 in absurd cc
makes_one r ls ws t u (inl a) (inr (inr b)) = let x : First ≡ Nothing = sym a.0 ∙ b.0 in absurd cc
makes_one r ls ws t u (inr (inl a)) (inl b) = let x : Mark ≡ First = sym a.0 ∙ b.0 in absurd cc
makes_one r ls ws t u (inr (inl a)) (inr (inl b)) = a.1 ∙ sym b.1
makes_one r ls ws t u (inr (inl a)) (inr (inr b)) = let x : Mark ≡ Nothing = sym a.0 ∙ b.0 in absurd cc
makes_one r ls ws t u (inr (inr a)) (inl b) = let x : Nothing ≡ First = sym a.0 ∙ b.0 in absurd cc
makes_one r ls ws t u (inr (inr a)) (inr (inl b)) = let x : Nothing ≡ Mark = sym a.0 ∙ b.0 in absurd cc
makes_one r ls ws t u (inr (inr a)) (inr (inr b)) = line_is_one r ls ws t u a.1 b.1

adds_one : (r : Reading) (ls : List (List ℕ)) (line : List ℕ) (t u : Reading) → AddsLine r ls line t → AddsLine r ls line u → t ≡ u
adds_one r ls line t u a b =
    let e = words_one line a.words b.words a.has_words b.has_words in
    makes_one r ls b.words t u (subst (λ (ws : List Word). Makes r ls ws t) e a.makes) b.makes

takes_one : (r : Reading) (ls : List (List ℕ)) (line : List ℕ) (t u : Reading) → TakesLine r ls line t → TakesLine r ls line u → t ≡ u
takes_one r ls line t u (inl a) (inl b) = a.1 ∙ sym b.1
takes_one r ls line t u (inl a) (inr b) = absurd (not_both (is_skipped line) a.0 b.0)
takes_one r ls line t u (inr a) (inl b) = absurd (not_both (is_skipped line) b.0 a.0)
takes_one r ls line t u (inr a) (inr b) = adds_one (line_counted r) ls line t u a.1 b.1

pub reads_one : (ls rest : List (List ℕ)) (r t u : Reading) → Reads r ls rest t → Reads r ls rest u → t ≡ u
reads_one [] rest r t u p q = sym p ∙ q
reads_one (l ∷ ls) rest r t u p q =
    let e = takes_one r (ls ++ rest) l p.0 q.0 p.1 q.1 in
    reads_one ls rest q.0 t u (subst (λ (x : Reading). Reads x ls rest t) e p.2) q.2

pub listing_one : (text : List ℕ) (p q : Program) → IsListing text p → IsListing text q → p ≡ q
listing_one text p q a b = sym a.classes ∙ ap (λ (r : Reading). r.base.done) (reads_one (lines text) [] begin a.end b.end a.read b.read) ∙ b.classes

-- ---- a line that is refused isn't taken

refused_reads : (r : Reading) (ls : List (List ℕ)) (ws : List Word) (t : Reading) (code : ℕ) → IsMeaningless r ws code → LineMeans r ls ws t → ⊥
refused_reads r ls ws t code (inl w) a = w.1 a.shape a.has_shape
refused_reads r ls ws t code (inr (inl w)) a =
    let m = w.1 in let e = shape_one r.form ws m.shape a.shape m.has_shape a.has_shape in
    not_both (may_stand_in_form r.form r.base a.shape) a.may_stand (sym (ap (may_stand_in_form r.form r.base) e) ∙ m.refused)
refused_reads r ls ws t code (inr (inr (inl m))) a =
    let e = shape_one r.form ws m.shape a.shape m.has_shape a.has_shape in
    reads_none r.form r.labels a.shape.slots a.shape.words a.word_values code a.spelled (subst (λ (x : Shape). MisspellsInForm r.form r.labels x.slots x.words code) e m.bad)
refused_reads r ls ws t code (inr (inr (inr w))) a =
    let m = w.1 in let e = shape_one r.form ws m.shape a.shape m.has_shape a.has_shape in
    let d = at_shape r.form r.labels m.shape a.shape m.word_values a.word_values e m.spelled a.spelled in
    let k = ap (λ (x : Shape). x.kind) e in
    let l : line_of m.shape.kind m.word_values ≡ line_of a.shape.kind a.word_values = cc in
    let x : None ≡ Some a.next = sym m.refused ∙ ap (add r.base) l ∙ a.added in cc

refused_makes : (r : Reading) (ls : List (List ℕ)) (ws : List Word) (t : Reading) (code : ℕ) → AreRefused r ws code → Makes r ls ws t → ⊥
refused_makes r ls ws t code (inl w) (inl a) = let x : Refused code ≡ First = sym w ∙ a.0 in cc
refused_makes r ls ws t code (inl w) (inr (inl a)) = let x : Refused code ≡ Mark = sym w ∙ a.0 in cc
refused_makes r ls ws t code (inl w) (inr (inr a)) = let x : Refused code ≡ Nothing = sym w ∙ a.0 in cc
refused_makes r ls ws t code (inr w) (inl a) = let x : Nothing ≡ First = sym w.0 ∙ a.0 in cc
refused_makes r ls ws t code (inr w) (inr (inl a)) = let x : Nothing ≡ Mark = sym w.0 ∙ a.0 in cc
refused_makes r ls ws t code (inr w) (inr (inr a)) = refused_reads r ls ws t code w.1 a.1

refused_adds : (r : Reading) (ls : List (List ℕ)) (line : List ℕ) (t : Reading) (code : ℕ) → LineIsRefused r line code → AddsLine r ls line t → ⊥
refused_adds r ls line t code w a = elim w.why [
  | inl x ↦ x.1 a.words a.has_words
  | inr x ↦ refused_makes r ls a.words t code (subst (λ (ws : List Word). AreRefused r ws code) (words_one line x.0 a.words x.1 a.has_words) x.2) a.makes
]

pub refused_takes : (r : Reading) (ls : List (List ℕ)) (line : List ℕ) (t : Reading) (code : ℕ) → LineIsRefused (line_counted r) line code → TakesLine r ls line t → ⊥
refused_takes r ls line t code w (inl a) = not_both (is_skipped line) a.0 w.not_skipped
refused_takes r ls line t code w (inr a) = refused_adds (line_counted r) ls line t code w a.1

-- Where these lines are read, a line that stands among them is taken after those before it.
pub reads_over : (before : List (List ℕ)) (l : List ℕ) (after rest : List (List ℕ)) (r t u : Reading) → Reads r before (l ∷ (after ++ rest)) t → Reads r (before ++ l ∷ after) rest u → (v : Reading) × TakesLine t (after ++ rest) l v
reads_over [] l after rest r t u p q = (q.0, subst (λ (x : Reading). TakesLine x (after ++ rest) l q.0) p q.1)
reads_over (b ∷ before) l after rest r t u p q =
    let n : (before ++ l ∷ after) ++ rest ≡ before ++ l ∷ (after ++ rest) = append_assoc before (l ∷ after) rest in
    let e = takes_one r (before ++ l ∷ (after ++ rest)) b p.0 q.0 p.1 (subst (λ (ls : List (List ℕ)). TakesLine r ls b q.0) n q.1) in
    reads_over before l after rest q.0 t u (subst (λ (x : Reading). Reads x before (l ∷ (after ++ rest)) t) e p.2) q.2

-- A text with a bad line isn't read to its end.
pub bad_is_unread : (ls : List (List ℕ)) (code place : ℕ) (u : Reading) → IsBadLine ls code place → Reads begin ls [] u → ⊥
bad_is_unread ls code place u w a =
    let p = subst (λ (k : List (List ℕ)). Reads begin w.before (w.bad ∷ k) w.state) (sym (append-nil w.after)) w.accepted in
    let x = reads_over w.before w.bad w.after [] begin w.state u p (subst (λ (k : List (List ℕ)). Reads begin k [] u) w.joined a) in
    refused_takes w.state (w.after ++ []) w.bad x.0 code w.refused x.1

pub listing_none : (text : List ℕ) (p : Program) (code place : ℕ) → ListingBreaks text code place → IsListing text p → ⊥
listing_none text p code place b a = elim b [
  | inl w ↦ bad_is_unread (lines text) code place a.end w a.read
  | inr (inl w) ↦ w.2.inside (ap (λ (r : Reading). r.base.block) (reads_one (lines text) [] begin w.2.state a.end w.2.accepted a.read) ∙ a.whole)
  | inr (inr (inl w)) ↦
      let e = reads_one (lines text) [] begin w.1.state a.end w.1.accepted a.read in
      let f : Some place ≡ None = sym w.1.late ∙ ap (λ (r : Reading). r.base.late) e ∙ a.targets in cc
  | inr (inr (inr w)) ↦
      let e = reads_one (lines text) [] begin w.state a.end w.accepted a.read in
      let q : w.state.base.done ≡ p = ap (λ (r : Reading). r.base.done) e ∙ a.classes in
      rules_clear p (record { code = code; place = place }) a.formed.rules (subst (λ (x : Program). RuleBreaks x (record { code = code; place = place })) q w.breaks)
]
