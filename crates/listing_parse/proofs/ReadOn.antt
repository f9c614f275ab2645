-- A text whose lines say those of a program is read.
use Rattle.std.proofs.Common.{◌≡◌, ℕ, ◌+◌, Bool, true, false, ◌⊎◌, inl, inr, List, [], ◌∷◌, ◌++◌, Option, Some, refl, sym, ap, subst, ◌∙◌, append_assoc}
use Rattle.std.proofs.lemmas.Bool.{eq-eqb}
use Rattle.std.proofs.lemmas.List.{append-nil}
use Rattle.listing_words.specs.Words.{plain_word}
use Rattle.listing_lines.specs.Lines.{Line, open_code, end_code, insn_line, try_line, catch_line, catch_all_line}
use Rattle.listing_lines.specs.Places.{is_start, is_insns, is_in_code, is_caught}
use Rattle.listing_lines.specs.Forms.{is_two}
use Rattle.listing_lines.specs.declared.form.Form.{Form}
use Rattle.listing_lines.specs.declared.form.Form.TheVariants.{One, Two}
use Rattle.listing_parse.specs.States.{Block, State, stage_of, insn_count, counted}
use Rattle.listing_lines.specs.Labels.{Label, is_label, lookup}
use Rattle.listing_parse.specs.Text.{Reading, is_on, line_of_form, TakesLine, Reads}
use Rattle.listing_parse.specs.declared.form_line.FormLine.TheVariants.{Mark}
use Rattle.listing_parse.specs.Codes.{Numbered}
use Rattle.listing_parse.specs.Classes.{NoneTwice}
use Rattle.listing_parse.specs.inner.Runs.{line_stands, at_line, Steps, Runs}
use Rattle.listing_parse.specs.Texts.{LineText, opens_code, is_of_try, label_names, Where, outside, among, after_insns, LinesText, no_lines, silent, one_line, code_line, label_line, one_insn, no_insn, of_try, code_end}
use Rattle.listing_parse.proofs.CodeLaws.{again}
use Rattle.listing_parse.proofs.LineSteps.{rd, insn_read, labels_by, Part, out, insns, later, part_of, part_after, part_moves, lines_kept, out_is, insns_is, later_is, step_taken}
use Rattle.listing_parse.proofs.LabelLaws.{look_there, label_marks, NoLabels, ahead_there, no_labels}

-- ---- what a line leaves as it is

-- A line neither opens nor ends a code.
abbrev pub within_place : Line → Bool
within_place (open_code r i o) = false
within_place end_code = false
within_place _ = true

pub same_labels : (form : Form) (x : Line) (line : ℕ) (ls : List (List ℕ)) (es : List Label) → within_place x ≡ true → labels_by form x line ls es ≡ es
same_labels Two (open_code r i o) line ls es e = absurd cc
same_labels _ _ line ls es e = cc

pub none_by : (form : Form) (x : Line) (line : ℕ) (ls : List (List ℕ)) → opens_code x ≡ false → labels_by form x line ls [] ≡ []
none_by Two (open_code r i o) line ls e = absurd cc
none_by _ _ line ls e = refl

pub end_by : (form : Form) (line : ℕ) (ls : List (List ℕ)) (es : List Label) → NoLabels form es → labels_by form end_code line ls es ≡ []
end_by One line ls es h = h
end_by Two line ls es h = refl

-- Outside of codes a line that opens none leads outside of them.
pub out_goes : (x : Line) (b : Block) → part_of b ≡ out → line_stands (stage_of b) x ≡ true → opens_code x ≡ false → part_after x out ≡ out
out_goes (open_code r i o) b p s e = absurd cc
out_goes (try_line from to) b p s e = let h : is_in_code (stage_of b) ≡ false = (out_is b p).0 in absurd cc
out_goes (catch_line d k) b p s e = let h : is_caught (stage_of b) ≡ false = (out_is b p).1 in absurd cc
out_goes (catch_all_line k) b p s e = let h : is_caught (stage_of b) ≡ false = (out_is b p).1 in absurd cc
out_goes x b p s e = refl

try_goes : (x : Line) (p : Part) → is_of_try x ≡ true → part_after x p ≡ later
try_goes (try_line from to) p e = refl
try_goes _ p e = cc

try_no_insn : (x : Line) → is_of_try x ≡ true → insn_read x ≡ false
try_no_insn (insn_line i) e = absurd cc
try_no_insn x e = refl

try_within : (x : Line) → is_of_try x ≡ true → within_place x ≡ true
try_within (open_code r i o) e = absurd cc
try_within _ e = cc

-- A part of a code.
abbrev InCode : Part → Type 0
InCode p = (p ≡ later) ⊎ ((k : ℕ) × (p ≡ insns k))

begun_by : (b : Block) → InCode (part_of b) → is_start (stage_of b) ≡ false
begun_by b (inl e) = elim (later_is b e) [ inl h ↦ ap is_start h | inr h ↦ ap is_start h ]
begun_by b (inr e) = ap is_start (insns_is b e.0 e.1).0

-- ---- the label's line

mark_there : (form : Form) (es : List Label) (s : State) (name : List ℕ) → is_two form ≡ true → is_label name ≡ true → is_insns (stage_of s.block) ≡ true → is_on s.lines (lookup name es) ≡ true → line_of_form (rd form es s) (plain_word name ∷ []) ≡ Mark
unfolding line_of_form
mark_there One es s name e l i o = absurd cc
mark_there Two es s name e l i o = rw (label_marks name l, i, l, o) refl

on_line : (n m : ℕ) (l : Label) (o : Option Label) → o ≡ Some l → l.line ≡ n → n ≡ m → is_on m o ≡ true
on_line n m l o e f g = rw e (eq-eqb l.line m (f ∙ g))

pub read_on : (r u t : Reading) (l : List ℕ) (ls : List (List ℕ)) → TakesLine r ls l u → Reads u ls [] t → Reads r (l ∷ ls) [] t
read_on r u t l ls k h = (u, subst (λ z. TakesLine r z l u) (sym (append-nil ls)) k, h)

-- ---- lines that are read

-- The state stands there, with these labels.
abbrev Meets : Form → Where → List Label → State → Type 0
Meets form outside es s = (es ≡ []) × (part_of s.block ≡ out)
Meets form (among labels ahead k) es s = (es ≡ labels) × (part_of s.block ≡ insns k) × NoneTwice (label_names labels) × NoLabels form labels × ((pre : List Label) × (labels ≡ pre ++ ahead))
Meets form (after_insns labels) es s = (es ≡ labels) × InCode (part_of s.block) × NoLabels form labels

meets_on : (form : Form) (w : Where) (es : List Label) (s : State) → Meets form w es s → Meets form w es (counted s)
meets_on form outside es s m = m
meets_on form _ es s m = m

-- The lines are read to this state, however many they are.
abbrev pub ReadTo : Form → List Label → State → List (List ℕ) → State → Type 0
ReadTo form es s ls t = (m : ℕ) × Reads (rd form es s) ls [] (rd form [] (at_line t m))

-- A line of the program, and what is read after it.
step_on : (form : Form) (es : List Label) (s t : State) (l : List ℕ) (ls : List (List ℕ)) (n k : ℕ) (x : Line) (xs : List Numbered) → s.lines ≡ n → LineText form es k l x → (insn_read x ≡ true → insn_count s.block ≡ k) → is_start (stage_of s.block) ≡ false
    → Runs s ((n + 1, x) ∷ xs) t → ((u : State) → Steps s (s.lines + 1) x u → u.lines ≡ n + 1 → Runs u xs t → ReadTo form (labels_by form x (s.lines + 1 + 1) ls es) u ls t) → ReadTo form es s (l ∷ ls) t
step_on form es s t l ls n k x xs e y c b r after =
    let p : Steps s (s.lines + 1) x r.0 = subst (λ z. Steps s (z + 1) x r.0) (sym e) r.1 in
    let z = after r.0 p (lines_kept (at_line s (s.lines + 1)) r.0 x p.added ∙ ap (λ v. v + 1) e) r.2 in
    (z.0, read_on (rd form es s) (rd form (labels_by form x (s.lines + 1 + 1) ls es) r.0) (rd form [] (at_line t z.0)) l ls (step_taken form es s ls l k x r.0 y c b p) z.1)

pub to_reads : (form : Form) {w : Where} {n : ℕ} {ls : List (List ℕ)} {xs : List Numbered} → LinesText form w n ls xs → (es : List Label) (s t : State) → s.lines ≡ n → Meets form w es s → Runs s xs t → ReadTo form es s ls t
to_reads form no_lines es s t e m r =
    (s.lines, ap (λ z. rd form z s) m.0 ∙ ap (λ z. rd form [] z) (sym (ap (λ z. at_line z s.lines) r)))
to_reads form (silent {w = w} {l = l} {ls = ls} q d) es s t e m r =
    let y = to_reads form d es (counted s) t (ap (λ z. z + 1) e) (meets_on form w es s m) (again s t _ (s.lines + 1) r) in
    (y.0, read_on (rd form es s) (rd form es (counted s)) (rd form [] (at_line t y.0)) l ls (inl (q, refl)) y.1)
to_reads form (one_line {n = n} {l = l} {ls = ls} {x = x} {xs = xs} y o d) es s t e m r =
    let i = out_is s.block m.1 in
    step_on form es s t l ls n 0 x xs e (subst (λ z. LineText form z 0 l x) (sym m.0) y) (λ h. i.4) i.3 r (λ u p f more.
    let none = ap (labels_by form x (s.lines + 1 + 1) ls) m.0 ∙ none_by form x (s.lines + 1 + 1) ls o in
    let part : part_of u.block ≡ out = part_moves s (s.lines + 1) x u p ∙ ap (part_after x) m.1 ∙ out_goes x s.block m.1 p.stands o in
    to_reads form d _ u t f (none, part) more)
to_reads form (code_line {n = n} {l = l} {ls = ls} {r = a} {i = b} {o = c} {labels = labels} {xs = xs} y distinct d) es s t e m r =
    let x = open_code a b c in
    let i = out_is s.block m.1 in
    step_on form es s t l ls n 0 x xs e (subst (λ z. LineText form z 0 l x) (sym m.0) y) (λ h. i.4) i.3 r (λ u p f more.
    let there = ap (labels_by form x (s.lines + 1 + 1) ls) m.0 ∙ ap (λ v. labels_by form x (v + 1 + 1) ls []) e ∙ ahead_there form (n + 1) a b c labels ls xs distinct d in
    to_reads form d _ u t f (there, part_moves s (s.lines + 1) x u p, distinct, no_labels form 0 (n + 1) labels ls xs d, ([], refl)) more)
to_reads form (label_line {labels = labels} {ahead = ahead} {k = k} {n = n} {l = l} {name = name} {ls = ls} {xs = xs} y d) es s t e m r =
    let new : Label = record { name = name; line = n + 1; number = k } in
    let pre = m.4.0 in
    let split : labels ≡ pre ++ (new ∷ ahead) = m.4.1 in
    let found : lookup name es ≡ Some new = ap (lookup name) (m.0 ∙ split) ∙ look_there pre new ahead (subst (λ z. NoneTwice (label_names z)) split m.2) in
    let stands : is_insns (stage_of s.block) ≡ true = ap is_insns (insns_is s.block k m.1).0 in
    let a = mark_there form es (counted s) name y.second y.is_label stands (on_line (n + 1) (s.lines + 1) new (lookup name es) found refl (ap (λ v. v + 1) (sym e))) in
    let q : TakesLine (rd form es s) ls l (rd form es (counted s)) = inr (y.not_skipped, record { words = plain_word name ∷ []; has_words = y.alone; makes = inr (inl (a, refl)) }) in
    let z = to_reads form d es (counted s) t (ap (λ v. v + 1) e) (m.0, m.1, m.2, m.3, (pre ++ new ∷ [], split ∙ sym (append_assoc pre (new ∷ []) ahead))) (again s t xs (s.lines + 1) r) in
    (z.0, read_on (rd form es s) (rd form es (counted s)) (rd form [] (at_line t z.0)) l ls q z.1)
to_reads form (one_insn {labels = labels} {ahead = ahead} {k = k} {n = n} {l = l} {ls = ls} {i = a} {xs = xs} y d) es s t e m r =
    let x = insn_line a in
    let i = insns_is s.block k m.1 in
    step_on form es s t l ls n k x xs e (subst (λ z. LineText form z k l x) (sym m.0) y) (λ h. i.1) (ap is_start i.0) r (λ u p f more.
    let same = same_labels form x (s.lines + 1 + 1) ls es refl ∙ m.0 in
    let part : part_of u.block ≡ insns (k + 1) = part_moves s (s.lines + 1) x u p ∙ ap (part_after x) m.1 in
    to_reads form d _ u t f (same, part, m.2, m.3, m.4) more)
to_reads form (no_insn {labels = labels} {k = k} d) es s t e m r = to_reads form d es s t e (m.0, inr (k, m.1), m.3) r
to_reads form (of_try {labels = labels} {n = n} {l = l} {ls = ls} {x = x} {xs = xs} y o d) es s t e m r =
    let no = try_no_insn x o in
    step_on form es s t l ls n 0 x xs e (subst (λ z. LineText form z 0 l x) (sym m.0) y) (λ h. absurd cc) (begun_by s.block m.1) r (λ u p f more.
    let same = same_labels form x (s.lines + 1 + 1) ls es (try_within x o) ∙ m.0 in
    let part : part_of u.block ≡ later = part_moves s (s.lines + 1) x u p ∙ try_goes x (part_of s.block) o in
    to_reads form d _ u t f (same, inl part, m.2) more)
to_reads form (code_end {labels = labels} {n = n} {l = l} {ls = ls} {xs = xs} y d) es s t e m r =
    step_on form es s t l ls n 0 end_code xs e (subst (λ z. LineText form z 0 l end_code) (sym m.0) y) (λ h. absurd cc) (begun_by s.block m.1) r (λ u p f more.
    let none = end_by form (s.lines + 1 + 1) ls es (subst (NoLabels form) (sym m.0) m.2) in
    to_reads form d _ u t f (none, part_moves s (s.lines + 1) end_code u p) more)
