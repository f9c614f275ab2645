-- The lines of a text that is read say those of a program.
use Rattle.std.proofs.Common.{◌≡◌, ℕ, ◌+◌, ◌≤◌, ◌==◌, ◌&&◌, Bool, true, false, ◌⊎◌, inl, inr, if◌then◌else◌, List, [], ◌∷◌, ◌++◌, Option, Some, None, refl, sym, ap, subst, ◌∙◌, append_assoc, arith}
use Rattle.std.specs.List.{AllByRecursion}
use Rattle.std.proofs.lemmas.Bool.{eqb-true}
use Rattle.std.proofs.lemmas.List.{append-nil}
use Rattle.listing_words.specs.Words.{Word, plain_word, HasWords}
use Rattle.listing_lines.specs.Lines.{Line, open_code, end_code, insn_line, try_line, catch_line, catch_all_line}
use Rattle.listing_lines.specs.Places.{is_start, is_insns}
use Rattle.listing_lines.specs.Forms.{is_two}
use Rattle.listing_lines.specs.declared.form.Form.{Form}
use Rattle.listing_lines.specs.declared.form.Form.TheVariants.{One, Two}
use Rattle.listing_lines.specs.declared.stage.Stage.TheVariants.{Insns, Tries, Caught}
use Rattle.listing_parse.specs.States.{Block, at_start, State, stage_of, insn_count, counted}
use Rattle.listing_lines.specs.Splitting.{is_skipped}
use Rattle.listing_lines.specs.Labels.{Label, is_label, lookup, with_label, labels_ahead}
use Rattle.listing_lines.proofs.AheadLaws.{ahead_skips}
use Rattle.listing_parse.specs.Text.{Reading, is_second, begins_mark, is_on, line_of_mark, line_of_form, in_second, LineMeans, AddsLine, TakesLine, Reads}
use Rattle.listing_parse.specs.declared.form_line.FormLine.TheVariants.{Nothing, Refused, First, Mark}
use Rattle.listing_parse.specs.Codes.{Numbered}
use Rattle.listing_parse.specs.Classes.{NoneTwice}
use Rattle.listing_parse.specs.inner.Runs.{line_stands, at_line, Steps, Runs, is_outside}
use Rattle.listing_parse.specs.Texts.{LineText, IsLabelLine, opens_code, is_of_try, label_names, Where, outside, among, after_insns, LinesText, no_lines, silent, one_line, code_line, label_line, one_insn, no_insn, of_try, code_end}
use Rattle.listing_parse.proofs.CodeLaws.{again}
use Rattle.listing_parse.proofs.HeadLaws.{distinct_more}
use Rattle.listing_parse.proofs.LineSteps.{rd, insn_read, labels_by, out, insns, later, part_of, part_after, part_moves, out_is, insns_is, later_is, renumbered, line_step}
use Rattle.listing_parse.proofs.LabelLaws.{not_named, names_append, look_front, found_le, ahead_extends, label_ahead, insn_ahead, end_ahead, ends_insns, NoLabels}
use Rattle.listing_parse.proofs.ReadOn.{same_labels, within_place, none_by, end_by, out_goes}
use Rattle.listing_lines.proofs.LookLaws.{with_new}

-- ---- what an line_of_form tells

-- The line of a label.
pub record MarkIs (form : Form) (es : List Label) (s : State) (ws : List Word) : Type 0 where
  pub name : List ℕ
  pub alone : ws ≡ plain_word name ∷ []
  pub second : is_two form ≡ true
  pub stands : is_insns (stage_of s.block) ≡ true
  pub label : is_label name ≡ true
  pub on : is_on s.lines (lookup name es) ≡ true

start_no_mark : (b : Bool) → (if b then First else Refused 103) ≡ Mark → ⊥
start_no_mark true e = cc
start_no_mark false e = cc

three_true : (a b c : Bool) → (if a then (if b then (if c then Mark else Refused 104) else Refused 101) else Refused 103) ≡ Mark → (a ≡ true) × (b ≡ true) × (c ≡ true)
three_true true true true e = (refl, refl, refl)
three_true _ _ _ e = absurd cc

line_of_mark_is : (es : List Label) (s : State) (ws : List Word) → line_of_mark (rd Two es s) ws ≡ Mark → MarkIs Two es s ws
line_of_mark_is es s (plain_word w ∷ []) e =
    let h = three_true (is_insns (stage_of s.block)) (is_label w) (is_on s.lines (lookup w es)) e in
    record { name = w; alone = refl; second = refl; stands = h.0; label = h.1; on = h.2 }
line_of_mark_is es s _ e = absurd cc

mark_by : (es : List Label) (s : State) (ws : List Word) (a b : Bool) → is_second ws ≡ a → begins_mark ws ≡ b → line_of_form (rd Two es s) ws ≡ Mark → MarkIs Two es s ws
unfolding line_of_form
mark_by es s ws true b p q e = absurd (start_no_mark (is_start (stage_of s.block)) (rw p at e))
mark_by es s ws false true p q e = line_of_mark_is es s ws (rw (p, q) at e)
mark_by es s ws false false p q e = let h : Nothing ≡ Mark = rw (p, q) at e in absurd cc

no_mark_one : (a b : Bool) → (if a && b then (if b then First else Refused 103) else Nothing) ≡ Mark → ⊥
no_mark_one true true e = cc
no_mark_one _ _ e = cc

pub mark_means : (form : Form) (es : List Label) (s : State) (ws : List Word) → line_of_form (rd form es s) ws ≡ Mark → MarkIs form es s ws
unfolding line_of_form
mark_means One es s ws e = absurd (no_mark_one (is_second ws) (is_start (stage_of s.block)) e)
mark_means Two es s ws e = mark_by es s ws (is_second ws) (begins_mark ws) refl refl e

never_first : (a b c : Bool) → (if a then (if b then (if c then Mark else Refused 104) else Refused 101) else Refused 103) ≡ First → ⊥
never_first true true true e = cc
never_first _ _ _ e = cc

mark_never_first : (r : Reading) (ws : List Word) → line_of_mark r ws ≡ First → ⊥
mark_never_first r (plain_word w ∷ []) e = never_first (is_insns (stage_of r.base.block)) (is_label w) (is_on r.base.lines (lookup w r.labels)) e
mark_never_first r _ e = cc

start_first : (b : Bool) → (if b then First else Refused 103) ≡ First → b ≡ true
start_first true e = refl
start_first false e = absurd cc

first_one : (a b : Bool) → (if a && b then (if b then First else Refused 103) else Nothing) ≡ First → (a ≡ true) × (b ≡ true)
first_one true true e = (refl, refl)
first_one _ _ e = absurd cc

first_by : (es : List Label) (s : State) (ws : List Word) (a b : Bool) → is_second ws ≡ a → begins_mark ws ≡ b → line_of_form (rd Two es s) ws ≡ First → (is_second ws ≡ true) × (is_start (stage_of s.block) ≡ true)
unfolding line_of_form
first_by es s ws true b p q e = (p, start_first (is_start (stage_of s.block)) (rw p at e))
first_by es s ws false true p q e = absurd (mark_never_first (rd Two es s) ws (rw (p, q) at e))
first_by es s ws false false p q e = let h : Nothing ≡ First = rw (p, q) at e in absurd cc

pub first_means : (form : Form) (es : List Label) (s : State) (ws : List Word) → line_of_form (rd form es s) ws ≡ First → (is_second ws ≡ true) × (is_start (stage_of s.block) ≡ true)
unfolding line_of_form
first_means One es s ws e = first_one (is_second ws) (is_start (stage_of s.block)) e
first_means Two es s ws e = first_by es s ws (is_second ws) (begins_mark ws) refl refl e

-- ---- where a text is read

-- Outside of codes; among the instructions of one, after these labels and so many instructions; or after them.
pub data Stand : Type 0 where
  at_out : Stand
  at_insn : (pre : List Label) (k : ℕ) → Stand
  at_later : Stand

-- The labels ahead of these lines, with those before, are those of the code.
abbrev IsAhead : Form → List Label → ℕ → ℕ → List (List ℕ) → List Label → Type 0
IsAhead One pre line k ls es = (pre ≡ []) × (es ≡ [])
IsAhead Two pre line k ls es = labels_ahead pre line k ls ≡ es

abbrev pub Fits : Stand → Form → List Label → State → List (List ℕ) → Type 0
Fits at_out form es s ls = (es ≡ []) × (part_of s.block ≡ out)
Fits (at_insn pre k) form es s ls = (part_of s.block ≡ insns k) × IsAhead form pre (s.lines + 1) k ls es × NoneTwice (label_names pre) × AllByRecursion (λ (l : Label). l.line ≤ s.lines) pre
Fits at_later form es s ls = NoLabels form es × (part_of s.block ≡ later)

-- The lines say some of a program, which make t of s.
abbrev pub Sayings : Form → Where → ℕ → List (List ℕ) → State → State → Type 0
Sayings form w n ls s t = (xs : List Numbered) × LinesText form w n ls xs × Runs s xs t

abbrev pub Gives : Stand → Form → List Label → ℕ → State → List (List ℕ) → State → Type 0
Gives at_out form es n s ls t = Sayings form outside n ls s t
Gives (at_insn pre k) form es n s ls t = (ahead : List Label) × (es ≡ pre ++ ahead) × NoneTwice (label_names es) × Sayings form (among es ahead k) n ls s t
Gives at_later form es n s ls t = Sayings form (after_insns es) n ls s t

-- What is known of the lines after a line.
abbrev Hyp : List (List ℕ) → Reading → Type 0
Hyp ls t = (st : Stand) (form : Form) (es : List Label) (s : State) → Fits st form es s ls → Reads (rd form es s) ls [] t → Gives st form es s.lines s ls t.base

all_le : (es : List Label) (n : ℕ) → AllByRecursion (λ (l : Label). l.line ≤ n) es → AllByRecursion (λ (l : Label). l.line ≤ n + 1) es
all_le [] n h = tt
all_le (e ∷ es) n h = ((let q = h.0 in omega arith), all_le es n h.1)

all_le_more : (es : List Label) (n : ℕ) (l : Label) → AllByRecursion (λ (l : Label). l.line ≤ n) es → l.line ≤ n + 1 → AllByRecursion (λ (l : Label). l.line ≤ n + 1) (es ++ l ∷ [])
all_le_more [] n l h q = (q, tt)
all_le_more (e ∷ es) n l h q = ((let z = h.0 in omega arith), all_le_more es n l h.1 q)

-- ---- a line that says nothing

ahead_on : (form : Form) (pre : List Label) (n k : ℕ) (l : List ℕ) (ls : List (List ℕ)) (es : List Label) → is_skipped l ≡ true → IsAhead form pre n k (l ∷ ls) es → IsAhead form pre (n + 1) k ls es
ahead_on One pre n k l ls es q h = h
ahead_on Two pre n k l ls es q h = sym (ahead_skips pre n k l ls q) ∙ h

skip_fits : (st : Stand) (form : Form) (es : List Label) (s : State) (l : List ℕ) (ls : List (List ℕ)) → is_skipped l ≡ true → Fits st form es s (l ∷ ls) → Fits st form es (counted s) ls
skip_fits at_out form es s l ls q f = f
skip_fits (at_insn pre k) form es s l ls q f = (f.0, ahead_on form pre (s.lines + 1) k l ls es q f.1, f.2, all_le pre s.lines f.3)
skip_fits at_later form es s l ls q f = f

skip_gives : (st : Stand) (form : Form) (es : List Label) (s t : State) (l : List ℕ) (ls : List (List ℕ)) → is_skipped l ≡ true → Gives st form es (s.lines + 1) (counted s) ls t → Gives st form es s.lines s (l ∷ ls) t
skip_gives at_out form es s t l ls q g = (g.0, silent q g.1, again (counted s) t g.0 s.lines g.2)
skip_gives (at_insn pre k) form es s t l ls q g = (g.0, g.1, g.2, (g.3.0, silent q g.3.1, again (counted s) t g.3.0 s.lines g.3.2))
skip_gives at_later form es s t l ls q g = (g.0, silent q g.1, again (counted s) t g.0 s.lines g.2)

-- ---- a label's line

off_line : (n : ℕ) (l : Label) (o : Option Label) → o ≡ Some l → l.line ≤ n → is_on (n + 1) o ≡ true → ⊥
off_line n l o e h q = let z : (l.line == n + 1) ≡ true = rw e at q in let y : l.line ≡ n + 1 = eqb-true l.line (n + 1) z in omega arith

-- The label on the next line.
abbrev label_at : List ℕ → State → ℕ → Label
label_at name s k = record { name = name; line = s.lines + 1; number = k }

label_gives : (pre : List Label) (k : ℕ) (es : List Label) (s : State) (l : List ℕ) (ls : List (List ℕ)) (t : Reading) (name : List ℕ) → Fits (at_insn pre k) Two es s (l ∷ ls) → IsLabelLine Two l name → is_on (s.lines + 1) (lookup name es) ≡ true
    → Hyp ls t → Reads (rd Two es (counted s)) ls [] t → Gives (at_insn pre k) Two es s.lines s (l ∷ ls) t.base
label_gives pre k es s l ls t name f m on hyp r = by (lookup name pre) refl
  where
    by : (o : Option Label) → lookup name pre ≡ o → Gives (at_insn pre k) Two es s.lines s (l ∷ ls) t.base
    by None e =
        let new = label_at name s k in
        let a : labels_ahead (pre ++ new ∷ []) (s.lines + 1 + 1) k ls ≡ es =
        ap (λ z. labels_ahead z (s.lines + 1 + 1) k ls) (sym (with_new pre new e)) ∙ sym (label_ahead pre (s.lines + 1) k Two l ls name m) ∙ f.1 in
        let d = subst NoneTwice (sym (names_append pre (new ∷ []))) (distinct_more (label_names pre) name f.2 (not_named name pre e)) in
        let g = hyp (at_insn (pre ++ new ∷ []) k) Two es (counted s) (f.0, a, d, all_le_more pre s.lines new f.3 (omega arith)) r in
        (new ∷ g.0, g.1 ∙ append_assoc pre (new ∷ []) g.0, g.2, (g.3.0, label_line m g.3.1, again (counted s) t.base g.3.0 s.lines g.3.2))
    by (Some old) e =
        let new = label_at name s k in
        let same : with_label pre new ≡ pre = rw e refl in
        let x = ahead_extends ls pre (s.lines + 1 + 1) k in
        let a : es ≡ pre ++ x.0 = sym f.1 ∙ label_ahead pre (s.lines + 1) k Two l ls name m ∙ ap (λ z. labels_ahead z (s.lines + 1 + 1) k ls) same ∙ x.1 in
        absurd (off_line s.lines old (lookup name es) (ap (lookup name) a ∙ look_front name pre x.0 old e) (found_le name pre s.lines old f.3 e) on)

mark_gives : (st : Stand) (form : Form) (es : List Label) (s : State) (l : List ℕ) (ls : List (List ℕ)) (t : Reading) (ws : List Word) → Fits st form es s (l ∷ ls) → is_skipped l ≡ false → HasWords l ws → MarkIs form es (counted s) ws
    → Hyp ls t → Reads (rd form es (counted s)) ls [] t → Gives st form es s.lines s (l ∷ ls) t.base
mark_gives at_out form es s l ls t ws f q h m hyp r = let z = m.stands in let y : is_insns (stage_of s.block) ≡ false = (out_is s.block f.1).2 in absurd cc
mark_gives (at_insn pre k) One es s l ls t ws f q h m hyp r = let z = m.second in absurd cc
mark_gives (at_insn pre k) Two es s l ls t ws f q h m hyp r =
    label_gives pre k es s l ls t m.name f (record { second = refl; not_skipped = q; alone = subst (HasWords l) m.alone h; is_label = m.label }) m.on hyp r
mark_gives at_later form es s l ls t ws f q h m hyp r = by (later_is s.block f.1)
  where
    by : (stage_of s.block ≡ Tries) ⊎ (stage_of s.block ≡ Caught) → Gives at_later form es s.lines s (l ∷ ls) t.base
    by (inl e) = let z = m.stands in let y : is_insns (stage_of s.block) ≡ false = ap is_insns e in absurd cc
    by (inr e) = let z = m.stands in let y : is_insns (stage_of s.block) ≡ false = ap is_insns e in absurd cc

-- ---- a line of the program

-- What was read after the line, as the form and the number of lines that are known.
abbrev After : Form → List Label → State → List (List ℕ) → Reading → Type 0
After form es s ls t = (st : Stand) → Fits st form es s ls → Gives st form es s.lines s ls t.base

-- Outside of codes.
plain_gives : (form : Form) (es : List Label) (s : State) (l : List ℕ) (ls : List (List ℕ)) (t : Reading) (x : Line) (u : State) → Fits at_out form es s (l ∷ ls) → LineText form es (insn_count s.block) l x → Steps s (s.lines + 1) x u → u.lines ≡ s.lines + 1
    → After form (labels_by form x (s.lines + 1 + 1) ls es) u ls t → opens_code x ≡ false → Gives at_out form es s.lines s (l ∷ ls) t.base
plain_gives form es s l ls t x u f y p e hyp o =
    let y1 : LineText form [] 0 l x = subst (λ z. LineText form z 0 l x) f.0 (subst (λ k. LineText form es k l x) (out_is s.block f.1).4 y) in
    let none = ap (labels_by form x (s.lines + 1 + 1) ls) f.0 ∙ none_by form x (s.lines + 1 + 1) ls o in
    let part : part_of u.block ≡ out = part_moves s (s.lines + 1) x u p ∙ ap (part_after x) f.1 ∙ out_goes x s.block f.1 p.stands o in
    let g = hyp at_out (none, part) in
    ((s.lines + 1, x) ∷ g.0, one_line y1 o (subst (λ z. LinesText form outside z ls g.0) e g.1), (u, p, g.2))

code_begins : (form : Form) (es : List Label) (n m a b c : ℕ) (ls : List (List ℕ)) → es ≡ [] → n ≡ m → IsAhead form [] (n + 1) 0 ls (labels_by form (open_code a b c) (m + 1) ls es)
code_begins One es n m a b c ls h e = (refl, h)
code_begins Two es n m a b c ls h e = ap (λ z. labels_ahead [] (z + 1) 0 ls) e

out_gives : (form : Form) (es : List Label) (s : State) (l : List ℕ) (ls : List (List ℕ)) (t : Reading) (x : Line) (u : State) → Fits at_out form es s (l ∷ ls) → LineText form es (insn_count s.block) l x → Steps s (s.lines + 1) x u → u.lines ≡ s.lines + 1
    → After form (labels_by form x (s.lines + 1 + 1) ls es) u ls t → Gives at_out form es s.lines s (l ∷ ls) t.base
out_gives form es s l ls t (open_code a b c) u f y p e hyp =
    let x = open_code a b c in
    let es1 = labels_by form x (s.lines + 1 + 1) ls es in
    let y1 : LineText form [] 0 l x = subst (λ z. LineText form z 0 l x) f.0 (subst (λ k. LineText form es k l x) (out_is s.block f.1).4 y) in
    let g = hyp (at_insn [] 0) (part_moves s (s.lines + 1) x u p, code_begins form es u.lines (s.lines + 1) a b c ls f.0 e, tt, tt) in
    let d = subst (λ z. LinesText form (among es1 z 0) u.lines ls g.3.0) (sym g.1) g.3.1 in
    ((s.lines + 1, x) ∷ g.3.0, code_line y1 g.2 (subst (λ z. LinesText form (among es1 es1 0) z ls g.3.0) e d), (u, p, g.3.2))
out_gives form es s l ls t x u f y p e hyp = plain_gives form es s l ls t x u f y p e hyp refl

-- Among the instructions of a code.
insn_on : (form : Form) (pre es : List Label) (n k j : ℕ) (l : List ℕ) (ls : List (List ℕ)) (x : Line) → LineText form es j l x → insn_read x ≡ true → IsAhead form pre n k (l ∷ ls) es → IsAhead form pre (n + 1) (k + 1) ls es
insn_on One pre es n k j l ls x y i h = h
insn_on Two pre es n k j l ls x y i h = sym (insn_ahead pre es n k j l ls x y i) ∙ h

end_on : (form : Form) (pre es : List Label) (n k j : ℕ) (l : List ℕ) (ls : List (List ℕ)) (x : Line) → LineText form es j l x → ends_insns x ≡ true → IsAhead form pre n k (l ∷ ls) es → es ≡ pre
end_on One pre es n k j l ls x y i h = h.1 ∙ sym h.0
end_on Two pre es n k j l ls x y i h = sym h ∙ end_ahead pre es n k j l ls x y i

none_on : (form : Form) (pre es : List Label) (n k : ℕ) (ls : List (List ℕ)) → IsAhead form pre n k ls es → NoLabels form es
none_on One pre es n k ls h = h.1
none_on Two pre es n k ls h = tt

insn_gives : (pre : List Label) (k : ℕ) (form : Form) (es : List Label) (s : State) (l : List ℕ) (ls : List (List ℕ)) (t : Reading) (x : Line) (u : State) → Fits (at_insn pre k) form es s (l ∷ ls) → LineText form es (insn_count s.block) l x → Steps s (s.lines + 1) x u
    → line_stands Insns x ≡ true → u.lines ≡ s.lines + 1 → After form (labels_by form x (s.lines + 1 + 1) ls es) u ls t → Gives (at_insn pre k) form es s.lines s (l ∷ ls) t.base
insn_gives pre k form es s l ls t (insn_line i) u f y p w e hyp =
    let x = insn_line i in
    let es1 = labels_by form x (s.lines + 1 + 1) ls es in
    let same : es1 ≡ es = same_labels form x (s.lines + 1 + 1) ls es refl in
    let y1 = subst (λ z. LineText form es z l x) (insns_is s.block k f.0).1 y in
    let part : part_of u.block ≡ insns (k + 1) = part_moves s (s.lines + 1) x u p ∙ ap (part_after x) f.0 in
    let a = insn_on form pre es (s.lines + 1) k (insn_count s.block) l ls x y refl f.1 in
    let a1 = subst (λ z. IsAhead form pre (z + 1) (k + 1) ls es) (sym e) a in
    let a2 = subst (λ z. IsAhead form pre (u.lines + 1) (k + 1) ls z) (sym same) a1 in
    let le = subst (λ z. AllByRecursion (λ (l : Label). l.line ≤ z) pre) (sym e) (all_le pre s.lines f.3) in
    let g = hyp (at_insn pre (k + 1)) (part, a2, f.2, le) in
    let d = subst (λ z. LinesText form (among z g.0 (k + 1)) u.lines ls g.3.0) same g.3.1 in
    (g.0, sym same ∙ g.1, subst (λ z. NoneTwice (label_names z)) same g.2, ((s.lines + 1, x) ∷ g.3.0, one_insn y1 (subst (λ z. LinesText form (among es g.0 (k + 1)) z ls g.3.0) e d), (u, p, g.3.2)))
insn_gives pre k form es s l ls t (try_line from to) u f y p w e hyp =
    let x = try_line from to in
    let es1 = labels_by form x (s.lines + 1 + 1) ls es in
    let same : es1 ≡ es = same_labels form x (s.lines + 1 + 1) ls es refl in
    let q : es ≡ pre = end_on form pre es (s.lines + 1) k (insn_count s.block) l ls x y refl f.1 in
    let none = none_on form pre es (s.lines + 1) k (l ∷ ls) f.1 in
    let g = hyp at_later (subst (NoLabels form) (sym same) none, part_moves s (s.lines + 1) x u p) in
    let d = subst (λ z. LinesText form (after_insns z) u.lines ls g.0) same g.1 in
    let y1 = renumbered form es (insn_count s.block) 0 l x refl y in
    ([], q ∙ sym (append-nil pre), subst (λ z. NoneTwice (label_names z)) (sym q) f.2, ((s.lines + 1, x) ∷ g.0, no_insn (of_try y1 refl (subst (λ z. LinesText form (after_insns es) z ls g.0) e d)), (u, p, g.2)))
insn_gives pre k form es s l ls t end_code u f y p w e hyp =
    let q : es ≡ pre = end_on form pre es (s.lines + 1) k (insn_count s.block) l ls end_code y refl f.1 in
    let none = none_on form pre es (s.lines + 1) k (l ∷ ls) f.1 in
    let g = hyp at_out (end_by form (s.lines + 1 + 1) ls es none, part_moves s (s.lines + 1) end_code u p) in
    let y1 = renumbered form es (insn_count s.block) 0 l end_code refl y in
    ([], q ∙ sym (append-nil pre), subst (λ z. NoneTwice (label_names z)) (sym q) f.2, ((s.lines + 1, end_code) ∷ g.0, no_insn (code_end y1 (subst (λ z. LinesText form outside z ls g.0) e g.1)), (u, p, g.2)))
insn_gives pre k form es s l ls t x u f y p w e hyp = absurd cc

-- After the instructions of a code.
try_gives : (form : Form) (es : List Label) (s : State) (l : List ℕ) (ls : List (List ℕ)) (t : Reading) (x : Line) (u : State) → NoLabels form es → LineText form es (insn_count s.block) l x → Steps s (s.lines + 1) x u → u.lines ≡ s.lines + 1
    → After form (labels_by form x (s.lines + 1 + 1) ls es) u ls t → is_of_try x ≡ true → within_place x ≡ true → insn_read x ≡ false → part_of u.block ≡ later → Gives at_later form es s.lines s (l ∷ ls) t.base
try_gives form es s l ls t x u f y p e hyp o v i part =
    let es1 = labels_by form x (s.lines + 1 + 1) ls es in
    let same : es1 ≡ es = same_labels form x (s.lines + 1 + 1) ls es v in
    let g = hyp at_later (subst (NoLabels form) (sym same) f, part) in
    let d = subst (λ z. LinesText form (after_insns z) u.lines ls g.0) same g.1 in
    let y1 = renumbered form es (insn_count s.block) 0 l x i y in
    ((s.lines + 1, x) ∷ g.0, of_try y1 o (subst (λ z. LinesText form (after_insns es) z ls g.0) e d), (u, p, g.2))

later_gives : (form : Form) (es : List Label) (s : State) (l : List ℕ) (ls : List (List ℕ)) (t : Reading) (x : Line) (u : State) → NoLabels form es → LineText form es (insn_count s.block) l x → Steps s (s.lines + 1) x u
    → (line_stands Tries x ≡ true) ⊎ (line_stands Caught x ≡ true) → u.lines ≡ s.lines + 1 → After form (labels_by form x (s.lines + 1 + 1) ls es) u ls t → Gives at_later form es s.lines s (l ∷ ls) t.base
later_gives form es s l ls t (try_line from to) u f y p w e hyp = try_gives form es s l ls t (try_line from to) u f y p e hyp refl refl refl (part_moves s (s.lines + 1) (try_line from to) u p)
later_gives form es s l ls t (catch_line d h) u f y p w e hyp = try_gives form es s l ls t (catch_line d h) u f y p e hyp refl refl refl (part_moves s (s.lines + 1) (catch_line d h) u p)
later_gives form es s l ls t (catch_all_line h) u f y p w e hyp = try_gives form es s l ls t (catch_all_line h) u f y p e hyp refl refl refl (part_moves s (s.lines + 1) (catch_all_line h) u p)
later_gives form es s l ls t end_code u f y p w e hyp =
    let g = hyp at_out (end_by form (s.lines + 1 + 1) ls es f, part_moves s (s.lines + 1) end_code u p) in
    let y1 = renumbered form es (insn_count s.block) 0 l end_code refl y in
    ((s.lines + 1, end_code) ∷ g.0, code_end y1 (subst (λ z. LinesText form outside z ls g.0) e g.1), (u, p, g.2))
later_gives form es s l ls t x u f y p (inl w) e hyp = absurd cc
later_gives form es s l ls t x u f y p (inr w) e hyp = absurd cc

line_gives : (st : Stand) (form : Form) (es : List Label) (s : State) (l : List ℕ) (ls : List (List ℕ)) (t : Reading) (x : Line) (u : State) → Fits st form es s (l ∷ ls) → LineText form es (insn_count s.block) l x → Steps s (s.lines + 1) x u → u.lines ≡ s.lines + 1
    → After form (labels_by form x (s.lines + 1 + 1) ls es) u ls t → Gives st form es s.lines s (l ∷ ls) t.base
line_gives at_out form es s l ls t x u f y p e hyp = out_gives form es s l ls t x u f y p e hyp
line_gives (at_insn pre k) form es s l ls t x u f y p e hyp = insn_gives pre k form es s l ls t x u f y p (sym (ap (λ z. line_stands z x) (insns_is s.block k f.0).0) ∙ p.stands) e hyp
line_gives at_later form es s l ls t x u f y p e hyp = later_gives form es s l ls t x u f.0 y p (by (later_is s.block f.1)) e hyp
  where
    by : (stage_of s.block ≡ Tries) ⊎ (stage_of s.block ≡ Caught) → (line_stands Tries x ≡ true) ⊎ (line_stands Caught x ≡ true)
    by (inl h) = inl (sym (ap (λ z. line_stands z x) h) ∙ p.stands)
    by (inr h) = inr (sym (ap (λ z. line_stands z x) h) ∙ p.stands)

-- ---- all lines

not_begun : (st : Stand) (form : Form) (es : List Label) (s : State) (ls : List (List ℕ)) → Fits st form es s ls → is_start (stage_of s.block) ≡ false
not_begun at_out form es s ls f = (out_is s.block f.1).3
not_begun (at_insn pre k) form es s ls f = ap is_start (insns_is s.block k f.0).0
not_begun at_later form es s ls f = elim (later_is s.block f.1) [ inl h ↦ ap is_start h | inr h ↦ ap is_start h ]

no_insns : (b : Block) (k : ℕ) → is_outside b ≡ true → part_of b ≡ insns k → ⊥
no_insns at_start k h e = cc
no_insns _ k h e = cc

not_later : (b : Block) → is_outside b ≡ true → part_of b ≡ later → ⊥
not_later at_start h e = cc
not_later _ h e = cc

end_gives : (st : Stand) (form : Form) (es : List Label) (s : State) (t : Reading) → Fits st form es s [] → is_outside t.base.block ≡ true → rd form es s ≡ t → Gives st form es s.lines s [] t.base
end_gives at_out form es s t f top r = ([], no_lines, subst (λ (z : Reading). z.base ≡ at_line s z.base.lines) r refl)
end_gives (at_insn pre k) form es s t f top r = absurd (no_insns t.base.block k top (sym (ap (λ (z : Reading). part_of z.base.block) r) ∙ f.0))
end_gives at_later form es s t f top r = absurd (not_later t.base.block top (sym (ap (λ (z : Reading). part_of z.base.block) r) ∙ f.1))

-- A line that adds something.
adds_gives : (st : Stand) (form : Form) (es : List Label) (s : State) (l : List ℕ) (ls : List (List ℕ)) (u t : Reading) → Fits st form es s (l ∷ ls) → Hyp ls t → is_skipped l ≡ false → AddsLine (rd form es (counted s)) ls l u → Reads u ls [] t → Gives st form es s.lines s (l ∷ ls) t.base
adds_gives st form es s l ls u t f hyp q a r = by a.makes
  where
    by : ((line_of_form (rd form es (counted s)) a.words ≡ First) × (u ≡ in_second (rd form es (counted s)))) ⊎ ((line_of_form (rd form es (counted s)) a.words ≡ Mark) × (u ≡ rd form es (counted s))) ⊎ ((line_of_form (rd form es (counted s)) a.words ≡ Nothing) × LineMeans (rd form es (counted s)) ls a.words u)
        → Gives st form es s.lines s (l ∷ ls) t.base
    by (inl m) = let h = (first_means form es (counted s) a.words m.0).1 in let g : is_start (stage_of s.block) ≡ false = not_begun st form es s (l ∷ ls) f in absurd cc
    by (inr (inl m)) = mark_gives st form es s l ls t a.words f q a.has_words (mark_means form es (counted s) a.words m.0) hyp (subst (λ z. Reads z ls [] t) m.1 r)
    by (inr (inr m)) =
        let y = line_step form es s ls l a.words u q a.has_words m.1 in
        let es1 = labels_by form y.x (s.lines + 1 + 1) ls es in
        let is : u ≡ rd form es1 u.base = ap (λ z. record { form = z; labels = u.labels; base = u.base }) y.form_is ∙ ap (λ z. rd form z u.base) y.labels in
        line_gives st form es s l ls t y.x u.base f y.word_values y.steps y.lines (λ sd g. hyp sd form es1 u.base g (subst (λ z. Reads z ls [] t) is r))

pub from_reads : (ls : List (List ℕ)) (st : Stand) (form : Form) (es : List Label) (s : State) (t : Reading) → Fits st form es s ls → is_outside t.base.block ≡ true → Reads (rd form es s) ls [] t → Gives st form es s.lines s ls t.base
from_reads [] st form es s t f top r = end_gives st form es s t f top r
from_reads (l ∷ ls) st form es s t f top r = by (subst (λ z. TakesLine (rd form es s) z l r.0) (append-nil ls) r.1) (λ sd fm fs x g h. from_reads ls sd fm fs x t g top h)
  where
    by : TakesLine (rd form es s) ls l r.0 → Hyp ls t → Gives st form es s.lines s (l ∷ ls) t.base
    by (inl k) hyp = skip_gives st form es s t.base l ls k.0 (hyp st form es (counted s) (skip_fits st form es s l ls k.0 f) (subst (λ z. Reads z ls [] t) k.1 r.2))
    by (inr k) hyp = adds_gives st form es s l ls r.0 t f hyp k.0 k.1 r.2
