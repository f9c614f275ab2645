-- The labels of a code are those that stand among its instructions.
use Rattle.std.proofs.Common.{◌≡◌, ℕ, ◌+◌, ◌≤◌, ◌==◌, Bool, true, false, inl, inr, if◌then◌else◌, List, [], ◌∷◌, ◌++◌, Option, Some, None, IfSome, is_some, refl, sym, ap, subst, ◌∙◌, append_assoc, rules}
use Rattle.std.specs.List.{AllByRecursion}
use Rattle.std.proofs.lemmas.Bool.{eqb-true, and_parts}
use Rattle.std.proofs.lemmas.List.{append-nil, map-append}
use Rattle.listing_words.specs.Words.{Word, plain_word, HasWords}
use Rattle.listing_slots.specs.declared.key.Key.{Key}
use Rattle.listing_slots.specs.declared.key.Key.TheVariants as key
use Rattle.listing_slots.specs.declared.kind.Kind.{Kind}
use Rattle.listing_slots.specs.declared.kind.Kind.TheVariants as kind
use Rattle.listing_slots.specs.declared.slot.Slot.{Slot}
use Rattle.listing_slots.specs.Data.{Datum}
use Rattle.listing_slots.specs.Keys.{key_text, same, find_key, lead_keys}
use Rattle.listing_slots.specs.Shapes.{Row, Shape, HasBareShape, IsInsnRow, key_row, payload_row, given_row, is_first_key}
use Rattle.listing_lines.specs.Lines.{Line, open_code, end_code, try_line, line_of}
use Rattle.listing_lines.specs.Places.{is_insn}
use Rattle.listing_lines.specs.declared.form.Form.{Form}
use Rattle.listing_lines.specs.declared.form.Form.TheVariants.{One, Two}
use Rattle.listing_parse.specs.States.{is_among}
use Rattle.listing_lines.specs.Splitting.{is_skipped}
use Rattle.listing_lines.specs.Labels.{Label, is_label, is_mark, lookup, with_label, first_word, is_stop, labels_ahead}
use Rattle.listing_lines.proofs.AheadLaws.{ahead_skips, ahead_stops, ahead_marks, ahead_counts}
use Rattle.listing_parse.specs.Text.{begins_mark}
use Rattle.listing_parse.specs.Codes.{Numbered}
use Rattle.listing_parse.specs.Classes.{NoneTwice}
use Rattle.listing_parse.specs.Texts.{LineText, IsLabelLine, label_names, Where, outside, among, after_insns, LinesText, no_lines, silent, one_line, code_line, label_line, one_insn, no_insn, of_try, code_end}
use Rattle.listing_parse.proofs.SecondFormLaws.{none_each, found_same, no_line_of_form}
use Rattle.listing_parse.proofs.HeadLaws.{same_true, distinct_last}
use Rattle.listing_parse.proofs.LineSteps.{insn_read, insn_as, labels_by}
use Rattle.dex_base.proofs.ListFacts.{by_kind}
use Rattle.listing_lines.proofs.LookLaws.{look_after, with_new}

-- ---- names of labels

among_names : (w : List ℕ) (es : List Label) → is_some (lookup w es) ≡ is_among (label_names es) w
among_names w [] = refl
among_names w (e ∷ es) = elim (by_kind (same w e.name)) [
  | inl f ↦ rw f refl
  | inr f ↦ rw f (among_names w es)
]

no_some : (o : Option Label) → is_some o ≡ false → o ≡ None
no_some None e = refl
no_some (Some l) e = absurd cc

pub not_named : (w : List ℕ) (es : List Label) → lookup w es ≡ None → is_among (label_names es) w ≡ false
not_named w es e = sym (among_names w es) ∙ ap is_some e

pub unknown : (w : List ℕ) (es : List Label) → is_among (label_names es) w ≡ false → lookup w es ≡ None
unknown w es e = no_some (lookup w es) (among_names w es ∙ e)

pub names_append : (es fs : List Label) → label_names (es ++ fs) ≡ label_names es ++ label_names fs
names_append es fs = map-append (λ (l : Label). l.name) es fs

-- None of those before has the name.
pub new_name : (es : List Label) (l : Label) (fs : List Label) → NoneTwice (label_names (es ++ (l ∷ fs))) → lookup l.name es ≡ None
new_name es l fs h = unknown l.name es (distinct_last (label_names es) l.name (label_names fs) (subst NoneTwice (names_append es (l ∷ fs)) h))

pub look_front : (w : List ℕ) (es fs : List Label) (l : Label) → lookup w es ≡ Some l → lookup w (es ++ fs) ≡ Some l
look_front w [] fs l h = absurd cc
look_front w (e ∷ es) fs l h = elim (by_kind (same w e.name)) [
  | inl f ↦ let z : Some e ≡ Some l = rw f at h in rw f z
  | inr f ↦ let z : lookup w es ≡ Some l = rw f at h in rw f (look_front w es fs l z)
]

pub look_there : (es : List Label) (l : Label) (fs : List Label) → NoneTwice (label_names (es ++ (l ∷ fs))) → lookup l.name (es ++ (l ∷ fs)) ≡ Some l
look_there es l fs h = look_after l.name es (l ∷ fs) (new_name es l fs h) ∙ rw (same_true l.name l.name refl) refl

pub found_le : (w : List ℕ) (es : List Label) (n : ℕ) (l : Label) → AllByRecursion (λ (e : Label). e.line ≤ n) es → lookup w es ≡ Some l → l.line ≤ n
found_le w [] n l a h = absurd cc
found_le w (e ∷ es) n l a h = elim (by_kind (same w e.name)) [
  | inl f ↦ let z : Some e ≡ Some l = rw f at h in let q : e ≡ l = cc in subst (λ (x : Label). x.line ≤ n) q a.0
  | inr f ↦ let z : lookup w es ≡ Some l = rw f at h in found_le w es n l a.1 z
]

-- Labels ahead stand after those that are there.
pub ahead_extends : (ls : List (List ℕ)) (es : List Label) (line k : ℕ) → (more : List Label) × (labels_ahead es line k ls ≡ es ++ more)
unfolding labels_ahead
ahead_extends [] es line k = ([], sym (append-nil es))
ahead_extends (l ∷ ls) es line k =
    let new : Label = record { name = first_word l; line = line; number = k } in
    by (ahead_extends ls) (is_skipped l) (is_stop (first_word l)) (is_mark (first_word l)) (lookup (first_word l) es) refl refl refl refl
  where
    by : ((es : List Label) (line k : ℕ) → (more : List Label) × (labels_ahead es line k ls ≡ es ++ more)) → (a b c : Bool) (o : Option Label) → is_skipped l ≡ a → is_stop (first_word l) ≡ b → is_mark (first_word l) ≡ c → lookup (first_word l) es ≡ o
        → (more : List Label) × (labels_ahead es line k (l ∷ ls) ≡ es ++ more)
    by h true b c o p q r s = let x = h es (line + 1) k in (x.0, ahead_skips es line k l ls p ∙ x.1)
    by h false true c o p q r s = ([], ahead_stops es line k l ls p q ∙ sym (append-nil es))
    by h false false true None p q r s =
        let new : Label = record { name = first_word l; line = line; number = k } in
        let x = h (es ++ new ∷ []) (line + 1) k in
        (new ∷ x.0, ahead_marks es line k l ls p q r ∙ ap (λ fs. labels_ahead fs (line + 1) k ls) (with_new es new s) ∙ x.1 ∙ append_assoc es (new ∷ []) x.0)
    by h false false true (Some e) p q r s =
        let new : Label = record { name = first_word l; line = line; number = k } in
        let x = h es (line + 1) k in
        let y : with_label es new ≡ es = rw s refl in
        (x.0, ahead_marks es line k l ls p q r ∙ ap (λ fs. labels_ahead fs (line + 1) k ls) y ∙ x.1)
    by h false false false o p q r s = let x = h es (line + 1) (k + 1) in (x.0, ahead_counts es line k l ls p q r ∙ x.1)

-- ---- the first word of a line

pub first_is : (l : List ℕ) (ws : List Word) (text : List ℕ) (after : List Word) → HasWords l ws → ws ≡ plain_word text ∷ after → first_word l ≡ text
first_is l ws text after h e = let k = subst (HasWords l) e h in sym (k.words.1.word)

leads_on : (text : List ℕ) → None ≡ find_key lead_keys text → is_stop text ≡ false
leads_on text e = let a = none_each lead_keys text e in rw (a.1.1.1.1.1.1.1.1.1.1.1.0, a.1.1.0) refl

-- ---- which lines end the instructions of a code

abbrev pub ends_insns : Line → Bool
ends_insns (try_line from to) = true
ends_insns end_code = true
ends_insns _ = false

abbrev kind_ends : Kind → Bool
kind_ends kind.Try = true
kind_ends kind.EndCode = true
kind_ends _ = false

ends_as : (k : Kind) (ds : List Datum) → kind_ends k ≡ ends_insns (line_of k ds)
unfolding line_of
ends_as kind.Try ds = refl
ends_as _ ds = refl

abbrev stop_key : Key → Bool
stop_key key.Try = true
stop_key key.End = true
stop_key _ = false

stop_is : (k : Key) (text : List ℕ) → stop_key k ≡ true → same (key_text k) text ≡ true → is_stop text ≡ true
stop_is key.Try text e f = rw f refl
stop_is key.End text e f = by (same (key_text key.Try) text) refl
  where
    by : (b : Bool) → same (key_text key.Try) text ≡ b → is_stop text ≡ true
    by true g = rw g refl
    by false g = rw (g, f) refl
stop_is _ text e f = absurd cc

-- What the keyword of a line tells of its kind.
abbrev KindFits : Key → Kind → Type 0
KindFits lead k = (is_insn k ≡ false) × (kind_ends k ≡ true → stop_key lead ≡ true)

at_row : (lead : Key) (o : Option Row) (row : Row) → Some row ≡ o → IfSome o (λ r. KindFits lead r.0) → KindFits lead row.0
at_row lead None row e h = absurd cc
at_row lead (Some r) row e h = let q : r ≡ row = cc in subst (λ (x : Row). KindFits lead x.0) q h

end_row : (b : Bool) (row r s : Row) → Some row ≡ (if b then Some r else Some s) → KindFits key.End r.0 → KindFits key.End s.0 → KindFits key.End row.0
end_row true row r s e h k = at_row key.End (Some r) row e h
end_row false row r s e h k = at_row key.End (Some s) row e k

static_row : (b : Bool) (o : Option (List Slot)) (row r : Row) → Some row ≡ (if b then Some r else given_row o) → KindFits key.Static r.0 → KindFits key.Static row.0
static_row true o row r e h = at_row key.Static (Some r) row e h
static_row false None row r e h = absurd cc
static_row false (Some ss) row r e h = at_row key.Static (Some _) row e (refl, λ z. z)

keyed_kind : (lead : Key) (ws : List Word) (row : Row) → Some row ≡ key_row lead ws → KindFits lead row.0
unfolding key_row
keyed_kind key.End ws row e = end_row (is_first_key key.Code ws) row _ _ e (refl, λ z. z) (refl, λ z. refl)
keyed_kind key.Static ws row e = static_row _ _ row _ e (refl, λ z. z)
keyed_kind k ws row e = at_row k _ row e (search rules)

insn_at : (o : Option Row) (row : Row) → Some row ≡ o → IfSome o (λ r. is_insn r.0 ≡ true) → is_insn row.0 ≡ true
insn_at None row e h = absurd cc
insn_at (Some r) row e h = let q : r ≡ row = cc in subst (λ (x : Row). is_insn x.0 ≡ true) q h

payload_kind : (k : Key) (ws : List Word) (row : Row) → Some row ≡ payload_row k ws → is_insn row.0 ≡ true
unfolding payload_row
payload_kind key.Packed ws row e = insn_at _ row e refl
payload_kind _ ws row e = insn_at _ row e (search rules)

pub insn_kind : (text : List ℕ) (ws : List Word) (row : Row) → IsInsnRow text ws row → is_insn row.0 ≡ true
insn_kind text ws row (inl a) = ap (λ (x : Row). is_insn x.0) a.2
insn_kind text ws row (inr a) = payload_kind a.0 ws row a.2

not_both : (k : Kind) → is_insn k ≡ true → kind_ends k ≡ true → ⊥
not_both kind.Try e f = cc
not_both _ e f = cc

goes_on : (es : List Label) (k : ℕ) (l : List ℕ) (x : Line) → LineText Two es k l x → insn_read x ≡ true → is_stop (first_word l) ≡ false
goes_on es k l x s e = by s.has_shape
  where
    by : HasBareShape s.words s.shape → is_stop (first_word l) ≡ false
    by (inl b) = ap is_stop (first_is l s.words b.text b.after s.has_words b.words) ∙ leads_on b.text b.no_lead
    by (inr b) =
        let h = keyed_kind b.keyed.lead b.after b.row b.keyed.has_row in
        let i : is_insn s.shape.kind ≡ true = insn_as s.shape.kind s.word_values ∙ ap insn_read s.is ∙ e in
        let j : is_insn s.shape.kind ≡ false = ap (λ (z : Shape). is_insn z.kind) b.is ∙ h.0 in
        absurd cc

stops : (es : List Label) (k : ℕ) (l : List ℕ) (x : Line) → LineText Two es k l x → ends_insns x ≡ true → is_stop (first_word l) ≡ true
stops es k l x s e = by s.has_shape
  where
    by : HasBareShape s.words s.shape → is_stop (first_word l) ≡ true
    by (inl b) =
        let i : is_insn s.shape.kind ≡ true = ap (λ (z : Shape). is_insn z.kind) b.is ∙ insn_kind b.insn.text b.insn.after b.row b.insn.has_row in
        absurd (not_both s.shape.kind i (ends_as s.shape.kind s.word_values ∙ ap ends_insns s.is ∙ e))
    by (inr b) =
        let h = keyed_kind b.keyed.lead b.after b.row b.keyed.has_row in
        let i : kind_ends b.row.0 ≡ true = sym (ap (λ (z : Shape). kind_ends z.kind) b.is) ∙ ends_as s.shape.kind s.word_values ∙ ap ends_insns s.is ∙ e in
        ap is_stop (first_is l s.words b.text b.after s.has_words b.words) ∙ stop_is b.keyed.lead b.text (h.1 i) (found_same lead_keys b.text b.keyed.lead b.keyed.found)

no_mark : (es : List Label) (k : ℕ) (l : List ℕ) (x : Line) → LineText Two es k l x → is_mark (first_word l) ≡ false
no_mark es k l x s = by s.has_shape
  where
    at : (text : List ℕ) (after : List Word) → s.words ≡ plain_word text ∷ after → is_mark (first_word l) ≡ false
    at text after e = ap is_mark (first_is l s.words text after s.has_words e) ∙ sym (ap begins_mark e) ∙ (no_line_of_form s.words s.shape s.has_shape).1

    by : HasBareShape s.words s.shape → is_mark (first_word l) ≡ false
    by (inl b) = at b.text b.after b.words
    by (inr b) = at b.text b.after b.words

pub label_marks : (name : List ℕ) → is_label name ≡ true → is_mark name ≡ true
label_marks [] e = absurd cc
label_marks (c ∷ cs) e = (and_parts (c == 58) _ e).0

-- ---- labels ahead

abbrev pub AheadIs : Where → List Label → ℕ → List (List ℕ) → Type 0
AheadIs outside pre n ls = Unit {0}
AheadIs (among labels ahead k) pre n ls = NoneTwice (label_names (pre ++ ahead)) → labels_ahead pre (n + 1) k ls ≡ pre ++ ahead
AheadIs (after_insns labels) pre n ls = (k : ℕ) → labels_ahead pre (n + 1) k ls ≡ pre

label_stop : (name : List ℕ) → is_label name ≡ true → is_stop name ≡ false
unfolding same key_text
label_stop [] e = absurd cc
label_stop (c ∷ cs) e = let h : c ≡ 58 = eqb-true c 58 (and_parts (c == 58) _ e).0 in rw h refl

-- A label's line, where labels are looked for ahead.
pub label_ahead : (pre : List Label) (line k : ℕ) (form : Form) (l : List ℕ) (ls : List (List ℕ)) (name : List ℕ) → IsLabelLine form l name
    → labels_ahead pre line k (l ∷ ls) ≡ labels_ahead (with_label pre (record { name = name; line = line; number = k })) (line + 1) k ls
label_ahead pre line k form l ls name m =
    let f = first_is l (plain_word name ∷ []) name [] m.alone refl in
    ahead_marks pre line k l ls m.not_skipped (ap is_stop f ∙ label_stop name m.is_label) (ap is_mark f ∙ label_marks name m.is_label)
    ∙ ap (λ w. labels_ahead (with_label pre (record { name = w; line = line; number = k })) (line + 1) k ls) f

-- An instruction's line, where they are.
pub insn_ahead : (pre es : List Label) (line k j : ℕ) (l : List ℕ) (ls : List (List ℕ)) (x : Line) → LineText Two es j l x → insn_read x ≡ true → labels_ahead pre line k (l ∷ ls) ≡ labels_ahead pre (line + 1) (k + 1) ls
insn_ahead pre es line k j l ls x s e = ahead_counts pre line k l ls s.not_skipped (goes_on es j l x s e) (no_mark es j l x s)

-- A line that ends the instructions, where they are.
pub end_ahead : (pre es : List Label) (line k j : ℕ) (l : List ℕ) (ls : List (List ℕ)) (x : Line) → LineText Two es j l x → ends_insns x ≡ true → labels_ahead pre line k (l ∷ ls) ≡ pre
end_ahead pre es line k j l ls x s e = ahead_stops pre line k l ls s.not_skipped (stops es j l x s e)

ahead_is : {w : Where} {n : ℕ} {ls : List (List ℕ)} {xs : List Numbered} → LinesText Two w n ls xs → (pre : List Label) → AheadIs w pre n ls
ahead_is no_lines pre = tt
ahead_is (silent {w = outside} e d) pre = tt
ahead_is (silent {w = among labels ahead k} {n = n} {l = l} {ls = ls} e d) pre = λ h. ahead_skips pre (n + 1) k l ls e ∙ ahead_is d pre h
ahead_is (silent {w = after_insns labels} {n = n} {l = l} {ls = ls} e d) pre = λ k. ahead_skips pre (n + 1) k l ls e ∙ ahead_is d pre k
ahead_is (one_line s o d) pre = tt
ahead_is (code_line s u d) pre = tt
ahead_is (label_line {labels = labels} {ahead = ahead} {k = k} {n = n} {l = l} {name = name} {ls = ls} m d) pre = λ h.
    let new : Label = record { name = name; line = n + 1; number = k } in
    label_ahead pre (n + 1) k Two l ls name m
    ∙ ap (λ es. labels_ahead es (n + 1 + 1) k ls) (with_new pre new (new_name pre new ahead h))
    ∙ ahead_is d (pre ++ new ∷ []) (subst (λ es. NoneTwice (label_names es)) (sym (append_assoc pre (new ∷ []) ahead)) h)
    ∙ append_assoc pre (new ∷ []) ahead
ahead_is (one_insn {labels = labels} {k = k} {n = n} {l = l} {ls = ls} {i = i} s d) pre = λ h. insn_ahead pre labels (n + 1) k k l ls _ s refl ∙ ahead_is d pre h
ahead_is (no_insn {k = k} d) pre = λ h. ahead_is d pre k ∙ sym (append-nil pre)
ahead_is (of_try {labels = labels} {n = n} {l = l} {ls = ls} {x = x} s t d) pre = λ k. by k (is_stop (first_word l)) refl (ahead_is d pre (k + 1))
  where
    by : (k : ℕ) (b : Bool) → is_stop (first_word l) ≡ b → labels_ahead pre (n + 1 + 1) (k + 1) ls ≡ pre → labels_ahead pre (n + 1) k (l ∷ ls) ≡ pre
    by k true e h = ahead_stops pre (n + 1) k l ls s.not_skipped e
    by k false e h = ahead_counts pre (n + 1) k l ls s.not_skipped e (no_mark labels 0 l x s) ∙ h
ahead_is (code_end {labels = labels} {n = n} {l = l} {ls = ls} s d) pre = λ k. end_ahead pre labels (n + 1) k 0 l ls end_code s refl

-- In the first form there are no labels.
abbrev NoneAhead : Where → Type 0
NoneAhead (among labels ahead k) = ahead ≡ []
NoneAhead _ = Unit {0}

none_ahead : {w : Where} {n : ℕ} {ls : List (List ℕ)} {xs : List Numbered} → LinesText One w n ls xs → NoneAhead w
none_ahead (silent e d) = none_ahead d
none_ahead (label_line m d) = let h = m.second in absurd cc
none_ahead (one_insn s d) = none_ahead d
none_ahead (no_insn d) = refl
none_ahead _ = tt

-- ---- the labels of a code that begins

-- In the first form none.
abbrev pub NoLabels : Form → List Label → Type 0
NoLabels One es = es ≡ []
NoLabels Two es = Unit {0}

pub ahead_there : (form : Form) (n r i o : ℕ) (labels : List Label) (ls : List (List ℕ)) (xs : List Numbered) → NoneTwice (label_names labels) → LinesText form (among labels labels 0) n ls xs → labels_by form (open_code r i o) (n + 1) ls [] ≡ labels
ahead_there One n r i o labels ls xs h d = sym (none_ahead d)
ahead_there Two n r i o labels ls xs h d = ahead_is d [] h

pub no_labels : (form : Form) (k n : ℕ) (labels : List Label) (ls : List (List ℕ)) (xs : List Numbered) → LinesText form (among labels labels k) n ls xs → NoLabels form labels
no_labels One k n labels ls xs d = none_ahead d
no_labels Two k n labels ls xs d = tt
