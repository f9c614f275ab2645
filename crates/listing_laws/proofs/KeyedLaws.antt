-- A printed line that begins with a keyword is read as that line, in both forms.
use Rattle.std.proofs.Common.{◌≡◌, ℕ, ◌+◌, ◌&&◌, if◌then◌else◌, Bool, true, false, inr, List, [], ◌∷◌, ◌++◌, Some, None, refl, sym, ap, subst, ◌∙◌, append_assoc, rules}
use Rattle.std.specs.List.{AllByRecursion}
use Rattle.std.proofs.lemmas.List.{append-nil}
use Rattle.program_types.specs.Content as content
use Rattle.program_types.specs.Content.{Value, Values, no_values, more_values, OfText, OfDesc, OfField, OfMethod}
use Rattle.listing_words.specs.Words.{Word, plain_word}
use Rattle.listing_words.specs.inner.Words.{IsWritable, line_bytes}
use Rattle.listing_words.proofs.PrintLaws.{line_again}
use Rattle.listing_slots.specs.declared.key.Key.TheVariants as key
use Rattle.listing_slots.specs.declared.kind.Kind.TheVariants as kind
use Rattle.listing_slots.specs.declared.slot.Slot.TheVariants as slot
use Rattle.listing_slots.specs.Keys.{key_text, same}
use Rattle.listing_slots.specs.Data.{key_word}
use Rattle.listing_slots.proofs.ShownLaws.{shown_written}
use Rattle.listing_slots.specs.Shapes.{Shape}
use Rattle.listing_lines.specs.Lines.{Line, first_line, static_line, open_code, end_code, insn_line, try_line, catch_line, catch_all_line}
use Rattle.listing_lines.specs.Places.{may_stand, is_insn}
use Rattle.listing_lines.specs.Forms.{is_two}
use Rattle.listing_lines.specs.declared.form.Form.{Form}
use Rattle.listing_lines.specs.declared.form.Form.TheVariants.{One, Two}
use Rattle.listing_parse.specs.States.{State, stage_of, counted, add}
use Rattle.listing_lines.specs.Splitting.{lines, is_skipped}
use Rattle.listing_lines.specs.Labels.{Label}
use Rattle.listing_parse.specs.Forms.{HasShapeInForm, may_stand_in_form}
use Rattle.listing_parse.specs.Text.{Reading, TakesLine, Reads, is_second, begins_mark, line_of_mark, line_of_form, labels_after}
use Rattle.listing_parse.specs.declared.form_line.FormLine.{FormLine}
use Rattle.listing_parse.specs.declared.form_line.FormLine.TheVariants.{Nothing}
use Rattle.listing_print.specs.Operands.{Operand, keyword, value_operands, values_operands}
use Rattle.listing_print.specs.Printed.{line_key, line_operands, keyed_text, keyed_text_in}
use Rattle.listing_print.specs.inner.Reading.{slots_of, data_of, words_in, FitOperands, line_kind, IsKeyedLine}
use Rattle.listing_print.proofs.PrintedLaws.{words_of, value_words}
use Rattle.listing_print.proofs.RowLaws.{keyed_has_shape, keyed_reads_line}
use Rattle.listing_laws.proofs.Runs.{Frame, bare, at, RunsInto, RunsTo}
use Rattle.listing_laws.proofs.RunLaws.{IsLine, line_reads, line_runs, line_is, words_line, spaced_words}
use Rattle.listing_laws.proofs.FormWords.{words_written, text_is_in, text_is, TargetIsMarked, TargetsAreMarked, first_marked, spelled_in}
use Rattle.dex_base.proofs.ListFacts.{all_append}

-- ---- a line that begins with a keyword says something of the program

-- the words of the line
abbrev pub keyed_words : Form → Line → List Word
keyed_words form l = plain_word (key_text (line_key l)) ∷ words_in form (line_operands l)

pub not_line_of_form : (b : Bool) (x : FormLine) → (if b && false then x else Nothing) ≡ Nothing
not_line_of_form true x = refl
not_line_of_form false x = refl

-- it begins neither as the first line of the second form nor as a label's line
pub no_line_of_form : (f : Frame) (s : State) (ws : List Word) → is_second ws ≡ false → begins_mark ws ≡ false → line_of_form (at f s) ws ≡ Nothing
unfolding line_of_form
no_line_of_form f s ws h k = rw (h, k) (not_line_of_form (is_two f.form) (line_of_mark (at f s) ws))

keyed_plain : (form : Form) (l : Line) → IsKeyedLine l → (is_second (keyed_words form l) ≡ false) × (begins_mark (keyed_words form l) ≡ false)
unfolding key_text same
keyed_plain form (static_line m None) k = (refl, refl)
keyed_plain form _ k = search rules

pub keyed_is : (form : Form) (l : Line) → keyed_text_in form l ≡ line_bytes (keyed_words form l) ++ 10 ∷ []
keyed_is form l =
    let k = key_text (line_key l) in
    let ws = words_in form (line_operands l) in
    ap (λ t. k ++ (t ++ 10 ∷ [])) (text_is_in form (line_operands l)) ∙ sym (append_assoc k (spaced_words ws) (10 ∷ [])) ∙ ap (λ t. t ++ 10 ∷ []) (sym (line_is (plain_word k) ws))

pub keyed_is_line : (form : Form) (l : Line) → FitOperands (line_operands l) → IsLine (line_bytes (keyed_words form l))
keyed_is_line form l f = words_line (plain_word (key_text (line_key l))) (words_in form (line_operands l)) (shown_written (slot.Key (line_key l)) (key_word (line_key l)) refl) (words_written form (line_operands l) f)

-- it begins neither with a space nor with `#`
pub key_shown : (l : Line) (rest : List ℕ) → is_skipped (key_text (line_key l) ++ rest) ≡ false
unfolding key_text
key_shown first_line rest = refl
key_shown _ rest = refl

no_number : (l : Line) → is_insn (line_kind l) ≡ false
no_number (static_line m None) = refl
no_number _ = refl

keyed_shape : (form : Form) (l : Line) (k : IsKeyedLine l) → FitOperands (line_operands l) → HasShapeInForm form (keyed_words form l) (record { kind = line_kind l; label = []; slots = slots_of (line_operands l); words = words_in form (line_operands l) })
keyed_shape One l k f = inr (keyed_has_shape One l k f)
keyed_shape Two l k f = inr (keyed_has_shape Two l k f)

may_stand_in : (form : Form) (s : State) (l : Line) (sh : Shape) → sh.kind ≡ line_kind l → may_stand (stage_of s.block) (line_kind l) ≡ true → may_stand_in_form form s sh ≡ true
may_stand_in One s l sh e m = rw (e, m, no_number l) refl
may_stand_in Two s l sh e m = rw (e, m) refl

-- It is read; the labels after it are those that the lines after it give.
pub keyed_taken : (f : Frame) (s t : State) (l : Line) → IsKeyedLine l → FitOperands (line_operands l) → TargetsAreMarked f.form f.labels (line_operands l) → may_stand (stage_of s.block) (line_kind l) ≡ true → add (counted s) l ≡ Some t
    → (ls : List (List ℕ)) → TakesLine (at f s) ls (line_bytes (keyed_words f.form l)) (record { form = f.form; labels = labels_after f.form (line_kind l) (s.lines + 1 + 1) ls f.labels; base = t })
keyed_taken f s t l k h g m a ls =
    let os = line_operands l in
    let ws = words_in f.form os in
    let w : AllByRecursion IsWritable (keyed_words f.form l) = (shown_written (slot.Key (line_key l)) (key_word (line_key l)) refl, words_written f.form os h) in
    let sh : Shape = record { kind = line_kind l; label = []; slots = slots_of os; words = ws } in
    let p = keyed_plain f.form l k in
    inr (
      ap is_skipped (line_is (plain_word (key_text (line_key l))) ws) ∙ key_shown l (spaced_words ws),
      record {
        words = keyed_words f.form l;
        has_words = line_again (keyed_words f.form l) w;
        makes = inr (inr (
          no_line_of_form f (counted s) (keyed_words f.form l) p.0 p.1,
          record {
            shape = sh;
            has_shape = keyed_shape f.form l k h;
            may_stand = may_stand_in f.form (counted s) l sh refl m;
            word_values = data_of os;
            spelled = spelled_in f.form f.labels os h g;
            next = t;
            added = rw (keyed_reads_line l k) a;
            is = refl;
          },
        ));
      },
    )

-- ---- lines of a class, and those that follow the instructions of a code

-- No target stands on the line, and no code begins or ends with it.
abbrev pub IsOfClass : Line → Type 0
IsOfClass (open_code r i o) = ⊥
IsOfClass end_code = ⊥
IsOfClass (insn_line i) = ⊥
IsOfClass (try_line f t) = ⊥
IsOfClass (catch_line d k) = ⊥
IsOfClass (catch_all_line k) = ⊥
IsOfClass _ = Unit {0}

-- It says what a try covers, or a handler.
abbrev pub IsOfTry : Line → Type 0
IsOfTry (try_line f t) = Unit {0}
IsOfTry (catch_line d k) = Unit {0}
IsOfTry (catch_all_line k) = Unit {0}
IsOfTry _ = ⊥

class_keeps : (form : Form) (l : Line) (line : ℕ) (ls : List (List ℕ)) (es : List Label) → IsOfClass l → labels_after form (line_kind l) line ls es ≡ es
class_keeps Two (static_line m None) line ls es h = refl
class_keeps _ _ line ls es h = search rules

try_keeps : (form : Form) (l : Line) (line : ℕ) (ls : List (List ℕ)) (es : List Label) → IsOfTry l → labels_after form (line_kind l) line ls es ≡ es
try_keeps Two (try_line f t) line ls es h = refl
try_keeps _ _ line ls es h = search rules

-- no target stands in a value
mutual
  value_marked : (es : List Label) (v : Value) → TargetsAreMarked Two es (value_operands v)
  value_marked es (content.Named (OfText us)) = (tt, (tt, tt))
  value_marked es (content.Named (OfDesc d)) = (tt, (tt, tt))
  value_marked es (content.Named (OfField f)) = (tt, (tt, tt))
  value_marked es (content.Named (OfMethod m)) = (tt, (tt, tt))
  value_marked es (content.Array vs) = (tt, (tt, all_append (λ (o : Operand). TargetIsMarked Two es o.slot o.value) (values_operands vs) (keyword key.Close ∷ []) (values_marked es vs) (tt, tt)))
  value_marked es _ = search rules

  values_marked : (es : List Label) (vs : Values) → TargetsAreMarked Two es (values_operands vs)
  values_marked es no_values = tt
  values_marked es (more_values v vs) = all_append (λ (o : Operand). TargetIsMarked Two es o.slot o.value) (value_operands v) (values_operands vs) (value_marked es v) (values_marked es vs)

class_marked : (form : Form) (es : List Label) (l : Line) → IsOfClass l → TargetsAreMarked form es (line_operands l)
class_marked One es l h = first_marked es (line_operands l)
class_marked Two es (static_line m (Some v)) h = (tt, (tt, (tt, (tt, value_marked es v))))
class_marked Two es _ h = search rules

class_words : (form : Form) (l : Line) → IsOfClass l → words_in form (line_operands l) ≡ words_of (line_operands l)
class_words form (static_line m (Some v)) h = rw (value_words form v) refl
class_words form _ h = search rules

-- the text of such a line is the same in both forms
pub text_same : (form : Form) (l : Line) → words_in form (line_operands l) ≡ words_of (line_operands l) → keyed_text_in form l ≡ keyed_text l
text_same form l e = ap (λ t. key_text (line_key l) ++ (t ++ 10 ∷ [])) (text_is_in form (line_operands l) ∙ ap spaced_words e ∙ sym (text_is (line_operands l)))

keyed_into : (f g : Frame) (s t : State) (l : Line) → IsKeyedLine l → FitOperands (line_operands l) → TargetsAreMarked f.form f.labels (line_operands l) → may_stand (stage_of s.block) (line_kind l) ≡ true → add (counted s) l ≡ Some t
    → g.form ≡ f.form → ((ls : List (List ℕ)) → labels_after f.form (line_kind l) (s.lines + 1 + 1) ls f.labels ≡ g.labels) → RunsInto f s (keyed_text_in f.form l) g t
keyed_into f g s t l k h w m a e b =
    let q : (ls : List (List ℕ)) → TakesLine (at f s) ls (line_bytes (keyed_words f.form l)) (at g t) = λ ls.
    subst (λ (r : Reading). TakesLine (at f s) ls (line_bytes (keyed_words f.form l)) r) (let b2 = b ls in cc) (keyed_taken f s t l k h w m a ls) in
    subst (λ (text : List ℕ). RunsInto f s text g t) (sym (keyed_is f.form l)) (line_runs f g s t (line_bytes (keyed_words f.form l)) (keyed_is_line f.form l h) q)

-- a line of a class
pub keyed_runs : (form : Form) (s t : State) (l : Line) → IsOfClass l → IsKeyedLine l → FitOperands (line_operands l) → may_stand (stage_of s.block) (line_kind l) ≡ true → add (counted s) l ≡ Some t → RunsTo (bare form) s (keyed_text l) t
keyed_runs form s t l c k h m a =
    subst (λ (text : List ℕ). RunsTo (bare form) s text t) (text_same form l (class_words form l c))
    (keyed_into (bare form) (bare form) s t l k h (class_marked form [] l c) m a refl (λ ls. class_keeps form l (s.lines + 1 + 1) ls [] c))

-- a line of a try
pub try_line_runs : (f : Frame) (s t : State) (l : Line) → IsOfTry l → IsKeyedLine l → FitOperands (line_operands l) → TargetsAreMarked f.form f.labels (line_operands l) → may_stand (stage_of s.block) (line_kind l) ≡ true → add (counted s) l ≡ Some t
    → RunsTo f s (keyed_text_in f.form l) t
try_line_runs f s t l c k h w m a = keyed_into f f s t l k h w m a refl (λ ls. try_keeps f.form l (s.lines + 1 + 1) ls f.labels c)

end_marked : (form : Form) (es : List Label) → TargetsAreMarked form es (line_operands end_code)
end_marked One es = (tt, tt)
end_marked Two es = (tt, tt)

code_marked : (form : Form) (es : List Label) (r i o : ℕ) → TargetsAreMarked form es (line_operands (open_code r i o))
code_marked One es r i o = (tt, (tt, (tt, tt)))
code_marked Two es r i o = (tt, (tt, (tt, tt)))

end_empty : (form : Form) (es : List Label) (line : ℕ) (ls : List (List ℕ)) → (form ≡ One → es ≡ []) → labels_after form kind.EndCode line ls es ≡ []
end_empty One es line ls h = h refl
end_empty Two es line ls h = refl

-- the end of a code, after which there are no labels
pub end_line_runs : (f : Frame) (s t : State) → (f.form ≡ One → f.labels ≡ []) → may_stand (stage_of s.block) kind.EndCode ≡ true → add (counted s) end_code ≡ Some t → RunsInto f s (keyed_text end_code) (bare f.form) t
end_line_runs f s t e m a =
    subst (λ (text : List ℕ). RunsInto f s text (bare f.form) t) (text_same f.form end_code refl)
    (keyed_into f (bare f.form) s t end_code tt (refl, tt) (end_marked f.form f.labels) m a refl (λ ls. end_empty f.form f.labels (s.lines + 1 + 1) ls e))

-- the first line of a code, after which stand the labels that the lines after it give
pub code_line_reads : (f : Frame) (s t : State) (r i o : ℕ) (text rest : List ℕ) (u : Reading) → FitOperands (line_operands (open_code r i o)) → may_stand (stage_of s.block) kind.OpenCode ≡ true → add (counted s) (open_code r i o) ≡ Some t
    → labels_after f.form kind.OpenCode (s.lines + 1 + 1) (lines (text ++ rest)) [] ≡ f.labels → Reads (at f t) (lines (text ++ rest)) [] u → Reads (at (bare f.form) s) (lines ((keyed_text (open_code r i o) ++ text) ++ rest)) [] u
code_line_reads f s t r i o text rest u h m a e x =
    let l = open_code r i o in
    let b = bare f.form in
    let k = line_bytes (keyed_words f.form l) in
    let n : labels_after f.form kind.OpenCode (s.lines + 1 + 1) (lines (text ++ rest) ++ []) [] ≡ f.labels = ap (λ ls. labels_after f.form kind.OpenCode (s.lines + 1 + 1) ls []) (append-nil (lines (text ++ rest))) ∙ e in
    let q : TakesLine (at b s) (lines (text ++ rest) ++ []) k (at f t) =
    subst (λ (es : List Label). TakesLine (at b s) (lines (text ++ rest) ++ []) k (record { form = f.form; labels = es; base = t })) n (keyed_taken b s t l tt h (code_marked f.form [] r i o) m a (lines (text ++ rest) ++ [])) in
    subst (λ (y : List ℕ). Reads (at b s) (lines ((y ++ text) ++ rest)) [] u) (sym (keyed_is f.form l) ∙ text_same f.form l refl) (line_reads (at b s) (at f t) k text rest u (keyed_is_line f.form l h) q x)
