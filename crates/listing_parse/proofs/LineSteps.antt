-- A line of a text, as the reader takes it, and what it says of the program.
use Rattle.std.proofs.Common.{◌≡◌, ℕ, ◌+◌, Bool, true, false, ◌⊎◌, inl, inr, if◌then◌else◌, List, [], ◌∷◌, ◌++◌, length, Option, Some, None, option_map, refl, sym, ap, ◌∙◌}
use Rattle.std.proofs.lemmas.List.{length-append}
use Rattle.program_types.specs.Content.{Class}
use Rattle.listing_words.specs.Words.{Word, HasWords}
use Rattle.listing_words.specs.Numbers.{is_number}
use Rattle.listing_slots.specs.declared.kind.Kind.{Kind}
use Rattle.listing_slots.specs.declared.kind.Kind.TheVariants as kind
use Rattle.listing_slots.specs.Data.{Datum}
use Rattle.listing_slots.specs.Shapes.{Shape}
use Rattle.listing_lines.specs.Lines.{Line, first_line, open_class, end_class, super_line, implements_line, source_line, static_line, instance_line, direct_line, virtual_line, open_code, end_code, insn_line, try_line, catch_line, catch_all_line, line_of}
use Rattle.listing_lines.specs.Places.{is_start, is_top, is_insns, is_in_code, is_caught, is_insn, may_stand}
use Rattle.listing_lines.specs.declared.form.Form.{Form}
use Rattle.listing_lines.specs.declared.form.Form.TheVariants.{One, Two}
use Rattle.listing_lines.specs.declared.stage.Stage.{Stage}
use Rattle.listing_lines.specs.declared.stage.Stage.TheVariants.{Insns, Tries, Caught}
use Rattle.listing_parse.specs.States.{Open, ClassPart, at_heads, at_members, after_method, at_insns, after_try, in_try, Block, at_start, at_top, in_class, in_code, State, stage_of, insn_count, opened, closed, begun, noted, with_insn, with_tries, whole_code, with_code_at, class_of, owner_of, with_body, code_ended, late_in, with_block, counted, inside, add}
use Rattle.listing_lines.specs.Needs.{first_late, earliest}
use Rattle.listing_lines.specs.Splitting.{is_skipped}
use Rattle.listing_lines.specs.Labels.{Label, labels_ahead}
use Rattle.listing_parse.specs.Forms.{HasShapeInForm, may_stand_in_form}
use Rattle.listing_parse.specs.Text.{Reading, is_second, line_of_form, labels_after, LineMeans, TakesLine}
use Rattle.listing_parse.specs.declared.form_line.FormLine.TheVariants.{Nothing}
use Rattle.listing_parse.specs.Texts.{is_numbered, LineText}
use Rattle.listing_parse.specs.inner.Runs.{line_stands, Steps}
use Rattle.listing_parse.proofs.SecondFormLaws.{no_line_of_form}
use Rattle.listing_parse.proofs.LateLaws.{mapped, chosen}
use Rattle.std.proofs.lemmas.Bool.{and_parts}

-- A listing that was read to this state.
abbrev pub rd : Form → List Label → State → Reading
rd form es s = record { form = form; labels = es; base = s }

-- ---- kinds of lines, and lines

abbrev pub insn_read : Line → Bool
insn_read (insn_line i) = true
insn_read _ = false

stands_as : (st : Stage) (k : Kind) (ds : List Datum) → may_stand st k ≡ line_stands st (line_of k ds)
unfolding may_stand line_of
stands_as st kind.First ds = refl
stands_as st _ ds = refl

pub insn_as : (k : Kind) (ds : List Datum) → is_insn k ≡ insn_read (line_of k ds)
unfolding line_of
insn_as (kind.Plain op) ds = refl
insn_as _ ds = refl

-- The labels after this line.
abbrev pub labels_by : Form → Line → ℕ → List (List ℕ) → List Label → List Label
labels_by Two (open_code r i o) line ls es = labels_ahead [] line 0 ls
labels_by Two end_code line ls es = []
labels_by _ _ line ls es = es

labels_as : (form : Form) (k : Kind) (ds : List Datum) (line : ℕ) (ls : List (List ℕ)) (es : List Label) → labels_after form k line ls es ≡ labels_by form (line_of k ds) line ls es
unfolding line_of
labels_as One k ds line ls es = refl
labels_as Two kind.OpenCode ds line ls es = refl
labels_as Two _ ds line ls es = refl

-- ---- where a block's next line stands

pub data Part : Type 0 where
  unbegun : Part
  out : Part
  insns : ℕ → Part
  later : Part

abbrev pub part_of : Block → Part
part_of at_start = unbegun
part_of at_top = out
part_of (in_class o p) = out
part_of (in_code o b at_insns) = insns (length b.insns)
part_of (in_code o b p) = later

abbrev pub part_after : Line → Part → Part
part_after (open_code r i o) p = insns 0
part_after (insn_line i) (insns k) = insns (k + 1)
part_after (insn_line i) p = p
part_after (try_line from to) p = later
part_after (catch_line d k) p = later
part_after (catch_all_line k) p = later
part_after _ p = out

made : (v u : State) → Some v ≡ Some u → part_of u.block ≡ part_of v.block
made v u e = let h : u ≡ v = cc in ap (λ (x : State). part_of x.block) h

class_made : (s u : State) (z : Option (Open × ClassPart)) → option_map (λ b. with_block s b) (option_map (λ (c : Open × ClassPart). in_class c.0 c.1) z) ≡ Some u → part_of u.block ≡ out
class_made s u None e = absurd cc
class_made s u (Some c) e = made (with_block s (in_class c.0 c.1)) u e

moves : (done : List Class) (late : Option ℕ) (k n : ℕ) (x : Line) (u : State) (b : Block) → Steps (record { done = done; block = b; lines = k; late = late }) n x u → part_of u.block ≡ part_after x (part_of b)
unfolding add inside
moves done late k n first_line u at_start r = made (record { done = done; block = at_top; lines = n; late = late }) u r.added
moves done late k n (open_class d f) u at_top r = made (record { done = done; block = in_class (opened d f) at_heads; lines = n; late = late }) u r.added
moves done late k n end_class u (in_class o p) r = made (record { done = done ++ closed o ∷ []; block = at_top; lines = n; late = late }) u r.added
moves done late k n (open_code x i z) u (in_class o (after_method m)) r = made (record { done = done; block = in_code o (begun m x i z) at_insns; lines = n; late = late }) u r.added
moves done late k n (super_line d) u (in_class o p) r = class_made (record { done = done; block = in_class o p; lines = n; late = late }) u _ r.added
moves done late k n (implements_line d) u (in_class o p) r = class_made (record { done = done; block = in_class o p; lines = n; late = late }) u _ r.added
moves done late k n (source_line us) u (in_class o p) r = class_made (record { done = done; block = in_class o p; lines = n; late = late }) u _ r.added
moves done late k n (static_line m v) u (in_class o p) r = class_made (record { done = done; block = in_class o p; lines = n; late = late }) u _ r.added
moves done late k n (instance_line m) u (in_class o p) r = class_made (record { done = done; block = in_class o p; lines = n; late = late }) u _ r.added
moves done late k n (direct_line m) u (in_class o p) r = class_made (record { done = done; block = in_class o p; lines = n; late = late }) u _ r.added
moves done late k n (virtual_line m) u (in_class o p) r = class_made (record { done = done; block = in_class o p; lines = n; late = late }) u _ r.added
moves done late k n x u (in_class o at_heads) r = let h = r.stands in absurd cc
moves done late k n end_code u (in_code o b p) r = made (record { done = done; block = in_class (with_code_at o b.owner (whole_code (with_tries b p None))) at_members; lines = n; late = earliest late (first_late (length b.insns) b.needs) }) u r.added
moves done late k n (insn_line i) u (in_code o b at_insns) r =
    made (record { done = done; block = in_code o (with_insn (noted b n (insn_line i)) i) at_insns; lines = n; late = late }) u r.added ∙ ap insns (length-append b.insns (i ∷ []))
moves done late k n (try_line from to) u (in_code o b p) r =
    made (record { done = done; block = in_code o (with_tries (noted b n (try_line from to)) p None) (in_try (record { from = from; to = to; catches = [] })); lines = n; late = late }) u r.added
moves done late k n (catch_line d h) u (in_code o b (in_try t)) r =
    made (record { done = done; block = in_code o (noted b n (catch_line d h)) (in_try (record t { catches = t.catches ++ record { ty = d; at = h } ∷ [] })); lines = n; late = late }) u r.added
moves done late k n (catch_all_line h) u (in_code o b (in_try t)) r =
    made (record { done = done; block = in_code o (with_tries (noted b n (catch_all_line h)) (in_try t) (Some h)) after_try; lines = n; late = late }) u r.added
moves done late k n x u (in_code o b at_insns) r = let h = r.stands in absurd cc
moves done late k n x u _ r = let h = r.stands in absurd cc

-- Where the next line stands after a line.
pub part_moves : (s : State) (n : ℕ) (x : Line) (u : State) → Steps s n x u → part_of u.block ≡ part_after x (part_of s.block)
part_moves s n x u r = moves s.done s.late s.lines n x u s.block r

pub lines_kept : (s u : State) (l : Line) → add s l ≡ Some u → u.lines ≡ s.lines
unfolding add
lines_kept s u first_line e = sym (ap (λ (x : State). x.lines) (chosen (is_start (stage_of s.block)) (with_block s at_top) u e))
lines_kept s u (open_class d f) e = sym (ap (λ (x : State). x.lines) (chosen (is_top (stage_of s.block)) (with_block s (in_class (opened d f) at_heads)) u e))
lines_kept s u end_class e = sym (ap (λ (x : State). x.lines) (mapped (λ o. record s { done = s.done ++ closed o ∷ []; block = at_top }) (class_of s.block) u e).1)
lines_kept s u (open_code r i o) e = sym (ap (λ (x : State). x.lines) (mapped (λ m. with_block s (with_body s.block (begun m r i o))) (owner_of s.block) u e).1)
lines_kept s u end_code e = sym (ap (λ (x : State). x.lines) (mapped (λ b. record s { block = b; late = earliest s.late (late_in s.block) }) (code_ended s.block) u e).1)
lines_kept s u l e = sym (ap (λ (x : State). x.lines) (mapped (λ b. with_block s b) (inside s.block s.lines l) u e).1)

-- ---- what the parts tell

pub out_is : (b : Block) → part_of b ≡ out → (is_in_code (stage_of b) ≡ false) × (is_caught (stage_of b) ≡ false) × (is_insns (stage_of b) ≡ false) × (is_start (stage_of b) ≡ false) × (insn_count b ≡ 0)
out_is at_start e = absurd cc
out_is (in_code o b at_insns) e = absurd cc
out_is (in_code o b _) e = absurd cc
out_is (in_class o at_heads) e = (refl, refl, refl, refl, refl)
out_is _ e = (refl, refl, refl, refl, refl)

pub insns_is : (b : Block) (k : ℕ) → part_of b ≡ insns k → (stage_of b ≡ Insns) × (insn_count b ≡ k)
insns_is (in_code o b at_insns) k e = (refl, cc)
insns_is _ k e = absurd cc

pub later_is : (b : Block) → part_of b ≡ later → (stage_of b ≡ Tries) ⊎ (stage_of b ≡ Caught)
later_is (in_code o b after_try) e = inl refl
later_is (in_code o b (in_try t)) e = inr refl
later_is _ e = absurd cc

-- ---- lines that are read

-- Words that say something of the program are no line_of_form.
pub line_of_form_nothing : (form : Form) (es : List Label) (s : State) (ws : List Word) (sh : Shape) → HasShapeInForm form ws sh → is_start (stage_of s.block) ≡ false → line_of_form (rd form es s) ws ≡ Nothing
unfolding line_of_form
line_of_form_nothing One es s ws sh h f = by (is_second ws) refl
  where
    by : (a : Bool) → is_second ws ≡ a → line_of_form (rd One es s) ws ≡ Nothing
    by true p = rw (p, f) refl
    by false p = rw p refl
line_of_form_nothing Two es s ws sh h f = let n = no_line_of_form ws sh h in rw (n.0, n.1) refl

numbered_here : (form : Form) (s : State) (sh : Shape) → may_stand_in_form form s sh ≡ true → (may_stand (stage_of s.block) sh.kind ≡ true) × (is_numbered form (insn_count s.block) sh ≡ true)
numbered_here One s sh e = and_parts (may_stand (stage_of s.block) sh.kind) (if is_insn sh.kind then is_number sh.label (insn_count s.block) else true) e
numbered_here Two s sh e = (e, refl)

number_there : (k : ℕ) (s : State) (sh : Shape) (a : Bool) → is_insn sh.kind ≡ a → (a ≡ true → insn_count s.block ≡ k) → is_numbered One k sh ≡ true → is_numbered One (insn_count s.block) sh ≡ true
number_there k s sh false p c n = rw p refl
number_there k s sh true p c n = let h : is_number sh.label k ≡ true = rw p at n in rw (p, c refl) h

may_be_there : (form : Form) (k : ℕ) (s : State) (sh : Shape) → may_stand (stage_of s.block) sh.kind ≡ true → (is_insn sh.kind ≡ true → insn_count s.block ≡ k) → is_numbered form k sh ≡ true → may_stand_in_form form s sh ≡ true
may_be_there One k s sh m c n = rw m (number_there k s sh (is_insn sh.kind) refl c n)
may_be_there Two k s sh m c n = m

-- A line that isn't an instruction's has any number.
pub renumbered : (form : Form) (es : List Label) (k j : ℕ) (l : List ℕ) (x : Line) → insn_read x ≡ false → LineText form es k l x → LineText form es j l x
renumbered form es k j l x n s = record {
  not_skipped = s.not_skipped;
  words = s.words;
  has_words = s.has_words;
  shape = s.shape;
  has_shape = s.has_shape;
  numbered = by form;
  word_values = s.word_values;
  spelled = s.spelled;
  is = s.is;
}
  where
    by : (f : Form) → is_numbered f j s.shape ≡ true
    by One = let h : is_insn s.shape.kind ≡ false = insn_as s.shape.kind s.word_values ∙ ap insn_read s.is ∙ n in rw h refl
    by Two = refl

-- What a line says, and where it leads.
pub record LineStep (form : Form) (es : List Label) (s : State) (ls : List (List ℕ)) (l : List ℕ) (u : Reading) : Type 0 where
  pub x : Line
  pub word_values : LineText form es (insn_count s.block) l x
  pub steps : Steps s (s.lines + 1) x u.base
  pub labels : u.labels ≡ labels_by form x (s.lines + 1 + 1) ls es
  pub form_is : u.form ≡ form
  pub lines : u.base.lines ≡ s.lines + 1

pub line_step : (form : Form) (es : List Label) (s : State) (ls : List (List ℕ)) (l : List ℕ) (ws : List Word) (u : Reading) → is_skipped l ≡ false → HasWords l ws → LineMeans (rd form es (counted s)) ls ws u → LineStep form es s ls l u
line_step form es s ls l ws u e h m =
    let n = numbered_here form (counted s) m.shape m.may_stand in
    let x = line_of m.shape.kind m.word_values in
    let b : u.base ≡ m.next = ap (λ (r : Reading). r.base) m.is in
    record {
      x = x;
      word_values = record { not_skipped = e; words = ws; has_words = h; shape = m.shape; has_shape = m.has_shape; numbered = n.1; word_values = m.word_values; spelled = m.spelled; is = refl };
      steps = record { stands = sym (stands_as (stage_of s.block) m.shape.kind m.word_values) ∙ n.0; added = m.added ∙ ap (λ y. Some y) (sym b) };
      labels = ap (λ (r : Reading). r.labels) m.is ∙ labels_as form m.shape.kind m.word_values (s.lines + 1 + 1) ls es;
      form_is = ap (λ (r : Reading). r.form) m.is;
      lines = ap (λ (y : State). y.lines) b ∙ lines_kept (counted s) m.next x m.added;
    }

-- The line is taken so, where it is no line_of_form.
pub step_by : (form : Form) (es : List Label) (s : State) (ls : List (List ℕ)) (l : List ℕ) (k : ℕ) (x : Line) (u : State) (y : LineText form es k l x) → (insn_read x ≡ true → insn_count s.block ≡ k) → line_of_form (rd form es (counted s)) y.words ≡ Nothing → Steps s (s.lines + 1) x u
    → TakesLine (rd form es s) ls l (rd form (labels_by form x (s.lines + 1 + 1) ls es) u)
step_by form es s ls l k x u y c a p =
    let i : is_insn y.shape.kind ≡ insn_read x = insn_as y.shape.kind y.word_values ∙ ap insn_read y.is in
    let m : may_stand (stage_of s.block) y.shape.kind ≡ true = stands_as (stage_of s.block) y.shape.kind y.word_values ∙ ap (line_stands (stage_of s.block)) y.is ∙ p.stands in
    let t : LineMeans (rd form es (counted s)) ls y.words (rd form (labels_by form x (s.lines + 1 + 1) ls es) u) = record {
      shape = y.shape;
      has_shape = y.has_shape;
      may_stand = may_be_there form k (counted s) y.shape m (λ z. c (sym i ∙ z)) y.numbered;
      word_values = y.word_values;
      spelled = y.spelled;
      next = u;
      added = ap (add (counted s)) y.is ∙ p.added;
      is = ap (λ z. rd form z u) (sym (labels_as form y.shape.kind y.word_values (s.lines + 1 + 1) ls es ∙ ap (λ z. labels_by form z (s.lines + 1 + 1) ls es) y.is));
    } in
    inr (y.not_skipped, record { words = y.words; has_words = y.has_words; makes = inr (inr (a, t)) })

-- The line is taken so after the first line.
pub step_taken : (form : Form) (es : List Label) (s : State) (ls : List (List ℕ)) (l : List ℕ) (k : ℕ) (x : Line) (u : State) → LineText form es k l x → (insn_read x ≡ true → insn_count s.block ≡ k) → is_start (stage_of s.block) ≡ false → Steps s (s.lines + 1) x u
    → TakesLine (rd form es s) ls l (rd form (labels_by form x (s.lines + 1 + 1) ls es) u)
step_taken form es s ls l k x u y c b p = step_by form es s ls l k x u y c (line_of_form_nothing form es (counted s) y.words y.shape y.has_shape b) p
