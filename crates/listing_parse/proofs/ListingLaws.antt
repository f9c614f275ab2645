-- A text is a listing exactly if it is the text of its classes.
use Rattle.std.proofs.Common.{◌≡◌, ℕ, ◌+◌, Bool, true, false, ◌⊎◌, inl, inr, if◌then◌else◌, List, [], ◌∷◌, ◌++◌, length, Option, Some, None, refl, sym, ap, subst, ◌∙◌, arith}
use Rattle.std.specs.List.{AllByRecursion}
use Rattle.std.proofs.lemmas.List.{append-nil}
use Rattle.program_types.specs.Content.{Program}
use Rattle.program_rules.specs.WellFormed.{WellFormed}
use Rattle.listing_words.specs.Words.{Word, plain_word}
use Rattle.listing_slots.specs.declared.key.Key.{Key}
use Rattle.listing_slots.specs.declared.key.Key.TheVariants as key
use Rattle.listing_slots.specs.declared.kind.Kind.{Kind}
use Rattle.listing_slots.specs.declared.kind.Kind.TheVariants as kind
use Rattle.listing_slots.specs.declared.slot.Slot.{Slot}
use Rattle.listing_slots.specs.Data.{Datum}
use Rattle.listing_slots.specs.Shapes.{Row, Shape, HasShape, key_row, given_row, is_first_key}
use Rattle.listing_lines.specs.Lines.{Line, first_line, line_of}
use Rattle.listing_lines.specs.Places.{is_insn, is_start}
use Rattle.listing_lines.specs.declared.form.Form.{Form}
use Rattle.listing_lines.specs.declared.form.Form.TheVariants.{One, Two}
use Rattle.listing_parse.specs.States.{Block, at_start, at_top, in_code, State, stage_of, add}
use Rattle.listing_lines.specs.Splitting.{lines, is_skipped}
use Rattle.listing_parse.specs.Text.{Reading, is_second, line_of_form, in_second, LineMeans, AddsLine, TakesLine, Reads, IsListing}
use Rattle.listing_parse.specs.declared.form_line.FormLine.TheVariants.{Nothing, First, Mark}
use Rattle.listing_parse.specs.Codes.{Numbered, unnumbered}
use Rattle.listing_parse.specs.Classes.{ClassesText}
use Rattle.listing_parse.specs.inner.Reads.{AreRead, RunText}
use Rattle.listing_parse.specs.inner.Runs.{at_line, Steps, Runs, with_classes, is_outside}
use Rattle.listing_parse.specs.Texts.{LineText, outside, LinesText, BeginsForm, ListingText}
use Rattle.listing_parse.proofs.SecondFormLaws.{one_after}
use Rattle.listing_parse.proofs.ClassLaws.{classes_read, classes_go}
use Rattle.listing_parse.proofs.LineSteps.{rd, insn_read, insn_as, line_step, step_by, out, part_of}
use Rattle.listing_parse.proofs.LabelLaws.{insn_kind}
use Rattle.listing_parse.proofs.ReadOn.{read_on, to_reads}
use Rattle.listing_parse.proofs.ReadBack.{mark_means, first_means, at_out, from_reads}

-- ---- the first form's first line

abbrev first_kind : Kind → Bool
first_kind kind.First = true
first_kind _ = false

abbrev first_read : Line → Bool
first_read first_line = true
first_read _ = false

first_as : (k : Kind) (ds : List Datum) → first_kind k ≡ first_read (line_of k ds)
unfolding line_of
first_as kind.First ds = refl
first_as _ ds = refl

-- A first line has one word after its keyword.
abbrev FirstFits : Row → Type 0
FirstFits row = first_kind row.0 ≡ true → length row.1 ≡ 1

row_fits : (r row : Row) → Some row ≡ Some r → FirstFits r → FirstFits row
row_fits r row e h = let q : r ≡ row = cc in subst FirstFits q h

end_fits : (b : Bool) (row r s : Row) → Some row ≡ (if b then Some r else Some s) → FirstFits r → FirstFits s → FirstFits row
end_fits true row r s e h k = row_fits r row e h
end_fits false row r s e h k = row_fits s row e k

static_fits : (b : Bool) (o : Option (List Slot)) (row r : Row) → Some row ≡ (if b then Some r else given_row o) → FirstFits r → FirstFits row
static_fits true o row r e h = row_fits r row e h
static_fits false None row r e h = absurd cc
static_fits false (Some ss) row r e h = row_fits _ row e (λ z. absurd cc)

first_fits : (lead : Key) (ws : List Word) (row : Row) → Some row ≡ key_row lead ws → FirstFits row
unfolding key_row
first_fits key.Dex ws row e = row_fits _ row e (λ z. refl)
first_fits key.End ws row e = end_fits (is_first_key key.Code ws) row _ _ e (λ z. refl) (λ z. refl)
first_fits key.Static ws row e = static_fits _ _ row _ e (λ z. absurd cc)
first_fits _ ws row e = λ z. absurd cc

not_second : (l : List ℕ) (y : LineText One [] 0 l first_line) → is_second y.words ≡ false
not_second l y = by y.has_shape
  where
    by : HasShape y.words y.shape → is_second y.words ≡ false
    by (inl b) =
        let i : is_insn y.shape.kind ≡ true = ap (λ (z : Shape). is_insn z.kind) b.is ∙ insn_kind b.insn.text b.insn.after b.row b.insn.has_row in
        let j : is_insn y.shape.kind ≡ false = insn_as y.shape.kind y.word_values ∙ ap insn_read y.is in
        absurd cc
    by (inr b) =
        let i : first_kind b.row.0 ≡ true = sym (ap (λ (z : Shape). first_kind z.kind) b.is) ∙ first_as y.shape.kind y.word_values ∙ ap first_read y.is in
        ap is_second b.words ∙ one_after b.row.1 (plain_word b.text) b.after (first_fits b.keyed.lead b.after b.row b.keyed.has_row i) b.keyed.forms

-- ---- up to the first line

abbrev begun_at : ℕ → State
begun_at n = record { done = []; block = at_start; lines = n; late = None }

abbrev outside_at : ℕ → State
outside_at n = record { done = []; block = at_top; lines = n; late = None }

record Headed (n : ℕ) (ls : List (List ℕ)) (t : Reading) : Type 0 where
  form : Form
  before : List (List ℕ)
  first : List ℕ
  after : List (List ℕ)
  split : ls ≡ before ++ first ∷ after
  silent : AllByRecursion (λ l. is_skipped l ≡ true) before
  begins : BeginsForm form first
  line : ℕ
  line_is : line ≡ n + length before + 1
  runs : Reads (rd form [] (outside_at line)) after [] t

first_headed : (n : ℕ) (l : List ℕ) (ls : List (List ℕ)) (u t : Reading) (x : Line) → LineText One [] 0 l x → Steps (begun_at n) (n + 1) x u.base → u.labels ≡ [] → u.form ≡ One → Reads u ls [] t → Headed n (l ∷ ls) t
unfolding add
first_headed n l ls u t first_line y p e f r =
    let b : u.base ≡ outside_at (n + 1) = let h : Some (outside_at (n + 1)) ≡ Some u.base = p.added in cc in
    let is : u ≡ rd One [] (outside_at (n + 1)) = ap (λ z. record { form = z; labels = u.labels; base = u.base }) f ∙ ap (λ z. rd One z u.base) e ∙ ap (rd One []) b in
    record {
      form = One;
      before = [];
      first = l;
      after = ls;
      split = refl;
      silent = tt;
      begins = y;
      line = n + 1;
      line_is = omega arith;
      runs = subst (λ z. Reads z ls [] t) is r;
    }
first_headed n l ls u t x y p e f r = let h = p.stands in absurd cc

adds_headed : (n : ℕ) (l : List ℕ) (ls : List (List ℕ)) (u t : Reading) → is_skipped l ≡ false → AddsLine (rd One [] (begun_at (n + 1))) ls l u → Reads u ls [] t → Headed n (l ∷ ls) t
adds_headed n l ls u t q a r = by a.makes
  where
    by : ((line_of_form (rd One [] (begun_at (n + 1))) a.words ≡ First) × (u ≡ in_second (rd One [] (begun_at (n + 1))))) ⊎ ((line_of_form (rd One [] (begun_at (n + 1))) a.words ≡ Mark) × (u ≡ rd One [] (begun_at (n + 1)))) ⊎ ((line_of_form (rd One [] (begun_at (n + 1))) a.words ≡ Nothing) × LineMeans (rd One [] (begun_at (n + 1))) ls a.words u)
        → Headed n (l ∷ ls) t
    by (inl m) = record {
      form = Two;
      before = [];
      first = l;
      after = ls;
      split = refl;
      silent = tt;
      begins = record { not_skipped = q; words = a.words; has_words = a.has_words; is_second = (first_means One [] (begun_at (n + 1)) a.words m.0).0 };
      line = n + 1;
      line_is = omega arith;
      runs = subst (λ z. Reads z ls [] t) m.1 r;
    }
    by (inr (inl m)) = let h = (mark_means One [] (begun_at (n + 1)) a.words m.0).second in absurd cc
    by (inr (inr m)) =
        let y = line_step One [] (begun_at n) ls l a.words u q a.has_words m.1 in
        first_headed n l ls u t y.x y.word_values y.steps y.labels y.form_is r

head_read : (ls : List (List ℕ)) (n : ℕ) (t : Reading) → t.base.block ≡ at_top → Reads (rd One [] (begun_at n)) ls [] t → Headed n ls t
head_read [] n t top r = let h : at_start ≡ at_top = ap (λ (z : Reading). z.base.block) r ∙ top in absurd cc
head_read (l ∷ ls) n t top r = by (subst (λ z. TakesLine (rd One [] (begun_at n)) z l r.0) (append-nil ls) r.1) (head_read ls (n + 1) t top)
  where
    by : TakesLine (rd One [] (begun_at n)) ls l r.0 → (Reads (rd One [] (begun_at (n + 1))) ls [] t → Headed (n + 1) ls t) → Headed n (l ∷ ls) t
    by (inl k) hyp =
        let h = hyp (subst (λ z. Reads z ls [] t) k.1 r.2) in
        record {
          form = h.form;
          before = l ∷ h.before;
          first = h.first;
          after = h.after;
          split = ap (λ z. l ∷ z) h.split;
          silent = (k.0, h.silent);
          begins = h.begins;
          line = h.line;
          line_is = h.line_is ∙ (let e : n + 1 + length h.before + 1 ≡ n + length (l ∷ h.before) + 1 = omega arith in e);
          runs = h.runs;
        }
    by (inr k) hyp = adds_headed n l ls r.0 t k.0 k.1 r.2

first_on : (form : Form) (n : ℕ) (l : List ℕ) (ls : List (List ℕ)) → BeginsForm form l → TakesLine (rd One [] (begun_at n)) ls l (rd form [] (outside_at (n + 1)))
unfolding line_of_form add
first_on One n l ls y = step_by One [] (begun_at n) ls l 0 first_line (outside_at (n + 1)) y (λ h. refl) (rw (not_second l y) refl) (record { stands = refl; added = refl })
first_on Two n l ls y = inr (y.not_skipped, record { words = y.words; has_words = y.has_words; makes = inl (rw y.is_second refl, refl) })

head_on : (before : List (List ℕ)) (first : List ℕ) (after : List (List ℕ)) (form : Form) (n : ℕ) (t : Reading) → AllByRecursion (λ l. is_skipped l ≡ true) before → BeginsForm form first → Reads (rd form [] (outside_at (n + length before + 1))) after [] t
    → Reads (rd One [] (begun_at n)) (before ++ first ∷ after) [] t
head_on [] first after form n t q y r =
    let e : n + length {A = List ℕ} [] + 1 ≡ n + 1 = omega arith in
    read_on (rd One [] (begun_at n)) (rd form [] (outside_at (n + 1))) t first after (first_on form n first after y) (subst (λ z. Reads (rd form [] (outside_at z)) after [] t) e r)
head_on (l ∷ before) first after form n t q y r =
    let e : n + length (l ∷ before) + 1 ≡ n + 1 + length before + 1 = omega arith in
    let h = head_on before first after form (n + 1) t q.1 y (subst (λ z. Reads (rd form [] (outside_at z)) after [] t) e r) in
    read_on (rd One [] (begun_at n)) (rd One [] (begun_at (n + 1))) t l (before ++ first ∷ after) (inl (q.0, refl)) h

-- ---- the law

pub listing_read : (text : List ℕ) (p : Program) → IsListing text p → ListingText text p × WellFormed p
listing_read text p x =
    let h = head_read (lines text) 0 x.end x.whole x.read in
    let g = from_reads h.after at_out h.form [] (outside_at h.line) x.end (refl, refl) (ap is_outside x.whole) h.runs in
    let c = classes_read (outside_at h.line) x.end.base g.0 x.whole x.targets g.2 in
    let e : c.classes ≡ p = sym (ap (λ (z : State). z.done) c.whole) ∙ x.classes in
    let n : h.line ≡ length h.before + 1 = h.line_is ∙ (let q : 0 + length h.before + 1 ≡ length h.before + 1 = omega arith in q) in (
      record {
        form = h.form;
        before = h.before;
        first = h.first;
        after = h.after;
        split = h.split;
        silent = h.silent;
        begins = h.begins;
        program_lines = g.0;
        lines_text = subst (λ z. LinesText h.form outside z h.after g.0) n g.1;
        classes = subst (ClassesText (unnumbered g.0)) e c.are_texts;
      },
      x.formed,
    )

pub listing_goes : (text : List ℕ) (p : Program) → ListingText text p × WellFormed p → IsListing text p
listing_goes text p y =
    let x = y.0 in
    let s = outside_at (length x.before + 1) in
    let t = with_classes s p 0 in
    let r = classes_go s t x.program_lines (record { classes = p; are_texts = x.classes; whole = refl }) in
    let z = to_reads x.form x.lines_text [] s t refl (refl, refl) r in
    let e : length x.before + 1 ≡ 0 + length x.before + 1 = omega arith in
    let h = head_on x.before x.first x.after x.form 0 (rd x.form [] (at_line t z.0)) x.silent x.begins (subst (λ n. Reads (rd x.form [] (outside_at n)) x.after [] (rd x.form [] (at_line t z.0))) e z.1) in
    record {
      end = rd x.form [] (at_line t z.0);
      read = subst (λ ls. Reads (rd One [] (begun_at 0)) ls [] (rd x.form [] (at_line t z.0))) (sym x.split) h;
      whole = refl;
      targets = refl;
      classes = refl;
      formed = y.1;
    }

-- ---- lines outside of codes

runs_end : (xs : List Numbered) (s t : State) (m : ℕ) → Runs s xs (at_line t m) → Runs s xs t
runs_end [] s t m r = ap (λ z. at_line z t.lines) r
runs_end ((n, x) ∷ xs) s t m r = (r.0, r.1, runs_end xs r.0 t m r.2)

outside_is : (b : Block) → is_start (stage_of b) ≡ false → is_outside b ≡ true → part_of b ≡ out
outside_is at_start e h = absurd cc
outside_is (in_code o b p) e h = absurd cc
outside_is _ e h = refl

pub lines_read : (form : Form) (s t : State) (ls : List (List ℕ)) → is_start (stage_of s.block) ≡ false → is_outside s.block ≡ true → is_outside t.block ≡ true → AreRead form s ls t → RunText form s ls t
lines_read form s t ls e h top r =
    let g = from_reads ls at_out form [] s (rd form [] (at_line t r.0)) (refl, outside_is s.block e h) top r.1 in
    record { program_lines = g.0; lines_text = g.1; run = runs_end g.0 s t r.0 g.2 }

pub lines_go : (form : Form) (s t : State) (ls : List (List ℕ)) → is_start (stage_of s.block) ≡ false → is_outside s.block ≡ true → RunText form s ls t → AreRead form s ls t
lines_go form s t ls e h x = to_reads form x.lines_text [] s t refl (refl, outside_is s.block e h) x.run
