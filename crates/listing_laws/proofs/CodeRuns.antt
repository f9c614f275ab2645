-- The printed instructions of a code, one after the other, in both forms.
use Rattle.std.proofs.Common.{◌≡◌, ℕ, ◌+◌, ◌<◌, ◌≤◌, ◌^◌, true, inl, inr, List, [], ◌∷◌, ◌++◌, length, Option, Some, refl, sym, ap, subst, ◌∙◌, append_assoc, arith}
use Rattle.std.specs.List.{AllByRecursion}
use Rattle.std.proofs.lemmas.Bool.{cases_lt, eq-eqb, lt-ltb, le-ltb}
use Rattle.std.proofs.lemmas.List.{append-nil, length-append}
use Rattle.program_types.specs.Content.{Insn, Class}
use Rattle.program_types.specs.Formed.{insn_leads}
use Rattle.listing_words.specs.Words.{plain_word}
use Rattle.listing_words.proofs.PrintLaws.{line_again}
use Rattle.listing_lines.specs.declared.form.Form.{Form}
use Rattle.listing_lines.specs.declared.form.Form.TheVariants.{One, Two}
use Rattle.listing_lines.specs.Needs.{Need, with_need, insn_needs}
use Rattle.listing_lines.specs.Places.{is_insns}
use Rattle.listing_parse.specs.States.{State, Open, OpenBody, stage_of, counted, add, inside}
use Rattle.listing_lines.specs.Labels.{Label, lookup}
use Rattle.listing_parse.specs.Text.{line_of_form}
use Rattle.listing_parse.specs.declared.form_line.FormLine.TheVariants.{Mark}
use Rattle.listing_print.specs.Operands.{insn_operands, label_name}
use Rattle.listing_print.specs.Printed.{insn_text, label_text}
use Rattle.listing_print.specs.Canon.{is_named, label_if_named, insns_text}
use Rattle.listing_print.specs.inner.Reading.{FitOperands, OpcodeFits}
use Rattle.listing_laws.proofs.Runs.{Frame, RunsTo, NeedsFit, among, frame, at}
use Rattle.listing_laws.proofs.Printable.{InstructionsFit}
use Rattle.listing_laws.proofs.RunLaws.{runs_join, line_runs}
use Rattle.listing_laws.proofs.FormWords.{TargetsAreMarked, label_written, named_label}
use Rattle.listing_laws.proofs.InsnRuns.{insn_runs}
use Rattle.listing_laws.proofs.Ahead.{label_of, marked, past_mark, labels_from, AreBefore, before_more, found_first, label_is_line}
use Rattle.listing_laws.proofs.Targets.{MarkAll, AreNamed, insn_marked}
use Rattle.dex_base.proofs.ListFacts.{by_kind}

pub nothing_runs : (f : Frame) (s : State) → RunsTo f s [] s
nothing_runs f s rest u r = r

-- ---- the line of a label

label_is_mark : (es : List Label) (s : State) (k : ℕ) → k < 2 ^ 64 → is_insns (stage_of s.block) ≡ true → lookup (label_name k) es ≡ Some (label_of s.lines k) → line_of_form (at (frame Two es) (counted s)) (plain_word (label_name k) ∷ []) ≡ Mark
unfolding line_of_form
label_is_mark es s k h m e = rw (m, named_label k h, e, eq-eqb (s.lines + 1) (s.lines + 1) refl) refl

label_runs : (es : List Label) (s : State) (k : ℕ) → k < 2 ^ 64 → is_insns (stage_of s.block) ≡ true → lookup (label_name k) es ≡ Some (label_of s.lines k) → RunsTo (frame Two es) s (label_text k) (counted s)
label_runs es s k h m e =
    let f = frame Two es in
    line_runs f f s (counted s) (label_name k) (label_is_line k h)
    (λ ls. inr (refl, record { words = plain_word (label_name k) ∷ []; has_words = line_again (plain_word (label_name k) ∷ []) (label_written k h, tt); makes = inr (inl (label_is_mark es s k h m e, refl)) }))

-- ---- the labels of these instructions and of those after them

-- In the second form the labels are those so far, and those of these instructions.
abbrev pub AreAhead : Form → List ℕ → List Label → ℕ → ℕ → List Insn → Type 0
AreAhead One ns es n k is = Unit {0}
AreAhead Two ns es n k is = (front : List Label) × AreBefore front k × (es ≡ front ++ labels_from ns n k is)

-- So many lines stand before instruction k.
abbrev before_insn : Form → List ℕ → ℕ → ℕ → ℕ
before_insn One ns n k = n
before_insn Two ns n k = past_mark ns n k

mark_runs : (form : Form) (ns : List ℕ) (es : List Label) (done : List Class) (o : Open) (late : Option ℕ) (is : List Insn) (b : OpenBody) (n k : ℕ) → k < 2 ^ 64 → AreAhead form ns es n k is
    → RunsTo (frame form es) (among done o late b n) (label_if_named form ns k) (among done o late b (before_insn form ns n k))
mark_runs One ns es done o late is b n k h a = nothing_runs (frame One es) (among done o late b n)
mark_runs Two ns es done o late is b n k h a = elim (by_kind (is_named ns k)) [
  | inl y ↦ rw y (label_runs es (among done o late b n) k h refl (ap (lookup (label_name k)) a.2 ∙ found_first ns is a.0 n k a.1 h y))
  | inr x ↦ rw x (nothing_runs (frame Two es) (among done o late b n))
]

ahead_next : (form : Form) (ns : List ℕ) (es : List Label) (n k : ℕ) (i : Insn) (is : List Insn) → k < 2 ^ 64 → AreAhead form ns es n k (i ∷ is) → AreAhead form ns es (before_insn form ns n k + 1) (k + 1) is
ahead_next One ns es n k i is h a = tt
ahead_next Two ns es n k i is h a = (a.0 ++ marked ns n k, before_more ns a.0 n k a.1 h, a.2 ∙ sym (append_assoc a.0 (marked ns n k) (labels_from ns (past_mark ns n k + 1) (k + 1) is)))

-- ---- instructions

all_more : (c : ℕ) (needs : List Need) (n : Need) → NeedsFit c needs → n.count ≤ c → NeedsFit c (needs ++ n ∷ [])
all_more c [] n a h = (h, tt)
all_more c (m ∷ ms) n a h = (a.0, all_more c ms n a.1 h)

pub need_fits : (c : ℕ) (needs : List Need) (line count : ℕ) → count ≤ c → NeedsFit c needs → NeedsFit c (with_need needs line count)
need_fits c needs line count h a = elim (cases_lt 0 count) [
  | inl l ↦ rw (lt-ltb 0 count l) (all_more c needs (record { line = line; count = count }) a h)
  | inr l ↦ rw (le-ltb 0 count l) a
]

one_more : (is : List Insn) (i : Insn) (k : ℕ) → length is ≡ k → length (is ++ i ∷ []) ≡ k + 1
one_more is i k e = length-append is (i ∷ []) ∙ ap (λ n. n + 1) e

with_insn_more : OpenBody → Insn → ℕ → OpenBody
with_insn_more b i n = record b { needs = with_need b.needs (n + 1) (insn_needs i); insns = b.insns ++ i ∷ [] }

step : (form : Form) (es : List Label) (done : List Class) (o : Open) (late : Option ℕ) (b : OpenBody) (n k : ℕ) (i : Insn) → k < 2 ^ 64 → OpcodeFits i → FitOperands (insn_operands i) → TargetsAreMarked form es (insn_operands i) → length b.insns ≡ k
    → RunsTo (frame form es) (among done o late b n) (insn_text form k i) (among done o late (with_insn_more b i n) (n + 1))
unfolding add inside with_insn_more
step form es done o late b n k i h c f g e = insn_runs form es (among done o late b n) (among done o late (with_insn_more b i n) (n + 1)) k i h c f g refl e refl

pub insns_run : (form : Form) (ns : List ℕ) (es : List Label) (done : List Class) (o : Open) (late : Option ℕ) (is : List Insn) (b : OpenBody) (n k c : ℕ) → k + length is < 2 ^ 64 → InstructionsFit c is → MarkAll form ns es c
    → AllByRecursion (λ i. AreNamed ns (insn_leads i)) is → AreAhead form ns es n k is → length b.insns ≡ k → NeedsFit c b.needs
    → (m : ℕ) × (needs : List Need) × RunsTo (frame form es) (among done o late b n) (insns_text form ns k is) (among done o late (record b { insns = b.insns ++ is; needs = needs }) m) × NeedsFit c needs
unfolding with_insn_more
insns_run form ns es done o late [] b n k c h f m y a e w =
    let p = before_insn form ns n k in
    let s = among done o late b n in
    (p, b.needs, subst (λ (x : List Insn). RunsTo (frame form es) s (label_if_named form ns k) (among done o late (record b { insns = x; needs = b.needs }) p)) (sym (append-nil b.insns)) (mark_runs form ns es done o late [] b n k (omega arith) a), w)
insns_run form ns es done o late (i ∷ is) b n k c h f m y a e w =
    let p = before_insn form ns n k in
    let g = frame form es in
    let s = among done o late b n in
    let d = with_insn_more b i p in
    let q = mark_runs form ns es done o late (i ∷ is) b n k (omega arith) a in
    let x = step form es done o late b p k i (omega arith) f.0.0 f.0.1 (insn_marked form ns es c i m f.0.1 f.0.2 y.0) e in
    let z = insns_run form ns es done o late is d (p + 1) (k + 1) c (omega arith) f.1 m y.1 (ahead_next form ns es n k i is (omega arith) a) (one_more b.insns i k e) (need_fits c b.needs (p + 1) (insn_needs i) f.0.2 w) in
    let r = runs_join g _ _ _ _ _ q (runs_join g _ _ _ _ _ x z.2) in
    (z.0, z.1, subst (λ (l : List Insn). RunsTo g s (insns_text form ns k (i ∷ is)) (among done o late (record b { insns = l; needs = z.1 }) z.0)) (append_assoc b.insns (i ∷ []) is) r, z.3)
