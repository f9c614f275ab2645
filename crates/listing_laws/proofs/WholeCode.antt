-- A printed code block runs from the end of its method to the class whose method has it, in both forms.
use Rattle.std.proofs.Common.{◌≡◌, ℕ, ◌+◌, ◌<◌, ◌^◌, true, List, [], ◌∷◌, ◌++◌, length, Option, None, refl, ap, subst, ◌∙◌, append_assoc, arith}
use Rattle.std.specs.List.{AllByRecursion, flat_map}
use Rattle.std.proofs.lemmas.Bool.{le-ltb}
use Rattle.program_types.specs.Content.{Try, Code, Class}
use Rattle.program_types.specs.Formed.{insn_leads}
use Rattle.listing_words.specs.Words.{plain_word}
use Rattle.listing_words.specs.inner.Words.{line_bytes}
use Rattle.listing_slots.specs.declared.key.Key.TheVariants as key
use Rattle.listing_slots.specs.declared.slot.Slot.TheVariants as slot
use Rattle.listing_slots.specs.Data.{key_word}
use Rattle.listing_slots.specs.Keys.{key_text, same}
use Rattle.listing_slots.proofs.ShownLaws.{shown_written}
use Rattle.listing_slots.specs.declared.kind.Kind.TheVariants as kind
use Rattle.listing_lines.specs.Lines.{open_code, end_code, try_line}
use Rattle.listing_lines.specs.declared.form.Form.{Form}
use Rattle.listing_lines.specs.declared.form.Form.TheVariants.{One, Two}
use Rattle.listing_lines.specs.Places.{may_stand}
use Rattle.listing_lines.specs.Needs.{Need, first_late}
use Rattle.listing_parse.specs.States.{Open, Owner, OpenBody, CodePart, after_method, at_members, at_insns, add, all_tries, begun, with_tries, whole_code, with_code_at}
use Rattle.listing_lines.specs.Splitting.{lines, is_skipped}
use Rattle.listing_lines.specs.Labels.{Label, first_word, is_stop, labels_ahead}
use Rattle.listing_lines.proofs.AheadLaws.{ahead_stops}
use Rattle.listing_parse.specs.Text.{Reading, Reads, labels_after}
use Rattle.listing_print.specs.Printed.{line_operands, keyed_text, keyed_text_in}
use Rattle.listing_print.specs.Canon.{try_numbers, code_numbers, insns_text, catches_text, catch_all_text, try_text, code_text}
use Rattle.listing_print.specs.inner.Reading.{words_in, FitOperands}
use Rattle.listing_laws.proofs.Runs.{Frame, bare, frame, at, RunsInto, RunsTo, NeedsFit, within, coding, among, with_handlers}
use Rattle.listing_laws.proofs.Printable.{TryFits, CodeFits}
use Rattle.listing_laws.proofs.RunLaws.{runs_joined, line_first, line_is, spaced_words}
use Rattle.listing_laws.proofs.KeyedLaws.{keyed_words, keyed_is, keyed_is_line, key_shown, end_line_runs, code_line_reads}
use Rattle.listing_laws.proofs.Ahead.{labels_from, none_before, word_first, insns_ahead}
use Rattle.listing_laws.proofs.Targets.{MarkAll, labels_mark, all_named, insns_among, tries_among}
use Rattle.listing_laws.proofs.CodeRuns.{AreAhead, insns_run}
use Rattle.listing_laws.proofs.TryRuns.{tries_run}
use Rattle.listing_parse.proofs.StageLaws.{code_goes_on}

none_late : (c : ℕ) (needs : List Need) → NeedsFit c needs → first_late c needs ≡ None
unfolding first_late
none_late c [] h = refl
none_late c (n ∷ ns) h = rw (le-ltb c n.count h.0) (none_late c ns h.1)

begin_code : (form : Form) (es : List Label) (done : List Class) (o : Open) (m : Owner) (n r i u : ℕ) (text rest : List ℕ) (v : Reading) → FitOperands (line_operands (open_code r i u))
    → labels_after form kind.OpenCode (n + 1 + 1) (lines (text ++ rest)) [] ≡ es → Reads (at (frame form es) (among done o None (begun m r i u) (n + 1))) (lines (text ++ rest)) [] v
    → Reads (at (bare form) (within (after_method m) done o None n)) (lines ((keyed_text (open_code r i u) ++ text) ++ rest)) [] v
unfolding add may_stand
begin_code form es done o m n r i u text rest v f e x = code_line_reads (frame form es) (within (after_method m) done o None n) (among done o None (begun m r i u) (n + 1)) r i u text rest v f refl refl e x

-- the code's end, as it is computed
close_code : (g : Frame) (p : CodePart) (done : List Class) (o : Open) (b : OpenBody) (n : ℕ) → (g.form ≡ One → g.labels ≡ [])
    → RunsInto g (coding p done o None b n) (keyed_text end_code) (bare g.form) (within at_members done (with_code_at o b.owner (whole_code (with_tries b p None))) (first_late (length b.insns) b.needs) (n + 1))
unfolding add may_stand
close_code g p done o b n e = end_line_runs g (coding p done o None b n) (within at_members done (with_code_at o b.owner (whole_code (with_tries b p None))) (first_late (length b.insns) b.needs) (n + 1)) e (code_goes_on p) refl

end_runs : (g : Frame) (p : CodePart) (done : List Class) (o : Open) (b : OpenBody) (n : ℕ) (ts : List Try) → (g.form ≡ One → g.labels ≡ []) → all_tries p None b.tries ≡ ts → NeedsFit (length b.insns) b.needs
    → RunsInto g (coding p done o None b n) (keyed_text end_code) (bare g.form) (within at_members done (with_code_at o b.owner (record { registers = b.registers; ins = b.ins; outs = b.outs; insns = b.insns; tries = ts })) None (n + 1))
end_runs g p done o b n ts f e a =
    let s = coding p done o None b n in
    let x = subst (λ (late : Option ℕ). RunsInto g s (keyed_text end_code) (bare g.form) (within at_members done (with_code_at o b.owner (whole_code (with_tries b p None))) late (n + 1))) (none_late (length b.insns) b.needs a) (close_code g p done o b n f) in
    subst (λ (us : List Try). RunsInto g s (keyed_text end_code) (bare g.form) (within at_members done (with_code_at o b.owner (record { registers = b.registers; ins = b.ins; outs = b.outs; insns = b.insns; tries = us })) None (n + 1))) e x

-- ---- the labels of a code

-- Those that are printed, after so many lines.
abbrev labels_in : Form → ℕ → Code → List Label
labels_in One n c = []
labels_in Two n c = labels_from (code_numbers c) n 0 c.insns

labels_none : (form : Form) (n : ℕ) (c : Code) → form ≡ One → labels_in form n c ≡ []
labels_none One n c e = refl
labels_none Two n c e = absurd cc

in_ahead : (form : Form) (n : ℕ) (c : Code) → AreAhead form (code_numbers c) (labels_in form n c) n 0 c.insns
in_ahead One n c = tt
in_ahead Two n c = ([], none_before 0, refl)

in_mark : (form : Form) (n : ℕ) (c : Code) → length c.insns < 2 ^ 64 → MarkAll form (code_numbers c) (labels_in form n c) (length c.insns)
in_mark One n c h = tt
in_mark Two n c h = labels_mark (code_numbers c) c.insns n h

-- what stands after the instructions ends them: a try, or the code's end
is_try : is_stop (key_text key.Try) ≡ true
unfolding same key_text
is_try = refl

try_stops : (form : Form) (from to : ℕ) (text : List ℕ) (fs : List Label) (line j : ℕ) → FitOperands (line_operands (try_line from to)) → labels_ahead fs line j (lines (keyed_text_in form (try_line from to) ++ text)) ≡ fs
try_stops form from to text fs line j f =
    let k = try_line from to in
    let ws = words_in form (line_operands k) in
    let l = line_bytes (keyed_words form k) in
    let e : lines (keyed_text_in form k ++ text) ≡ l ∷ lines text = ap (λ t. lines (t ++ text)) (keyed_is form k) ∙ ap lines (append_assoc l (10 ∷ []) text) ∙ line_first l text (keyed_is_line form k f) in
    let w : first_word l ≡ key_text key.Try = word_first (key_text key.Try) ws (shown_written (slot.Key key.Try) (key_word key.Try) refl) in
    ap (labels_ahead fs line j) e ∙ ahead_stops fs line j l (lines text) (ap is_skipped (line_is (plain_word (key_text key.Try)) ws) ∙ key_shown k (spaced_words ws)) (ap is_stop w ∙ is_try)

in_front : (a b c d e : List ℕ) → (((a ++ b) ++ c) ++ d) ++ e ≡ a ++ (((b ++ c) ++ d) ++ e)
in_front [] b c d e = refl
in_front (x ∷ a) b c d e = ap (λ t. x ∷ t) (in_front a b c d e)

end_stops : (rest : List ℕ) (fs : List Label) (line j : ℕ) → labels_ahead fs line j (lines (keyed_text end_code ++ rest)) ≡ fs
unfolding labels_ahead lines same key_text
end_stops rest fs line j = refl

tail_stops : (form : Form) (c : ℕ) (ts : List Try) (rest : List ℕ) (fs : List Label) (line j : ℕ) → AllByRecursion (TryFits c) ts → labels_ahead fs line j (lines ((flat_map (try_text form) ts ++ keyed_text end_code) ++ rest)) ≡ fs
tail_stops form c [] rest fs line j f = end_stops rest fs line j
tail_stops form c (t ∷ ts) rest fs line j f =
    let k = keyed_text_in form (try_line t.from t.to) in
    let xs = catches_text form t.catches ++ catch_all_text form t.catch_all in
    let more = flat_map (try_text form) ts in
    ap (λ x. labels_ahead fs line j (lines x)) (in_front k xs more (keyed_text end_code) rest) ∙ try_stops form t.from t.to (((xs ++ more) ++ keyed_text end_code) ++ rest) fs line j f.0.0

-- the labels ahead of a printed code
code_ahead : (form : Form) (n : ℕ) (c : Code) (rest : List ℕ) → CodeFits c
    → labels_after form kind.OpenCode (n + 1) (lines ((insns_text form (code_numbers c) 0 c.insns ++ (flat_map (try_text form) c.tries ++ keyed_text end_code)) ++ rest)) [] ≡ labels_in form n c
code_ahead One n c rest f = refl
code_ahead Two n c rest f =
    let tail = flat_map (try_text Two) c.tries ++ keyed_text end_code in
    ap (λ t. labels_ahead [] (n + 1) 0 (lines t)) (append_assoc (insns_text Two (code_numbers c) 0 c.insns) tail rest)
    ∙ insns_ahead (code_numbers c) c.insns [] n 0 (length c.insns) (tail ++ rest) (none_before 0) (omega (arith, f.1)) f.2 (λ fs line j. tail_stops Two (length c.insns) c.tries rest fs line j f.3)

pub code_runs : (form : Form) (done : List Class) (o : Open) (m : Owner) (n : ℕ) (c : Code) → CodeFits c → (k : ℕ) × RunsTo (bare form) (within (after_method m) done o None n) ((code_text form) c) (within at_members done (with_code_at o m c) None k)
code_runs form done o m n c f =
    let l = length c.insns in
    let ns = code_numbers c in
    let es = labels_in form (n + 1) c in
    let g = frame form es in
    let b0 = begun m c.registers c.ins c.outs in
    let few = f.1 in
    let mk = in_mark form (n + 1) c few in
    let y = insns_run form ns es done o None c.insns b0 (n + 1) 0 l (omega arith) f.2 mk (all_named insn_leads c.insns ns (insns_among c)) (in_ahead form (n + 1) c) refl tt in
    let b1 : OpenBody = record b0 { insns = c.insns; needs = y.1 } in
    let x = tries_run g ns c.tries at_insns done o None b1 y.0 l f.3 mk (all_named try_numbers c.tries ns (tries_among c)) y.3 in
    let b2 = with_handlers b1 x.tries x.needs in
    let z = end_runs g x.part done o b2 x.lines c.tries (labels_none form (n + 1) c) x.has x.fit in
    let s0 = within (after_method m) done o None n in
    let t = within at_members done (with_code_at o m c) None (x.lines + 1) in
    let ti = insns_text form ns 0 c.insns in
    let tt = flat_map (try_text form) c.tries in
    let r3 = runs_joined g g (bare form) _ _ _ _ _ x.runs z in
    let r2 = runs_joined g g (bare form) _ _ _ _ _ y.2 r3 in
    let r1 : RunsTo (bare form) s0 ((code_text form) c) t = λ rest u r. begin_code form es done o m n c.registers c.ins c.outs (ti ++ (tt ++ keyed_text end_code)) rest u f.0 (code_ahead form (n + 1) c rest f) (r2 rest u r) in
    (x.lines + 1, r1)
