-- The printed tries of a code, one after the other, in both forms.
use Rattle.std.proofs.Common.{◌≡◌, ℕ, ◌+◌, ◌≤◌, true, List, [], ◌∷◌, ◌++◌, map, max, arith, Option, Some, None, refl, sym, ap, subst, ◌∙◌, append_assoc}
use Rattle.std.specs.List.{AllByRecursion, flat_map}
use Rattle.std.proofs.lemmas.List.{append-nil}
use Rattle.std.proofs.Math.Nat.{le-max_left, le-max_right}
use Rattle.program_types.specs.Content.{Catch, Try, Class}
use Rattle.listing_lines.specs.Lines.{catch_line, catch_all_line, try_line}
use Rattle.listing_lines.specs.Places.{may_stand}
use Rattle.listing_lines.specs.Needs.{Need, with_need}
use Rattle.listing_parse.specs.States.{State, Open, OpenBody, CodePart, after_try, all_tries, add, inside}
use Rattle.listing_print.specs.Printed.{line_operands, keyed_text_in}
use Rattle.listing_print.specs.Canon.{all_numbers, try_numbers, is_named, catches_text, catch_all_text, try_text}
use Rattle.listing_print.specs.inner.Reading.{FitOperands}
use Rattle.listing_lines.specs.declared.form.Form.{Form}
use Rattle.listing_lines.specs.declared.form.Form.TheVariants.{One, Two}
use Rattle.listing_lines.specs.Labels.{Label}
use Rattle.listing_laws.proofs.Runs.{Frame, RunsTo, NeedsFit, coding, trying, with_handlers, Tried}
use Rattle.listing_laws.proofs.Printable.{CatchFits, CatchAllFits, TryFits}
use Rattle.listing_laws.proofs.RunLaws.{runs_join}
use Rattle.listing_laws.proofs.FormWords.{TargetsAreMarked, first_marked}
use Rattle.listing_laws.proofs.KeyedLaws.{try_line_runs}
use Rattle.listing_laws.proofs.CodeRuns.{nothing_runs, need_fits}
use Rattle.listing_laws.proofs.Targets.{MarkAll, AreNamed}
use Rattle.listing_parse.proofs.StageLaws.{code_goes_on}

need_more : OpenBody → Catch → ℕ → OpenBody
need_more b x n = record b { needs = with_need b.needs (n + 1) (x.at + 1) }

catch_marked : (form : Form) (ns : List ℕ) (es : List Label) (c : ℕ) (x : Catch) → MarkAll form ns es c → CatchFits c x → is_named ns x.at ≡ true → TargetsAreMarked form es (line_operands (catch_line x.ty x.at))
catch_marked One ns es c x m f y = first_marked es (line_operands (catch_line x.ty x.at))
catch_marked Two ns es c x m f y = (tt, (m x.at y (omega (arith, f.1)) f.0.1.0.0, tt))

catch_step : (g : Frame) (done : List Class) (o : Open) (late : Option ℕ) (from to : ℕ) (xs : List Catch) (b : OpenBody) (n : ℕ) (x : Catch) → FitOperands (line_operands (catch_line x.ty x.at)) → TargetsAreMarked g.form g.labels (line_operands (catch_line x.ty x.at))
    → RunsTo g (coding (trying from to xs) done o late b n) (keyed_text_in g.form (catch_line x.ty x.at)) (coding (trying from to (xs ++ x ∷ [])) done o late (need_more b x n) (n + 1))
unfolding add inside need_more may_stand
catch_step g done o late from to xs b n x f m = try_line_runs g (coding (trying from to xs) done o late b n) (coding (trying from to (xs ++ x ∷ [])) done o late (need_more b x n) (n + 1)) (catch_line x.ty x.at) tt tt f m refl refl

catches_run : (g : Frame) (ns : List ℕ) (done : List Class) (o : Open) (late : Option ℕ) (from to : ℕ) (xs ys : List Catch) (b : OpenBody) (n c : ℕ) → AllByRecursion (CatchFits c) ys → MarkAll g.form ns g.labels c → AreNamed ns (map (λ (x : Catch). x.at) ys) → NeedsFit c b.needs
    → (m : ℕ) × (needs : List Need) × RunsTo g (coding (trying from to xs) done o late b n) ((catches_text g.form) ys) (coding (trying from to (xs ++ ys)) done o late (record b { needs = needs }) m) × NeedsFit c needs
unfolding need_more
catches_run g ns done o late from to xs [] b n c f m k a = (n, b.needs, subst (λ (zs : List Catch). RunsTo g (coding (trying from to xs) done o late b n) [] (coding (trying from to zs) done o late b n)) (sym (append-nil xs)) (nothing_runs g (coding (trying from to xs) done o late b n)), a)
catches_run g ns done o late from to xs (x ∷ ys) b n c f m k a =
    let d = need_more b x n in
    let s = coding (trying from to xs) done o late b n in
    let y = catches_run g ns done o late from to (xs ++ x ∷ []) ys d (n + 1) c f.1 m k.1 (need_fits c b.needs (n + 1) (x.at + 1) f.0.1 a) in
    let r = runs_join g _ _ _ _ _ (catch_step g done o late from to xs b n x f.0.0 (catch_marked g.form ns g.labels c x m f.0 k.0)) y.2 in
    (y.0, y.1, subst (λ (zs : List Catch). RunsTo g s ((catches_text g.form) (x ∷ ys)) (coding (trying from to zs) done o late (record b { needs = y.1 }) y.0)) (append_assoc xs (x ∷ []) ys) r, y.3)

-- the instructions that it names are marked
try_marked : (form : Form) (ns : List ℕ) (es : List Label) (c from to : ℕ) → MarkAll form ns es c → FitOperands (line_operands (try_line from to)) → max (from + 1) to ≤ c → is_named ns from ≡ true → is_named ns to ≡ true
    → TargetsAreMarked form es (line_operands (try_line from to))
try_marked One ns es c from to m f h y z = first_marked es (line_operands (try_line from to))
try_marked Two ns es c from to m f h y z =
    let a = le-max_left (from + 1) to in let b = le-max_right (from + 1) to in
    (m from y (omega arith) f.0.0, (m to z (omega arith) f.1.0.0, tt))

-- the try is open
opened_try : (g : Frame) (p : CodePart) (done : List Class) (o : Open) (late : Option ℕ) (b : OpenBody) (n from to : ℕ) → FitOperands (line_operands (try_line from to)) → TargetsAreMarked g.form g.labels (line_operands (try_line from to))
    → RunsTo g (coding p done o late b n) (keyed_text_in g.form (try_line from to)) (coding (trying from to []) done o late (with_handlers b (all_tries p None b.tries) (with_need b.needs (n + 1) (max (from + 1) to))) (n + 1))
unfolding add inside may_stand
opened_try g p done o late b n from to f m = try_line_runs g (coding p done o late b n) (coding (trying from to []) done o late (with_handlers b (all_tries p None b.tries) (with_need b.needs (n + 1) (max (from + 1) to))) (n + 1)) (try_line from to) tt tt f m (code_goes_on p) refl

all_marked : (form : Form) (ns : List ℕ) (es : List Label) (c k : ℕ) → MarkAll form ns es c → CatchAllFits c (Some k) → is_named ns k ≡ true → TargetsAreMarked form es (line_operands (catch_all_line k))
all_marked One ns es c k m f y = first_marked es (line_operands (catch_all_line k))
all_marked Two ns es c k m f y = (m k y (omega (arith, f.1)) f.0.0.0, tt)

-- its last handler
last_handler : (g : Frame) (ns : List ℕ) (done : List Class) (o : Open) (late : Option ℕ) (b : OpenBody) (ts : List Try) (from to : ℕ) (xs : List Catch) (needs : List Need) (n c : ℕ) (all : Option ℕ) → CatchAllFits c all → MarkAll g.form ns g.labels c → AreNamed ns (all_numbers all) → NeedsFit c needs
    → Tried g c done o late b (coding (trying from to xs) done o late (with_handlers b ts needs) n) ((catch_all_text g.form) all) (ts ++ record { from = from; to = to; catches = xs; catch_all = all } ∷ [])
unfolding add inside may_stand
last_handler g ns done o late b ts from to xs needs n c None f m y a = record { part = trying from to xs; tries = ts; needs = needs; lines = n; runs = nothing_runs g (coding (trying from to xs) done o late (with_handlers b ts needs) n); has = refl; fit = a }
last_handler g ns done o late b ts from to xs needs n c (Some k) f m y a =
    let us = ts ++ record { from = from; to = to; catches = xs; catch_all = Some k } ∷ [] in
    let more = with_need needs (n + 1) (k + 1) in
    record { part = after_try; tries = us; needs = more; lines = n + 1; runs = try_line_runs g _ _ (catch_all_line k) tt tt f.0 (all_marked g.form ns g.labels c k m f y.0) refl refl; has = refl; fit = need_fits c needs (n + 1) (k + 1) f.1 a }

-- in front of what was tried
in_front : (g : Frame) (c : ℕ) (done : List Class) (o : Open) (late : Option ℕ) (b : OpenBody) (s t : State) (text more : List ℕ) (ts : List Try) → RunsTo g s text t → Tried g c done o late b t more ts → Tried g c done o late b s (text ++ more) ts
in_front g c done o late b s t text more ts r h = record {
  part = h.part;
  tries = h.tries;
  needs = h.needs;
  lines = h.lines;
  runs = runs_join g s t (coding h.part done o late (with_handlers b h.tries h.needs) h.lines) text more r h.runs;
  has = h.has;
  fit = h.fit;
}

both_named : (ns xs ys : List ℕ) → AreNamed ns (xs ++ ys) → AreNamed ns xs × AreNamed ns ys
both_named ns [] ys h = (tt, h)
both_named ns (x ∷ xs) ys h = let r = both_named ns xs ys h.1 in ((h.0, r.0), r.1)

try_runs : (g : Frame) (ns : List ℕ) (p : CodePart) (done : List Class) (o : Open) (late : Option ℕ) (b : OpenBody) (n c : ℕ) (t : Try) → TryFits c t → MarkAll g.form ns g.labels c → AreNamed ns (try_numbers t) → NeedsFit c b.needs
    → Tried g c done o late b (coding p done o late b n) ((try_text g.form) t) (all_tries p None b.tries ++ t ∷ [])
try_runs g ns p done o late b n c t f m z a =
    let h = both_named ns (map (λ (x : Catch). x.at) t.catches) (all_numbers t.catch_all) z.1.1 in
    let more = with_need b.needs (n + 1) (max (t.from + 1) t.to) in
    let ts = all_tries p None b.tries in
    let d = with_handlers b ts more in
    let y = catches_run g ns done o late t.from t.to [] t.catches d (n + 1) c f.2 m h.0 (need_fits c b.needs (n + 1) (max (t.from + 1) t.to) f.1 a) in
    let l = last_handler g ns done o late b ts t.from t.to t.catches y.1 y.0 c t.catch_all f.3 m h.1 y.3 in
    in_front g c done o late b _ _ _ _ _ (opened_try g p done o late b n t.from t.to f.0 (try_marked g.form ns g.labels c t.from t.to m f.0 f.1 z.0 z.1.0))
    (in_front g c done o late b _ _ _ _ _ y.2 l)

pub tries_run : (g : Frame) (ns : List ℕ) (ts : List Try) (p : CodePart) (done : List Class) (o : Open) (late : Option ℕ) (b : OpenBody) (n c : ℕ) → AllByRecursion (TryFits c) ts → MarkAll g.form ns g.labels c → AllByRecursion (λ t. AreNamed ns (try_numbers t)) ts → NeedsFit c b.needs
    → Tried g c done o late b (coding p done o late b n) (flat_map (try_text g.form) ts) (all_tries p None b.tries ++ ts)
tries_run g ns [] p done o late b n c f m z a = record { part = p; tries = b.tries; needs = b.needs; lines = n; runs = nothing_runs g (coding p done o late b n); has = sym (append-nil (all_tries p None b.tries)); fit = a }
tries_run g ns (t ∷ ts) p done o late b n c f m z a =
    let x = try_runs g ns p done o late b n c t f.0 m z.0 a in
    let d = with_handlers b x.tries x.needs in
    let y = tries_run g ns ts x.part done o late d x.lines c f.1 m z.1 x.fit in
    let e : all_tries x.part None x.tries ++ ts ≡ all_tries p None b.tries ++ (t ∷ ts) = ap (λ (us : List Try). us ++ ts) x.has ∙ append_assoc (all_tries p None b.tries) (t ∷ []) ts in
    record {
      part = y.part;
      tries = y.tries;
      needs = y.needs;
      lines = y.lines;
      runs = runs_join g _ _ _ _ _ x.runs y.runs;
      has = y.has ∙ e;
      fit = y.fit;
    }
