-- Printed methods of a class and their codes, one after the other.
use Rattle.listing_lines.specs.declared.form.Form.{Form}
use Rattle.std.proofs.Common.{◌≡◌, ℕ, ◌+◌, Bool, true, false, List, [], ◌∷◌, ◌++◌, map, Option, Some, None, refl, ap, subst, ◌∙◌}
use Rattle.std.specs.List.{AllByRecursion, flat_map}
use Rattle.std.specs.Ordering.{is_eq, ordering_reverse}
use Rattle.std.specs.declared.cmp.Ordering.{Ordering}
use Rattle.std.specs.declared.cmp.Ordering.TheVariants as ordering
use Rattle.program_types.specs.Key.{Key, key_cmp}
use Rattle.program_types.specs.inner.KeyLaws.{key_cmp-total}
use Rattle.program_rules.specs.Rules.{method_key}
use Rattle.program_types.specs.Content.{Code, Method, Class}
use Rattle.listing_lines.specs.Lines.{direct_line, virtual_line}
use Rattle.listing_lines.specs.Places.{may_stand}
use Rattle.listing_parse.specs.States.{Open, ClassPart, at_members, after_method, add, inside, with_direct, with_virtual, with_code, with_code_at}
use Rattle.listing_print.specs.Printed.{keyed_text}
use Rattle.listing_print.specs.Canon.{body_text, direct_text, virtual_text}
use Rattle.listing_laws.proofs.Runs.{bare, RunsTo, within}
use Rattle.listing_laws.proofs.Printable.{KeysAreSorted, AllBelow, BodyFits, MethodFits}
use Rattle.listing_laws.proofs.KeyedLaws.{keyed_runs}
use Rattle.listing_laws.proofs.CodeRuns.{nothing_runs}
use Rattle.listing_laws.proofs.WholeCode.{code_runs}
use Rattle.listing_laws.proofs.InClass.{InClass, in_then, with_last, code_skips, each_runs}
use Rattle.listing_parse.proofs.StageLaws.{class_goes_on}

-- ---- the code of the method that was read last

-- the method with this code, or without
abbrev pub coded : Method → Option Code → Method
coded m o = record m { code = o }

itself : (o : Ordering) → o ≡ ordering_reverse o → is_eq o ≡ true
itself ordering.Equal e = refl
itself _ e = absurd cc

code_last : (ms : List Method) (m : Method) (c : Code) → AllBelow (map method_key ms) (method_key m) → with_code (ms ++ coded m None ∷ []) (method_key m) c ≡ ms ++ coded m (Some c) ∷ []
code_last [] m c h = rw (itself (key_cmp (method_key m) (method_key m)) (key_cmp-total.antisymm (method_key m) (method_key m))) refl
code_last (l ∷ ms) m c h = rw (code_skips (method_key l) (method_key m) h.0) (ap (λ t. l ∷ t) (code_last ms m c h.1))

-- Its code follows it: that of a direct or a virtual method.
abbrev after : Bool → Method → ClassPart
after direct m = after_method (record { direct = direct; method = method_key m })

-- Where methods stand in the class, a code goes to the one with its key.
abbrev pub PutsCode : (List Method → Open) → Bool → Type 0
PutsCode with direct = (ms : List Method) (k : Key) (c : Code) → with_code_at (with ms) (record { direct = direct; method = k }) c ≡ with (with_code ms k c)

body_runs : (form : Form) (done : List Class) (with : List Method → Open) (direct : Bool) (n : ℕ) (before : List Method) (m : Method) (o : Option Code) → PutsCode with direct → AllBelow (map method_key before) (method_key m) → BodyFits o
    → InClass form done (within (after direct m) done (with (before ++ coded m None ∷ [])) None n) ((body_text form) o) (with (before ++ coded m o ∷ []))
body_runs form done with direct n before m None p h f = record { part = after direct m; lines = n; runs = nothing_runs (bare form) (within (after direct m) done (with (before ++ coded m None ∷ [])) None n) }
body_runs form done with direct n before m (Some c) p h f =
    let o = with (before ++ coded m None ∷ []) in
    let y = code_runs form done o (record { direct = direct; method = method_key m }) n c f in
    let e : with_code_at o (record { direct = direct; method = method_key m }) c ≡ with (before ++ coded m (Some c) ∷ []) = p (before ++ coded m None ∷ []) (method_key m) c ∙ ap with (code_last before m c h) in
    subst (λ (q : Open). InClass form done (within (after direct m) done o None n) ((body_text form) (Some c)) q) e (record { part = at_members; lines = y.0; runs = y.1 })

-- ---- methods of one list

-- Where a method's line leads to a class that ends with it, methods with their codes lead to the class that has them all.
methods_run : (form : Form) (done : List Class) (direct : Bool) (with : List Method → Open) (text : Method → List ℕ) → PutsCode with direct
    → ((p : ClassPart) (n : ℕ) (before : List Method) (m : Method) → MethodFits m → AllBelow (map method_key before) (method_key m)
    → RunsTo (bare form) (within p done (with before) None n) (text m) (within (after direct m) done (with (before ++ coded m None ∷ [])) None (n + 1)))
    → (ms : List Method) (p : ClassPart) (n : ℕ) → AllByRecursion MethodFits ms → KeysAreSorted (map method_key ms)
    → InClass form done (within p done (with []) None n) (flat_map (λ (m : Method). text m ++ body_text form m.code) ms) (with ms)
methods_run form done direct with text puts line ms p n f s = each_runs form done (λ (m : Method). text m ++ body_text form m.code) with MethodFits method_key step ms [] p n f s
  where
    step : (p : ClassPart) (n : ℕ) (before : List Method) (m : Method) → MethodFits m → AllBelow (map method_key before) (method_key m) → InClass form done (within p done (with before) None n) (text m ++ body_text form m.code) (with (before ++ m ∷ []))
    step p n before m f h =
        let x : InClass form done (within p done (with before) None n) (text m) (with (before ++ coded m None ∷ [])) = record { part = after direct m; lines = n + 1; runs = line p n before m f h } in
        in_then form done (within p done (with before) None n) (text m) (body_text form m.code) (with (before ++ coded m None ∷ [])) (with (before ++ m ∷ [])) x
        (body_runs form done with direct (n + 1) before m m.code puts h f.1)

-- ---- direct methods

abbrev with_directs : Open → List Method → Open
with_directs o ms = record o { directs = ms }

direct_line_runs : (form : Form) (done : List Class) (o : Open) (p : ClassPart) (n : ℕ) (before : List Method) (m : Method) → MethodFits m → AllBelow (map method_key before) (method_key m)
    → RunsTo (bare form) (within p done (with_directs o before) None n) (keyed_text (direct_line m)) (within (after true m) done (with_directs o (before ++ coded m None ∷ [])) None (n + 1))
unfolding may_stand add inside with_direct
direct_line_runs form done o p n before m f h = keyed_runs form _ _ (direct_line (coded m None)) tt refl f.0 (class_goes_on p) (rw (with_last method_key (coded m None) before h) refl)

pub directs_run : (form : Form) (done : List Class) (o : Open) (ms : List Method) (p : ClassPart) (n : ℕ) → AllByRecursion MethodFits ms → KeysAreSorted (map method_key ms)
    → InClass form done (within p done (with_directs o []) None n) (flat_map (direct_text form) ms) (with_directs o ms)
directs_run form done o ms p n f s = methods_run form done true (with_directs o) (λ (m : Method). keyed_text (direct_line m)) (λ ms k c. refl) (direct_line_runs form done o) ms p n f s

-- ---- virtual methods

abbrev with_virtuals : Open → List Method → Open
with_virtuals o ms = record o { virtuals = ms }

virtual_line_runs : (form : Form) (done : List Class) (o : Open) (p : ClassPart) (n : ℕ) (before : List Method) (m : Method) → MethodFits m → AllBelow (map method_key before) (method_key m)
    → RunsTo (bare form) (within p done (with_virtuals o before) None n) (keyed_text (virtual_line m)) (within (after false m) done (with_virtuals o (before ++ coded m None ∷ [])) None (n + 1))
unfolding may_stand add inside with_virtual
virtual_line_runs form done o p n before m f h = keyed_runs form _ _ (virtual_line (coded m None)) tt refl f.0 (class_goes_on p) (rw (with_last method_key (coded m None) before h) refl)

pub virtuals_run : (form : Form) (done : List Class) (o : Open) (ms : List Method) (p : ClassPart) (n : ℕ) → AllByRecursion MethodFits ms → KeysAreSorted (map method_key ms)
    → InClass form done (within p done (with_virtuals o []) None n) (flat_map (virtual_text form) ms) (with_virtuals o ms)
virtuals_run form done o ms p n f s = methods_run form done false (with_virtuals o) (λ (m : Method). keyed_text (virtual_line m)) (λ ms k c. refl) (virtual_line_runs form done o) ms p n f s
