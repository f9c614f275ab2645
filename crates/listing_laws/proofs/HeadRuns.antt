-- Printed heads of a class, one after the other.
use Rattle.std.proofs.Common.{◌≡◌, ℕ, suc, ◌+◌, ◌<◌, ◌⊎◌, inl, inr, Bool, true, false, List, [], ◌∷◌, ◌++◌, length, Option, Some, None, refl, sym, ap, subst, ◌∙◌, append_assoc, arith}
use Rattle.std.specs.List.{AllByRecursion, flat_map, slice_get}
use Rattle.std.proofs.lemmas.List.{append-nil, length-append}
use Rattle.program_types.specs.Content.{Units, Descriptor, Class}
use Rattle.program_rules.specs.Rules.{AreDistinct}
use Rattle.listing_lines.specs.Lines.{open_class, super_line, implements_line, source_line}
use Rattle.listing_slots.specs.Keys.{same}
use Rattle.listing_lines.specs.Places.{may_stand}
use Rattle.listing_parse.specs.States.{Open, at_heads, with_superclass, with_interface, with_source, add, inside, opened, is_among}
use Rattle.listing_print.specs.Printed.{line_operands, keyed_text}
use Rattle.listing_print.specs.Canon.{super_text, source_text, heads_text}
use Rattle.listing_print.specs.inner.Reading.{FitOperands}
use Rattle.listing_lines.specs.declared.form.Form.{Form}
use Rattle.listing_laws.proofs.Runs.{bare, RunsTo, outside, within}
use Rattle.listing_laws.proofs.Printable.{SuperFits, SourceFits, InterfaceFits, ClassFits}
use Rattle.listing_laws.proofs.RunLaws.{runs_join}
use Rattle.listing_laws.proofs.KeyedLaws.{keyed_runs}
use Rattle.listing_laws.proofs.CodeRuns.{nothing_runs}
use Rattle.listing_slots.proofs.KeyLaws.{same_true}
use Rattle.dex_base.proofs.ListFacts.{slice_left}

-- A class that has its heads so far, and no members.
abbrev pub headed : Class → Option Descriptor → List Descriptor → Option Units → Open
headed c super interfaces source = record (opened c.ty c.flags) { superclass = super; interfaces = interfaces; source = source }

class_runs : (form : Form) (done : List Class) (n : ℕ) (c : Class) → FitOperands (line_operands (open_class c.ty c.flags)) → RunsTo (bare form) (outside done n) (keyed_text (open_class c.ty c.flags)) (within at_heads done (headed c None [] None) None (n + 1))
unfolding add inside may_stand
class_runs form done n c f = keyed_runs form (outside done n) (within at_heads done (headed c None [] None) None (n + 1)) (open_class c.ty c.flags) tt tt f refl refl

super_runs : (form : Form) (done : List Class) (n : ℕ) (c : Class) (d : Option Descriptor) → SuperFits d → (l : ℕ) × RunsTo (bare form) (within at_heads done (headed c None [] None) None n) (super_text d) (within at_heads done (headed c d [] None) None l)
unfolding add inside may_stand with_superclass
super_runs form done n c None f = (n, nothing_runs (bare form) (within at_heads done (headed c None [] None) None n))
super_runs form done n c (Some d) f = (n + 1, keyed_runs form (within at_heads done (headed c None [] None) None n) (within at_heads done (headed c (Some d) [] None) None (n + 1)) (super_line d) tt tt f refl refl)

source_runs : (form : Form) (done : List Class) (n : ℕ) (c : Class) (d : Option Descriptor) (is : List Descriptor) (u : Option Units) → SourceFits u
    → (l : ℕ) × RunsTo (bare form) (within at_heads done (headed c d is None) None n) (source_text u) (within at_heads done (headed c d is u) None l)
unfolding add inside may_stand with_source
source_runs form done n c d is None f = (n, nothing_runs (bare form) (within at_heads done (headed c d is None) None n))
source_runs form done n c d is (Some u) f = (n + 1, keyed_runs form (within at_heads done (headed c d is None) None n) (within at_heads done (headed c d is (Some u)) None (n + 1)) (source_line u) tt tt f refl refl)

-- ---- interfaces

any_more : (d e : Descriptor) (es : List Descriptor) (b : Bool) → same d e ≡ b → is_among (e ∷ es) d ≡ true → (b ≡ true) ⊎ (is_among es d ≡ true)
any_more d e es true s h = inl refl
any_more d e es false s h = inr (rw s at h)

-- what is among them stands at some place
among_at : (es : List Descriptor) (d : Descriptor) → is_among es d ≡ true → (j : ℕ) × (j < length es) × (slice_get es j ≡ Some d)
among_at [] d h = absurd cc
among_at (e ∷ es) d h = elim (any_more d e es (same d e) refl h) [
  | inl s ↦ (0, omega arith, ap Some (sym (same_true d e s)))
  | inr s ↦ let y = among_at es d s in (suc y.0, omega (arith, y.1), y.2)
]

get_after : (xs : List Descriptor) (t : Descriptor) (ys : List Descriptor) → slice_get (xs ++ (t ∷ ys)) (length xs) ≡ Some t
get_after [] t ys = refl
get_after (x ∷ xs) t ys = get_after xs t ys

-- what is distinct was not given before
not_before : (before : List Descriptor) (d : Descriptor) (rest : List Descriptor) (b : Bool) → is_among before d ≡ b → AreDistinct (before ++ (d ∷ rest)) → is_among before d ≡ false
not_before before d rest false e h = e
not_before before d rest true e h =
    let y = among_at before d e in
    absurd (h (length before) (omega (arith, length-append before (d ∷ rest))) y.0 y.1 (slice_left before (d ∷ rest) y.0 d y.2 ∙ sym (get_after before d rest)))

interface_step : (form : Form) (done : List Class) (n : ℕ) (c : Class) (u : Option Descriptor) (before : List Descriptor) (d : Descriptor) → InterfaceFits d → is_among before d ≡ false
    → RunsTo (bare form) (within at_heads done (headed c u before None) None n) (keyed_text (implements_line d)) (within at_heads done (headed c u (before ++ d ∷ []) None) None (n + 1))
unfolding add inside may_stand with_interface
interface_step form done n c u before d f h = keyed_runs form _ _ (implements_line d) tt tt f refl (rw h refl)

interfaces_run : (form : Form) (done : List Class) (c : Class) (u : Option Descriptor) (ds before : List Descriptor) (n : ℕ) → AllByRecursion InterfaceFits ds → AreDistinct (before ++ ds)
    → (l : ℕ) × RunsTo (bare form) (within at_heads done (headed c u before None) None n) (flat_map (λ d. keyed_text (implements_line d)) ds) (within at_heads done (headed c u (before ++ ds) None) None l)
interfaces_run form done c u [] before n f h =
    let s = within at_heads done (headed c u before None) None n in
    (n, subst (λ (is : List Descriptor). RunsTo (bare form) s [] (within at_heads done (headed c u is None) None n)) (sym (append-nil before)) (nothing_runs (bare form) s))
interfaces_run form done c u (d ∷ ds) before n f h =
    let e : (before ++ d ∷ []) ++ ds ≡ before ++ (d ∷ ds) = append_assoc before (d ∷ []) ds in
    let y = interfaces_run form done c u ds (before ++ d ∷ []) (n + 1) f.1 (subst AreDistinct (sym e) h) in
    let s = within at_heads done (headed c u before None) None n in
    let x = interface_step form done n c u before d f.0 (not_before before d ds (is_among before d) refl h) in
    let r = runs_join (bare form) _ _ _ _ _ x y.1 in
    (y.0, subst (λ (is : List Descriptor). RunsTo (bare form) s (flat_map (λ i. keyed_text (implements_line i)) (d ∷ ds)) (within at_heads done (headed c u is None) None y.0)) e r)

-- ---- all of them

pub heads_run : (form : Form) (done : List Class) (n : ℕ) (c : Class) → ClassFits c
    → (l : ℕ) × RunsTo (bare form) (outside done n) (heads_text c) (within at_heads done (headed c c.superclass c.interfaces c.source) None l)
heads_run form done n c f =
    let x = class_runs form done n c f.head in
    let y = super_runs form done (n + 1) c c.superclass f.above in
    let z = interfaces_run form done c c.superclass c.interfaces [] y.0 f.interfaces f.distinct in
    let w = source_runs form done z.0 c c.superclass c.interfaces c.source f.source in
    (w.0, runs_join (bare form) _ _ _ _ _ x (runs_join (bare form) _ _ _ _ _ y.1 (runs_join (bare form) _ _ _ _ _ z.1 w.1)))
