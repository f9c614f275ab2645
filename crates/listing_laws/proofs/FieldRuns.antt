-- Printed fields of a class, one after the other.
use Rattle.std.proofs.Common.{◌≡◌, ℕ, ◌+◌, ◌≤◌, true, List, [], ◌∷◌, ◌++◌, length, take, map, Option, Some, None, refl, ap, subst, ◌∙◌, arith}
use Rattle.std.specs.List.{AllByRecursion, flat_map}
use Rattle.std.proofs.lemmas.Bool.{lt-ltb}
use Rattle.program_types.specs.Content.{Value, Member, Class}
use Rattle.program_types.specs.Key.{Key}
use Rattle.program_rules.specs.Rules.{member_key}
use Rattle.listing_lines.specs.Lines.{static_line, instance_line}
use Rattle.listing_lines.specs.Places.{may_stand, is_in_class}
use Rattle.listing_parse.specs.Members.{Given, given_key, given_length, value_or_zero, values_of}
use Rattle.listing_parse.specs.States.{State, Open, ClassPart, at_members, stage_of, counted, add, inside, with_static, with_instance}
use Rattle.listing_print.specs.Printed.{line_operands, keyed_text}
use Rattle.listing_print.specs.Canon.{statics_text}
use Rattle.listing_print.specs.inner.Reading.{FitOperands}
use Rattle.listing_lines.specs.declared.form.Form.{Form}
use Rattle.listing_laws.proofs.Runs.{bare, RunsTo, within}
use Rattle.listing_laws.proofs.Printable.{KeysAreSorted, AllBelow, FieldFits, GivenFits, givens}
use Rattle.listing_laws.proofs.KeyedLaws.{keyed_runs}
use Rattle.listing_laws.proofs.InClass.{InClass, with_last, each_runs}
use Rattle.listing_parse.proofs.StageLaws.{class_goes_on}

-- ---- instance fields

abbrev with_instances : Open → List Member → Open
with_instances o ms = record o { instances = ms }

instance_step : (form : Form) (done : List Class) (o : Open) (p : ClassPart) (n : ℕ) (before : List Member) (m : Member) → FieldFits m → AllBelow (map member_key before) (member_key m)
    → InClass form done (within p done (with_instances o before) None n) (keyed_text (instance_line m)) (with_instances o (before ++ m ∷ []))
unfolding may_stand add inside with_instance
instance_step form done o p n before m f h =
    record { part = at_members; lines = n + 1; runs = keyed_runs form _ _ (instance_line m) tt tt f (class_goes_on p) (rw (with_last member_key m before h) refl) }

pub instances_run : (form : Form) (done : List Class) (o : Open) (ms : List Member) (p : ClassPart) (n : ℕ) → AllByRecursion FieldFits ms → KeysAreSorted (map member_key ms)
    → InClass form done (within p done (with_instances o []) None n) (flat_map (λ m. keyed_text (instance_line m)) ms) (with_instances o ms)
instances_run form done o ms p n f s = each_runs form done (λ (m : Member). keyed_text (instance_line m)) (with_instances o) FieldFits member_key (instance_step form done o) ms [] p n f s

-- ---- static fields

abbrev with_statics : Open → List Given → Open
with_statics o gs = record o { statics = gs }

given_runs : (form : Form) (s t : State) (m : Member) (v : Option Value) → FitOperands (line_operands (static_line m v)) → is_in_class (stage_of s.block) ≡ true → add (counted s) (static_line m v) ≡ Some t → RunsTo (bare form) s (keyed_text (static_line m v)) t
unfolding may_stand
given_runs form s t m None f k a = keyed_runs form s t (static_line m None) tt tt f k a
given_runs form s t m (Some v) f k a = keyed_runs form s t (static_line m (Some v)) tt tt f k a

static_step : (form : Form) (done : List Class) (o : Open) (p : ClassPart) (n : ℕ) (before : List Given) (g : Given) → GivenFits g → AllBelow (map given_key before) (given_key g)
    → InClass form done (within p done (with_statics o before) None n) (keyed_text (static_line g.field g.value)) (with_statics o (before ++ g ∷ []))
unfolding add inside with_static
static_step form done o p n before g f h =
    record { part = at_members; lines = n + 1; runs = given_runs form _ _ g.field g.value f (class_goes_on p) (rw (with_last given_key g before h) refl) }

-- the text of the fields, one by one
statics_each : (ms : List Member) (vs : List Value) → flat_map (λ (g : Given). keyed_text (static_line g.field g.value)) (givens ms vs) ≡ statics_text ms vs
statics_each [] vs = refl
statics_each (m ∷ ms) [] = ap (λ t. keyed_text (static_line m None) ++ t) (statics_each ms [])
statics_each (m ∷ ms) (v ∷ vs) = ap (λ t. keyed_text (static_line m (Some v)) ++ t) (statics_each ms vs)

statics_keys : (k : Member → Key) (ms : List Member) (vs : List Value) → map k ms ≡ map (λ (g : Given). k g.field) (givens ms vs)
statics_keys k [] vs = refl
statics_keys k (m ∷ ms) [] = ap (λ t. k m ∷ t) (statics_keys k ms [])
statics_keys k (m ∷ ms) (v ∷ vs) = ap (λ t. k m ∷ t) (statics_keys k ms vs)

pub statics_run : (form : Form) (done : List Class) (o : Open) (ms : List Member) (vs : List Value) (p : ClassPart) (n : ℕ) → AllByRecursion GivenFits (givens ms vs) → KeysAreSorted (map member_key ms)
    → InClass form done (within p done (with_statics o []) None n) (statics_text ms vs) (with_statics o (givens ms vs))
statics_run form done o ms vs p n f s =
    let r = each_runs form done (λ (g : Given). keyed_text (static_line g.field g.value)) (with_statics o) GivenFits given_key (static_step form done o) (givens ms vs) [] p n f (subst KeysAreSorted (statics_keys member_key ms vs) s) in
    subst (λ (text : List ℕ). InClass form done (within p done (with_statics o []) None n) text (with_statics o (givens ms vs))) (statics_each ms vs) r

-- ---- the fields of the class, and their values, are these

pub fields_again : (ms : List Member) (vs : List Value) → map (λ (g : Given). g.field) (givens ms vs) ≡ ms
fields_again [] vs = refl
fields_again (m ∷ ms) [] = ap (λ t. m ∷ t) (fields_again ms [])
fields_again (m ∷ ms) (v ∷ vs) = ap (λ t. m ∷ t) (fields_again ms vs)

none_given : (ms : List Member) → given_length (givens ms []) ≡ 0
unfolding given_length
none_given [] = refl
none_given (m ∷ ms) = rw (none_given ms) refl

all_given : (ms : List Member) (vs : List Value) → length vs ≤ length ms → given_length (givens ms vs) ≡ length vs
unfolding given_length
all_given [] [] h = refl
all_given [] (v ∷ vs) h = absurd (omega arith)
all_given (m ∷ ms) [] h = none_given (m ∷ ms)
all_given (m ∷ ms) (v ∷ []) h = rw (none_given ms) refl
all_given (m ∷ ms) (v ∷ w ∷ vs) h = rw (all_given ms (w ∷ vs) (omega arith), lt-ltb 0 (length (w ∷ vs)) (omega arith)) (omega arith)

values_taken : (ms : List Member) (vs : List Value) → length vs ≤ length ms → map value_or_zero (take (length vs) (givens ms vs)) ≡ vs
values_taken [] [] h = refl
values_taken [] (v ∷ vs) h = absurd (omega arith)
values_taken (m ∷ ms) [] h = refl
values_taken (m ∷ ms) (v ∷ vs) h = ap (λ t. v ∷ t) (values_taken ms vs (omega arith))

pub values_again : (ms : List Member) (vs : List Value) → length vs ≤ length ms → values_of (givens ms vs) ≡ vs
values_again ms vs h = ap (λ n. map value_or_zero (take n (givens ms vs))) (all_given ms vs h) ∙ values_taken ms vs h
