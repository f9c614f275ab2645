-- A printed program is read again: its classes, one after the other.
use Rattle.listing_slots.specs.Keys.{key_text, same}
use Rattle.listing_lines.specs.declared.form.Form.{Form}
use Rattle.listing_lines.specs.declared.form.Form.TheVariants.{One, Two}
use Rattle.std.proofs.Common.{◌≡◌, ℕ, ◌+◌, inl, inr, List, [], ◌∷◌, ◌++◌, None, refl, sym, subst, append_assoc}
use Rattle.std.specs.List.{AllByRecursion, flat_map}
use Rattle.std.specs.Prelude.{codes}
use Rattle.std.proofs.lemmas.List.{append-nil}
use Rattle.program_types.specs.Content.{Class, Program}
use Rattle.program_rules.specs.WellFormed.{WellFormed}
use Rattle.listing_lines.specs.Lines.{first_line, end_class, instance_line}
use Rattle.listing_lines.specs.Places.{may_stand}
use Rattle.listing_parse.specs.States.{State, Open, at_heads, start, add, closed}
use Rattle.listing_parse.specs.Text.{line_of_form, IsListing}
use Rattle.listing_words.specs.Words.{Word, plain_word}
use Rattle.listing_words.specs.inner.Words.{IsWritable, line_bytes}
use Rattle.listing_words.proofs.PrintLaws.{line_again}
use Rattle.listing_slots.proofs.ShownLaws.{word_written}
use Rattle.listing_print.specs.Printed.{keyed_text}
use Rattle.listing_print.specs.Canon.{statics_text, fields_text, methods_text, class_text, first_text, text_in}
use Rattle.listing_laws.proofs.Runs.{bare, RunsInto, RunsTo, outside, within}
use Rattle.listing_laws.proofs.Printable.{givens, ClassFits, IsPrintable}
use Rattle.listing_laws.proofs.ClassRules.{printable}
use Rattle.listing_laws.proofs.RunLaws.{runs_joined, runs_join, runs_whole, line_runs, words_line}
use Rattle.listing_laws.proofs.KeyedLaws.{keyed_runs}
use Rattle.listing_laws.proofs.CodeRuns.{nothing_runs}
use Rattle.listing_laws.proofs.InClass.{InClass, in_then}
use Rattle.listing_laws.proofs.HeadRuns.{headed, heads_run}
use Rattle.listing_laws.proofs.FieldRuns.{instances_run, statics_run, fields_again, values_again}
use Rattle.listing_laws.proofs.MethodRuns.{directs_run, virtuals_run}
use Rattle.listing_parse.proofs.StageLaws.{class_goes_on}

-- the class, open, with its heads and with all its members
abbrev heads_of : Class → Open
heads_of c = headed c c.superclass c.interfaces c.source

abbrev fields_of : Class → Open
fields_of c = record (heads_of c) { statics = givens c.statics c.values; instances = c.instances }

abbrev whole : Class → Open
whole c = record (fields_of c) { directs = c.directs; virtuals = c.virtuals }

fields_run : (form : Form) (done : List Class) (n : ℕ) (c : Class) → ClassFits c → InClass form done (within at_heads done (heads_of c) None n) (fields_text c) (fields_of c)
fields_run form done n c f =
    let x = statics_run form done (heads_of c) c.statics c.values at_heads n f.statics f.statics_rise in
    let o = record (heads_of c) { statics = givens c.statics c.values } in
    in_then form done (within at_heads done (heads_of c) None n) (statics_text c.statics c.values) (flat_map (λ m. keyed_text (instance_line m)) c.instances) o (fields_of c) x
    (instances_run form done o c.instances x.part x.lines f.instances f.instances_rise)

members_run : (form : Form) (done : List Class) (n : ℕ) (c : Class) → ClassFits c → InClass form done (within at_heads done (heads_of c) None n) (fields_text c ++ (methods_text form) c) (whole c)
members_run form done n c f =
    let x = fields_run form done n c f in
    let y = directs_run form done (fields_of c) c.directs x.part x.lines f.directs f.directs_rise in
    let o = record (fields_of c) { directs = c.directs } in
    in_then form done _ _ _ _ _ x (in_then form done _ _ _ _ _ y (virtuals_run form done o c.virtuals y.part y.lines f.virtuals f.virtuals_rise))

-- what is closed is the class
closed_again : (c : Class) → ClassFits c → closed (whole c) ≡ c
closed_again c f = rw (fields_again c.statics c.values, values_again c.statics c.values f.values) refl

-- From state s, the text leads after these classes.
record After (form : Form) (s : State) (text : List ℕ) (cs : List Class) : Type 0 where
  lines : ℕ
  runs : RunsTo (bare form) s text (outside cs lines)

end_runs : (form : Form) (done : List Class) (s : State) (text : List ℕ) (o : Open) (x : InClass form done s text o) → RunsTo (bare form) (within x.part done o None x.lines) (keyed_text end_class) (outside (done ++ closed o ∷ []) (x.lines + 1))
unfolding add may_stand
end_runs form done s text o x = keyed_runs form (within x.part done o None x.lines) (outside (done ++ closed o ∷ []) (x.lines + 1)) end_class tt tt (refl, tt) (class_goes_on x.part) refl

class_runs : (form : Form) (done : List Class) (n : ℕ) (c : Class) → ClassFits c → After form (outside done n) ((class_text form) c) (done ++ c ∷ [])
class_runs form done n c f =
    let s = outside done n in
    let h = heads_run form done n c f in
    let t = within at_heads done (heads_of c) None h.0 in
    let x = members_run form done h.0 c f in
    let v = outside (done ++ closed (whole c) ∷ []) (x.lines + 1) in
    let e = end_runs form done t (fields_text c ++ (methods_text form) c) (whole c) x in
    let r = runs_join (bare form) _ _ _ _ _ x.runs e in
    let q = subst (λ (text : List ℕ). RunsTo (bare form) t text v) (append_assoc (fields_text c) ((methods_text form) c) (keyed_text end_class)) r in
    let w = runs_join (bare form) _ _ _ _ _ h.1 q in
    subst (λ (d : Class). After form s ((class_text form) c) (done ++ d ∷ [])) (closed_again c f) (record { lines = x.lines + 1; runs = w })

classes_run : (form : Form) (cs done : List Class) (n : ℕ) → IsPrintable cs → After form (outside done n) (flat_map (class_text form) cs) (done ++ cs)
classes_run form [] done n f =
    let s = outside done n in
    subst (λ (ds : List Class). After form s [] ds) (sym (append-nil done)) (record { lines = n; runs = nothing_runs (bare form) s })
classes_run form (c ∷ cs) done n f =
    let s = outside done n in
    let x = class_runs form done n c f.0 in
    let y = classes_run form cs (done ++ c ∷ []) x.lines f.1 in
    let r = runs_join (bare form) _ _ _ _ _ x.runs y.runs in
    subst (λ (ds : List Class). After form s (flat_map (class_text form) (c ∷ cs)) ds) (append_assoc done (c ∷ []) cs) (record { lines = y.lines; runs = r })

-- ---- the first line

second_first : List Word
second_first = plain_word (codes "dex") ∷ plain_word (codes "035") ∷ plain_word (codes "listing") ∷ plain_word (codes "2") ∷ []

first_runs : (form : Form) → RunsInto (bare One) start (first_text form) (bare form) (outside [] 1)
unfolding add may_stand key_text same line_of_form second_first
first_runs One = keyed_runs One start (outside [] 1) first_line tt tt (refl, tt) refl refl
first_runs Two =
    let t = outside [] 1 in
    let w : AllByRecursion IsWritable second_first = (word_written (codes "dex") refl, (word_written (codes "035") refl, (word_written (codes "listing") refl, (word_written (codes "2") refl, tt)))) in
    line_runs (bare One) (bare Two) start t (line_bytes second_first) (words_line (plain_word (codes "dex")) (plain_word (codes "035") ∷ plain_word (codes "listing") ∷ plain_word (codes "2") ∷ []) w.0 w.1)
    (λ ls. inr (refl, record { words = second_first; has_words = line_again second_first w; makes = inl (refl, refl) }))

-- ---- the whole text

pub printed_again : (form : Form) (p : Program) → WellFormed p → IsListing (text_in form p) p
printed_again form p h =
    let x = classes_run form p [] 1 (printable p h) in
    runs_whole (bare form) (text_in form p) p (outside p x.lines) (runs_joined (bare One) (bare form) (bare form) _ _ _ _ _ (first_runs form) x.runs) refl refl refl h
