-- The members of a class, one after the other.
use Rattle.std.proofs.Common.{◌≡◌, ℕ, ◌+◌, ◌<◌, ◌≤◌, ◌^◌, get_or, List, [], ◌∷◌, ◌++◌, length, map, take, sym, ap, ◌∙◌, subst, arith, Some, refl}
use Rattle.std.specs.List.{flat_map, slice_get}
use Rattle.std.specs.Prelude.{sum}
use Rattle.std.proofs.lemmas.Grind.{flat_map-append}
use Rattle.std.proofs.lemmas.List.{append-nil, map-append, take_all, take_more}
use Rattle.std.proofs.lemmas.Option.{get_or_from_slice_get, slice_get_within}
use Rattle.dex_insn.specs.declared.opcode.IndexKind.TheVariants as kind
use Rattle.program_types.specs.Content.{Name, OfMethod, Units, Member, Method}
use Rattle.program_types.specs.Mentions.{field_of_class, names_of_method}
use Rattle.file_renumber.specs.inner.Marked.{AddsNames, HasMarks, IsRowOf, Marked}
use Rattle.file_renumber.proofs.MarkLemmas.{adds_more}
use Rattle.file_layout.specs.Sections.{wide_all}
use Rattle.file_limits.specs.Wide.{bodies_in, wide_body}
use Rattle.file_limits.proofs.SumLaws.{wide_all_append}
use Rattle.file_classes.specs.ClassData.{FieldEntry, MethodEntry, EntriesAre, index_of, steps}
use Rattle.file_classes.specs.Classes.{IsField, IsMethod}
use Rattle.file_classes.specs.declared.class_data.FieldEntry.{FieldEntry as Field}
use Rattle.file_classes.specs.declared.class_data.MethodEntry.{MethodEntry as Entry}
use Rattle.file_classes.specs.inner.Reading.{field_entry, method_entry}
use Rattle.file_classes.proofs.EntryLaws.{entry_at}
use Rattle.file_classes.proofs.MemberLaws.{next_index, there}
use Rattle.file_strip.specs.inner.Survey.{FindsNames}
use Rattle.file_strip.specs.declared.survey.Surveyed.{Surveyed}
use Rattle.file_strip.proofs.FoundLaws.{finds_more}

pub take_next : {X : Type 0} (xs : List X) (k : ℕ) (x : X) → slice_get xs k ≡ Some x → take (k + 1) xs ≡ take k xs ++ x ∷ []
take_next xs k x at = take_more xs k x (slice_get_within xs k x at) ∙ ap (λ y. take k xs ++ y ∷ []) (get_or_from_slice_get xs k x x at)

-- member k of a run stands for entry k
pub member_at : {R V : Type 0} (M : ℕ → ℕ × R → V → Type 0) (es : List (ℕ × R)) (vs : List V) (k : ℕ) (e : ℕ × R) → EntriesAre M es vs → slice_get es k ≡ Some e
    → (v : V) × (slice_get vs k ≡ Some v) × M (index_of (steps es) k) e v
member_at M es vs k e run there =
    let n = run.count in let l = slice_get_within es k e there in
    let at = entry_at vs k (omega (arith, n, l)) in
    (at.0, at.1, run.each k e at.0 there at.1)

-- a field's row has its name, and its index is small
pub field_row : (b : List ℕ) (class : Units) (index : ℕ) (e : FieldEntry) (m : Member) → IsField b class index e m → IsRowOf b kind.Field index (field_of_class class m)
field_row b class index e m is = record { kind = refl; stands = is.field }

pub field_small : (b : List ℕ) (marks : Marked) (class : Units) (index : ℕ) (e : FieldEntry) (m : Member) → HasMarks b marks → IsField b class index e m → index < 2 ^ 32
field_small b marks class index e m h is = let few = h.1.fields.shape.few in let row = is.field.row in omega (arith, few, row)

-- so a method's
pub method_row : (b : List ℕ) (class : Units) (index : ℕ) (e : MethodEntry) (m : Method) → IsMethod b class index e m → IsRowOf b kind.Method index (OfMethod (record { class = class; name = m.name; proto = m.proto }))
method_row b class index e m is = record { kind = refl; stands = is.method }

pub method_small : (b : List ℕ) (marks : Marked) (class : Units) (index : ℕ) (e : MethodEntry) (m : Method) → HasMarks b marks → IsMethod b class index e m → index < 2 ^ 32
method_small b marks class index e m h is = let few = h.1.methods.shape.few in let row = is.method.row in omega (arith, few, row)

-- one field more is marked
pub next_field : (b : List ℕ) (old mid new : Marked) (class : Units) (ms : List Member) (k : ℕ) (m : Member) → slice_get ms k ≡ Some m
    → AddsNames b old mid (map (field_of_class class) (take k ms)) → AddsNames b mid new (field_of_class class m ∷ []) → AddsNames b old new (map (field_of_class class) (take (k + 1) ms))
next_field b old mid new class ms k m at f g =
    subst (λ (ns : List Name). AddsNames b old new ns) (sym (ap (map (field_of_class class)) (take_next ms k m at) ∙ map-append (field_of_class class) (take k ms) (m ∷ [])))
    (adds_more b old mid new (map (field_of_class class) (take k ms)) (field_of_class class m ∷ []) f g)

-- one method more is looked at
pub next_method : (b : List ℕ) (old mid new : Surveyed) (class : Units) (ms : List Method) (k : ℕ) (m : Method) → slice_get ms k ≡ Some m
    → FindsNames b old mid (flat_map (names_of_method class) (take k ms)) → FindsNames b mid new (names_of_method class m) → FindsNames b old new (flat_map (names_of_method class) (take (k + 1) ms))
next_method b old mid new class ms k m at f g =
    subst (λ (ns : List Name). FindsNames b old new ns)
    (sym (ap (flat_map (names_of_method class)) (take_next ms k m at) ∙ flat_map-append (names_of_method class) (take k ms) (m ∷ []) ∙ ap (λ ns. flat_map (names_of_method class) (take k ms) ++ ns) (append-nil (names_of_method class m))))
    (finds_more b old mid new (flat_map (names_of_method class) (take k ms)) (names_of_method class m) f g)

-- and its body counts
pub next_body : (ms : List Method) (k : ℕ) (m : Method) → slice_get ms k ≡ Some m → wide_all wide_body (bodies_in (take (k + 1) ms)) ≡ wide_all wide_body (bodies_in (take k ms)) + wide_body m.code
next_body ms k m at =
    ap (λ (xs : List Method). wide_all wide_body (bodies_in xs)) (take_next ms k m at)
    ∙ ap (wide_all wide_body) (map-append (λ (x : Method). x.code) (take k ms) (m ∷ []))
    ∙ wide_all_append wide_body (bodies_in (take k ms)) (m.code ∷ [])
    ∙ omega arith

-- the field of entry k, whose index is the last one and the difference
pub field_step : (b : List ℕ) (es : List Field) (k : ℕ) (d : Field) → k < length es → (index : ℕ) → index ≡ sum (take k (steps (map field_entry es))) → (class : Units) (ms : List Member) → EntriesAre (IsField b class) (map field_entry es) ms
    → (m : Member) × (slice_get ms k ≡ Some m) × IsField b class (index + (get_or es k d).step) (field_entry (get_or es k d)) m
field_step b es k d lt index summed class ms run =
    let v = member_at (IsField b class) (map field_entry es) ms k (field_entry (get_or es k d)) run (there field_entry es k d lt) in
    (v.0, v.1, subst (λ (i : ℕ). IsField b class i (field_entry (get_or es k d)) v.0) (sym (next_index field_entry es k d lt index (get_or es k d).step summed refl)) v.2)

pub method_step : (b : List ℕ) (es : List Entry) (k : ℕ) (d : Entry) → k < length es → (index : ℕ) → index ≡ sum (take k (steps (map method_entry es))) → (class : Units) (ms : List Method) → EntriesAre (IsMethod b class) (map method_entry es) ms
    → (m : Method) × (slice_get ms k ≡ Some m) × IsMethod b class (index + (get_or es k d).step) (method_entry (get_or es k d)) m
method_step b es k d lt index summed class ms run =
    let v = member_at (IsMethod b class) (map method_entry es) ms k (method_entry (get_or es k d)) run (there method_entry es k d lt) in
    (v.0, v.1, subst (λ (i : ℕ). IsMethod b class i (method_entry (get_or es k d)) v.0) (sym (next_index method_entry es k d lt index (get_or es k d).step summed refl)) v.2)

-- all of them
pub all_of_run : {R V : Type 0} (M : ℕ → ℕ × R → V → Type 0) (es : List (ℕ × R)) (vs : List V) (k : ℕ) → EntriesAre M es vs → length es ≤ k → take k vs ≡ vs
all_of_run M es vs k run end = let n = run.count in take_all k vs (omega (arith, n, end))

-- the name of a method of this class
abbrev pub self_name : Units → Method → Name
self_name class m = OfMethod (record { class = class; name = m.name; proto = m.proto })
