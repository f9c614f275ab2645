-- Which type list has which number, and that its types are held.
use Rattle.std.proofs.Common.{◌≡◌, ℕ, zero, suc, ◌+◌, ◌-◌, ◌<◌, ◌≤◌, List, [], ◌∷◌, length, map, get_or, refl, sym, ap, ◌∙◌, arith, subst, length-append, Some, None}
use Rattle.std.proofs.lemmas.List.{length-map, get_or-append_right, get_or_append_left}
use Rattle.std.specs.List.{AllByRecursion, slice_get}
use Rattle.file_limits.specs.Wide.{params_of}
use Rattle.file_limits.specs.inner.Wide.{list_values}
use Rattle.tables_names.specs.Closure.{Five, IsClosed, NameRanks}
use Rattle.tables_names.specs.inner.Indices.{HasRank, AreIndices}
use Rattle.tables_names.specs.Keys.{key_of_proto}
use Rattle.tables_names.specs.Needed.{needed}
use Rattle.tables_names.specs.Rank.{IsAt}
use Rattle.tables_names.proofs.IndexLemmas.{closed_have_rows, mentions_have_indices}
use Rattle.tables_names.proofs.NeededLemmas.{needed_is_least}
use Rattle.file_needed.proofs.ClassNames.{interfaces_named}
use Rattle.file_needed.proofs.Steps.{flat_kept}
use Rattle.program_types.specs.Content.{Descriptor, OfDesc, Class, Program, Units}
use Rattle.program_types.specs.Key.{Key, text_key, proto_key}
use Rattle.program_types.specs.Mentions.{mentions, names_of_class}
use Rattle.program_types.specs.View as view
use Rattle.program_types.specs.declared.class.Class as made
use Rattle.program_types.specs.declared.names.Proto.{Proto}
use Rattle.program_types.specs.Kinds.{HasIndex}
use Rattle.dex_base.proofs.ListFacts.{map_at}

placed_all : (s : Five) (ts : List Units) (row : List ℕ) → AreIndices s.types row ts → AllByRecursion (λ t. HasRank s.types (text_key t)) ts
placed_all s [] row a = tt
placed_all s (t ∷ ts) [] a = absurd a
placed_all s (t ∷ ts) (i ∷ row) a = ((i, a.0), placed_all s ts row a.1)

pub params_held : (s : Five) (p : Program) (qs : List Proto) (k : ℕ) (d : Proto) → s ≡ needed p → map key_of_proto qs ≡ s.protos → k < length qs → AllByRecursion (λ t. HasRank s.types (text_key t)) (map view.desc (get_or qs k d).params.now)
params_held s p qs k d e m lt =
    let closed = subst (λ (x : Five). IsClosed x) (sym e) (needed_is_least p).1.closed in
    let at : IsAt s.protos k (key_of_proto (get_or qs k d)) = subst (λ (ks : List Key). slice_get ks k ≡ Some (key_of_proto (get_or qs k d))) m (map_at key_of_proto qs k d lt) in
    let row = (closed_have_rows s closed).protos k (view.proto (get_or qs k d)) at in
    (placed_all s (proto_key (view.proto (get_or qs k d))) row.0 row.1).1

-- what a class mentions has an index
pub class_named : (s : Five) (p : Program) (cs : List made.Class) (k : ℕ) (d : made.Class) → s ≡ needed p → p ≡ map view.class cs → k < length cs → AllByRecursion (HasIndex (NameRanks s)) (names_of_class (view.class (get_or cs k d)))
class_named s p cs k d e m lt =
    subst (λ (x : Five). AllByRecursion (HasIndex (NameRanks x)) (names_of_class (view.class (get_or cs k d)))) (sym e)
    (flat_kept (HasIndex (NameRanks (needed p))) names_of_class view.class cs k d lt (subst (λ (x : Program). AllByRecursion (HasIndex (NameRanks (needed p))) (mentions x)) m (mentions_have_indices p)))

types_placed : (s : Five) (ts : List Descriptor) → AllByRecursion (HasIndex (NameRanks s)) (map OfDesc ts) → AllByRecursion (λ t. HasRank s.types (text_key t)) ts
types_placed s [] h = tt
types_placed s (t ∷ ts) h = (h.0, types_placed s ts h.1)

first_of_params : (qs : List Proto) (k : ℕ) (d : Proto) → k < length qs → get_or (map params_of (map key_of_proto qs)) k [] ≡ map view.desc (get_or qs k d).params.now
first_of_params [] k d lt = absurd (omega (arith, lt))
first_of_params (q ∷ qs) zero d lt = refl
first_of_params (q ∷ qs) (suc k) d lt = first_of_params qs k d (omega (arith, lt))

interfaces_at : (cs : List made.Class) (k : ℕ) (d : made.Class) → k < length cs → get_or (map (λ (c : Class). c.interfaces) (map view.class cs)) k [] ≡ map view.desc (get_or cs k d).interfaces.now
interfaces_at [] k d lt = absurd (omega (arith, lt))
interfaces_at (c ∷ cs) zero d lt = refl
interfaces_at (c ∷ cs) (suc k) d lt = interfaces_at cs k d (omega (arith, lt))

pub list_count : (s : Five) (qs : List Proto) (cs : List made.Class) → map key_of_proto qs ≡ s.protos → length (list_values s (map view.class cs)) ≡ length qs + length cs
list_count s qs cs m =
    let a = length-append (map params_of s.protos) (map (λ (c : Class). c.interfaces) (map view.class cs)) in
    let b = length-map s.protos params_of in
    let c = ap length (sym m) ∙ length-map qs key_of_proto in
    let d = length-map (map view.class cs) (λ (c : Class). c.interfaces) in
    let e = length-map cs view.class in
    omega (arith, a, b, c, d, e)

pub list_first : (s : Five) (qs : List Proto) (cs : List made.Class) (k : ℕ) (d : Proto) → map key_of_proto qs ≡ s.protos → k < length qs → get_or (list_values s (map view.class cs)) k [] ≡ map view.desc (get_or qs k d).params.now
list_first s qs cs k d m lt =
    let n : length (map params_of s.protos) ≡ length qs = length-map s.protos params_of ∙ ap length (sym m) ∙ length-map qs key_of_proto in
    get_or_append_left (map params_of s.protos) _ [] k (omega (arith, n, lt)) ∙ ap (λ (ks : List Key). get_or (map params_of ks) k []) (sym m) ∙ first_of_params qs k d lt

pub list_second : (s : Five) (qs : List Proto) (cs : List made.Class) (k : ℕ) (d : made.Class) → map key_of_proto qs ≡ s.protos → length qs ≤ k → k < length qs + length cs → get_or (list_values s (map view.class cs)) k [] ≡ map view.desc (get_or cs (k - length qs) d).interfaces.now
list_second s qs cs k d m le lt =
    let n : length (map params_of s.protos) ≡ length qs = length-map s.protos params_of ∙ ap length (sym m) ∙ length-map qs key_of_proto in
    get_or-append_right (map params_of s.protos) (map (λ (c : Class). c.interfaces) (map view.class cs)) (length qs) k [] n le ∙ interfaces_at cs (k - length qs) d (omega (arith, le, lt))

pub interfaces_held : (s : Five) (p : Program) (cs : List made.Class) (k : ℕ) (d : made.Class) → s ≡ needed p → p ≡ map view.class cs → k < length cs → AllByRecursion (λ t. HasRank s.types (text_key t)) (map view.desc (get_or cs k d).interfaces.now)
interfaces_held s p cs k d e m lt = types_placed s _ (interfaces_named (HasIndex (NameRanks s)) (view.class (get_or cs k d)) (class_named s p cs k d e m lt))

abbrev pub no_proto : Proto
no_proto = record { ret = record { text = record { units = record { ref_ptr = (0, 0); now = [] } } }; params = record { ref_ptr = (0, 0); now = [] } }

abbrev pub no_class : made.Class
no_class = record {
  ty = record { text = record { units = record { ref_ptr = (0, 0); now = [] } } };
  flags = 0;
  superclass = None;
  interfaces = record { ref_ptr = (0, 0); now = [] };
  source = None;
  statics = record { ref_ptr = (0, 0); now = [] };
  values = record { ref_ptr = (0, 0); now = [] };
  instances = record { ref_ptr = (0, 0); now = [] };
  directs = record { ref_ptr = (0, 0); now = [] };
  virtuals = record { ref_ptr = (0, 0); now = [] };
}
