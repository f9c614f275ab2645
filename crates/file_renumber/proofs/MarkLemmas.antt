-- The marks of the five tables.
use Rattle.std.proofs.Common.{◌≡◌, ℕ, zero, suc, ◌+◌, ◌<◌, length, take, List, [], ◌∷◌, ◌++◌, map, get_or, set, refl, sym, ap, ◌∙◌, subst, arith, nat_eq, Bool, true, false, cond, true≢false, ◌⊎◌, inl, inr}
use Rattle.std.specs.List.{AllByRecursion, AllZip, list_any, flat_map}
use Rattle.std.proofs.lemmas.Grind.{flat_map-append}
use Rattle.std.proofs.lemmas.List.{take_more, map-append, append-nil}
use Rattle.std.proofs.lemmas.Bool.{eqb-true}
use Rattle.dex_container.specs.Frame.{IsFramed}
use Rattle.dex_container.specs.Layout.{size_of}
use Rattle.program_types.specs.Content.{Units, Proto, FieldRef, MethodRef, Name, OfText, OfDesc, OfField, OfMethod}
use Rattle.program_types.specs.Key.{text_key, proto_key, field_ref_key, method_ref_key}
use Rattle.program_types.specs.Shorty.{shorty}
use Rattle.tables_names.specs.Closure.{Five, nothing, IsClosed, AreRising, join, closure_of, type_closure, proto_closure, with_name, with_names, with_proto}
use Rattle.tables_names.specs.inner.Closure.{Holds}
use Rattle.tables_names.proofs.FiveLemmas.{part_adds_nothing, IsPart-right, parts_of_proto, proto_there, closed-protos}
use Rattle.tables_names.proofs.NeededLemmas.{closed_with, with_names-rising, with_names-holds, rising_join, needed_is_least, names_append}
use Rattle.tables_names.specs.Needed.{needed}
use Rattle.tables_names.proofs.UnionLemmas.{rising-none}
use Rattle.tables_names.proofs.SubsetLemmas as sub
use Rattle.tables_rows.specs.Stands.{StringStands, TypeStands, ProtoStands, FieldStands, MethodStands, TypesAt, SpellsIndexes}
use Rattle.tables_rows.proofs.NameLaws.{proto_one, field_one, method_one}
use Rattle.tables_rows.proofs.RowReading.{string_one}
use Rattle.tables_rows.proofs.TypeLists.{type_one, types_one, indexes_of}
use Rattle.tables_rows.proofs.HalvesLaws.{list_or_none_one}
use Rattle.dex_container.specs.Where.{AtOrNone}
use Rattle.file_renumber.specs.inner.Marked.{Marked, MarksOf, AreMarks, IsOneOf, HasMarks, AddsNames, IsRowOf}
use Rattle.dex_insn.specs.declared.opcode.IndexKind.{IndexKind}
use Rattle.dex_insn.specs.declared.opcode.IndexKind.TheVariants as kind
use Rattle.file_renumber.proofs.ColumnLemmas.{marks_more}
use Rattle.dex_base.proofs.ListFacts.{all_map, all_weaker, zip_length}

-- ---- what is marked already

module _ (b : List ℕ) (m : Marked) (s : Five) (a : AreMarks b m s) where
  pub type_is_there : (i : ℕ) (t : Units) → TypeStands b i t → get_or m.columns.types i 0 ≡ 1 → AreMarks b m (with_name s (OfDesc t))
  unfolding with_name
  type_is_there i t st at =
      subst (AreMarks b m) (part_adds_nothing s (type_closure (text_key t)) a.rise (a.closed.of_types (text_key t) (a.types.held i t st at))) a

  pub proto_is_there : (i : ℕ) (p : Proto) → ProtoStands b i p → get_or m.columns.protos i 0 ≡ 1 → AreMarks b m (with_proto s p)
  unfolding with_proto
  proto_is_there i p st at =
      subst (AreMarks b m) (part_adds_nothing s (proto_closure (proto_key p)) a.rise (a.closed.of_protos (proto_key p) (a.protos.held i p st at))) a

  pub field_is_there : (i : ℕ) (f : FieldRef) → FieldStands b i f → get_or m.columns.fields i 0 ≡ 1 → AreMarks b m (with_name s (OfField f))
  unfolding with_name
  field_is_there i f st at =
      subst (AreMarks b m) (part_adds_nothing s (closure_of (OfField f)) a.rise (a.closed.of_fields (field_ref_key f) (a.fields.held i f st at))) a

  pub method_is_there : (i : ℕ) (r : MethodRef) → MethodStands b i r → get_or m.columns.methods i 0 ≡ 1 → AreMarks b m (with_name s (OfMethod r))
  unfolding with_name
  method_is_there i r st at =
      subst (AreMarks b m) (part_adds_nothing s (closure_of (OfMethod r)) a.rise (a.closed.of_methods (method_ref_key r) (a.methods.held i r st at))) a

-- types that are held add nothing
pub type_adds_nothing : (s : Five) (t : Units) → IsClosed s → AreRising s → Holds s (OfDesc t) → s ≡ with_name s (OfDesc t)
unfolding with_name
type_adds_nothing s t closed up h = part_adds_nothing s (type_closure (text_key t)) up (closed.of_types (text_key t) h)

-- .. by what they are the types of
pub types_add_nothing : {A : Type 0} (f : A → Units) (s : Five) (xs : List A) → IsClosed s → AreRising s → AllByRecursion (Holds s) (map (λ x. OfDesc (f x)) xs) → s ≡ with_names s (map (λ x. OfDesc (f x)) xs)
types_add_nothing f s [] closed up all = refl
types_add_nothing f s (x ∷ xs) closed up all =
    types_add_nothing f s xs closed up all.1 ∙ ap (λ y. with_names y (map (λ z. OfDesc (f z)) xs)) (type_adds_nothing s (f x) closed up all.0)

pub list_is_there : (b : List ℕ) (m : Marked) (s : Five) (off : ℕ) (ts : List Units) → AreMarks b m s → IsOneOf m.lists off → TypesAt b off ts → AreMarks b m (with_names s (map OfDesc ts))
list_is_there b m s off ts a one at = subst (AreMarks b m) (types_add_nothing (λ t. t) s ts a.closed a.rise (all_map (Holds s) OfDesc ts (a.lists off ts one at))) a

-- ---- one more row

pub string_marked : (b : List ℕ) (m : Marked) (s : Five) (i : ℕ) (t : Units) (xs : List ℕ) → xs ≡ set m.columns.strings i 1 → StringStands b i t → AreMarks b m s → AreMarks b (record m { columns = record m.columns { strings = xs } }) (with_name s (OfText t))
unfolding with_name
string_marked b m s i t xs is st a = record {
  framed = a.framed;
  closed = closed_with s (OfText t) a.closed;
  rise = with_names-rising s (OfText t ∷ []) a.rise;
  strings = rw is (marks_more (size_of b 0) (StringStands b) text_key s.strings m.columns.strings i t (λ w x. string_one b i w t a.framed x st) st.row st a.strings);
  types = a.types;
  protos = a.protos;
  fields = a.fields;
  methods = a.methods;
  lists = a.lists;
}

-- each of the others after its parts
module _ (b : List ℕ) (m : Marked) (s : Five) (closed : IsClosed s) (up : AreRising s) (i : ℕ) where
  pub type_marked : (t : Units) (xs : List ℕ) → xs ≡ set m.columns.types i 1 → TypeStands b i t → AreMarks b m (with_name s (OfText t)) → AreMarks b (record m { columns = record m.columns { types = xs } }) (with_name s (OfDesc t))
  unfolding with_name
  type_marked t xs is st a = record {
    framed = a.framed;
    closed = closed_with s (OfDesc t) closed;
    rise = with_names-rising s (OfDesc t ∷ []) up;
    strings = a.strings;
    types = rw is (marks_more (size_of b 1) (TypeStands b) text_key s.types m.columns.types i t (λ w x. type_one b i w t a.framed x st) st.row st a.types);
    protos = a.protos;
    fields = a.fields;
    methods = a.methods;
    lists = λ off ts one at. all_weaker (λ u. Holds s (OfDesc u)) (λ u. Holds (with_name s (OfDesc t)) (OfDesc u)) (λ u h. (sub.IsSubset-insert s.types (text_key t)).each (text_key u) h) ts (a.lists off ts one at);
  }

  pub field_marked : (f : FieldRef) (xs : List ℕ) → xs ≡ set m.columns.fields i 1 → FieldStands b i f → AreMarks b m (with_name (with_name (with_name s (OfDesc f.class)) (OfText f.name)) (OfDesc f.ty)) → AreMarks b (record m { columns = record m.columns { fields = xs } }) (with_name s (OfField f))
  unfolding with_name
  field_marked f xs is st a = record {
    framed = a.framed;
    closed = closed_with s (OfField f) closed;
    rise = with_names-rising s (OfField f ∷ []) up;
    strings = a.strings;
    types = a.types;
    protos = a.protos;
    fields = rw is (marks_more (size_of b 3) (FieldStands b) field_ref_key s.fields m.columns.fields i f (λ w x. field_one b a.framed i w f x st) st.row st a.fields);
    methods = a.methods;
    lists = a.lists;
  }

  pub method_marked : (r : MethodRef) (xs : List ℕ) → xs ≡ set m.columns.methods i 1 → MethodStands b i r → AreMarks b m (with_proto (with_name (with_name s (OfDesc r.class)) (OfText r.name)) r.proto) → AreMarks b (record m { columns = record m.columns { methods = xs } }) (with_name s (OfMethod r))
  unfolding with_name with_proto
  method_marked r xs is st a = record {
    framed = a.framed;
    closed = closed_with s (OfMethod r) closed;
    rise = with_names-rising s (OfMethod r ∷ []) up;
    strings = a.strings;
    types = a.types;
    protos = a.protos;
    fields = a.fields;
    methods = rw is (marks_more (size_of b 4) (MethodStands b) method_ref_key s.methods m.columns.methods i r (λ w x. method_one b a.framed i w r x st) st.row st a.methods);
    lists = a.lists;
  }

-- ---- a prototype

-- the sets and these types
with_types : Five → List Units → Five
with_types s ts = join s (record { strings = map text_key ts; types = map text_key ts; protos = []; fields = []; methods = [] })

names_of_types : (s : Five) (ts : List Units) → with_names s (map OfDesc ts) ≡ with_types s ts
unfolding with_name with_types
names_of_types s [] = refl
names_of_types s (t ∷ ts) = names_of_types (with_name s (OfDesc t)) ts

pub proto_marked : (b : List ℕ) (m : Marked) (s : Five) (i : ℕ) (p : Proto) (xs : List ℕ) → xs ≡ set m.columns.protos i 1 → AreRising s → ProtoStands b i p → AreMarks b m (with_names (with_name (with_name s (OfText (shorty p))) (OfDesc p.ret)) (map OfDesc p.params)) → AreMarks b (record m { columns = record m.columns { protos = xs } }) (with_proto s p)
unfolding with_name with_proto with_types
proto_marked b m s i p xs is up st marks =
    let k = proto_key p in
    let parts = join s (parts_of_proto k) in
    let a : AreMarks b m parts = subst (AreMarks b m) (names_of_types (with_name (with_name s (OfText (shorty p))) (OfDesc p.ret)) p.params) marks in
    record {
      framed = a.framed;
      closed = closed-protos parts a.closed k (proto_there parts k (IsPart-right s (parts_of_proto k)));
      rise = rising_join s (proto_closure k) up;
      strings = a.strings;
      types = a.types;
      protos = rw is (marks_more (size_of b 2) (ProtoStands b) proto_key s.protos m.columns.protos i p (λ w x. proto_one b a.framed i w p x st) st.row st a.protos);
      fields = a.fields;
      methods = a.methods;
      lists = a.lists;
    }

-- ---- a list

-- one more offset
abbrev HasMore : List ℕ → List ℕ → ℕ → Type 0
HasMore offsets more off = (other : ℕ) → list_any (nat_eq other) more ≡ cond (nat_eq off other) true (list_any (nat_eq other) offsets)

kept_cases : (offsets more : List ℕ) (off other : ℕ) → HasMore offsets more off → IsOneOf more other → IsOneOf offsets other ⊎ (other ≡ off)
kept_cases offsets more off other is h = by (nat_eq off other) refl (sym (is other) ∙ h)
  where
    by : (t : Bool) → nat_eq off other ≡ t → cond t true (list_any (nat_eq other) offsets) ≡ true → IsOneOf offsets other ⊎ (other ≡ off)
    by true e h = inr (sym (eqb-true off other e))
    by false e h = inl h

-- the types of a list are held once they are marked
pub all_held : (s : Five) (ts : List Units) → AllByRecursion (Holds s) (map OfDesc ts) → AllByRecursion (λ t. Holds s (OfDesc t)) ts
all_held s [] all = tt
all_held s (t ∷ ts) all = (all.0, all_held s ts all.1)

pub list_marked : (b : List ℕ) (m : Marked) (s : Five) (off : ℕ) (ts : List Units) (more : List ℕ) → HasMore m.lists more off → TypesAt b off ts → AreMarks b m (with_names s (map OfDesc ts)) → AreMarks b (record m { lists = more }) (with_names s (map OfDesc ts))
list_marked b m s off ts more is at a = record {
  framed = a.framed;
  closed = a.closed;
  rise = a.rise;
  strings = a.strings;
  types = a.types;
  protos = a.protos;
  fields = a.fields;
  methods = a.methods;
  lists = λ other us one there. elim (kept_cases m.lists more off other is one) [
    | inl old ↦ a.lists other us old there
    | inr e ↦
        let same : ts ≡ us = types_one b off ts us a.framed at (subst (λ (k : ℕ). TypesAt b k us) e there) in
        subst (λ (zs : List Units). AllByRecursion (λ t. Holds (with_names s (map OfDesc ts)) (OfDesc t)) zs) same (all_held (with_names s (map OfDesc ts)) ts (with_names-holds s (map OfDesc ts)))
  ];
}

-- where no list came
pub same_lists : (b : List ℕ) (m : Marked) (s : Five) (lists : List ℕ) → lists ≡ m.lists → AreMarks b m s → AreMarks b (record m { lists = lists }) s
same_lists b m s lists is a = subst (λ (xs : List ℕ). AreMarks b (record m { lists = xs }) s) (sym is) a

-- ---- nothing

closed_nothing : IsClosed nothing
unfolding needed
closed_nothing = (needed_is_least []).1.closed

pub none_marked : (b : List ℕ) (m : Marked) → IsFramed b → MarksOf (size_of b 0) (StringStands b) text_key [] m.columns.strings → MarksOf (size_of b 1) (TypeStands b) text_key [] m.columns.types → MarksOf (size_of b 2) (ProtoStands b)
    proto_key [] m.columns.protos → MarksOf (size_of b 3) (FieldStands b) field_ref_key [] m.columns.fields → MarksOf (size_of b 4) (MethodStands b) method_ref_key [] m.columns.methods → m.lists ≡ [] → AreMarks b m nothing
none_marked b m framed strings types protos fields methods empty = record {
  framed = framed;
  closed = closed_nothing;
  rise = record { strings = rising-none; types = rising-none; protos = rising-none; fields = rising-none; methods = rising-none };
  strings = strings;
  types = types;
  protos = protos;
  fields = fields;
  methods = methods;
  lists = λ off ts one at. absurd (true≢false (sym (subst (λ (xs : List ℕ). IsOneOf xs off) empty one)));
}

-- ---- names one after the other

pub adds_none : (b : List ℕ) (m : Marked) → AddsNames b m m []
adds_none b m s a = a

pub adds_more : (b : List ℕ) (old mid new : Marked) (xs ys : List Name) → AddsNames b old mid xs → AddsNames b mid new ys → AddsNames b old new (xs ++ ys)
adds_more b old mid new xs ys f g s a = subst (AreMarks b new) (sym (names_append s xs ys)) (g (with_names s xs) (f s a))

-- the names of the items before a place, and those of the next
pub names_next : {A : Type 0} (f : A → List Name) (xs : List A) (i : ℕ) (d : A) → i < length xs → flat_map f (take i xs) ++ f (get_or xs i d) ≡ flat_map f (take (i + 1) xs)
names_next f xs i d lt =
    ap (λ l. flat_map f (take i xs) ++ l) (sym (append-nil (f (get_or xs i d)))) ∙ sym (flat_map-append f (take i xs) (get_or xs i d ∷ [])) ∙ ap (flat_map f) (sym (take_more xs i d lt))

pub adds_next : {A : Type 0} (f : A → List Name) (b : List ℕ) (old mid new : Marked) (xs : List A) (i : ℕ) (d : A) → i < length xs → AddsNames b old mid (flat_map f (take i xs)) → AddsNames b mid new (f (get_or xs i d)) → AddsNames b old new (flat_map f (take (i + 1) xs))
adds_next f b old mid new xs i d lt m n =
    subst (λ (ns : List Name). AddsNames b old new ns) (names_next f xs i d lt) (adds_more b old mid new (flat_map f (take i xs)) (f (get_or xs i d)) m n)

pub has_marks_after : (b : List ℕ) (old new : Marked) (names : List Name) → HasMarks b old → AddsNames b old new names → HasMarks b new
has_marks_after b old new names h f = (with_names h.0 names, f h.0 h.1)

-- ---- the bytes of a list's indices

pub zip_at : {A B : Type 0} (R : A → B → Type 0) (xs : List A) (ys : List B) (i : ℕ) (c : A) (d : B) → i < length xs → AllZip R xs ys → R (get_or xs i c) (get_or ys i d)
zip_at R [] ys i c d lt z = absurd (omega (arith, lt))
zip_at R (x ∷ xs) [] i c d lt z = absurd z
zip_at R (x ∷ xs) (y ∷ ys) zero c d lt z = z.0
zip_at R (x ∷ xs) (y ∷ ys) (suc i) c d lt z = zip_at R xs ys i c d (omega (arith, lt)) z.1

-- the indices of a list stand for its types
pub types_stand : (b : List ℕ) (off : ℕ) (indexes : List ℕ) (ts : List Units) → IsFramed b → AtOrNone SpellsIndexes b 0x1001 4 off indexes → TypesAt b off ts → AllZip (TypeStands b) indexes ts
types_stand b off indexes ts framed at types =
    let x = indexes_of b off ts types in
    subst (λ (xs : List ℕ). AllZip (TypeStands b) xs ts) (list_or_none_one b framed 0x1001 4 off x.indexes indexes x.spelled at) x.named

-- index j of a list stands for its type j
pub type_at : (b : List ℕ) (off : ℕ) (indexes : List ℕ) (ts : List Units) (j : ℕ) → IsFramed b → AtOrNone SpellsIndexes b 0x1001 4 off indexes → TypesAt b off ts → j < length indexes → TypeStands b (get_or indexes j 0) (get_or ts j []) × (j < length ts)
type_at b off indexes ts j framed at types lt =
    let z = types_stand b off indexes ts framed at types in
    let n = zip_length (TypeStands b) indexes ts z in
    (zip_at (TypeStands b) indexes ts j 0 [] lt z, omega (arith, n, lt))

-- there are as many
pub types_count : (b : List ℕ) (off : ℕ) (indexes : List ℕ) (ts : List Units) → IsFramed b → AtOrNone SpellsIndexes b 0x1001 4 off indexes → TypesAt b off ts → length ts ≡ length indexes
types_count b off indexes ts framed at types = sym (zip_length (TypeStands b) indexes ts (types_stand b off indexes ts framed at types))

-- one type more of a list
pub next_type : (b : List ℕ) (old mid new : Marked) (ts : List Units) (j : ℕ) → j < length ts → AddsNames b old mid (map OfDesc (take j ts)) → AddsNames b mid new (OfDesc (get_or ts j []) ∷ []) → AddsNames b old new (map OfDesc (take (j + 1) ts))
next_type b old mid new ts j lt f g =
    subst (λ (ns : List Name). AddsNames b old new ns) (sym (ap (map OfDesc) (take_more ts j [] lt) ∙ map-append OfDesc (take j ts) (get_or ts j [] ∷ [])))
    (adds_more b old mid new (map OfDesc (take j ts)) (OfDesc (get_or ts j []) ∷ []) f g)

-- ---- the row of a name, by the kind

module _ (b : List ℕ) (table : IndexKind) (i : ℕ) where
  pub string_row : (which : Name) → table ≡ kind.String → IsRowOf b table i which → (t : Units) × (which ≡ OfText t) × StringStands b i t
  string_row (OfText t) e r = (t, refl, r.stands)
  string_row _ e r = let h = r.kind ∙ e in absurd cc

  pub type_row : (which : Name) → table ≡ kind.Type → IsRowOf b table i which → (t : Units) × (which ≡ OfDesc t) × TypeStands b i t
  type_row (OfDesc t) e r = (t, refl, r.stands)
  type_row _ e r = let h = r.kind ∙ e in absurd cc

  pub field_row : (which : Name) → table ≡ kind.Field → IsRowOf b table i which → (f : FieldRef) × (which ≡ OfField f) × FieldStands b i f
  field_row (OfField f) e r = (f, refl, r.stands)
  field_row _ e r = let h = r.kind ∙ e in absurd cc

  pub method_row : (which : Name) → table ≡ kind.Method → IsRowOf b table i which → (m : MethodRef) × (which ≡ OfMethod m) × MethodStands b i m
  method_row (OfMethod m) e r = (m, refl, r.stands)
  method_row _ e r = let h = r.kind ∙ e in absurd cc

-- the same name
pub adds_same : (b : List ℕ) (old new : Marked) (x y : Name) → x ≡ y → AddsNames b old new (y ∷ []) → AddsNames b old new (x ∷ [])
adds_same b old new x y e f = subst (λ (n : Name). AddsNames b old new (n ∷ [])) (sym e) f
