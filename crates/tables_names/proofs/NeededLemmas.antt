-- The needed names are the least closed sets, and the only ones.
use Rattle.std.proofs.Common.{◌≡◌, ℕ, zero, suc, ◌+◌, ◌<◌, true, true≢false, List, [], ◌∷◌, ◌++◌, arith, drop, get_or, length, map, refl, sym, take, ap, ◌∙◌, inl, inr}
use Rattle.std.proofs.lemmas.List.{map-append, map_more}
use Rattle.std.specs.Ordering.{eq_by_cmp}
use Rattle.std.specs.List.{AllByRecursion}
use Rattle.std.specs.Cmp.{Equal-is, both_ways}
use Rattle.program_types.specs.Content.{Name, OfText, OfDesc, OfField, OfMethod}
use Rattle.program_types.specs.Key.{Key, key_cmp, text_key, field_ref_key, method_ref_key, proto_key}
use Rattle.program_types.specs.inner.KeyLaws.{key_cmp-total, key_cmp-same}
use Rattle.tables_names.specs.Rank.{Rising, is_member, IsSubset}
use Rattle.tables_names.specs.Closure.{Five, nothing, shorty_of_texts, join, with_name, with_names, closure_of, IsPart, IsClosed, AreRising, string_closure, type_closure, proto_closure, field_closure, method_closure}
use Rattle.tables_names.specs.inner.Closure.{Holds}
use Rattle.program_types.specs.Mentions.{mentions}
use Rattle.tables_names.specs.Needed.{needed}
use Rattle.tables_names.specs.inner.Needed.{NeededIsLeast, LeastIsNeeded}
use Rattle.tables_names.proofs.SubsetLemmas as sub
use Rattle.tables_names.proofs.RisingLemmas.{same_rising}
use Rattle.tables_names.proofs.UnionLemmas.{rising-add_all, rising-none}
use Rattle.tables_names.proofs.FiveLemmas.{IsPart-refl, IsPart-trans, IsPart-left, IsPart-right, IsPart-join, join_grows, proto_in_method}

-- the member of one key is that key
one_member : (x k : Key) → is_member (x ∷ []) k ≡ true → k ≡ x
one_member x k h =
    elim (sub.or_cases (eq_by_cmp key_cmp k x) _ h) [ inl e ↦ key_cmp-same k x ((Equal-is (key_cmp k x)).0 e) | inr m ↦ absurd (true≢false (sym m)) ]

no_member : {G : Type 0} (k : Key) → is_member [] k ≡ true → G
no_member k h = absurd (true≢false (sym h))

-- types have their parts where their texts are strings
types_have_parts : (s : Five) → IsSubset s.types s.strings → (k : Key) → is_member s.types k ≡ true → IsPart (type_closure k) s
types_have_parts s texts k h =
    record {
      strings = sub.IsSubset-one k s.strings (texts.each k h);
      types = sub.IsSubset-one k s.types h;
      protos = sub.IsSubset-nil s.protos;
      fields = sub.IsSubset-nil s.fields;
      methods = sub.IsSubset-nil s.methods;
    }

-- ---- each closure is closed

closed_string : (k : Key) → IsClosed (string_closure k)
closed_string k =
    record { of_types = λ j h. no_member j h; of_protos = λ j h. no_member j h; of_fields = λ j h. no_member j h; of_methods = λ j h. no_member j h }

closed_type : (k : Key) → IsClosed (type_closure k)
closed_type k =
    record { of_types = types_have_parts (type_closure k) (sub.IsSubset-refl (k ∷ [])); of_protos = λ j h. no_member j h; of_fields = λ j h. no_member j h; of_methods = λ j h. no_member j h }

texts_of_proto : (k : Key) → IsSubset (proto_closure k).types (proto_closure k).strings
texts_of_proto k = sub.IsSubset-tail (text_key (shorty_of_texts k)) (map text_key k) (map text_key k) (sub.IsSubset-refl (map text_key k))

-- a front of two lists
subset_front : (x : Key) (ks js : List Key) → IsSubset ks js → IsSubset (x ∷ ks) (x ∷ js)
subset_front x ks js f = sub.IsSubset-cons x ks (x ∷ js) (sub.member_here x js) (sub.IsSubset-tail x ks js f)

closed_field : (class name ty : List _) → IsClosed (field_closure (class ∷ name ∷ ty ∷ []))
closed_field class name ty =
    let k = class ∷ name ∷ ty ∷ [] in
    let tys = text_key ty ∷ [] in
    record {
      of_types = types_have_parts (field_closure k) (subset_front (text_key class) tys (text_key name ∷ tys) (sub.IsSubset-tail (text_key name) tys tys (sub.IsSubset-refl tys)));
      of_protos = λ j h. no_member j h;
      of_fields = λ j h. rw (one_member k j h) (IsPart-refl (field_closure k));
      of_methods = λ j h. no_member j h;
    }

closed_method : (class name : List _) (proto : Key) → IsClosed (method_closure (class ∷ name ∷ proto))
closed_method class name proto =
    let k = class ∷ name ∷ proto in
    let p = proto_closure proto in
    record {
      of_types = types_have_parts (method_closure k) (subset_front (text_key class) p.types (text_key name ∷ p.strings) (sub.IsSubset-tail (text_key name) p.types p.strings (texts_of_proto proto)));
      of_protos = λ j h. rw (one_member proto j h) (proto_in_method class name proto);
      of_fields = λ j h. no_member j h;
      of_methods = λ j h. rw (one_member k j h) (IsPart-refl (method_closure k));
    }

closed_name : (name : Name) → IsClosed (closure_of name)
closed_name (OfText s) = closed_string (text_key s)
closed_name (OfDesc t) = closed_type (text_key t)
closed_name (OfField f) = closed_field f.class f.name f.ty
closed_name (OfMethod m) = closed_method m.class m.name (proto_key m.proto)

-- ---- so are unions

pub IsClosed-join : (s t : Five) → IsClosed s → IsClosed t → IsClosed (join s t)
IsClosed-join s t f g =
    let left = IsPart-left s t in
    let right = IsPart-right s t in
    record {
      of_types = λ k h. elim (sub.added_cases s.types t.types k h) [ inl a ↦ IsPart-trans (type_closure k) s (join s t) (f.of_types k a) left | inr b ↦ IsPart-trans (type_closure k) t (join s t) (g.of_types k b) right ];
      of_protos = λ k h. elim (sub.added_cases s.protos t.protos k h) [ inl a ↦ IsPart-trans (proto_closure k) s (join s t) (f.of_protos k a) left | inr b ↦ IsPart-trans (proto_closure k) t (join s t) (g.of_protos k b) right ];
      of_fields = λ k h. elim (sub.added_cases s.fields t.fields k h) [ inl a ↦ IsPart-trans (field_closure k) s (join s t) (f.of_fields k a) left | inr b ↦ IsPart-trans (field_closure k) t (join s t) (g.of_fields k b) right ];
      of_methods = λ k h. elim (sub.added_cases s.methods t.methods k h) [ inl a ↦ IsPart-trans (method_closure k) s (join s t) (f.of_methods k a) left | inr b ↦ IsPart-trans (method_closure k) t (join s t) (g.of_methods k b) right ];
    }

-- ---- one more name

pub closed_with : (s : Five) (name : Name) → IsClosed s → IsClosed (with_name s name)
unfolding with_name
closed_with s name f = IsClosed-join s (closure_of name) f (closed_name name)

pub with_name-grows : (s : Five) (name : Name) → IsPart s (with_name s name)
unfolding with_name
with_name-grows s name = IsPart-left s (closure_of name)

pub holds_part : (s t : Five) (name : Name) → IsPart s t → Holds s name → Holds t name
holds_part s t (OfText x) p h = p.strings.each (text_key x) h
holds_part s t (OfDesc x) p h = p.types.each (text_key x) h
holds_part s t (OfField f) p h = p.fields.each (field_ref_key f) h
holds_part s t (OfMethod m) p h = p.methods.each (method_ref_key m) h

holds_itself : (name : Name) → Holds (closure_of name) name
holds_itself (OfText x) = sub.member_here (text_key x) []
holds_itself (OfDesc x) = sub.member_here (text_key x) []
holds_itself (OfField f) = sub.member_here (field_ref_key f) []
holds_itself (OfMethod m) = sub.member_here (method_ref_key m) []

pub holds_with : (s : Five) (name : Name) → Holds (with_name s name) name
unfolding with_name
holds_with s name = holds_part (closure_of name) (join s (closure_of name)) name (IsPart-right s (closure_of name)) (holds_itself name)

-- a closed set that holds a name holds its closure
pub closure_part : (t : Five) (name : Name) → IsClosed t → Holds t name → IsPart (closure_of name) t
closure_part t (OfText x) f h =
    record { strings = sub.IsSubset-one (text_key x) t.strings h; types = sub.IsSubset-nil t.types; protos = sub.IsSubset-nil t.protos; fields = sub.IsSubset-nil t.fields; methods = sub.IsSubset-nil t.methods }
closure_part t (OfDesc x) f h = f.of_types (text_key x) h
closure_part t (OfField k) f h = f.of_fields (field_ref_key k) h
closure_part t (OfMethod m) f h = f.of_methods (method_ref_key m) h

least_with : (s t : Five) (name : Name) → IsPart s t → IsClosed t → Holds t name → IsPart (with_name s name) t
unfolding with_name
least_with s t name p f h = IsPart-join s (closure_of name) t p (closure_part t name f h)

pub rising_join : (s t : Five) → AreRising s → AreRising (join s t)
rising_join s t up =
    record {
      strings = rising-add_all s.strings t.strings up.strings;
      types = rising-add_all s.types t.types up.types;
      protos = rising-add_all s.protos t.protos up.protos;
      fields = rising-add_all s.fields t.fields up.fields;
      methods = rising-add_all s.methods t.methods up.methods;
    }

rising_with : (s : Five) (name : Name) → AreRising s → AreRising (with_name s name)
unfolding with_name
rising_with s name up = rising_join s (closure_of name) up

-- ---- many names

pub with_names-grows : (s : Five) (names : List Name) → IsPart s (with_names s names)
with_names-grows s [] = IsPart-refl s
with_names-grows s (n ∷ names) = IsPart-trans s (with_name s n) (with_names (with_name s n) names) (with_name-grows s n) (with_names-grows (with_name s n) names)

pub with_names-closed : (s : Five) (names : List Name) → IsClosed s → IsClosed (with_names s names)
with_names-closed s [] f = f
with_names-closed s (n ∷ names) f = with_names-closed (with_name s n) names (closed_with s n f)

pub with_names-holds : (s : Five) (names : List Name) → AllByRecursion (Holds (with_names s names)) names
with_names-holds s [] = tt
with_names-holds s (n ∷ names) =
    let next = with_name s n in
    (holds_part next (with_names next names) n (with_names-grows next names) (holds_with s n), with_names-holds next names)

pub with_names-least : (s t : Five) (names : List Name) → IsPart s t → IsClosed t → AllByRecursion (Holds t) names → IsPart (with_names s names) t
with_names-least s t [] p f h = p
with_names-least s t (n ∷ names) p f h = with_names-least (with_name s n) t names (least_with s t n p f h.0) f h.1

pub with_names-rising : (s : Five) (names : List Name) → AreRising s → AreRising (with_names s names)
with_names-rising s [] up = up
with_names-rising s (n ∷ names) up = with_names-rising (with_name s n) names (rising_with s n up)

-- ---- from nothing

closed_nothing : IsClosed nothing
closed_nothing =
    record { of_types = λ k h. no_member k h; of_protos = λ k h. no_member k h; of_fields = λ k h. no_member k h; of_methods = λ k h. no_member k h }

rising_nothing : AreRising nothing
rising_nothing = record { strings = rising-none; types = rising-none; protos = rising-none; fields = rising-none; methods = rising-none }

pub nothing_part : (t : Five) → IsPart nothing t
nothing_part t =
    record { strings = sub.IsSubset-nil t.strings; types = sub.IsSubset-nil t.types; protos = sub.IsSubset-nil t.protos; fields = sub.IsSubset-nil t.fields; methods = sub.IsSubset-nil t.methods }

pub needed_is_least : NeededIsLeast
unfolding needed
needed_is_least p =
    let names = mentions p in (
      with_names-rising nothing names rising_nothing,
      record {
        closed = with_names-closed nothing names closed_nothing;
        holds = with_names-holds nothing names;
        least = λ t f h. with_names-least nothing t names (nothing_part t) f h;
      },
    )

-- ---- and no others

-- rising sets that are parts of one another are the same
same_set : (ks js : List Key) → Rising ks → Rising js → IsSubset ks js → IsSubset js ks → ks ≡ js
same_set ks js up high f g =
    same_rising key_cmp-total key_cmp-same ks js up high (λ q. both_ways (is_member ks q) (is_member js q) (f.each q) (g.each q))

pub same_parts : (s t : Five) → AreRising s → AreRising t → IsPart s t → IsPart t s → s ≡ t
same_parts s t up high f g =
    λ i. record {
      strings = same_set s.strings t.strings up.strings high.strings f.strings g.strings i;
      types = same_set s.types t.types up.types high.types f.types g.types i;
      protos = same_set s.protos t.protos up.protos high.protos f.protos g.protos i;
      fields = same_set s.fields t.fields up.fields high.fields f.fields g.fields i;
      methods = same_set s.methods t.methods up.methods high.methods f.methods g.methods i;
    }

pub least_is_needed : LeastIsNeeded
least_is_needed p s up is =
    let own = needed_is_least p in
    same_parts s (needed p) up own.0 (is.least (needed p) own.1.closed own.1.holds) (own.1.least s is.closed is.holds)

-- ---- in any order

-- Names that are the same but for their order and repetitions add the same to a set with all parts.
pub same_names : (s : Five) (xs ys : List Name) → IsClosed s → AreRising s → ((P : Name → Type 0) → AllByRecursion P xs → AllByRecursion P ys) → ((P : Name → Type 0) → AllByRecursion P ys → AllByRecursion P xs) → with_names s xs ≡ with_names s ys
same_names s xs ys closed up there back =
    let left = with_names s xs in
    let right = with_names s ys in
    same_parts left right (with_names-rising s xs up) (with_names-rising s ys up)
    (with_names-least s right xs (with_names-grows s ys) (with_names-closed s ys closed) (back (Holds right) (with_names-holds s ys)))
    (with_names-least s left ys (with_names-grows s xs) (with_names-closed s xs closed) (there (Holds left) (with_names-holds s xs)))

-- ---- one after the other

pub names_append : (s : Five) (xs ys : List Name) → with_names s (xs ++ ys) ≡ with_names (with_names s xs) ys
names_append s [] ys = refl
names_append s (x ∷ xs) ys = names_append (with_name s x) xs ys

-- what is part of the next adds nothing before it
pub absorbed : (s t u : Five) → AreRising s → IsPart t u → join (join s t) u ≡ join s u
absorbed s t u up part =
    let left = join s t in
    same_parts (join left u) (join s u) (rising_join left u (rising_join s t up)) (rising_join s u up)
    (IsPart-join left u (join s u) (join_grows s t u part) (IsPart-right s u))
    (IsPart-join s u (join left u) (IsPart-trans s left (join left u) (IsPart-left s t) (IsPart-left left u)) (IsPart-right left u))

-- ---- the members of a class

module _ {A B : Type 0} (f : B → Name) (g : A → B) where
  pub members_split : (xs : List A) (i : ℕ) (d : A) → i < length xs → map f (map g xs) ≡ map f (map g (take i xs)) ++ f (g (get_or xs i d)) ∷ map f (map g (drop (suc i) xs))
  members_split [] i d lt = absurd (omega arith)
  members_split (x ∷ xs) zero d lt = refl
  members_split (x ∷ xs) (suc i) d lt = ap (λ l. f (g x) ∷ l) (members_split xs i d (omega arith))

  pub members_more : (xs : List A) (i : ℕ) (d : A) → i < length xs → map f (map g (take (i + 1) xs)) ≡ map f (map g (take i xs)) ++ f (g (get_or xs i d)) ∷ []
  members_more xs i d lt = ap (map f) (map_more g xs i d lt) ∙ map-append f (map g (take i xs)) (g (get_or xs i d) ∷ [])

  pub member_kept : (P : Name → Type 0) (xs : List A) (i : ℕ) (d : A) → i < length xs → AllByRecursion P (map f (map g xs)) → P (f (g (get_or xs i d)))
  member_kept P [] i d lt all = absurd (omega arith)
  member_kept P (x ∷ xs) zero d lt all = all.0
  member_kept P (x ∷ xs) (suc i) d lt all = member_kept P xs i d (omega arith) all.1
