-- Five sets together: parts, unions and closure.
use Rattle.std.proofs.Common.{◌<◌, zero, suc, length, take, drop, get_or, ap, arith, ◌≡◌, ℕ, true, List, [], ◌∷◌, ◌++◌, map, refl, ◌⊎◌, inl, inr, Result, Ok, Err, OnErr}
use Rattle.std.proofs.lemmas.List.{map-append}
use Rattle.program_types.specs.Key.{text_key, Key}
use Rattle.tables_names.specs.Closure.{shorty_of_texts, Five, nothing, AreRising, join, IsPart, AddsPart, IsClosed, type_closure, proto_parts, proto_closure, field_closure, method_closure}
use Rattle.tables_names.specs.Rank.{insert_key, is_member, IsSubset}
use Rattle.tables_names.proofs.SubsetLemmas as sub

pub IsPart-refl : (s : Five) → IsPart s s
IsPart-refl s =
    record { strings = sub.IsSubset-refl _; types = sub.IsSubset-refl _; protos = sub.IsSubset-refl _; fields = sub.IsSubset-refl _; methods = sub.IsSubset-refl _ }

pub IsPart-trans : (s t u : Five) → IsPart s t → IsPart t u → IsPart s u
IsPart-trans s t u f g =
    record { strings = sub.IsSubset-trans s.strings t.strings u.strings f.strings g.strings; types = sub.IsSubset-trans s.types t.types u.types f.types g.types; protos = sub.IsSubset-trans s.protos t.protos u.protos f.protos g.protos; fields = sub.IsSubset-trans s.fields t.fields u.fields f.fields g.fields; methods = sub.IsSubset-trans s.methods t.methods u.methods f.methods g.methods }

pub IsPart-left : (s t : Five) → IsPart s (join s t)
IsPart-left s t =
    record { strings = sub.IsSubset-add_left s.strings t.strings; types = sub.IsSubset-add_left s.types t.types; protos = sub.IsSubset-add_left s.protos t.protos; fields = sub.IsSubset-add_left s.fields t.fields; methods = sub.IsSubset-add_left s.methods t.methods }

pub IsPart-right : (s t : Five) → IsPart t (join s t)
IsPart-right s t =
    record { strings = sub.IsSubset-add_right s.strings t.strings; types = sub.IsSubset-add_right s.types t.types; protos = sub.IsSubset-add_right s.protos t.protos; fields = sub.IsSubset-add_right s.fields t.fields; methods = sub.IsSubset-add_right s.methods t.methods }

pub IsPart-join : (s t u : Five) → IsPart s u → IsPart t u → IsPart (join s t) u
IsPart-join s t u f g =
    record { strings = sub.IsSubset-add_all s.strings t.strings u.strings f.strings g.strings; types = sub.IsSubset-add_all s.types t.types u.types f.types g.types; protos = sub.IsSubset-add_all s.protos t.protos u.protos f.protos g.protos; fields = sub.IsSubset-add_all s.fields t.fields u.fields f.fields g.fields; methods = sub.IsSubset-add_all s.methods t.methods u.methods f.methods g.methods }

-- a larger addend gives a larger union
pub join_grows : (s t u : Five) → IsPart t u → IsPart (join s t) (join s u)
join_grows s t u f = IsPart-join s t (join s u) (IsPart-left s u) (IsPart-trans t u (join s u) f (IsPart-right s u))

-- what is closed stays so where each new name has its parts
module _ (s t : Five) (closed : IsClosed s) (grows : IsPart s t) where
  pub closed_more : ((k : Key) → is_member t.types k ≡ true → IsPart (type_closure k) t ⊎ (is_member s.types k ≡ true)) →
      ((k : Key) → is_member t.protos k ≡ true → IsPart (proto_closure k) t ⊎ (is_member s.protos k ≡ true)) →
      ((k : Key) → is_member t.fields k ≡ true → IsPart (field_closure k) t ⊎ (is_member s.fields k ≡ true)) →
      ((k : Key) → is_member t.methods k ≡ true → IsPart (method_closure k) t ⊎ (is_member s.methods k ≡ true)) → IsClosed t
  closed_more types protos fields methods =
      record {
        of_types = λ k h. elim (types k h) [ inl p ↦ p | inr m ↦ IsPart-trans (type_closure k) s t (closed.of_types k m) grows ];
        of_protos = λ k h. elim (protos k h) [ inl p ↦ p | inr m ↦ IsPart-trans (proto_closure k) s t (closed.of_protos k m) grows ];
        of_fields = λ k h. elim (fields k h) [ inl p ↦ p | inr m ↦ IsPart-trans (field_closure k) s t (closed.of_fields k m) grows ];
        of_methods = λ k h. elim (methods k h) [ inl p ↦ p | inr m ↦ IsPart-trans (method_closure k) s t (closed.of_methods k m) grows ];
      }

module _ (s : Five) (closed : IsClosed s) (x : Key) where
  -- one more string breaks nothing
  pub closed-strings : IsClosed (record s { strings = insert_key s.strings x })
  closed-strings =
      closed_more s (record s { strings = insert_key s.strings x }) closed (record { strings = sub.IsSubset-insert s.strings x; types = sub.IsSubset-refl _; protos = sub.IsSubset-refl _; fields = sub.IsSubset-refl _; methods = sub.IsSubset-refl _ }) (λ k h. inr h) (λ k h. inr h) (λ k h. inr h) (λ k h. inr h)

  -- nor does another name whose parts are there
  pub closed-types : IsPart (type_closure x) (record s { types = insert_key s.types x }) → IsClosed (record s { types = insert_key s.types x })
  closed-types p =
      closed_more s (record s { types = insert_key s.types x }) closed (record { strings = sub.IsSubset-refl _; types = sub.IsSubset-insert s.types x; protos = sub.IsSubset-refl _; fields = sub.IsSubset-refl _; methods = sub.IsSubset-refl _ }) (λ k h. elim (sub.inserted_cases s.types x k h) [ inl e ↦ inl (rw e p) | inr m ↦ inr m ]) (λ k h. inr h) (λ k h. inr h) (λ k h. inr h)

  pub closed-protos : IsPart (proto_closure x) (record s { protos = insert_key s.protos x }) → IsClosed (record s { protos = insert_key s.protos x })
  closed-protos p =
      closed_more s (record s { protos = insert_key s.protos x }) closed (record { strings = sub.IsSubset-refl _; types = sub.IsSubset-refl _; protos = sub.IsSubset-insert s.protos x; fields = sub.IsSubset-refl _; methods = sub.IsSubset-refl _ }) (λ k h. inr h) (λ k h. elim (sub.inserted_cases s.protos x k h) [ inl e ↦ inl (rw e p) | inr m ↦ inr m ]) (λ k h. inr h) (λ k h. inr h)

  pub closed-fields : IsPart (field_closure x) (record s { fields = insert_key s.fields x }) → IsClosed (record s { fields = insert_key s.fields x })
  closed-fields p =
      closed_more s (record s { fields = insert_key s.fields x }) closed (record { strings = sub.IsSubset-refl _; types = sub.IsSubset-refl _; protos = sub.IsSubset-refl _; fields = sub.IsSubset-insert s.fields x; methods = sub.IsSubset-refl _ }) (λ k h. inr h) (λ k h. inr h) (λ k h. elim (sub.inserted_cases s.fields x k h) [ inl e ↦ inl (rw e p) | inr m ↦ inr m ]) (λ k h. inr h)

  pub closed-methods : IsPart (method_closure x) (record s { methods = insert_key s.methods x }) → IsClosed (record s { methods = insert_key s.methods x })
  closed-methods p =
      closed_more s (record s { methods = insert_key s.methods x }) closed (record { strings = sub.IsSubset-refl _; types = sub.IsSubset-refl _; protos = sub.IsSubset-refl _; fields = sub.IsSubset-refl _; methods = sub.IsSubset-insert s.methods x }) (λ k h. inr h) (λ k h. inr h) (λ k h. inr h) (λ k h. elim (sub.inserted_cases s.methods x k h) [ inl e ↦ inl (rw e p) | inr m ↦ inr m ])

-- ---- what a refused addition leaves

pub refused : {T E : Type 0} (r : Result T E) {P : Type 0} → P → OnErr r P
refused (Ok x) p = tt
refused (Err e) p = p

pub unchanged : (s t : Five) → AddsPart s s (join s t)
unchanged s t = record { keeps = IsPart-refl s; adds = IsPart-left s t }

pub all_added : (s t : Five) → AddsPart s (join s t) (join s t)
all_added s t = record { keeps = IsPart-left s t; adds = IsPart-refl (join s t) }

-- a part of t was added, and then what an addition of u left, where t has both
pub more_added : (s a u t new : Five) → IsPart a t → IsPart u t → AddsPart (join s a) new (join (join s a) u) → AddsPart s new (join s t)
more_added s a u t new first second left =
    record {
      keeps = IsPart-trans s (join s a) new (IsPart-left s a) left.keeps;
      adds = IsPart-trans new (join (join s a) u) (join s t) left.adds (IsPart-join (join s a) u (join s t) (join_grows s a t first) (IsPart-trans u t (join s t) second (IsPart-right s t)));
    }

-- a part of what is held adds nothing
pub part_adds_nothing : (s t : Five) → AreRising s → IsPart t s → s ≡ join s t
part_adds_nothing s t up f =
    λ i. record { strings = sub.add_all-subset s.strings t.strings up.strings f.strings i; types = sub.add_all-subset s.types t.types up.types f.types i; protos = sub.add_all-subset s.protos t.protos up.protos f.protos i; fields = sub.add_all-subset s.fields t.fields up.fields f.fields i; methods = sub.add_all-subset s.methods t.methods up.methods f.methods i }

-- ---- types

abbrev pub type_parts : Key → Five
type_parts k = record (type_closure k) { types = [] }

-- ---- prototypes

abbrev pub parts_of_proto : Key → Five
parts_of_proto k = proto_parts (shorty_of_texts k) k

-- the shorty and some types of a proto
pub front_in_proto : (front more : List (List ℕ)) → IsPart (proto_parts (shorty_of_texts (front ++ more)) front) (parts_of_proto (front ++ more))
front_in_proto front more =
    let shorty = text_key (shorty_of_texts (front ++ more)) in
    let all = map text_key (front ++ more) in
    let alike : all ≡ map text_key front ++ map text_key more = map-append text_key front more in
    let texts : IsSubset (map text_key front) all = rw alike (sub.IsSubset-append (map text_key front) (map text_key more)) in
    record {
      strings = sub.IsSubset-cons shorty (map text_key front) (shorty ∷ all) (sub.member_here shorty all) (sub.IsSubset-tail shorty (map text_key front) all texts);
      types = texts;
      protos = sub.IsSubset-refl _;
      fields = sub.IsSubset-refl _;
      methods = sub.IsSubset-refl _;
    }

-- the text of one of its types
text_in_proto : (front : List (List ℕ)) (t : List ℕ) (rest : List (List ℕ)) → IsPart (type_parts (text_key t)) (parts_of_proto (front ++ t ∷ rest))
text_in_proto front t rest =
    let all = map text_key (front ++ t ∷ rest) in
    let here : is_member all (text_key t) ≡ true = rw map-append (sub.member_middle (map text_key front) (text_key t) (map text_key rest)) in
    record {
      strings = sub.IsSubset-tail (text_key (shorty_of_texts (front ++ t ∷ rest))) (text_key t ∷ []) all (sub.IsSubset-one (text_key t) all here);
      types = sub.IsSubset-nil _;
      protos = sub.IsSubset-refl _;
      fields = sub.IsSubset-refl _;
      methods = sub.IsSubset-refl _;
    }

-- the shorty and the types in front were added, and then what a refusal of the next type left
pub next_type : (s l new : Five) (k front : List (List ℕ)) (t : List ℕ) (rest : List (List ℕ)) → k ≡ front ++ t ∷ rest → l ≡ join s (proto_parts (shorty_of_texts k) front) → AddsPart l new (join l (type_parts (text_key t))) → AddsPart s new (join s (parts_of_proto k))
next_type s l new k front t rest split is left =
    rw split
    (more_added s (proto_parts (shorty_of_texts (front ++ t ∷ rest)) front) (type_parts (text_key t)) (parts_of_proto (front ++ t ∷ rest)) new (front_in_proto front (t ∷ rest)) (text_in_proto front t rest) (rw (is, split) at left))

pub parts_in_proto : (k : Key) → IsPart (parts_of_proto k) (proto_closure k)
parts_in_proto k =
    record { strings = sub.IsSubset-refl (proto_closure k).strings; types = sub.IsSubset-refl _; protos = sub.IsSubset-nil _; fields = sub.IsSubset-refl _; methods = sub.IsSubset-refl _ }

pub proto_there : (l : Five) (k : Key) → IsPart (parts_of_proto k) l → IsPart (proto_closure k) (record l { protos = insert_key l.protos k })
proto_there l k p =
    record { strings = p.strings; types = p.types; protos = sub.IsSubset-one k (insert_key l.protos k) (sub.member_inserted l.protos k); fields = sub.IsSubset-nil _; methods = sub.IsSubset-nil _ }

-- a list at an index
pub split_at : {A B : Type 0} (f : A → B) (xs : List A) (i : ℕ) (d : A) → i < length xs → map f xs ≡ map f (take i xs) ++ f (get_or xs i d) ∷ map f (drop (suc i) xs)
split_at f [] i d lt = absurd (omega arith)
split_at f (x ∷ xs) zero d lt = refl
split_at f (x ∷ xs) (suc i) d lt = ap (λ l. f x ∷ l) (split_at f xs i d (omega arith))

-- ---- methods and fields

-- a refusal of a part is one of the whole
pub wider : (s u t new : Five) → IsPart u t → AddsPart s new (join s u) → AddsPart s new (join s t)
wider s u t new f left = record { keeps = left.keeps; adds = IsPart-trans new (join s u) (join s t) left.adds (join_grows s u t f) }

module _ (class name : List ℕ) where
  -- the class and the name
  abbrev pub member_front : Five
  member_front = record nothing { strings = text_key class ∷ text_key name ∷ []; types = text_key class ∷ [] }

  pub class_in_front : IsPart (type_closure (text_key class)) member_front
  class_in_front =
      record { strings = sub.IsSubset-append (text_key class ∷ []) (text_key name ∷ []); types = sub.IsSubset-refl _; protos = sub.IsSubset-refl _; fields = sub.IsSubset-refl _; methods = sub.IsSubset-refl _ }

  pub class_text_in_front : IsPart (type_parts (text_key class)) member_front
  class_text_in_front =
      record { strings = sub.IsSubset-append (text_key class ∷ []) (text_key name ∷ []); types = sub.IsSubset-nil _; protos = sub.IsSubset-refl _; fields = sub.IsSubset-refl _; methods = sub.IsSubset-refl _ }

  module _ (proto : Key) where
    abbrev k : Key
    k = class ∷ name ∷ proto

    -- all but the method itself
    abbrev pub method_parts : Five
    method_parts = record (method_closure k) { methods = [] }

    pub front_in_method : IsPart member_front method_parts
    front_in_method =
        record {
          strings = sub.IsSubset-append (text_key class ∷ text_key name ∷ []) (proto_closure proto).strings;
          types = sub.IsSubset-append (text_key class ∷ []) (proto_closure proto).types;
          protos = sub.IsSubset-nil _;
          fields = sub.IsSubset-refl _;
          methods = sub.IsSubset-refl _;
        }

    proto_in_parts : IsPart (proto_closure proto) method_parts
    proto_in_parts =
        let strings = (proto_closure proto).strings in
        let types = (proto_closure proto).types in
        record {
          strings = sub.IsSubset-tail (text_key class) strings (text_key name ∷ strings) (sub.IsSubset-tail (text_key name) strings strings (sub.IsSubset-refl _));
          types = sub.IsSubset-tail (text_key class) types types (sub.IsSubset-refl _);
          protos = sub.IsSubset-refl _;
          fields = sub.IsSubset-refl _;
          methods = sub.IsSubset-refl _;
        }

    pub proto_parts_in_method : IsPart (parts_of_proto proto) method_parts
    proto_parts_in_method = IsPart-trans (parts_of_proto proto) (proto_closure proto) method_parts (parts_in_proto proto) proto_in_parts

    pub parts_in_method : IsPart method_parts (method_closure k)
    parts_in_method =
        record { strings = sub.IsSubset-refl (method_closure k).strings; types = sub.IsSubset-refl (method_closure k).types; protos = sub.IsSubset-refl _; fields = sub.IsSubset-refl _; methods = sub.IsSubset-nil _ }

    pub proto_in_method : IsPart (proto_closure proto) (method_closure k)
    proto_in_method = IsPart-trans (proto_closure proto) method_parts (method_closure k) proto_in_parts parts_in_method

    pub method_there : (l : Five) → IsPart method_parts l → IsPart (method_closure k) (record l { methods = insert_key l.methods k })
    method_there l p =
        record { strings = p.strings; types = p.types; protos = p.protos; fields = sub.IsSubset-nil _; methods = sub.IsSubset-one k (insert_key l.methods k) (sub.member_inserted l.methods k) }

  module _ (ty : List ℕ) where
    abbrev f : Key
    f = class ∷ name ∷ ty ∷ []

    -- all but the field itself
    abbrev pub field_parts : Five
    field_parts = record (field_closure f) { fields = [] }

    pub front_in_field : IsPart member_front field_parts
    front_in_field =
        record { strings = sub.IsSubset-append (text_key class ∷ text_key name ∷ []) (text_key ty ∷ []); types = sub.IsSubset-append (text_key class ∷ []) (text_key ty ∷ []); protos = sub.IsSubset-refl _; fields = sub.IsSubset-refl _; methods = sub.IsSubset-refl _ }

    pub type_text_in_field : IsPart (type_parts (text_key ty)) field_parts
    type_text_in_field =
        record { strings = sub.IsSubset-tail _ _ _ (sub.IsSubset-tail _ _ _ (sub.IsSubset-refl _)); types = sub.IsSubset-nil _; protos = sub.IsSubset-refl _; fields = sub.IsSubset-refl _; methods = sub.IsSubset-refl _ }

    pub parts_in_field : IsPart field_parts (field_closure f)
    parts_in_field =
        record { strings = sub.IsSubset-refl (field_closure f).strings; types = sub.IsSubset-refl (field_closure f).types; protos = sub.IsSubset-refl _; fields = sub.IsSubset-nil _; methods = sub.IsSubset-refl _ }

    pub field_there : (l : Five) → IsPart field_parts l → IsPart (field_closure f) (record l { fields = insert_key l.fields f })
    field_there l p =
        record { strings = p.strings; types = p.types; protos = p.protos; fields = sub.IsSubset-one f (insert_key l.fields f) (sub.member_inserted l.fields f); methods = p.methods }
