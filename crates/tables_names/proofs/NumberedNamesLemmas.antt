-- What a `NumberedNames` holds before, within and after an addition.
use Rattle.std.proofs.Common.{◌≡◌, ℕ, ◌+◌, ◌<◌, length, get_or, take, true, false, List, [], ◌∷◌, ◌++◌, map, Option, Some, None, IfNone, refl, sym, ap, ◌∙◌, subst}
use Rattle.program_types.specs.Key.{Key, text_key}
use Rattle.tables_names.specs.Rank.{insert_key, is_member, add_all, IsAt}
use Rattle.std.proofs.lemmas.List.{map-append, map_more}
use Rattle.std.proofs.lemmas.List.Sums.{fold_push}
use Rattle.tables_names.specs.Closure.{Five, IsPart, join, proto_parts, type_closure, string_closure, proto_closure, field_closure, method_closure}
use Rattle.tables_names.specs.Numbers.{Order, set_of, sets}
use Rattle.tables_names.specs.inner.Numbers.{InOrderOfNeed}
use Rattle.tables_names.specs.declared.numbered.NumberedNames.TheInside.{Inside}
use Rattle.tables_names.proofs.PlaceLemmas.{member_at}
use Rattle.tables_names.proofs.FiveLemmas.{part_adds_nothing, parts_of_proto, field_parts, method_parts, IsPart-right}
use Rattle.tables_names.proofs.NumberLemmas.{sets_rise, member_of_set}

-- what the fields hold
abbrev pub order_of : Inside → Order
order_of n =
    record {
      names = record { strings = n.strings; types = n.types.names; protos = n.protos.names; fields = n.fields.names; methods = n.methods.names };
      types = n.types.parts.items;
      protos = n.protos.parts.items;
      fields = n.fields.parts.items;
      methods = n.methods.parts.items;
    }

-- a name that is not there is not there while its set stays
pub still_absent : (old new : List Key) (k : Key) → set_of new ≡ set_of old → is_member old k ≡ false → is_member new k ≡ false
still_absent old new k same absent = sym (member_of_set new k) ∙ ap (λ l. is_member l k) same ∙ member_of_set old k ∙ absent

-- what is there comes with its parts
module _ (o : Order) (is : InOrderOfNeed o) (k : Key) where
  held : (ks : List Key) → is_member ks k ≡ true → is_member (set_of ks) k ≡ true
  held ks h = member_of_set ks k ∙ h

  pub type_is_there : (n : ℕ) → IsAt o.names.types n k → sets o.names ≡ join (sets o.names) (type_closure k)
  type_is_there n at = part_adds_nothing (sets o.names) (type_closure k) (sets_rise o.names) (is.closed.of_types k (held o.names.types (member_at o.names.types n k at)))

  pub proto_is_there : (n : ℕ) → IsAt o.names.protos n k → sets o.names ≡ join (sets o.names) (proto_closure k)
  proto_is_there n at = part_adds_nothing (sets o.names) (proto_closure k) (sets_rise o.names) (is.closed.of_protos k (held o.names.protos (member_at o.names.protos n k at)))

  pub field_is_there : is_member o.names.fields k ≡ true → sets o.names ≡ join (sets o.names) (field_closure k)
  field_is_there h = part_adds_nothing (sets o.names) (field_closure k) (sets_rise o.names) (is.closed.of_fields k (held o.names.fields h))

  pub method_is_there : is_member o.names.methods k ≡ true → sets o.names ≡ join (sets o.names) (method_closure k)
  method_is_there h = part_adds_nothing (sets o.names) (method_closure k) (sets_rise o.names) (is.closed.of_methods k (held o.names.methods h))

-- a name after its parts is added with all of them
module _ (S : Five) (o : Order) where
  module _ (k : Key) where
    pub type_added : sets o.names ≡ join S (string_closure k) → record (sets o.names) { types = insert_key (set_of o.names.types) k } ≡ join S (type_closure k)
    type_added is = ap (λ (f : Five). record f { types = insert_key f.types k }) is

    pub type_with_parts : sets o.names ≡ join S (string_closure k) → IsPart (type_closure k) (record (sets o.names) { types = insert_key (set_of o.names.types) k })
    type_with_parts is = subst (IsPart (type_closure k)) (sym (type_added is)) (IsPart-right S (type_closure k))

    pub proto_added : sets o.names ≡ join S (parts_of_proto k) → record (sets o.names) { protos = insert_key (set_of o.names.protos) k } ≡ join S (proto_closure k)
    proto_added is = ap (λ (f : Five). record f { protos = insert_key f.protos k }) is

    pub proto_with_parts : sets o.names ≡ join S (parts_of_proto k) → IsPart (proto_closure k) (record (sets o.names) { protos = insert_key (set_of o.names.protos) k })
    proto_with_parts is = subst (IsPart (proto_closure k)) (sym (proto_added is)) (IsPart-right S (proto_closure k))

  module _ (class name : List ℕ) where
    pub field_added : (ty : List ℕ) → sets o.names ≡ join S (field_parts class name ty) → record (sets o.names) { fields = insert_key (set_of o.names.fields) (class ∷ name ∷ ty ∷ []) } ≡ join S (field_closure (class ∷ name ∷ ty ∷ []))
    field_added ty is = ap (λ (f : Five). record f { fields = insert_key f.fields (class ∷ name ∷ ty ∷ []) }) is

    pub field_with_parts : (ty : List ℕ) → sets o.names ≡ join S (field_parts class name ty) → IsPart (field_closure (class ∷ name ∷ ty ∷ [])) (record (sets o.names) { fields = insert_key (set_of o.names.fields) (class ∷ name ∷ ty ∷ []) })
    field_with_parts ty is =
        subst (IsPart (field_closure (class ∷ name ∷ ty ∷ []))) (sym (field_added ty is)) (IsPart-right S (field_closure (class ∷ name ∷ ty ∷ [])))

    pub method_added : (proto : Key) → sets o.names ≡ join S (method_parts class name proto) → record (sets o.names) { methods = insert_key (set_of o.names.methods) (class ∷ name ∷ proto) } ≡ join S (method_closure (class ∷ name ∷ proto))
    method_added proto is = ap (λ (f : Five). record f { methods = insert_key f.methods (class ∷ name ∷ proto) }) is

    pub method_with_parts : (proto : Key) → sets o.names ≡ join S (method_parts class name proto) → IsPart (method_closure (class ∷ name ∷ proto)) (record (sets o.names) { methods = insert_key (set_of o.names.methods) (class ∷ name ∷ proto) })
    method_with_parts proto is =
        subst (IsPart (method_closure (class ∷ name ∷ proto))) (sym (method_added proto is)) (IsPart-right S (method_closure (class ∷ name ∷ proto)))

-- where a look-up answers nothing
pub none_when : (r : Option ℕ) {P : Type 0} → IfNone r P → ((n : ℕ) → r ≡ Some n → ⊥) → P
none_when None h not = h
none_when (Some n) h not = absurd (not n refl)

-- one more type of a prototype
pub next_added : (S : Five) (letters : List ℕ) (front : List (List ℕ)) (t : List ℕ) → join (join S (proto_parts letters front)) (type_closure (text_key t)) ≡ join S (proto_parts letters (front ++ t ∷ []))
next_added S letters front t =
    let texts : map text_key front ++ text_key t ∷ [] ≡ map text_key (front ++ t ∷ []) = sym (map-append text_key front (t ∷ [])) in
    let strings = sym (fold_push (λ l q. insert_key l q) S.strings (text_key letters ∷ map text_key front) (text_key t)) ∙ ap (λ l. add_all S.strings (text_key letters ∷ l)) texts in
    let types = sym (fold_push (λ l q. insert_key l q) S.types (map text_key front) (text_key t)) ∙ ap (add_all S.types) texts in
    λ i. record { strings = strings i; types = types i; protos = S.protos; fields = S.fields; methods = S.methods }

-- the next parameter
pub param_added : {A : Type 0} (f : A → List ℕ) (S mid new : Five) (letters ret : List ℕ) (params : List A) (i : ℕ) (d : A) → i < length params → mid ≡ join S (proto_parts letters (ret ∷ map f (take i params))) → new ≡ join mid (type_closure (text_key (f (get_or params i d)))) → new ≡ join S (proto_parts letters (ret ∷ map f (take (i + 1) params)))
param_added f S mid new letters ret params i d lt so_far added =
    let t = f (get_or params i d) in
    added ∙ ap (λ s. join s (type_closure (text_key t))) so_far ∙ next_added S letters (ret ∷ map f (take i params)) t
    ∙ ap (λ l. join S (proto_parts letters (ret ∷ l))) (sym (map_more f params i d lt))
