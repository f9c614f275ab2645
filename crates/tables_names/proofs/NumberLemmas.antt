-- Names in the order of first need, and beside each the places of its parts.
use Rattle.std.proofs.Common.{◌≡◌, ℕ, zero, suc, ◌<◌, Bool, true, false, List, [], ◌∷◌, ◌++◌, length, get_or, refl, sym, ◌∙◌, arith, if◌then◌else◌, Some, slice_get, subst}
use Rattle.std.specs.List.{AllZip}
use Rattle.std.proofs.lemmas.List.Sums.{fold_push}
use Rattle.program_types.specs.Key.{Key, text_key}
use Rattle.program_types.specs.inner.KeyLaws.{key_cmp-total, key_cmp-same}
use Rattle.tables_names.specs.Rank.{insert_key, is_member, IsAt}
use Rattle.tables_names.specs.Closure.{Five, AreRising, IsPart, type_closure, proto_closure, field_closure, method_closure}
use Rattle.tables_names.specs.Numbers.{TypeAt, ProtoAt, FieldAt, MethodAt, Order, set_of, sets, with_last, Grows, AllGrow, RanksOf}
use Rattle.tables_names.specs.inner.Numbers.{InOrderOfNeed, FieldLeads, MethodLeads}
use Rattle.tables_names.specs.declared.parts.TypeParts.{TypeParts}
use Rattle.tables_names.specs.declared.parts.ProtoParts.{ProtoParts}
use Rattle.tables_names.specs.declared.parts.FieldParts.{FieldParts}
use Rattle.tables_names.specs.declared.parts.MethodParts.{MethodParts}
use Rattle.tables_names.proofs.RisingLemmas.{insert_key-member}
use Rattle.tables_names.proofs.UnionLemmas.{rising-add_all, is_member-add_all, rising-none}
use Rattle.tables_names.proofs.FiveLemmas.{closed-strings, closed-types, closed-protos, closed-fields, closed-methods}
use Rattle.dex_base.proofs.ListFacts.{slice_left}
use Rattle.dex_base.proofs.ListFacts.{zip_more, zip_weaker}

-- ---- lists

module _ {A B : Type 0} where
  pub zip_get : (R : A → B → Type 0) (xs : List A) (ys : List B) (i : ℕ) (x : A) (y : B) → AllZip R xs ys → slice_get xs i ≡ Some x → R x (get_or ys i y)
  zip_get R [] ys i x y all e = absurd (cc e)
  zip_get R (a ∷ xs) [] i x y all e = absurd all
  zip_get R (a ∷ xs) (b ∷ ys) zero x y all e = let same : a ≡ x = cc e in subst (λ (z : A). R z b) same all.0
  zip_get R (a ∷ xs) (b ∷ ys) (suc i) x y all e = zip_get R xs ys i x y all.1 e

  -- what holds of each pair holds of all
  pub zip_from : (R : A → B → Type 0) (xs : List A) (ys : List B) (y : B) → length xs ≡ length ys → ((i : ℕ) (x : A) → slice_get xs i ≡ Some x → R x (get_or ys i y)) → AllZip R xs ys
  zip_from R [] [] y same each = tt
  zip_from R [] (b ∷ ys) y same each = absurd (omega (arith, same))
  zip_from R (a ∷ xs) [] y same each = absurd (omega (arith, same))
  zip_from R (a ∷ xs) (b ∷ ys) y same each = (each zero a refl, zip_from R xs ys y (omega (arith, same)) (λ i x e. each (suc i) x e))

-- ---- lists of names as sets

pub set_pushed : (ks : List Key) (k : Key) → set_of (ks ++ k ∷ []) ≡ insert_key (set_of ks) k
set_pushed ks k = fold_push (λ l q. insert_key l q) [] ks k

pub member_of_set : (ks : List Key) (k : Key) → is_member (set_of ks) k ≡ is_member ks k
member_of_set ks k = is_member-add_all [] ks k

pub set-with_last : (ks : List Key) (k : Key) → set_of (with_last ks k) ≡ insert_key (set_of ks) k
set-with_last ks k = by (is_member ks k) refl
  where
    by : (b : Bool) → is_member ks k ≡ b → set_of (if b then ks else ks ++ k ∷ []) ≡ insert_key (set_of ks) k
    by true h = sym (insert_key-member key_cmp-total key_cmp-same (set_of ks) k (rising-add_all [] ks rising-none) (member_of_set ks k ∙ h))
    by false h = set_pushed ks k

pub sets_rise : (s : Five) → AreRising (sets s)
sets_rise s =
    record { strings = rising-add_all [] s.strings rising-none; types = rising-add_all [] s.types rising-none; protos = rising-add_all [] s.protos rising-none; fields = rising-add_all [] s.fields rising-none; methods = rising-add_all [] s.methods rising-none }

-- ---- numbers stay

pub Grows-refl : (ks : List Key) → Grows ks ks
Grows-refl ks = record { each = λ i k e. e }

pub Grows-pushed : (ks : List Key) (k : Key) → Grows ks (ks ++ k ∷ [])
Grows-pushed ks k = record { each = λ i q e. slice_left ks (k ∷ []) i q e }

pub Grows-trans : (ks js ls : List Key) → Grows ks js → Grows js ls → Grows ks ls
Grows-trans ks js ls f g = record { each = λ i k e. g.each i k (f.each i k e) }

pub Grows-with_last : (ks : List Key) (k : Key) → Grows ks (with_last ks k)
Grows-with_last ks k = by (is_member ks k)
  where
    by : (b : Bool) → Grows ks (if b then ks else ks ++ k ∷ [])
    by true = Grows-refl ks
    by false = Grows-pushed ks k

pub AllGrow-refl : (s : Five) → AllGrow s s
AllGrow-refl s = record { strings = Grows-refl s.strings; types = Grows-refl s.types; protos = Grows-refl s.protos; fields = Grows-refl s.fields; methods = Grows-refl s.methods }

pub AllGrow-trans : (s t u : Five) → AllGrow s t → AllGrow t u → AllGrow s u
AllGrow-trans s t u f g =
    record {
      strings = Grows-trans s.strings t.strings u.strings f.strings g.strings;
      types = Grows-trans s.types t.types u.types f.types g.types;
      protos = Grows-trans s.protos t.protos u.protos f.protos g.protos;
      fields = Grows-trans s.fields t.fields u.fields f.fields g.fields;
      methods = Grows-trans s.methods t.methods u.methods f.methods g.methods;
    }

-- ---- parts stay

types_stay : (strings new : List Key) → Grows strings new → (k : Key) (p : TypeParts) → TypeAt strings k p → TypeAt new k p
types_stay strings new f (text ∷ []) p at = f.each p.text (text_key text) at
types_stay strings new f _ p at = absurd at

protos_stay : (types new : List Key) → Grows types new → (k : Key) (p : ProtoParts) → ProtoAt types k p → ProtoAt new k p
protos_stay types new f [] p at = at
protos_stay types new f (ret ∷ params) p at = f.each p.ret (text_key ret) at

fields_stay : (types types' strings strings' : List Key) → Grows types types' → Grows strings strings' → (k : Key) (p : FieldParts) → FieldAt types strings k p → FieldAt types' strings' k p
fields_stay types types' strings strings' f g (class ∷ name ∷ ty ∷ []) p at =
    (f.each p.class (text_key class) at.0, g.each p.name (text_key name) at.1, f.each p.ty (text_key ty) at.2)
fields_stay types types' strings strings' f g _ p at = absurd at

methods_stay : (types types' strings strings' protos protos' : List Key) → Grows types types' → Grows strings strings' → Grows protos protos' → (k : Key) (p : MethodParts) → MethodAt types strings protos k p → MethodAt types' strings' protos' k p
methods_stay types types' strings strings' protos protos' f g h (class ∷ name ∷ ret ∷ params) p at =
    (f.each p.class (text_key class) at.0, g.each p.name (text_key name) at.1, h.each p.proto (ret ∷ params) at.2)
methods_stay types types' strings strings' protos protos' f g h _ p at = absurd at

module _ (o : Order) (is : InOrderOfNeed o) (k : Key) where
  abbrev s : Five
  s = o.names

  -- one more string
  pub numbered-strings : InOrderOfNeed (record o { names = record o.names { strings = with_last o.names.strings k } })
  numbered-strings =
      let strings = with_last s.strings k in
      let g = Grows-with_last s.strings k in
      let same = Grows-refl s.types in
      record {
        closed = rw set-with_last (closed-strings (sets s) is.closed k);
        parts = record {
          types = zip_weaker (TypeAt s.strings) (TypeAt strings) (types_stay s.strings strings g) s.types o.types is.parts.types;
          protos = is.parts.protos;
          fields = zip_weaker (FieldAt s.types s.strings) (FieldAt s.types strings) (fields_stay s.types s.types s.strings strings same g) s.fields o.fields is.parts.fields;
          methods = zip_weaker (MethodAt s.types s.strings s.protos) (MethodAt s.types strings s.protos) (methods_stay s.types s.types s.strings strings s.protos s.protos same g (Grows-refl s.protos)) s.methods o.methods is.parts.methods;
        };
      }

  -- one more type, with its text
  pub numbered-types : (p : TypeParts) → TypeAt s.strings k p → IsPart (type_closure k) (record (sets s) { types = insert_key (set_of s.types) k }) → InOrderOfNeed (record o { names = record o.names { types = o.names.types ++ k ∷ [] }; types = o.types ++ p ∷ [] })
  numbered-types p at there =
      let types = s.types ++ k ∷ [] in
      let g = Grows-pushed s.types k in
      let same = Grows-refl s.strings in
      record {
        closed = rw set_pushed (closed-types (sets s) is.closed k there);
        parts = record {
          types = zip_more (TypeAt s.strings) s.types o.types k p is.parts.types at;
          protos = zip_weaker (ProtoAt s.types) (ProtoAt types) (protos_stay s.types types g) s.protos o.protos is.parts.protos;
          fields = zip_weaker (FieldAt s.types s.strings) (FieldAt types s.strings) (fields_stay s.types types s.strings s.strings g same) s.fields o.fields is.parts.fields;
          methods = zip_weaker (MethodAt s.types s.strings s.protos) (MethodAt types s.strings s.protos) (methods_stay s.types types s.strings s.strings s.protos s.protos g same (Grows-refl s.protos)) s.methods o.methods is.parts.methods;
        };
      }

  -- one more prototype, with its return type
  pub numbered-protos : (p : ProtoParts) → ProtoAt s.types k p → IsPart (proto_closure k) (record (sets s) { protos = insert_key (set_of s.protos) k }) → InOrderOfNeed (record o { names = record o.names { protos = o.names.protos ++ k ∷ [] }; protos = o.protos ++ p ∷ [] })
  numbered-protos p at there =
      let protos = s.protos ++ k ∷ [] in
      let g = Grows-pushed s.protos k in
      record {
        closed = rw set_pushed (closed-protos (sets s) is.closed k there);
        parts = record {
          types = is.parts.types;
          protos = zip_more (ProtoAt s.types) s.protos o.protos k p is.parts.protos at;
          fields = is.parts.fields;
          methods = zip_weaker (MethodAt s.types s.strings s.protos) (MethodAt s.types s.strings protos) (methods_stay s.types s.types s.strings s.strings s.protos protos (Grows-refl s.types) (Grows-refl s.strings) g) s.methods o.methods is.parts.methods;
        };
      }

  -- one more field, with its parts
  pub numbered-fields : (p : FieldParts) → FieldAt s.types s.strings k p → IsPart (field_closure k) (record (sets s) { fields = insert_key (set_of s.fields) k }) → InOrderOfNeed (record o { names = record o.names { fields = o.names.fields ++ k ∷ [] }; fields = o.fields ++ p ∷ [] })
  numbered-fields p at there =
      record {
        closed = rw set_pushed (closed-fields (sets s) is.closed k there);
        parts = record {
          types = is.parts.types;
          protos = is.parts.protos;
          fields = zip_more (FieldAt s.types s.strings) s.fields o.fields k p is.parts.fields at;
          methods = is.parts.methods;
        };
      }

  -- one more method, with its parts
  pub numbered-methods : (p : MethodParts) → MethodAt s.types s.strings s.protos k p → IsPart (method_closure k) (record (sets s) { methods = insert_key (set_of s.methods) k }) → InOrderOfNeed (record o { names = record o.names { methods = o.names.methods ++ k ∷ [] }; methods = o.methods ++ p ∷ [] })
  numbered-methods p at there =
      record {
        closed = rw set_pushed (closed-methods (sets s) is.closed k there);
        parts = record {
          types = is.parts.types;
          protos = is.parts.protos;
          fields = is.parts.fields;
          methods = zip_more (MethodAt s.types s.strings s.protos) s.methods o.methods k p is.parts.methods at;
        };
      }

-- ---- numbers to ranks

-- a number of a name leads to its rank
pub rank_there : (names table : List Key) (ranks : List ℕ) (n : ℕ) (k : Key) → RanksOf names table ranks → IsAt names n k → (n < length ranks) × IsAt table (get_or ranks n 0) k
rank_there [] table ranks n k all at = absurd (cc at)
rank_there (j ∷ names) table [] n k all at = absurd all
rank_there (j ∷ names) table (r ∷ ranks) zero k all at = let same : j ≡ k = cc at in (omega arith, subst (λ (q : Key). IsAt table r q) same all.0)
rank_there (j ∷ names) table (r ∷ ranks) (suc n) k all at =
    let rest = rank_there names table ranks n k all.1 at in (omega (arith, rest.0), rest.1)

pub text_leads : (strings strings' : List Key) (ranks : List ℕ) → RanksOf strings strings' ranks → (k : Key) (p : TypeParts) → TypeAt strings k p → (p.text < length ranks) × TypeAt strings' k (record { text = get_or ranks p.text 0 })
text_leads strings strings' ranks all (text ∷ []) p at = rank_there strings strings' ranks p.text (text_key text) all at
text_leads strings strings' ranks all _ p at = absurd at

pub ret_leads : (types types' : List Key) (ranks : List ℕ) → RanksOf types types' ranks → (k : Key) (p : ProtoParts) → ProtoAt types k p → (p.ret < length ranks) × ProtoAt types' k (record { ret = get_or ranks p.ret 0 })
ret_leads types types' ranks all [] p at = absurd at
ret_leads types types' ranks all (ret ∷ params) p at = rank_there types types' ranks p.ret (text_key ret) all at

module _ (types types' : List Key) (type_ranks : List ℕ) (ts : RanksOf types types' type_ranks) (strings strings' : List Key) (string_ranks : List ℕ) (ss : RanksOf strings strings' string_ranks) where
  pub field_leads : (k : Key) (p : FieldParts) → FieldAt types strings k p → FieldLeads types' type_ranks strings' string_ranks k p
  field_leads (class ∷ name ∷ ty ∷ []) p at =
      let a = rank_there types types' type_ranks p.class (text_key class) ts at.0 in
      let b = rank_there strings strings' string_ranks p.name (text_key name) ss at.1 in
      let d = rank_there types types' type_ranks p.ty (text_key ty) ts at.2 in
      ((a.0, b.0, d.0), (a.1, b.1, d.1))
  field_leads _ p at = absurd at

  module _ (protos protos' : List Key) (proto_ranks : List ℕ) (ps : RanksOf protos protos' proto_ranks) where
    pub method_leads : (k : Key) (p : MethodParts) → MethodAt types strings protos k p → MethodLeads types' type_ranks strings' string_ranks protos' proto_ranks k p
    method_leads (class ∷ name ∷ ret ∷ params) p at =
        let a = rank_there types types' type_ranks p.class (text_key class) ts at.0 in
        let b = rank_there strings strings' string_ranks p.name (text_key name) ss at.1 in
        let d = rank_there protos protos' proto_ranks p.proto (ret ∷ params) ps at.2 in
        ((a.0, b.0, d.0), (a.1, b.1, d.1))
    method_leads _ p at = absurd at
