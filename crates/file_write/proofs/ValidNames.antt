-- The names that a program needs are ones that a file can have, if those that it mentions are.
use Rattle.std.proofs.Common.{◌≡◌, ℕ, true, List, [], ◌∷◌, map, refl, sym, subst, inl, inr, true≢false}
use Rattle.std.specs.List.{AllByRecursion}
use Rattle.std.specs.Ordering.{eq_by_cmp}
use Rattle.std.specs.Cmp.{Equal-is}
use Rattle.dex_base.specs.Descriptor.{IsDescriptor}
use Rattle.tables_names.specs.Closure.{Five, closure_of, join, nothing, shorty_of_texts, with_name, with_names}
use Rattle.tables_names.specs.Needed.{needed}
use Rattle.tables_names.specs.Rank.{IsAt, add_all, is_member}
use Rattle.tables_names.proofs.PlaceLemmas.{member_at}
use Rattle.tables_names.proofs.SubsetLemmas.{added_cases, or_cases}
use Rattle.program_types.specs.Content.{FieldRef, MethodRef, Name, OfDesc, OfField, OfMethod, OfText, Program, Proto, Units}
use Rattle.program_types.specs.Key.{Key, field_ref_key, key_cmp, method_ref_key, proto_key, text_key}
use Rattle.program_types.specs.inner.KeyLaws.{key_cmp-same}
use Rattle.program_types.specs.Mentions.{mentions}
use Rattle.program_rules.specs.Valid.{IsValidField, IsValidMethod, IsValidName, IsValidProto, IsValueType}
use Rattle.dex_base.proofs.DescriptorLaws.{class_is_descriptor, owner_is_descriptor}
use Rattle.dex_base.proofs.ListFacts.{all_weaker}

-- ---- what holds of each key of a set

-- P holds of each member
pub record Members (P : Key → Type 0) (ks : List Key) : Type 0 where
  pub each : (k : Key) → is_member ks k ≡ true → P k

none_in : (P : Key → Type 0) → Members P []
none_in P = record { each = λ k h. absurd (true≢false (sym h)) }

one_more : (P : Key → Type 0) (x : Key) (ks : List Key) → P x → Members P ks → Members P (x ∷ ks)
one_more P x ks p m = record {
  each = λ k h. elim (or_cases (eq_by_cmp key_cmp k x) _ h) [
    | inl e ↦ subst P (sym (key_cmp-same k x ((Equal-is (key_cmp k x)).0 e))) p
    | inr h ↦ m.each k h
  ];
}

both_in : (P : Key → Type 0) (ks js : List Key) → Members P ks → Members P js → Members P (add_all ks js)
both_in P ks js m n = record { each = λ k h. elim (added_cases ks js k h) [ inl h ↦ m.each k h | inr h ↦ n.each k h ] }

pub member_is : (P : Key → Type 0) (ks : List Key) (i : ℕ) (k : Key) → Members P ks → IsAt ks i k → P k
member_is P ks i k m at = m.each k (member_at ks i k at)

-- ---- the sets of names

-- the key of a text
abbrev pub IsTextKey : Key → Type 0
IsTextKey k = (t : Units) × (k ≡ text_key t)

-- .. of a type
abbrev pub IsTypeKey : Key → Type 0
IsTypeKey k = (t : Units) × (k ≡ text_key t) × IsDescriptor t

-- .. of a prototype
abbrev pub IsProtoKey : Key → Type 0
IsProtoKey k = (q : Proto) × (k ≡ proto_key q) × IsValidProto q

-- .. of a field
abbrev pub IsFieldKey : Key → Type 0
IsFieldKey k = (f : FieldRef) × (k ≡ field_ref_key f) × IsValidField f

-- .. of a method
abbrev pub IsMethodKey : Key → Type 0
IsMethodKey k = (m : MethodRef) × (k ≡ method_ref_key m) × IsValidMethod m

-- the five sets
pub record AreValid (s : Five) : Type 0 where
  pub strings : Members IsTextKey s.strings
  pub types : Members IsTypeKey s.types
  pub protos : Members IsProtoKey s.protos
  pub fields : Members IsFieldKey s.fields
  pub methods : Members IsMethodKey s.methods

valid_join : (s t : Five) → AreValid s → AreValid t → AreValid (join s t)
valid_join s t a b = record {
  strings = both_in IsTextKey s.strings t.strings a.strings b.strings;
  types = both_in IsTypeKey s.types t.types a.types b.types;
  protos = both_in IsProtoKey s.protos t.protos a.protos b.protos;
  fields = both_in IsFieldKey s.fields t.fields a.fields b.fields;
  methods = both_in IsMethodKey s.methods t.methods a.methods b.methods;
}

texts_in : (ts : List Units) → Members IsTextKey (map text_key ts)
texts_in [] = none_in IsTextKey
texts_in (t ∷ ts) = one_more IsTextKey (text_key t) (map text_key ts) (t, refl) (texts_in ts)

types_in : (ts : List Units) → AllByRecursion IsDescriptor ts → Members IsTypeKey (map text_key ts)
types_in [] h = none_in IsTypeKey
types_in (t ∷ ts) h = one_more IsTypeKey (text_key t) (map text_key ts) (t, refl, h.0) (types_in ts h.1)

valid_closure : (n : Name) → IsValidName n → AreValid (closure_of n)
valid_closure (OfText t) h = record {
  strings = texts_in (t ∷ []);
  types = none_in IsTypeKey;
  protos = none_in IsProtoKey;
  fields = none_in IsFieldKey;
  methods = none_in IsMethodKey;
}
valid_closure (OfDesc t) h = record {
  strings = texts_in (t ∷ []);
  types = types_in (t ∷ []) (h, tt);
  protos = none_in IsProtoKey;
  fields = none_in IsFieldKey;
  methods = none_in IsMethodKey;
}
valid_closure (OfField f) h = record {
  strings = texts_in (f.class ∷ f.name ∷ f.ty ∷ []);
  types = types_in (f.class ∷ f.ty ∷ []) ((class_is_descriptor f.class h.class).0, (h.ty.descriptor, tt));
  protos = none_in IsProtoKey;
  fields = one_more IsFieldKey (field_ref_key f) [] (f, refl, h) (none_in IsFieldKey);
  methods = none_in IsMethodKey;
}
valid_closure (OfMethod m) h = record {
  strings = texts_in (m.class ∷ m.name ∷ shorty_of_texts (proto_key m.proto) ∷ proto_key m.proto);
  types = types_in (m.class ∷ proto_key m.proto) (owner_is_descriptor m.class h.class, (h.proto.ret, all_weaker IsValueType IsDescriptor (λ t value. value.descriptor) m.proto.params h.proto.params));
  protos = one_more IsProtoKey (proto_key m.proto) [] (m.proto, refl, h.proto) (none_in IsProtoKey);
  fields = none_in IsFieldKey;
  methods = one_more IsMethodKey (method_ref_key m) [] (m, refl, h) (none_in IsMethodKey);
}

valid_with : (s : Five) (names : List Name) → AreValid s → AllByRecursion IsValidName names → AreValid (with_names s names)
unfolding with_name
valid_with s [] v h = v
valid_with s (n ∷ names) v h = valid_with (join s (closure_of n)) names (valid_join s (closure_of n) v (valid_closure n h.0)) h.1

pub needed_valid : (p : Program) → AllByRecursion IsValidName (mentions p) → AreValid (needed p)
unfolding needed
needed_valid p h = valid_with nothing (mentions p) (record { strings = none_in IsTextKey; types = none_in IsTypeKey; protos = none_in IsProtoKey; fields = none_in IsFieldKey; methods = none_in IsMethodKey }) h
