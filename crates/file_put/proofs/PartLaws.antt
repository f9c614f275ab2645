-- The rows of names from the places of their parts.
use Rattle.std.proofs.Common.{◌≡◌, ℕ, ◌+◌, ◌<◌, ◌≤◌, ◌^◌, List, [], ◌∷◌, ◌++◌, length, map, take, get_or, refl, ap, arith}
use Rattle.std.specs.List.{AllZip}
use Rattle.std.proofs.lemmas.Option.{slice_get_within, slice_get-get_or}
use Rattle.dex_base.specs.Fields.{u16_bytes, u32_bytes}
use Rattle.dex_base.specs.Grammar.{Appends, Each}
use Rattle.program_types.specs.Content.{Descriptor, FieldRef, MethodRef}
use Rattle.program_types.specs.Key.{Key, text_key, field_ref_key, method_ref_key}
use Rattle.program_types.specs.View as view
use Rattle.program_types.specs.declared.names.Proto as declared
use Rattle.tables_names.specs.Closure.{Five}
use Rattle.tables_names.specs.Keys.{key_of_proto}
use Rattle.tables_names.specs.Rank.{IsAt}
use Rattle.tables_names.specs.Numbers.{TypeAt, ProtoAt, FieldAt, MethodAt}
use Rattle.tables_names.specs.declared.parts.TypeParts.{TypeParts}
use Rattle.tables_names.specs.declared.parts.ProtoParts.{ProtoParts}
use Rattle.tables_names.specs.declared.parts.FieldParts.{FieldParts}
use Rattle.tables_names.specs.declared.parts.MethodParts.{MethodParts}
use Rattle.tables_names.proofs.NumberLemmas.{zip_get}
use Rattle.file_put.specs.inner.Rows.{SpellsTypeRow, SpellsFieldRow, SpellsMethodRow, SpellsTable}
use Rattle.file_put.proofs.RowLaws.{held_at, rows_more, rows_are_table}
use Rattle.dex_base.proofs.ListFacts.{zip_length}

-- what stands beside the keys, by place
pub part_at : {P : Type 0} (R : Key → P → Type 0) (keys : List Key) (parts : List P) (i : ℕ) (p : P) → AllZip R keys parts → i < length parts → R (get_or keys i []) (get_or parts i p)
part_at R keys parts i p all lt =
    let same = zip_length R keys parts all in
    let here : i < length keys = omega (arith, same, lt) in
    zip_get R keys parts i (get_or keys i []) p all (slice_get-get_or keys i [] here)

-- what a look-up after the last would give
abbrev pub no_type : TypeParts
no_type = record { text = 0 }

abbrev pub no_field : FieldParts
no_field = record { class = 0; name = 0; ty = 0 }

abbrev pub no_method : MethodParts
no_method = record { class = 0; name = 0; proto = 0 }

-- the return type beside a prototype
pub ret_at : (types : List Key) (protos : List declared.Proto) (keys : List Key) (parts : List ProtoParts) (i : ℕ) (d : declared.Proto) (p : ProtoParts)
    → map key_of_proto protos ≡ keys → AllZip (ProtoAt types) keys parts → i < length protos → IsAt types (get_or parts i p).ret (text_key (view.proto (get_or protos i d)).ret)
ret_at types protos keys parts i d p e all lt =
    zip_get (ProtoAt types) keys parts i (key_of_proto (get_or protos i d)) p all (held_at key_of_proto protos keys i d e lt)

-- ---- the names of keys

abbrev pub type_of : Key → Descriptor
type_of [] = []
type_of (text ∷ more) = text

abbrev pub field_of : Key → FieldRef
field_of (class ∷ name ∷ ty ∷ []) = record { class = class; name = name; ty = ty }
field_of _ = record { class = []; name = []; ty = [] }

abbrev pub method_of : Key → MethodRef
method_of (class ∷ name ∷ ret ∷ params) = record { class = class; name = name; proto = record { ret = ret; params = params } }
method_of _ = record { class = []; name = []; proto = record { ret = []; params = [] } }

module _ (strings : List Key) where
  pub types_named : (keys : List Key) (parts : List TypeParts) → AllZip (TypeAt strings) keys parts → map (λ k. text_key (type_of k)) keys ≡ keys
  types_named [] [] all = refl
  types_named [] (p ∷ parts) all = refl
  types_named (k ∷ keys) [] all = absurd all
  types_named ([] ∷ keys) (p ∷ parts) all = absurd all.0
  types_named ((text ∷ []) ∷ keys) (p ∷ parts) all = ap (λ l. (text ∷ []) ∷ l) (types_named keys parts all.1)
  types_named ((text ∷ other ∷ more) ∷ keys) (p ∷ parts) all = absurd all.0

  module _ (types : List Key) where
    pub fields_named : (keys : List Key) (parts : List FieldParts) → AllZip (FieldAt types strings) keys parts → map (λ k. field_ref_key (field_of k)) keys ≡ keys
    fields_named [] [] all = refl
    fields_named [] (p ∷ parts) all = refl
    fields_named (k ∷ keys) [] all = absurd all
    fields_named ([] ∷ keys) (p ∷ parts) all = absurd all.0
    fields_named ((class ∷ []) ∷ keys) (p ∷ parts) all = absurd all.0
    fields_named ((class ∷ name ∷ []) ∷ keys) (p ∷ parts) all = absurd all.0
    fields_named ((class ∷ name ∷ ty ∷ []) ∷ keys) (p ∷ parts) all = ap (λ l. (class ∷ name ∷ ty ∷ []) ∷ l) (fields_named keys parts all.1)
    fields_named ((class ∷ name ∷ ty ∷ other ∷ more) ∷ keys) (p ∷ parts) all = absurd all.0

    pub methods_named : (protos keys : List Key) (parts : List MethodParts) → AllZip (MethodAt types strings protos) keys parts → map (λ k. method_ref_key (method_of k)) keys ≡ keys
    methods_named protos [] [] all = refl
    methods_named protos [] (p ∷ parts) all = refl
    methods_named protos (k ∷ keys) [] all = absurd all
    methods_named protos ([] ∷ keys) (p ∷ parts) all = absurd all.0
    methods_named protos ((class ∷ []) ∷ keys) (p ∷ parts) all = absurd all.0
    methods_named protos ((class ∷ name ∷ []) ∷ keys) (p ∷ parts) all = absurd all.0
    methods_named protos ((class ∷ name ∷ ret ∷ params) ∷ keys) (p ∷ parts) all = ap (λ l. (class ∷ name ∷ ret ∷ params) ∷ l) (methods_named protos keys parts all.1)

-- ---- places fit

pub type_fits : (strings : List Key) (k : Key) (p : TypeParts) → TypeAt strings k p → p.text < length strings
type_fits strings (text ∷ []) p at = slice_get_within strings p.text (text_key text) at
type_fits strings _ p at = absurd at

pub field_fits : (types strings : List Key) (k : Key) (p : FieldParts) → FieldAt types strings k p → (p.class < length types) × (p.name < length strings) × (p.ty < length types)
field_fits types strings (class ∷ name ∷ ty ∷ []) p at =
    (slice_get_within types p.class (text_key class) at.0, slice_get_within strings p.name (text_key name) at.1, slice_get_within types p.ty (text_key ty) at.2)
field_fits types strings _ p at = absurd at

pub method_fits : (types strings protos : List Key) (k : Key) (p : MethodParts) → MethodAt types strings protos k p → (p.class < length types) × (p.name < length strings) × (p.proto < length protos)
method_fits types strings protos (class ∷ name ∷ ret ∷ params) p at =
    (slice_get_within types p.class (text_key class) at.0, slice_get_within strings p.name (text_key name) at.1, slice_get_within protos p.proto (ret ∷ params) at.2)
method_fits types strings protos _ p at = absurd at

-- ---- one row

module _ (s : Five) where
  pub type_row : (k : Key) (p : TypeParts) → length s.strings ≤ 2 ^ 32 → TypeAt s.strings k p → SpellsTypeRow s (u32_bytes p.text) (type_of k)
  type_row (text ∷ []) p few at =
      let lt = slice_get_within s.strings p.text (text_key text) at in
      record { descriptor = p.text; whole = refl; small = omega (arith, lt, few); descriptor_is = at }
  type_row _ p few at = absurd at

  pub field_row : (k : Key) (p : FieldParts) → p.class < 2 ^ 16 → p.ty < 2 ^ 16 → p.name < 2 ^ 32 → FieldAt s.types s.strings k p → SpellsFieldRow s (u16_bytes p.class ++ (u16_bytes p.ty ++ u32_bytes p.name)) (field_of k)
  field_row (class ∷ name ∷ ty ∷ []) p a b d at =
      record { class = p.class; ty = p.ty; name = p.name; whole = refl; small_class = a; small_ty = b; small_name = d; class_is = at.0; ty_is = at.2; name_is = at.1 }
  field_row _ p a b d at = absurd at

  pub method_row : (k : Key) (p : MethodParts) → p.class < 2 ^ 16 → p.proto < 2 ^ 16 → p.name < 2 ^ 32 → MethodAt s.types s.strings s.protos k p → SpellsMethodRow s (u16_bytes p.class ++ (u16_bytes p.proto ++ u32_bytes p.name)) (method_of k)
  method_row (class ∷ name ∷ ret ∷ params) p a b d at =
      record { class = p.class; proto = p.proto; name = p.name; whole = refl; small_class = a; small_proto = b; small_name = d; class_is = at.0; proto_is = at.2; name_is = at.1 }
  method_row _ p a b d at = absurd at

-- ---- rows so far

-- one more row
pub keys_more : {P V : Type 0} (R : Key → P → Type 0) (view : Key → V) (G : List ℕ → V → Type 0) (old mid new bytes : List ℕ) (keys : List Key) (parts : List P) (i : ℕ)
    → AllZip R keys parts → i < length parts → Appends (Each G) old mid (map view (take i keys)) → new ≡ mid ++ bytes → G bytes (view (get_or keys i []))
    → Appends (Each G) old new (map view (take (i + 1) keys))
keys_more R view G old mid new bytes keys parts i all lt rows joined row =
    let same = zip_length R keys parts all in
    rows_more view G old mid new keys i [] (omega (arith, same, lt)) rows (record { bytes = bytes; joined = joined; spelled = row })

-- all rows
pub keys_are_table : {P V : Type 0} (R : Key → P → Type 0) (view : Key → V) (key : V → Key) (G : List ℕ → V → Type 0) (old new : List ℕ) (keys : List Key) (parts : List P) (i : ℕ)
    → AllZip R keys parts → map (λ k. key (view k)) keys ≡ keys → length parts ≤ i → Appends (Each G) old new (map view (take i keys)) → Appends (SpellsTable key G) old new keys
keys_are_table R view key G old new keys parts i all named done rows =
    let same = zip_length R keys parts all in rows_are_table view key G old new keys keys i named (omega (arith, same, done)) rows
