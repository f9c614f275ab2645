-- The rows of the tables of names, field by field, by the indices of the names that a row refers to.
-- Page: "Dalvik Executable format": "string_id_item", "type_id_item", "proto_id_item", "field_id_item" and
-- "method_id_item".
use Rattle.std.specs.Prelude.{◌≡◌, ℕ, ◌<◌, ◌^◌, List, [], ◌∷◌, ◌++◌, length, map}
use Rattle.dex_base.specs.Fields.{u16_bytes, u32_bytes}
use Rattle.dex_base.specs.Grammar.{Each}
use Rattle.dex_base.specs.Words.{words_bytes}
use Rattle.tables_names.specs.Closure.{Five}
use Rattle.tables_names.specs.Rank.{IsAt}
use Rattle.program_types.specs.Content.{Descriptor, Proto, FieldRef, MethodRef}
use Rattle.program_types.specs.Key.{Key, text_key, proto_key, field_ref_key, method_ref_key}
use Rattle.program_types.specs.Shorty.{shorty}

-- type_id_item: descriptor_idx.
pub record SpellsTypeRow (s : Five) (bytes : List ℕ) (t : Descriptor) : Type 0 where
  pub descriptor : ℕ
  pub whole : bytes ≡ u32_bytes descriptor
  pub small : descriptor < 2 ^ 32
  pub descriptor_is : IsAt s.strings descriptor (text_key t)

-- proto_id_item: shorty_idx, return_type_idx, parameters_off; a proto comes with the place of its parameters.
pub record SpellsProtoRow (s : Five) (bytes : List ℕ) (p : ℕ × Proto) : Type 0 where
  pub shorty_at : ℕ
  pub ret : ℕ
  pub whole : bytes ≡ words_bytes (shorty_at ∷ ret ∷ p.0 ∷ [])
  pub small_shorty : shorty_at < 2 ^ 32
  pub small_ret : ret < 2 ^ 32
  pub small_place : p.0 < 2 ^ 32
  pub shorty_is : IsAt s.strings shorty_at (text_key (shorty p.1))
  pub ret_is : IsAt s.types ret (text_key p.1.ret)

-- field_id_item: class_idx and type_idx of two bytes each, name_idx.
pub record SpellsFieldRow (s : Five) (bytes : List ℕ) (f : FieldRef) : Type 0 where
  pub class : ℕ
  pub ty : ℕ
  pub name : ℕ
  pub whole : bytes ≡ u16_bytes class ++ (u16_bytes ty ++ u32_bytes name)
  pub small_class : class < 2 ^ 16
  pub small_ty : ty < 2 ^ 16
  pub small_name : name < 2 ^ 32
  pub class_is : IsAt s.types class (text_key f.class)
  pub ty_is : IsAt s.types ty (text_key f.ty)
  pub name_is : IsAt s.strings name (text_key f.name)

-- method_id_item: class_idx and proto_idx of two bytes each, name_idx.
pub record SpellsMethodRow (s : Five) (bytes : List ℕ) (m : MethodRef) : Type 0 where
  pub class : ℕ
  pub proto : ℕ
  pub name : ℕ
  pub whole : bytes ≡ u16_bytes class ++ (u16_bytes proto ++ u32_bytes name)
  pub small_class : class < 2 ^ 16
  pub small_proto : proto < 2 ^ 16
  pub small_name : name < 2 ^ 32
  pub class_is : IsAt s.types class (text_key m.class)
  pub proto_is : IsAt s.protos proto (proto_key m.proto)
  pub name_is : IsAt s.strings name (text_key m.name)

-- The bytes are a table: a row for each name, in the order of their keys' indices.
pub record SpellsTable {V : Type 0} (key : V → Key) (G : List ℕ → V → Type 0) (bytes : List ℕ) (table : List Key)
    : Type 0 where
  pub names : List V
  pub keys : map key names ≡ table
  pub rows : Each G bytes names

-- The bytes are the table of the protos, whose parameters stand at these places.
pub record SpellsProtos (s : Five) (places : List ℕ) (bytes : List ℕ) (table : List Key) : Type 0 where
  pub names : List (ℕ × Proto)
  pub keys : map (λ (p : ℕ × Proto). proto_key p.1) names ≡ table
  pub places_are : map (λ (p : ℕ × Proto). p.0) names ≡ places
  pub rows : Each (SpellsProtoRow s) bytes names

-- The bytes are the tables of these names, one after the other, where texts and parameters stand at these places.
pub record SpellsRows (s : Five) (texts lists : List ℕ) (bytes : List ℕ) : Type 0 where
  pub types : List ℕ
  pub protos : List ℕ
  pub fields : List ℕ
  pub methods : List ℕ
  pub whole : bytes ≡ words_bytes texts ++ (types ++ (protos ++ (fields ++ methods)))
  pub string_ids : length texts ≡ length s.strings
  pub type_ids : SpellsTable text_key (SpellsTypeRow s) types s.types
  pub proto_ids : SpellsProtos s lists protos s.protos
  pub field_ids : SpellsTable field_ref_key (SpellsFieldRow s) fields s.fields
  pub method_ids : SpellsTable method_ref_key (SpellsMethodRow s) methods s.methods
