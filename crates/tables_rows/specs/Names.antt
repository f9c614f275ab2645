-- The names of the five tables of a file, in the order of their rows.
use Rattle.std.specs.Prelude.{◌≡◌, ℕ, List, length, Some}
use Rattle.std.specs.List.{slice_get}
use Rattle.dex_container.specs.Layout.{size_of}
use Rattle.dex_container.specs.Section as section
use Rattle.program_types.specs.Content.{Units, Proto, FieldRef, MethodRef, Name, OfText, OfDesc, OfField, OfMethod}
use Rattle.tables_rows.specs.Stands.{StringStands, TypeStands, ProtoStands, FieldStands, MethodStands}

-- the names of tables in memory
pub record Names : Type 0 where
  pub strings : List Units
  pub types : List Units
  pub protos : List Proto
  pub fields : List FieldRef
  pub methods : List MethodRef

-- These are the names of table k, row by row.
pub record AreRows {V : Type 0} (Stands : List ℕ → ℕ → V → Type 0) (b : List ℕ) (k : ℕ) (names : List V) : Type 0 where
  pub count : length names ≡ size_of b k
  pub each : (i : ℕ) (v : V) → slice_get names i ≡ Some v → Stands b i v

-- These are the names of the five tables of this file.
pub record AreNamesOf (b : List ℕ) (names : Names) : Type 0 where
  pub strings : AreRows StringStands b section.string_ids names.strings
  pub types : AreRows TypeStands b section.type_ids names.types
  pub protos : AreRows ProtoStands b section.proto_ids names.protos
  pub fields : AreRows FieldStands b section.field_ids names.fields
  pub methods : AreRows MethodStands b section.method_ids names.methods

-- Index i denotes the type among these types.
abbrev pub TypeIsAt : List Units → ℕ → Units → Type 0
TypeIsAt types i t = slice_get types i ≡ Some t

-- Index i denotes the name among these names, in the table of its kind.
abbrev pub NameIsAt : Names → ℕ → Name → Type 0
NameIsAt names i (OfText s) = slice_get names.strings i ≡ Some s
NameIsAt names i (OfDesc t) = slice_get names.types i ≡ Some t
NameIsAt names i (OfField f) = slice_get names.fields i ≡ Some f
NameIsAt names i (OfMethod m) = slice_get names.methods i ≡ Some m
