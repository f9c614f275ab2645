-- Beside Data.antt: what no promise reaches.
use Rattle.std.specs.Prelude.{◌≡◌, ℕ, ◌+◌, Bool, List, [], ◌∷◌, ◌++◌, ◌&&◌, length, take, drop}
use Rattle.dex_base.specs.Leb128.{Spells, Shortest}
use Rattle.file_classes.specs.ClassData.{FieldEntry, MethodEntry, Entries, SpellsEntries, EntriesAre, field_flags, method_flags}
use Rattle.file_layout.specs.inner.Sections.{is_empty_list}
use Rattle.file_limits.specs.Wide.{wide_data}
use Rattle.program_types.specs.Content.{Name, OfField, OfMethod, Descriptor, Member, Method, Class, Program}
use Rattle.file_put.specs.Data.{code_offs}

-- A class, and the places of its methods' bodies, 0 for none: of the direct methods, then of the virtual ones.
pub record ClassWithCodes : Type 0 where
  pub class : Class
  pub codes : List ℕ

-- how many methods a class has
abbrev pub method_count : Class → ℕ
method_count c = length c.directs + length c.virtuals

-- each class of a program with its own of these places, which stand in the order of the classes
abbrev pub with_code_places : Program → List ℕ → List ClassWithCodes
with_code_places [] codes = []
with_code_places (c ∷ p) codes =
    record { class = c; codes = take (method_count c) codes } ∷ with_code_places p (drop (method_count c) codes)

-- no field and no method, so no class data
abbrev pub has_no_members : ClassWithCodes → Bool
has_no_members v = is_empty_list v.class.statics && is_empty_list v.class.instances && is_empty_list v.class.directs && is_empty_list v.class.virtuals

-- how many bytes its class data takes at most
abbrev pub wide_with_codes : ClassWithCodes → ℕ
wide_with_codes v = wide_data v.class

-- The entry with this index is this field of the class, where N relates an index to its name.
pub record FieldRanks (N : ℕ → Name → Type 0) (class : Descriptor) (index : ℕ) (e : FieldEntry) (m : Member) : Type 0 where
  pub field : N index (OfField (record { class = class; name = m.name; ty = m.ty }))
  pub flags : m.flags ≡ field_flags e

-- The entry with this index is this method of the class, its body aside, where N says which index stands for which
-- name.
pub record MethodRanks (N : ℕ → Name → Type 0) (class : Descriptor) (index : ℕ) (e : MethodEntry) (m : Method) : Type 0 where
  pub method : N index (OfMethod (record { class = class; name = m.name; proto = m.proto }))
  pub flags : m.flags ≡ method_flags e

-- The four lists are those of the class.
pub record MembersRank (N : ℕ → Name → Type 0) (e : Entries) (c : Class) : Type 0 where
  pub statics : EntriesAre (FieldRanks N c.ty) e.statics c.statics
  pub instances : EntriesAre (FieldRanks N c.ty) e.instances c.instances
  pub directs : EntriesAre (MethodRanks N c.ty) e.directs c.directs
  pub virtuals : EntriesAre (MethodRanks N c.ty) e.virtuals c.virtuals

-- A class_data_item of the class, in the fewest bytes.
pub record PacksData (N : ℕ → Name → Type 0) (bytes : List ℕ) (v : ClassWithCodes) : Type 0 where
  pub entries : Entries
  pub spelled : SpellsEntries (Shortest Spells) bytes entries
  pub members : MembersRank N entries v.class
  pub codes : code_offs entries.directs ++ code_offs entries.virtuals ≡ v.codes
