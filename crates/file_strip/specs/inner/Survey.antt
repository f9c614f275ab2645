-- What was found in a file's classes: which names they mention, and how many bytes each code item and each array takes at most.
-- Page: "Dalvik Executable format", "class_def_item", "class_data_item".
use Rattle.std.specs.Prelude.{◌≡◌, ℕ, ◌+◌, List, [], ◌∷◌, ◌++◌, map}
use Rattle.std.specs.List.{AllByRecursion, flat_map}
use Rattle.program_types.specs.Content.{Name, OfDesc, OfText, Units, Value, Code, Member, Method, Class, Program, values}
use Rattle.program_types.specs.Mentions.{field_of_class, if_any, names_of_code, names_of_method, names_of_value}
use Rattle.tables_names.specs.Closure.{Five, with_names}
use Rattle.tables_names.specs.inner.Closure.{Holds}
use Rattle.tables_rows.specs.inner.Cached.{AreCached}
use Rattle.tables_rows.specs.Stands.{NameStands}
use Rattle.file_renumber.specs.inner.Marked.{AreMarks}
use Rattle.dex_container.specs.Where.{IsSectionOf}
use Rattle.dex_value.specs.Standing.{ArrayStands}
use Rattle.dex_value.specs.Wide.{wide_array, wide_values}
use Rattle.code_read.specs.Code.{CodeStands}
use Rattle.code_write.specs.Fits.{wide_code}
use Rattle.file_layout.specs.Sections.{wide_all}
use Rattle.file_limits.specs.inner.Sum.{IsSum}
use Rattle.file_limits.specs.Wide.{bodies_of, wide_body, wide_class, wide_data}
use Rattle.file_classes.specs.ClassData.{Entries, EntriesAre}
use Rattle.file_classes.specs.Classes.{CodesAre, IsField, IsMethod, MembersAre, StaticsAt}
use Rattle.file_classes.specs.inner.Reading.{field_entry, method_entry}
use Rattle.file_classes.specs.declared.class_data.FieldEntry.{FieldEntry}
use Rattle.file_classes.specs.declared.class_data.MethodEntry.{MethodEntry}
use Rattle.tables_names.specs.Needed.{needed}
use Rattle.file_strip.specs.declared.survey.Surveyed.{Surveyed}
use Rattle.file_strip.specs.declared.survey.Survey.{Survey}

-- A code that stands at the offset takes at most n bytes, and the names s have those that it mentions.
pub record CodeIsFound (b : List ℕ) (s : Five) (off n : ℕ) : Type 0 where
  pub wide : (c : Code) → CodeStands (NameStands b) b off c → n ≡ wide_code c
  pub names : (c : Code) → CodeStands (NameStands b) b off c → AllByRecursion (Holds s) (names_of_code c)

-- The values of an array that stands at the offset take at most n bytes, and the names s have those that they mention.
pub record ArrayIsFound (b : List ℕ) (s : Five) (off n : ℕ) : Type 0 where
  pub wide : (most : ℕ) (vs : List Value) → ArrayStands (NameStands b) b off most vs → n ≡ wide_values (values vs)
  pub names : (most : ℕ) (vs : List Value) → ArrayStands (NameStands b) b off most vs → AllByRecursion (Holds s) (flat_map names_of_value vs)

-- The names s were found: just their rows are marked, what is known of codes and arrays is so, and the section is that of codes.
pub record AreFound (b : List ℕ) (f : Surveyed) (s : Five) : Type 0 where
  pub marks : AreMarks b f.marks s
  pub codes : AreCached (CodeIsFound b s) f.codes
  pub arrays : AreCached (ArrayIsFound b s) f.arrays
  pub section : IsSectionOf b 0x2001 f.section

-- What was found is so of some names.
abbrev pub HasFound : List ℕ → Surveyed → Type 0
HasFound b f = (s : Five) × AreFound b f s

-- Beside what was found before these names are, with their parts.
abbrev pub FindsNames : List ℕ → Surveyed → Surveyed → List Name → Type 0
FindsNames b old new names = (s : Five) → AreFound b old s → AreFound b new (with_names s names)

-- ---- a class

-- The fields of a class that these entries spell.
pub record HasFields (b : List ℕ) (es : List FieldEntry) : Type 0 where
  pub class : Units
  pub fields : List Member
  pub spelled : EntriesAre (IsField b class) (map field_entry es) fields

-- The methods of a class that these entries spell, with their codes.
pub record HasMethods (b : List ℕ) (es : List MethodEntry) : Type 0 where
  pub class : Units
  pub methods : List Method
  pub spelled : EntriesAre (IsMethod b class) (map method_entry es) methods
  pub codes : CodesAre b (map method_entry es) methods

-- These entries, and the values at this offset, spell the members of the class, their codes among them.
pub record SpellsMembers (b : List ℕ) (e : Entries) (off : ℕ) (c : Class) : Type 0 where
  pub members : MembersAre b e c
  pub most : ℕ
  pub values : StaticsAt b off most c.values
  pub directs : CodesAre b e.directs c.directs
  pub virtuals : CodesAre b e.virtuals c.virtuals

-- The names that a class mentions beside its members.
abbrev pub names_of_head : Class → List Name
names_of_head c = OfDesc c.ty ∷ if_any (λ t. OfDesc t ∷ []) c.superclass ++ map OfDesc c.interfaces ++ if_any (λ s. OfText s ∷ []) c.source

-- The names that a class's members mention, in the order in which a class mentions them.
abbrev pub names_of_members : Class → List Name
names_of_members c =
    map (field_of_class c.ty) c.statics
    ++ flat_map names_of_value c.values
    ++ map (field_of_class c.ty) c.instances
    ++ flat_map (names_of_method c.ty) c.directs
    ++ flat_map (names_of_method c.ty) c.virtuals

-- How many bytes its class data, static values and codes take at most.
abbrev pub wide_members : Class → ℕ
wide_members c = wide_data c + wide_array c.values + wide_all wide_body (bodies_of c)

-- ---- all classes

-- Just the rows of the names that the program needs are marked, and its classes take at most so many bytes.
pub record IsSurvey (b : List ℕ) (survey : Survey) (p : Program) : Type 0 where
  pub marks : AreMarks b survey.marks (needed p)
  pub wide : IsSum survey.wide (wide_all wide_class p)
