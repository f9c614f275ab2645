-- The rows of class_defs that are written, field by field, by the indices of the names that a row refers to.
-- Page: "Dalvik Executable format", "class_def_item".
use Rattle.std.specs.Prelude.{◌≡◌, ℕ, ◌<◌, ◌^◌, List, [], ◌∷◌}
use Rattle.dex_base.specs.Words.{words_bytes}
use Rattle.file_classes.specs.ClassRows.{IndexOrNone}
use Rattle.tables_names.specs.Closure.{Five}
use Rattle.tables_names.specs.Rank.{IsAt}
use Rattle.program_types.specs.Content.{Units, Descriptor, Class, Program}
use Rattle.program_types.specs.Key.{text_key}

-- the index of a type, and of a string
abbrev pub TypeRanks : Five → ℕ → Descriptor → Type 0
TypeRanks s i t = IsAt s.types i (text_key t)

-- The index of a string.
abbrev pub StringRanks : Five → ℕ → Units → Type 0
StringRanks s i t = IsAt s.strings i (text_key t)

-- A class, and the places of its interfaces, its class data and its static values, 0 for none.
pub record ClassWithPlaces : Type 0 where
  pub class : Class
  pub list : ℕ
  pub class_data : ℕ
  pub array : ℕ

-- the place that comes first, and the others
abbrev pub first_or_zero : List ℕ → ℕ
first_or_zero [] = 0
first_or_zero (p ∷ ps) = p

-- All places but the first.
abbrev pub all_but_first : List ℕ → List ℕ
all_but_first [] = []
all_but_first (p ∷ ps) = ps

-- each class with its own of these places, which stand in the order of the classes
abbrev pub with_places : Program → List ℕ → List ℕ → List ℕ → List ClassWithPlaces
with_places [] lists datas arrays = []
with_places (c ∷ p) lists datas arrays =
    record { class = c; list = first_or_zero lists; class_data = first_or_zero datas; array = first_or_zero arrays }
    ∷ with_places p (all_but_first lists) (all_but_first datas) (all_but_first arrays)

-- class_def_item: class_idx, access_flags, superclass_idx, interfaces_off, source_file_idx, annotations_off (none), class_data_off,
-- static_values_off.
pub record SpellsClassRow (s : Five) (bytes : List ℕ) (v : ClassWithPlaces) : Type 0 where
  pub class : ℕ
  pub above : ℕ
  pub source : ℕ
  pub whole : bytes ≡ words_bytes (class ∷ v.class.flags ∷ above ∷ v.list ∷ source ∷ 0 ∷ v.class_data ∷ v.array ∷ [])
  pub small_class : class < 2 ^ 32
  pub small_flags : v.class.flags < 2 ^ 32
  pub small_above : above < 2 ^ 32
  pub small_list : v.list < 2 ^ 32
  pub small_source : source < 2 ^ 32
  pub small_class_data : v.class_data < 2 ^ 32
  pub small_array : v.array < 2 ^ 32
  pub class_is : TypeRanks s class v.class.ty
  pub above_is : IndexOrNone (TypeRanks s) above v.class.superclass
  pub source_is : IndexOrNone (StringRanks s) source v.class.source
