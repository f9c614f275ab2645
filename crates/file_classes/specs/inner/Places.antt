-- Which rows of class_defs define a type: one pass over the rows knows the first and the last one of each.
use Rattle.std.specs.Prelude.{◌≡◌, ℕ, ◌+◌, ◌<◌, ◌≤◌, ◌↔◌, List, length, get_or, slice_index, ◌≢◌}
use Rattle.dex_container.specs.Layout.{size_of}
use Rattle.dex_container.specs.Section as section
use Rattle.file_classes.specs.ClassRows.{no_index, InterfaceIndexes, NoneDefines, class_idx, superclass_idx}

-- Of the first n rows: for each type the number of its first row and of its last one, counted from 1, or 0.
pub record ArePlaces (b : List ℕ) (n : ℕ) (first last : List ℕ) : Type 0 where
  pub firsts : length first ≡ size_of b section.type_ids
  pub lasts : length last ≡ size_of b section.type_ids
  pub none : (t : ℕ) → t < size_of b section.type_ids → get_or first t 0 ≡ 0 → NoneDefines b 0 n t
  pub lowest : (t k : ℕ) → t < size_of b section.type_ids → get_or first t 0 ≡ k + 1 → (class_idx b k ≡ t) × NoneDefines b 0 k t
  pub highest : (t i : ℕ) → t < size_of b section.type_ids → get_or last t 0 ≤ i ↔ NoneDefines b i n t

-- The types that row i names by index have rows.
pub record TypesHaveRows (b : List ℕ) (i : ℕ) : Type 0 where
  pub class : class_idx b i < size_of b section.type_ids
  pub superclass : superclass_idx b i ≢ no_index → superclass_idx b i < size_of b section.type_ids
  pub interfaces : (indexes : List ℕ) → InterfaceIndexes b i indexes → (k : ℕ) → k < length indexes → slice_index indexes k < size_of b section.type_ids
