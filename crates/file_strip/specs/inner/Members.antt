-- Class data spelled by the numbers of kept rows.
-- Page: "Dalvik Executable format", "class_data_item", "encoded_field", "encoded_method".
use Rattle.std.specs.Prelude.{◌≡◌, ℕ, ◌+◌, ◌<◌, ◌≤◌, ◌^◌, List, Some, length, slice_get, slice_index}
use Rattle.file_classes.specs.ClassData.{Entries, index_of, steps}
use Rattle.file_put.specs.inner.Data.{FieldRanks, MethodRanks}
use Rattle.program_types.specs.Content.{Class}
use Rattle.tables_names.specs.Closure.{Five, NameRanks}
use Rattle.file_renumber.specs.inner.Marked.{Columns}

-- The rows of the entries have numbers in this column, which rise, and by its number each entry stands for its value.
pub record IsCarriedRun {R V : Type 0} (column : List ℕ) (M : ℕ → ℕ × R → V → Type 0) (es : List (ℕ × R)) (vs : List V) : Type 0 where
  pub count : length vs ≡ length es
  pub each : (k : ℕ) (e : ℕ × R) (v : V) → slice_get es k ≡ Some e → slice_get vs k ≡ Some v
      → (number : ℕ) × (slice_get column (index_of (steps es) k) ≡ Some number) × M number e v
  pub rises : (k : ℕ) → k + 1 < length es → slice_index column (index_of (steps es) k) < slice_index column (index_of (steps es) (k + 1))

-- The rows of the entries of each of the four lists have numbers, which rise, and by its number each entry stands for
-- its member of the class.
pub record AreCarriedMembers (numbers : Columns) (s : Five) (e : Entries) (c : Class) : Type 0 where
  pub few_fields : length numbers.fields ≤ 2 ^ 32
  pub few_methods : length numbers.methods ≤ 2 ^ 32
  pub statics : IsCarriedRun numbers.fields (FieldRanks (NameRanks s) c.ty) e.statics c.statics
  pub instances : IsCarriedRun numbers.fields (FieldRanks (NameRanks s) c.ty) e.instances c.instances
  pub directs : IsCarriedRun numbers.methods (MethodRanks (NameRanks s) c.ty) e.directs c.directs
  pub virtuals : IsCarriedRun numbers.methods (MethodRanks (NameRanks s) c.ty) e.virtuals c.virtuals
