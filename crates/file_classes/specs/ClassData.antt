-- What a class defines, as numbers (Dalvik Executable format, "class_data_item", "encoded_field", "encoded_method").
use Rattle.std.specs.Prelude.{◌≡◌, ℕ, ◌+◌, ◌<◌, ◌==◌, List, [], length, map, take, sum, MatchBool, Some, slice_index}
use Rattle.std.specs.List.{slice_get}
use Rattle.dex_base.specs.Grammar.{Then, Pair, Many}
use Rattle.dex_base.specs.Leb128.{Spells}
use Rattle.dex_container.specs.Where.{At}

-- a field: the difference of its index to that of the entry before, and its flags
abbrev pub FieldEntry : Type 0
FieldEntry = ℕ × ℕ

-- a method: the difference, its flags, and the offset of its code
abbrev pub MethodEntry : Type 0
MethodEntry = ℕ × (ℕ × ℕ)

-- the flags of a field
abbrev pub field_flags : FieldEntry → ℕ
field_flags e = e.1

-- the flags of a method
abbrev pub method_flags : MethodEntry → ℕ
method_flags e = e.1.0

-- the offset of a method's code
abbrev pub code_off : MethodEntry → ℕ
code_off e = e.1.1

-- the four lists
pub record Entries : Type 0 where
  pub statics : List FieldEntry
  pub instances : List FieldEntry
  pub directs : List MethodEntry
  pub virtuals : List MethodEntry

-- No entries: a class without class data.
abbrev pub no_entries : Entries
no_entries = record { statics = []; instances = []; directs = []; virtuals = [] }

-- their lengths
abbrev pub counts_of : Entries → ℕ × (ℕ × (ℕ × ℕ))
counts_of e = (length e.statics, (length e.instances, (length e.directs, length e.virtuals)))

-- The four lists, in their order.
abbrev pub lists_of : Entries → List FieldEntry × (List FieldEntry × (List MethodEntry × List MethodEntry))
lists_of e = (e.statics, (e.instances, (e.directs, e.virtuals)))

-- The bytes encode a field's entry, a method's, four counts, and so many entries of each list; N encodes a number.
abbrev pub SpellsFieldEntry : (List ℕ → ℕ → Type 0) → List ℕ → FieldEntry → Type 0
SpellsFieldEntry N = Pair N N

-- A method's entry: difference, flags, code offset.
abbrev pub SpellsMethodEntry : (List ℕ → ℕ → Type 0) → List ℕ → MethodEntry → Type 0
SpellsMethodEntry N = Pair N (Pair N N)

-- The four counts.
abbrev pub SpellsCounts : (List ℕ → ℕ → Type 0) → List ℕ → ℕ × (ℕ × (ℕ × ℕ)) → Type 0
SpellsCounts N = Pair N (Pair N (Pair N N))

-- The bytes encode so many entries of each list.
abbrev pub SpellsLists : (List ℕ → ℕ → Type 0) → ℕ × (ℕ × (ℕ × ℕ)) → List ℕ → List FieldEntry × (List FieldEntry × (List MethodEntry × List MethodEntry)) → Type 0
SpellsLists N n = Pair (Many (SpellsFieldEntry N) n.0) (Pair (Many (SpellsFieldEntry N) n.1.0) (Pair (Many (SpellsMethodEntry N) n.1.1.0) (Many (SpellsMethodEntry N) n.1.1.1)))

-- A class_data_item.
abbrev pub SpellsEntries : (List ℕ → ℕ → Type 0) → List ℕ → Entries → Type 0
SpellsEntries N bytes e = Then (SpellsCounts N) (SpellsLists N) bytes (counts_of e, lists_of e)

-- The class data at an offset, none of any at 0.
abbrev pub EntriesAt : List ℕ → ℕ → Entries → Type 0
EntriesAt b place e = MatchBool (place == 0) (e ≡ no_entries) (At (SpellsEntries Spells) b 0x2000 1 place e)

-- ---- indices

-- the differences of a list of entries
abbrev pub steps : {R : Type 0} → List (ℕ × R) → List ℕ
steps {R} es = map (λ (e : ℕ × R). e.0) es

-- the index of entry k: the sum of the first k + 1 differences
abbrev pub index_of : List ℕ → ℕ → ℕ
index_of differences k = sum (take (k + 1) differences)

-- The first n entries denote these, each by its index: all differences but the first are above 0.
pub record FirstEntriesAre {R V : Type 0} (M : ℕ → ℕ × R → V → Type 0) (es : List (ℕ × R)) (n : ℕ) (vs : List V) : Type 0 where
  pub count : length vs ≡ n
  pub each : (k : ℕ) (e : ℕ × R) (v : V) → slice_get es k ≡ Some e → slice_get vs k ≡ Some v → M (index_of (steps es) k) e v
  pub rises : (k : ℕ) → 0 < k → k < n → 0 < slice_index (steps es) k

-- All entries denote these.
abbrev pub EntriesAre : {R V : Type 0} → (ℕ → ℕ × R → V → Type 0) → List (ℕ × R) → List V → Type 0
EntriesAre M es vs = FirstEntriesAre M es (length es) vs
