-- Whether class data stands at a place is decided.
use Rattle.std.proofs.Common.{◌≡◌, ℕ, Bool, true, false, inl, inr, List, length, refl, sym, subst}
use Rattle.std.specs.Prelude.{MatchBool, ◌==◌}
use Rattle.dex_base.specs.Grammar.{Takes, Then, Pair, Many}
use Rattle.dex_base.specs.Leb128.{Spells}
use Rattle.dex_base.proofs.GrammarLaws.{Many-unique}
use Rattle.dex_base.proofs.Numbers.{spells_unique}
use Rattle.dex_container.specs.Frame.{IsFramed}
use Rattle.dex_container.specs.Where.{At}
use Rattle.dex_base.specs.Deciding.{Decided, DecidedFront}
use Rattle.dex_base.proofs.Deciding.{decide_uleb}
use Rattle.code_read.proofs.Deciding.{decide-then, decide-many}
use Rattle.dex_container.proofs.PlacesDecided.{decide_at}
use Rattle.file_classes.specs.ClassData.{FieldEntry, MethodEntry, Entries, no_entries, counts_of, lists_of, SpellsFieldEntry, SpellsMethodEntry, SpellsCounts, SpellsLists, SpellsEntries, EntriesAt}
use Rattle.file_classes.proofs.EntryLaws.{field_unique, method_unique, counts_unique}

-- ---- a class_data_item

decide_field : (bytes : List ℕ) → DecidedFront (SpellsFieldEntry Spells) bytes
decide_field = decide-then Spells (λ (_ : ℕ). Spells) spells_unique decide_uleb (λ _. decide_uleb)

decide_method : (bytes : List ℕ) → DecidedFront (SpellsMethodEntry Spells) bytes
decide_method = decide-then Spells (λ (_ : ℕ). Pair Spells Spells) spells_unique decide_uleb (λ _. decide_field)

decide_counts : (bytes : List ℕ) → DecidedFront (SpellsCounts Spells) bytes
decide_counts = decide-then Spells (λ (_ : ℕ). SpellsMethodEntry Spells) spells_unique decide_uleb (λ _. decide_method)

abbrev Fields : ℕ → List ℕ → List FieldEntry → Type 0
Fields n = Many (SpellsFieldEntry Spells) n

abbrev Methods : ℕ → List ℕ → List MethodEntry → Type 0
Methods n = Many (SpellsMethodEntry Spells) n

abbrev Lists : Type 0
Lists = List FieldEntry × (List FieldEntry × (List MethodEntry × List MethodEntry))

decide_fields : (n : ℕ) (bytes : List ℕ) → DecidedFront (Fields n) bytes
decide_fields = decide-many (SpellsFieldEntry Spells) field_unique decide_field

decide_methods : (n : ℕ) (bytes : List ℕ) → DecidedFront (Methods n) bytes
decide_methods = decide-many (SpellsMethodEntry Spells) method_unique decide_method

decide_lists : (n : ℕ × (ℕ × (ℕ × ℕ))) (bytes : List ℕ) → DecidedFront (SpellsLists Spells n) bytes
decide_lists n =
    let fields = λ (k : ℕ). Many-unique (SpellsFieldEntry Spells) k field_unique in
    let methods = λ (k : ℕ). Many-unique (SpellsMethodEntry Spells) k method_unique in
    decide-then (Fields n.0) (λ (_ : List FieldEntry). Pair (Fields n.1.0) (Pair (Methods n.1.1.0) (Methods n.1.1.1))) (fields n.0) (decide_fields n.0) (λ _.
    decide-then (Fields n.1.0) (λ (_ : List FieldEntry). Pair (Methods n.1.1.0) (Methods n.1.1.1)) (fields n.1.0) (decide_fields n.1.0) (λ _.
    decide-then (Methods n.1.1.0) (λ (_ : List MethodEntry). Methods n.1.1.1) (methods n.1.1.0) (decide_methods n.1.1.0) (λ _. decide_methods n.1.1.1)))

-- the counts are those of the lists
entries_from : (bytes rest : List ℕ) (n : ℕ × (ℕ × (ℕ × ℕ))) (l : Lists) → Takes (Then (SpellsCounts Spells) (SpellsLists Spells)) bytes (n, l) rest
    → Takes (SpellsEntries Spells) bytes (record { statics = l.0; instances = l.1.0; directs = l.1.1.0; virtuals = l.1.1.1 }) rest
entries_from bytes rest n l t =
    let s = t.spelled.second in
    let a = sym s.first.0 in
    let b = sym s.second.first.0 in
    let c = sym s.second.second.first.0 in
    let d = sym s.second.second.second.0 in
    let same : n ≡ (length l.0, (length l.1.0, (length l.1.1.0, length l.1.1.1))) = λ k. (a k, (b k, (c k, d k))) in
    record { front = t.front; whole = t.whole; spelled = subst (λ (m : ℕ × (ℕ × (ℕ × ℕ))). Then (SpellsCounts Spells) (SpellsLists Spells) t.front (m, l)) same t.spelled }

decide_entries : (bytes : List ℕ) → DecidedFront (SpellsEntries Spells) bytes
decide_entries bytes = elim (decide-then (SpellsCounts Spells) (SpellsLists Spells) counts_unique decide_counts decide_lists bytes) [
  | inl x ↦ inl (record { statics = x.0.1.0; instances = x.0.1.1.0; directs = x.0.1.1.1.0; virtuals = x.0.1.1.1.1 }, x.1, entries_from bytes x.1 x.0.0 x.0.1 x.2)
  | inr none ↦ inr (λ e rest t. none (counts_of e, lists_of e) rest (record { front = t.front; whole = t.whole; spelled = t.spelled }))
]

pub decide_entries_at : (b : List ℕ) → IsFramed b → (place : ℕ) → Decided ((e : Entries) × EntriesAt b place e)
decide_entries_at b framed place = by (place == 0)
  where
    by : (z : Bool) → Decided ((e : Entries) × MatchBool z (e ≡ no_entries) (At (SpellsEntries Spells) b 0x2000 1 place e))
    by true = inl (no_entries, refl)
    by false = decide_at (SpellsEntries Spells) decide_entries b framed 0x2000 1 place
