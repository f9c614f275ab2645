-- Values that are spelled anew.
use Rattle.std.proofs.Common.{◌≡◌, ℕ, zero, suc, ◌+◌, ◌<◌, ◌≤◌, List, [], ◌∷◌, ◌++◌, length, take, drop, get_or, Some, slice_get, refl, sym, ap, subst, ◌∙◌, arith, true, false, rules}
use Rattle.std.proofs.lemmas.List.{take_more, take_all}
use Rattle.dex_base.specs.Grammar.{Appends, Takes, Each, Many}
use Rattle.dex_base.specs.Leb128.{Spells, Shortest}
use Rattle.dex_base.proofs.GrammarLaws.{Each-appends_none, Each-appends_more}
use Rattle.dex_container.specs.Frame.{IsFramed}
use Rattle.dex_insn.specs.declared.opcode.IndexKind.{IndexKind}
use Rattle.program_types.specs.Content.{Name, OfField, Value, Named, Enum, Array, Null, Boolean, Values, values}
use Rattle.program_types.specs.Mentions.{NamesHold, AllNamesHold, names_of_value}
use Rattle.tables_names.specs.Closure.{Five, AreRising, NameRanks}
use Rattle.tables_rows.specs.Stands.{NameStands}
use Rattle.dex_value.specs.declared.types.NameType.{NameType}
use Rattle.std.proofs.lemmas.Option.{slice_get_within}
use Rattle.dex_value.specs.Named.{IsPlain}
use Rattle.dex_value.specs.Reading.{name_code, table_of_type, IsNumber}
use Rattle.dex_value.specs.inner.Reading.{ValueStands}
use Rattle.dex_value.specs.Spelling.{unsigned_of, value_type_of, SpellsValue, SpellsArray, count_of}
use Rattle.dex_value.specs.Writing.{UnsignedAs}
use Rattle.dex_value.specs.inner.Writing.{IndexAs}
use Rattle.dex_value.proofs.Appending.{index_appends, array_appends, array_value_appends, enum_appends}
use Rattle.dex_value.proofs.FrontLaws.{stands_one}
use Rattle.dex_value.proofs.Fronts.{LoneFront, BareNull, BareFalse, BareTrue}
use Rattle.dex_value.proofs.Lists.{length-listed}
use Rattle.dex_value.proofs.Namings.{number_stands}
use Rattle.dex_value.proofs.Carrying.{NameStands-functional}
use Rattle.file_renumber.specs.inner.Marked.{Columns, kind_of}
use Rattle.file_renumber.specs.inner.Numbers.{Carries, column_of}
use Rattle.file_renumber.specs.inner.ValueWalks.{IsLow, CarriedValue, CarriedValues}
use Rattle.file_renumber.proofs.FrontLemmas.{TakenArray, due_start, NextDue, due_next, due_end, values_due}
use Rattle.file_renumber.specs.inner.CarriedArrays.{IsCarriedArray, IsItemOf}
use Rattle.file_renumber.proofs.NameLemmas.{NamedRow, row_of_low}
use Rattle.dex_base.proofs.ListFacts.{some_inj}
use Rattle.program_types.proofs.Nesting.{listed, values-listed}

-- ---- a value of bytes after its head

pub number_plain : (t : ℕ) (low : List ℕ) (v : Value) → IsNumber t low v → IsPlain v
number_plain t low (Named which) s = s
number_plain t low _ s = search rules

pub number_is : (b : List ℕ) (t : ℕ) (low : List ℕ) (v w : Value) → IsLow b t low v → IsNumber t low w → w ≡ v
number_is b t low v w l n =
    stands_one (NameStands b) (NameStands-functional b l.framed) w v t low (number_stands (NameStands b) t low w n) l.stands

-- the value is spelled by the rank of its name
pub record CarriedName (numbers : Columns) (s : Five) (table : IndexKind) (i t : ℕ) (v : Value) : Type 0 where
  pub number : ℕ
  pub at : slice_get (column_of numbers table) i ≡ Some number
  pub appends : (old new : List ℕ) → Appends (Shortest (UnsignedAs t 4)) old new number → Appends (Shortest (SpellsValue (NameRanks s))) old new v

named_appends : (N : ℕ → Name → Type 0) (which : Name) (old new : List ℕ) → Appends (Shortest (IndexAs N (value_type_of which))) old new which → Appends (Shortest (SpellsValue N)) old new (Named which)
named_appends N which old new a = record { bytes = a.bytes; joined = a.joined; spelled = record { spelled = a.spelled.spelled; least = a.spelled.least } }

module _ (b : List ℕ) (numbers : Columns) (s : Five) (ty : NameType) (t : ℕ) (low : List ℕ) (is : name_code ty ≡ t) where
  column_at : (which : Name) (table : IndexKind) (number : ℕ) → kind_of which ≡ table → slice_get (column_of numbers (kind_of which)) (unsigned_of low) ≡ Some number → slice_get (column_of numbers table) (unsigned_of low) ≡ Some number
  column_at which table number e at = subst (λ (k : IndexKind). slice_get (column_of numbers k) (unsigned_of low) ≡ Some number) e at

  of_row : (v : Value) (which : Name) → NamedRow b (table_of_type ty) (unsigned_of low) v → names_of_value v ≡ which ∷ [] → kind_of which ≡ table_of_type ty
  of_row v which r names = let same : r.which ≡ which = (let e = r.names in cc) in ap kind_of (sym same) ∙ r.row.kind

  by : (v : Value) → AreRising s → NamedRow b (table_of_type ty) (unsigned_of low) v → ValueStands (NameStands b) t low v → NamesHold (Carries (NameStands b) (NameRanks s) numbers) v → CarriedName numbers s (table_of_type ty) (unsigned_of low) t v
  by (Named which) up r st c =
      let x = c (unsigned_of low) st.1 in
      record {
        number = x.0;
        at = column_at which (table_of_type ty) x.0 (of_row (Named which) which r refl) x.1;
        appends = λ old new a. named_appends (NameRanks s) which old new (index_appends s (value_type_of which) x.0 which old new up x.2 (subst (λ (k : ℕ). Appends (Shortest (UnsignedAs k 4)) old new x.0) st.0 a));
      }
  by (Enum f) up r st c =
      let x = c (unsigned_of low) st.1 in
      record {
        number = x.0;
        at = column_at (OfField f) (table_of_type ty) x.0 (of_row (Enum f) (OfField f) r refl) x.1;
        appends = λ old new a. enum_appends (NameRanks s) f old new (index_appends s 27 x.0 (OfField f) old new up x.2 (subst (λ (k : ℕ). Appends (Shortest (UnsignedAs k 4)) old new x.0) st.0 a));
      }
  by (Array vs) up r st c = absurd st
  by _ up r st c = let e = r.names in absurd cc

  pub carried_name : (v : Value) → IsLow b t low v → AreRising s → NamesHold (Carries (NameStands b) (NameRanks s) numbers) v → CarriedName numbers s (table_of_type ty) (unsigned_of low) t v
  carried_name v stands up c = by v up (row_of_low b ty t low v is stands) stands.stands c

-- ---- a head alone

alone : (N : ℕ → Name → Type 0) (h k : ℕ) (old new : List ℕ) (v w : Value) → v ≡ w → new ≡ old ++ h ∷ [] → SpellsValue N (h ∷ []) w → ((other : List ℕ) → SpellsValue N other w → other ≡ k ∷ []) → Appends (Shortest (SpellsValue N)) old new v
alone N h k old new v w is joined s only = subst (λ (x : Value). Appends (Shortest (SpellsValue N)) old new x) (sym is) (record {
  bytes = h ∷ [];
  joined = joined;
  spelled = record { spelled = s; least = λ other o. let e = ap length (only other o) in omega (arith, e) };
})

pub lone_appends : (N : ℕ → Name → Type 0) (h : ℕ) (old new : List ℕ) (v : Value) → new ≡ old ++ h ∷ [] → LoneFront (h ∷ []) v → Appends (Shortest (SpellsValue N)) old new v
lone_appends N h old new v joined (BareNull e i) = alone N h 30 old new v Null i joined e (λ other o. o)
lone_appends N h old new v joined (BareFalse e i) = alone N h 31 old new v (Boolean false) i joined e (λ other o. o)
lone_appends N h old new v joined (BareTrue e i) = alone N h 63 old new v (Boolean true) i joined e (λ other o. o)

-- ---- an array

-- the values of an array value, as they are due after its count
abbrev pub inner_carried : (numbers : Columns) (bytes tail : List ℕ) (x : CarriedValue numbers bytes) (n : ℕ) (left : List ℕ) (t : TakenArray (NameStands x.file) tail x.value x.rest) → count_of t.vs ≡ n → t.mid ≡ left → CarriedValues numbers n left
inner_carried numbers bytes tail x n left t count mid = record {
  file = x.file;
  names = x.names;
  all = listed t.vs;
  rest = x.rest;
  framed = x.framed;
  rise = x.rise;
  taken = subst (λ (l : List ℕ). Takes (Many (SpellsValue (NameStands x.file)) n) l (listed t.vs) x.rest) mid (subst (λ (k : ℕ). Takes (Many (SpellsValue (NameStands x.file)) k) t.mid (listed t.vs) x.rest) count t.values);
  carried = subst (λ (ws : Values). AllNamesHold (Carries (NameStands x.file) (NameRanks x.names) numbers) ws) (sym (values-listed t.vs)) (subst (λ (v : Value). NamesHold (Carries (NameStands x.file) (NameRanks x.names) numbers) v) t.value x.carried);
}

pub array_spelled : (N : ℕ → Name → Type 0) (start one two new : List ℕ) (v : Value) (vs : Values) (n : ℕ) → v ≡ Array vs → count_of vs ≡ n → one ≡ start ++ 28 ∷ [] → Appends (Shortest Spells) one two n → Appends (Each (Shortest (SpellsValue N))) two new (listed vs) → Appends (Shortest (SpellsValue N)) start new v
array_spelled N start one two new v vs n is count head c a =
    subst (λ (x : Value). Appends (Shortest (SpellsValue N)) start new x) (ap Array (values-listed vs) ∙ sym is)
    (array_value_appends N one two new n (listed vs) start (length-listed vs ∙ count) head c a)

-- ---- values one after the other

-- what holds of the names of all holds of those of one
pub all_at : (P : Name → Type 0) (vs : List Value) (i : ℕ) → i < length vs → AllNamesHold P (values vs) → NamesHold P (get_or vs i Null)
all_at P [] i lt all = absurd (omega (arith, lt))
all_at P (v ∷ vs) zero lt all = all.0
all_at P (v ∷ vs) (suc i) lt all = all_at P vs i (omega (arith, lt)) all.1

-- those before a place are appended, and those from it on are due
pub record Renumbered (b : List ℕ) (s : Five) (old out left : List ℕ) (turn : ℕ) (vs : List Value) (rest : List ℕ) : Type 0 where
  pub done : Appends (Each (Shortest (SpellsValue (NameRanks s)))) old out (take turn vs)
  pub due : Takes (Each (SpellsValue (NameStands b))) left (drop turn vs) rest

pub renumbered_start : (numbers : Columns) (n : ℕ) (bytes : List ℕ) (x : CarriedValues numbers n bytes) (old : List ℕ) → Renumbered x.file x.names old old bytes 0 x.all x.rest
renumbered_start numbers n bytes x old = record {
  done = Each-appends_none (Shortest (SpellsValue (NameRanks x.names))) old;
  due = due_start (SpellsValue (NameStands x.file)) n bytes x.all x.rest x.taken;
}

module _ (numbers : Columns) (n : ℕ) (bytes : List ℕ) (x : CarriedValues numbers n bytes) (old out left : List ℕ) (turn : ℕ) (r : Renumbered x.file x.names old out left turn x.all x.rest) where
  pub next_due : turn < n → NextDue (SpellsValue (NameStands x.file)) left turn x.all Null x.rest
  next_due lt = let count = x.taken.spelled.0 in due_next (SpellsValue (NameStands x.file)) left turn x.all Null x.rest (omega (arith, lt, count)) r.due

  abbrev pub next_carried : turn < n → NextDue (SpellsValue (NameStands x.file)) left turn x.all Null x.rest → CarriedValue numbers left
  next_carried lt d =
      let count = x.taken.spelled.0 in
      record { file = x.file; names = x.names; value = get_or x.all turn Null; rest = d.mid; framed = x.framed; rise = x.rise; taken = d.one; carried = all_at (Carries (NameStands x.file) (NameRanks x.names) numbers) x.all turn (omega (arith, lt, count)) x.carried }

  pub renumbered_next : turn < n → (d : NextDue (SpellsValue (NameStands x.file)) left turn x.all Null x.rest) (after new : List ℕ) → after ≡ d.mid → Appends (Shortest (SpellsValue (NameRanks x.names))) out new (get_or x.all turn Null) → Renumbered x.file x.names old new after (turn + 1) x.all x.rest
  renumbered_next lt d after new follows a =
      let count = x.taken.spelled.0 in record {
        done = subst (λ (ws : List Value). Appends (Each (Shortest (SpellsValue (NameRanks x.names)))) old new ws) (sym (take_more x.all turn Null (omega (arith, lt, count))))
            (Each-appends_more (Shortest (SpellsValue (NameRanks x.names))) old out new (take turn x.all) (get_or x.all turn Null) r.done a);
        due = subst (λ (l : List ℕ). Takes (Each (SpellsValue (NameStands x.file))) l (drop (turn + 1) x.all) x.rest) (sym follows) d.more;
      }

  pub renumbered_end : n ≤ turn → Appends (Each (Shortest (SpellsValue (NameRanks x.names)))) old out x.all × (left ≡ x.rest)
  renumbered_end le =
      let count = x.taken.spelled.0 in
      let all : length x.all ≤ turn = omega (arith, le, count) in (
        subst (λ (ws : List Value). Appends (Each (Shortest (SpellsValue (NameRanks x.names)))) old out ws) (take_all turn x.all all) r.done,
        due_end (SpellsValue (NameStands x.file)) left turn x.all x.rest all r.due,
      )

-- ---- indices

-- the number that was looked up
pub number_at : (numbers : Columns) (table index_kind : IndexKind) (i j n m : ℕ) → index_kind ≡ table → j ≡ i → slice_get (column_of numbers index_kind) j ≡ Some m → slice_get (column_of numbers table) i ≡ Some n → m ≡ n
number_at numbers table index_kind i j n m same at there here =
    some_inj m n (sym (subst (λ (k : IndexKind). slice_get (column_of numbers k) i ≡ Some m) same (subst (λ (k : ℕ). slice_get (column_of numbers index_kind) k ≡ Some m) at there)) ∙ here)

-- it can be looked up
pub index_within : (numbers : Columns) (table index_kind : IndexKind) (i j n : ℕ) → index_kind ≡ table → j ≡ i → slice_get (column_of numbers table) i ≡ Some n → j < length (column_of numbers index_kind)
index_within numbers table index_kind i j n same at here =
    subst (λ (k : ℕ). k < length (column_of numbers index_kind)) (sym at) (subst (λ (k : IndexKind). i < length (column_of numbers k)) (sym same) (slice_get_within (column_of numbers table) i n here))

-- ---- an array of a class

abbrev pub values_carried : (b : List ℕ) (off : ℕ) (numbers : Columns) (s : Five) (vs : List Value) (n : ℕ) (bytes left mid rest : List ℕ) → IsFramed b → IsCarriedArray b off numbers s vs → Takes Spells bytes (length vs) mid → Takes Spells bytes n left → Takes (Many (SpellsValue (NameStands b)) (length vs)) mid vs rest → CarriedValues numbers n left
values_carried b off numbers s vs n bytes left mid rest framed x p q t = record {
  file = b;
  names = s;
  all = vs;
  rest = rest;
  framed = framed;
  rise = x.rise;
  taken = values_due (NameStands b) bytes (length vs) n mid left vs rest p q t;
  carried = x.carried;
}

pub no_item : (N : ℕ → Name → Type 0) (bytes : List ℕ) (vs : List Value) → length vs ≡ 0 → bytes ≡ [] → IsItemOf N bytes vs
no_item N bytes [] none e = e
no_item N bytes (v ∷ vs) none e = absurd (omega (arith, none))

item_of : (N : ℕ → Name → Type 0) (bytes : List ℕ) (vs : List Value) → (length vs ≡ 0 → ⊥) → Shortest (SpellsArray N) bytes vs → IsItemOf N bytes vs
item_of N bytes [] some s = absurd (some refl)
item_of N bytes (v ∷ vs) some s = s

pub item_is : (N : ℕ → Name → Type 0) (old mid new : List ℕ) (n : ℕ) (vs : List Value) → old ≡ [] → length vs ≡ n → (n ≡ 0 → ⊥) → Appends (Shortest Spells) old mid n → Appends (Each (Shortest (SpellsValue N))) mid new vs → IsItemOf N new vs
item_is N old mid new n vs none count some c a =
    let x = array_appends N old mid new n vs count c a in
    let whole : x.bytes ≡ new = sym (x.joined ∙ ap (λ l. l ++ x.bytes) none) in
    item_of N new vs (λ e. some (sym count ∙ e)) (subst (λ (l : List ℕ). Shortest (SpellsArray N) l vs) whole x.spelled)
