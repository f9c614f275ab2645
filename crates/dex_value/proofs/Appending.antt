-- What writing appends.
use Rattle.std.proofs.Common.{◌≡◌, ℕ, ◌+◌, ◌^◌, ◌<◌, ◌≤◌, List, [], ◌∷◌, ◌++◌, length, take, get_or, map, refl, sym, ap, subst, ◌∙◌, append_assoc, arith}
use Rattle.std.proofs.lemmas.List.{length-append, length-map, map-append, take_more}
use Rattle.dex_base.specs.Grammar.{Appends, Each}
use Rattle.dex_base.specs.Leb128.{Spells, Shortest}
use Rattle.dex_base.proofs.GrammarLaws.{Each-appends_more}
use Rattle.program_types.specs.Content.{Name, OfField, FieldRef, Value, Float, Enum, Array, Values, more_values, values}
use Rattle.program_types.specs.declared.value.Value as made
use Rattle.program_types.specs.View.{value}
use Rattle.tables_names.specs.Closure.{Five, AreRising, NameRanks}
use Rattle.tables_names.proofs.PlaceLemmas.{rank_one}
use Rattle.dex_value.specs.Spelling.{unsigned_of, SpellsValue, SpellsArray, count_of}
use Rattle.program_types.specs.Mentions.{NamesHold, AllNamesHold}
use Rattle.dex_value.specs.Named.{IsRanked}
use Rattle.dex_value.specs.Counts.{CountsFit, AllCountsFit}
use Rattle.dex_value.specs.Wide.{wide_value, wide_values}
use Rattle.dex_value.specs.Writing.{UnsignedAs}
use Rattle.dex_value.specs.inner.Writing.{HighAs, IndexAs}
use Rattle.dex_value.proofs.Lists.{count_of-values, each-values, values-each}
use Rattle.program_types.proofs.Nesting.{from, from_next}

-- ---- one value

-- the shortest spelling of its rank is that of a name
pub index_appends : (s : Five) (code i : ℕ) (which : Name) (old new : List ℕ) → AreRising s → NameRanks s i which → Appends (Shortest (UnsignedAs code 4)) old new i → Appends (Shortest (IndexAs (NameRanks s) code)) old new which
index_appends s code i which old new rise n a =
    let p = a.spelled.spelled in
    record {
      bytes = a.bytes;
      joined = a.joined;
      spelled = record {
        spelled = record { low = p.low; some = p.some; few = p.few; bytes = p.bytes; joined = p.joined; means = subst (λ (j : ℕ). NameRanks s j which) p.means n };
        least = λ other o. a.spelled.least other
            (record { low = o.low; some = o.some; few = o.few; bytes = o.bytes; joined = o.joined; means = rank_one s i (unsigned_of o.low) which rise n o.means });
      };
    }

pub float_appends : (N : ℕ → Name → Type 0) (bits : ℕ) (old new : List ℕ) → Appends (Shortest (HighAs 16 4)) old new bits → Appends (Shortest (SpellsValue N)) old new (Float bits)
float_appends N bits old new a = record { bytes = a.bytes; joined = a.joined; spelled = record { spelled = a.spelled.spelled; least = a.spelled.least } }

pub enum_appends : (N : ℕ → Name → Type 0) (f : FieldRef) (old new : List ℕ) → Appends (Shortest (IndexAs N 27)) old new (OfField f) → Appends (Shortest (SpellsValue N)) old new (Enum f)
enum_appends N f old new a = record { bytes = a.bytes; joined = a.joined; spelled = record { spelled = a.spelled.spelled; least = a.spelled.least } }

-- ---- values

-- the values before a place are written, and those from it on can be
pub record Writing (s : Five) (old out : List ℕ) (xs : List made.Value) (i : ℕ) : Type 0 where
  pub done : Appends (Each (Shortest (SpellsValue (NameRanks s)))) old out (map value (take i xs))
  pub named : AllNamesHold (IsRanked s) (from xs i)
  pub counts : AllCountsFit (from xs i)
  pub less : wide_values (from xs i) ≤ wide_values (values (map value xs))

pub next_named : (P : Name → Type 0) (xs : List made.Value) (i : ℕ) (d : made.Value) → i < length xs → AllNamesHold P (from xs i) → NamesHold P (value (get_or xs i d)) × AllNamesHold P (from xs (i + 1))
next_named P xs i d some h = let t : AllNamesHold P (more_values (value (get_or xs i d)) (from xs (i + 1))) = subst (λ (vs : Values). AllNamesHold P vs) (from_next xs i d some) h in (t.0, t.1)

pub next_counts : (xs : List made.Value) (i : ℕ) (d : made.Value) → i < length xs → AllCountsFit (from xs i) → CountsFit (value (get_or xs i d)) × AllCountsFit (from xs (i + 1))
next_counts xs i d some h = let t : AllCountsFit (more_values (value (get_or xs i d)) (from xs (i + 1))) = subst (λ (vs : Values). AllCountsFit vs) (from_next xs i d some) h in (t.0, t.1)

pub next_wide : (xs : List made.Value) (i : ℕ) (d : made.Value) → i < length xs → wide_values (from xs i) ≡ wide_value (value (get_or xs i d)) + wide_values (from xs (i + 1))
next_wide xs i d some = ap wide_values (from_next xs i d some)

pub writing_next : (s : Five) (old mid new : List ℕ) (xs : List made.Value) (i : ℕ) (d : made.Value) → i < length xs → Writing s old mid xs i → Appends (Shortest (SpellsValue (NameRanks s))) mid new (value (get_or xs i d)) → Writing s old new xs (i + 1)
writing_next s old mid new xs i d some w a = record {
  done = subst (λ (vs : List Value). Appends (Each (Shortest (SpellsValue (NameRanks s)))) old new vs) (sym (map-append value (take i xs) (get_or xs i d ∷ [])) ∙ ap (map value) (sym (take_more xs i d some)))
      (Each-appends_more (Shortest (SpellsValue (NameRanks s))) old mid new (map value (take i xs)) (value (get_or xs i d)) w.done a);
  named = (next_named (IsRanked s) xs i d some w.named).1;
  counts = (next_counts xs i d some w.counts).1;
  less = let e = next_wide xs i d some in let h = w.less in omega (arith, e, h);
}

-- a value of the list takes at most what all take
pub one_wide : (s : Five) (old out : List ℕ) (xs : List made.Value) (i : ℕ) (d : made.Value) → i < length xs → Writing s old out xs i → wide_value (value (get_or xs i d)) ≤ wide_values (values (map value xs))
one_wide s old out xs i d some w = let e = next_wide xs i d some in let h = w.less in omega (arith, e, h)

-- ---- arrays

-- an inner array's count, as the number of its values in memory
pub counted : (xs : List made.Value) → count_of (values (map value xs)) < 2 ^ 32 → length xs < 2 ^ 32
counted xs fits =
    let e : count_of (values (map value xs)) ≡ length xs = count_of-values (map value xs) ∙ length-map xs value in
    omega (arith, e, fits)

-- each is the shortest, so are all together
each_least : {V : Type 0} (G : List ℕ → V → Type 0) (vs : List V) (a b : List ℕ) → Each (Shortest G) a vs → Each G b vs → length a ≤ length b
each_least G [] a b p q = let e = ap length p in omega (arith, e)
each_least G (v ∷ vs) a b p q =
    let first = p.3.least q.0 q.3 in
    let rest = each_least G vs p.1 q.1 p.4 q.4 in
    let i = ap length p.2 ∙ length-append p.0 p.1 in
    let j = ap length q.2 ∙ length-append q.0 q.1 in
    omega (arith, first, rest, i, j)

each_spelled : {V : Type 0} (G : List ℕ → V → Type 0) (vs : List V) (a : List ℕ) → Each (Shortest G) a vs → Each G a vs
each_spelled G [] a p = p
each_spelled G (v ∷ vs) a p = (p.0, p.1, p.2, p.3.spelled, each_spelled G vs p.1 p.4)

module _ (N : ℕ → Name → Type 0) (old mid new : List ℕ) (n : ℕ) (vs : List Value) where
  -- a count and values, each the shortest, are the shortest array
  pub array_appends : length vs ≡ n → Appends (Shortest Spells) old mid n → Appends (Each (Shortest (SpellsValue N))) mid new vs → Appends (Shortest (SpellsArray N)) old new vs
  array_appends len c a = record {
    bytes = c.bytes ++ a.bytes;
    joined = a.joined ∙ ap (λ l. l ++ a.bytes) c.joined ∙ append_assoc old c.bytes a.bytes;
    spelled = record {
      spelled = record { front = c.bytes; back = a.bytes; joined = refl; first = subst (λ (k : ℕ). Spells c.bytes k) (sym len) c.spelled.spelled; second = (refl, each_spelled (SpellsValue N) vs a.bytes a.spelled) };
      least = λ other o.
          let count = c.spelled.least o.front (subst (λ (k : ℕ). Spells o.front k) len o.first) in
          let back = each_least (SpellsValue N) vs a.bytes o.back a.spelled o.second.1 in
          let i = length-append c.bytes a.bytes in
          let j = ap length o.joined ∙ length-append o.front o.back in
          omega (arith, count, back, i, j);
    };
  }

  -- the same after the head of an array value
  pub array_value_appends : (start : List ℕ) → length vs ≡ n → old ≡ start ++ 28 ∷ [] → Appends (Shortest Spells) old mid n → Appends (Each (Shortest (SpellsValue N))) mid new vs → Appends (Shortest (SpellsValue N)) start new (Array (values vs))
  array_value_appends start len head c a =
      let x = array_appends len c a in
      let s = x.spelled.spelled in
      let count = count_of-values vs in
      record {
        bytes = 28 ∷ x.bytes;
        joined = x.joined ∙ ap (λ l. l ++ x.bytes) head ∙ append_assoc start (28 ∷ []) x.bytes;
        spelled = record {
          spelled = (x.bytes, refl, record { count = s.front; back = s.back; joined = s.joined; counted = subst (λ (k : ℕ). Spells s.front k) (sym count) s.first; means = each-values N vs s.back s.second.1 });
          least = λ other o.
              let b = o.2 in
              let k = x.spelled.least o.0 (record { front = b.count; back = b.back; joined = b.joined; first = subst (λ (k : ℕ). Spells b.count k) count b.counted; second = (refl, values-each N vs b.back b.means) }) in
              let e = ap length o.1 in
              omega (arith, k, e);
        };
      }
