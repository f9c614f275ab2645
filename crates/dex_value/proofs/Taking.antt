-- What is read is spelled so.
use Rattle.std.proofs.Common.{◌≡◌, ℕ, zero, suc, inl, ◌+◌, ◌*◌, ◌-◌, ◌/◌, ◌%◌, ◌<◌, ◌≤◌, List, [], ◌∷◌, ◌++◌, length, slice_index, lit<, take, drop, refl, sym, ap, subst, ◌∙◌, arith, append_assoc}
use Rattle.std.proofs.lemmas.List.{take-append-drop, length-take-le}
use Rattle.std.specs.List.{AllByRecursion}
use Rattle.dex_base.specs.Grammar.{Begins, Takes, Each, Many}
use Rattle.dex_base.specs.Leb128.{Spells}
use Rattle.dex_base.specs.declared.fault.Fault.{Fault}
use Rattle.dex_base.proofs.TakesLaws.{Takes-from_begins, Takes-counted}
use Rattle.program_types.specs.Content.{Name, Value, Array, values}
use Rattle.program_types.specs.Depth.{depth}
use Rattle.dex_value.specs.Spelling.{SpellsValue, SpellsArray}
use Rattle.dex_value.specs.Standing.{Shallow}
use Rattle.dex_value.specs.Faults.{widest_of, OwnBreaks, ValueBreaks}
use Rattle.dex_value.specs.inner.Reading.{ValueStands}
use Rattle.dex_value.proofs.Lists.{each-values, each-depth, each-deep, each-spelled, count_of-values}
use Rattle.dex_value.proofs.Fronts.{stands_spells}

-- the bytes of a front are bytes
bytes_front : (n : ℕ) (rest : List ℕ) → ((i : ℕ) → slice_index rest i < 256) → (i : ℕ) → slice_index (take n rest) i < 256
bytes_front zero rest h i = lit< tt
bytes_front (suc n) [] h i = lit< tt
bytes_front (suc n) (b ∷ rest) h zero = h 0
bytes_front (suc n) (b ∷ rest) h (suc i) = bytes_front n rest (λ j. h (suc j)) i

module _ (N : ℕ → Name → Type 0) where
  -- a value that is no array stands within any limit
  flat : (limit : ℕ) (bytes front rest : List ℕ) (v : Value) → bytes ≡ front ++ rest → SpellsValue N front v → depth v ≡ 0 → Takes (Shallow N limit) bytes v rest
  flat limit bytes front rest v whole s d = record { front = front; whole = whole; spelled = record { spelled = s; deep = omega arith } }

  stands_flat : (t : ℕ) (low : List ℕ) (v : Value) → ValueStands N t low v → depth v ≡ 0
  stands_flat t low (Array vs) s = absurd s
  stands_flat t low _ s = refl

  pub takes_sized : (limit head : ℕ) (bytes rest low after : List ℕ) (v : Value) → bytes ≡ head ∷ rest → low ≡ take (head / 32 + 1) rest → after ≡ drop (head / 32 + 1) rest → head / 32 + 1 ≤ length rest → ((i : ℕ) → slice_index rest i < 256)
      → head / 32 + 1 ≤ widest_of (head % 32) → ValueStands N (head % 32) low v → Takes (Shallow N limit) bytes v after
  takes_sized limit head bytes rest low after v first front back enough small few s =
      let len : length low ≡ head / 32 + 1 = ap length front ∙ length-take-le (head / 32 + 1) rest enough in
      let one : head ≡ 32 * (length low - 1) + head % 32 = omega arith in
      let joined : head ∷ low ≡ (32 * (length low - 1) + head % 32) ∷ low = ap (λ h. h ∷ low) one in
      flat limit bytes (head ∷ low) after v
      (first ∙ ap (λ l. head ∷ l) (sym (take-append-drop (head / 32 + 1) rest) ∙ (λ i. sym front i ++ sym back i)))
      (stands_spells N (head ∷ low) v (head % 32) low s (subst (λ (l : List ℕ). (i : ℕ) → slice_index l i < 256) (sym front) (bytes_front (head / 32 + 1) rest small)) (omega arith) (omega arith) joined)
      (stands_flat (head % 32) low v s)

  pub takes_alone : (limit head : ℕ) (bytes rest : List ℕ) (v : Value) → bytes ≡ head ∷ rest → SpellsValue N (head ∷ []) v → depth v ≡ 0 → Takes (Shallow N limit) bytes v rest
  takes_alone limit head bytes rest v first s d = flat limit bytes (head ∷ []) rest v first s d

  pub takes_array : (limit n len : ℕ) (bytes rest left after : List ℕ) (vs : List Value) → 0 < limit → bytes ≡ 28 ∷ rest → Begins Spells rest n len → left ≡ drop len rest
      → Takes (Many (Shallow N (limit - 1)) n) left vs after → Takes (Shallow N limit) bytes (Array (values vs)) after
  takes_array limit n len bytes rest left after vs some first count back t =
      let each = t.spelled.1 in
      let d = each-depth N (limit - 1) t.front vs each in
      record {
        front = 28 ∷ (take len rest ++ t.front);
        whole = first ∙ ap (λ l. 28 ∷ l) (sym (take-append-drop len rest) ∙ ap (λ l. take len rest ++ l) (sym back ∙ t.whole) ∙ sym (append_assoc (take len rest) t.front after));
        spelled = record {
          spelled = (
            take len rest ++ t.front,
            refl,
            record {
              count = take len rest;
              back = t.front;
              joined = refl;
              counted = subst (λ (k : ℕ). Spells (take len rest) k) (sym t.spelled.0 ∙ sym (count_of-values vs)) count.spelled;
              means = each-values N vs t.front (each-spelled N (limit - 1) t.front vs each);
            },
          );
          deep = omega (arith, d);
        };
      }

  pub takes_static : (n len limit : ℕ) (bytes left after : List ℕ) (vs : List Value) → Begins Spells bytes n len → left ≡ drop len bytes → Takes (Many (Shallow N limit) n) left vs after → Takes (SpellsArray N) bytes vs after
  takes_static n len limit bytes left after vs count back t =
      let whole : drop len bytes ≡ t.front ++ after = sym back ∙ t.whole in
      Takes-counted Spells (SpellsValue N) bytes (drop len bytes) after vs
      (subst (λ (k : ℕ). Takes Spells bytes k (drop len bytes)) (sym t.spelled.0) (Takes-from_begins Spells bytes n len count))
      (record { front = t.front; whole = whole; spelled = each-spelled N limit t.front vs t.spelled.1 })

  pub takes_count : (n limit : ℕ) (left after : List ℕ) (vs : List Value) → Takes (Many (Shallow N limit) n) left vs after → length vs ≡ n
  takes_count n limit left after vs t = t.spelled.0

  pub takes_deep : (n limit : ℕ) (left after : List ℕ) (vs : List Value) → Takes (Many (Shallow N limit) n) left vs after → AllByRecursion (λ v. depth v ≤ limit) vs
  takes_deep n limit left after vs t = each-deep N limit t.front vs t.spelled.1

-- so many values, one after the other
pub takes_many : {V : Type 0} (G : List ℕ → V → Type 0) (n : ℕ) (bytes left : List ℕ) (vs : List V) → length vs ≡ n → Takes (Each G) bytes vs left → Takes (Many G n) bytes vs left
takes_many G n bytes left vs len t = record { front = t.front; whole = t.whole; spelled = (len, t.spelled) }

-- what is wrong with the value itself
pub own_breaks : (N : ℕ → Name → Type 0) (off end limit : ℕ) (bytes : List ℕ) (fault : Fault) → OwnBreaks N off end limit bytes fault → ValueBreaks N off end limit bytes fault
own_breaks N off end zero bytes fault u = u
own_breaks N off end (suc limit) bytes fault u = inl u
