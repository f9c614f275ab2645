-- The value at the front of bytes, by the first of them.
use Rattle.std.proofs.Common.{◌≡◌, ℕ, suc, ◌+◌, ◌*◌, ◌-◌, ◌/◌, ◌%◌, ◌<◌, ◌≤◌, ◌⊎◌, inl, inr, List, [], ◌∷◌, ◌++◌, length, take, drop, get_or, refl, sym, ap, subst, ◌∙◌, arith, append_assoc}
use Rattle.std.proofs.Math.Seq.{drop-cons}
use Rattle.std.proofs.lemmas.List.{take_at, drop_at, drop_all, length-append, length-take-le}
use Rattle.dex_base.specs.Grammar.{Takes, Each, Many}
use Rattle.dex_base.specs.Leb128.{Spells}
use Rattle.dex_base.proofs.TakesLaws.{Then-takes, Each-takes_first}
use Rattle.dex_container.specs.Frame.{IsFramed}
use Rattle.tables_rows.specs.Stands.{NameStands}
use Rattle.file_renumber.specs.inner.ValueWalks.{IsLow}
use Rattle.program_types.specs.Content.{Name, Value, Array, Values, no_values, more_values}
use Rattle.dex_value.specs.Faults.{widest_of}
use Rattle.dex_value.specs.inner.Reading.{ValueStands}
use Rattle.dex_value.specs.Spelling.{SpellsValue, SpellsValues, SpellsArray, count_of}
use Rattle.dex_value.proofs.Fronts.{SizedFront, LoneFront, Front, front}
use Rattle.dex_value.proofs.FrontLaws.{cons_head, first_of_lone, sized_not_array, sized_not_lone}
use Rattle.dex_value.proofs.Lists.{length-listed}
use Rattle.dex_base.proofs.ListFacts.{number_one}
use Rattle.program_types.proofs.Nesting.{listed}

-- the head of a value without bytes after it
abbrev pub IsLone : ℕ → Type 0
IsLone h = (h ≡ 30) ⊎ (h ≡ 31) ⊎ (h ≡ 63)

-- an array, a number of values and these
pub record TakenArray (N : ℕ → Name → Type 0) (tail : List ℕ) (v : Value) (rest : List ℕ) : Type 0 where
  pub vs : Values
  pub value : v ≡ Array vs
  pub mid : List ℕ
  pub counted : Takes Spells tail (count_of vs) mid
  pub values : Takes (Many (SpellsValue N) (count_of vs)) mid (listed vs) rest

-- a value of bytes after its head
pub record TakenLow (N : ℕ → Name → Type 0) (h : ℕ) (tail : List ℕ) (v : Value) (rest : List ℕ) : Type 0 where
  pub long : h / 32 + 1 ≤ length tail
  pub few : h / 32 + 1 ≤ widest_of (h % 32)
  pub stands : ValueStands N (h % 32) (take (h / 32 + 1) tail) v
  pub follows : drop (h / 32 + 1) tail ≡ rest

-- the content's own list of values as a list
each_listed : (N : ℕ → Name → Type 0) (bytes : List ℕ) (vs : Values) → SpellsValues N bytes vs → Each (SpellsValue N) bytes (listed vs)
each_listed N bytes no_values s = s
each_listed N bytes (more_values v vs) s = (s.0, s.1, s.2, s.3, each_listed N s.1 vs s.4)

module _ (N : ℕ → Name → Type 0) (h : ℕ) (bytes tail rest : List ℕ) (v : Value) (first : bytes ≡ h ∷ tail) (t : Takes (SpellsValue N) bytes v rest) where
  -- what the front begins with is what the bytes begin with
  heads : (k : ℕ) (more : List ℕ) → t.front ≡ k ∷ more → (h ≡ k) × (tail ≡ more ++ rest)
  heads k more e = cons_head h k tail (more ++ rest) (sym first ∙ t.whole ∙ ap (λ l. l ++ rest) e)

  pub taken_array : h ≡ 28 → TakenArray N tail v rest
  taken_array is = by (front N t.front v t.spelled)
    where
      by : Front N t.front v → TakenArray N tail v rest
      by (inl p) = absurd (sized_not_array (length p.low - 1) p.type p.small (sym (heads (32 * (length p.low - 1) + p.type) p.low p.joined).0 ∙ is))
      by (inr (inl p)) =
          let b = p.after in
          let e = (heads 28 p.text p.joined).1 in
          record {
            vs = p.vs;
            value = p.value;
            mid = b.back ++ rest;
            counted = record { front = b.count; whole = e ∙ ap (λ l. l ++ rest) b.joined ∙ append_assoc b.count b.back rest; spelled = b.counted };
            values = record { front = b.back; whole = refl; spelled = (length-listed p.vs, each_listed N b.back p.vs b.means) };
          }
      by (inr (inr p)) =
          let f = first_of_lone t.front v p in
          let e = (heads f.0 [] f.1).0 in
          let big = f.2 in
          absurd (omega (arith, e, is, big))

  pub taken_lone : IsLone h → LoneFront (h ∷ []) v × (tail ≡ rest)
  taken_lone is = by (front N t.front v t.spelled)
    where
      by : Front N t.front v → LoneFront (h ∷ []) v × (tail ≡ rest)
      by (inl p) = absurd (sized_not_lone (length p.low - 1) p.type h p.small is (sym (heads (32 * (length p.low - 1) + p.type) p.low p.joined).0))
      by (inr (inl p)) = let e = (heads 28 p.text p.joined).0 in absurd (grind arith)
      by (inr (inr p)) =
          let f = first_of_lone t.front v p in
          let e = heads f.0 [] f.1 in
          (subst (λ (l : List ℕ). LoneFront l v) (f.1 ∙ ap (λ k. k ∷ []) (sym e.0)) p, e.1)

  pub taken_low : (h ≡ 28 → ⊥) → (IsLone h → ⊥) → TakenLow N h tail v rest
  taken_low not_array not_lone = by (front N t.front v t.spelled)
    where
      low : SizedFront N t.front v → TakenLow N h tail v rest
      low p =
          let e = heads (32 * (length p.low - 1) + p.type) p.low p.joined in
          let is = e.0 in
          let some = p.some in
          let small = p.small in
          let few = p.few in
          let type : h % 32 ≡ p.type = omega (arith, is, small) in
          let size : h / 32 + 1 ≡ length p.low = omega (arith, is, small, some) in
          let long : length tail ≡ length p.low + length rest = ap length e.1 ∙ length-append p.low rest in
          record {
            long = omega (arith, size, long);
            few = subst (λ (k : ℕ). h / 32 + 1 ≤ widest_of k) (sym type) (omega (arith, size, few));
            stands = subst (λ (k : ℕ). ValueStands N k (take (h / 32 + 1) tail) v) (sym type)
                (subst (λ (l : List ℕ). ValueStands N p.type l v) (sym (ap (take (h / 32 + 1)) e.1 ∙ take_at p.low rest (h / 32 + 1) (sym size))) p.stands);
            follows = ap (drop (h / 32 + 1)) e.1 ∙ drop_at p.low rest (h / 32 + 1) (sym size);
          }

      by : Front N t.front v → TakenLow N h tail v rest
      by (inl p) = low p
      by (inr (inl p)) = absurd (not_array (heads 28 p.text p.joined).0)
      by (inr (inr p)) =
          let f = first_of_lone t.front v p in
          absurd (not_lone (subst (λ (k : ℕ). IsLone k) (sym (heads f.0 [] f.1).0) f.3))

-- a value has its first byte
pub taken_some : (N : ℕ → Name → Type 0) (bytes rest : List ℕ) (v : Value) → Takes (SpellsValue N) bytes v rest → length bytes ≡ 0 → ⊥
taken_some N bytes rest v t none = by (front N t.front v t.spelled)
  where
    empty : (k : ℕ) (more : List ℕ) → t.front ≡ k ∷ more → ⊥
    empty k more e = let x : length bytes ≡ suc (length (more ++ rest)) = ap length (t.whole ∙ ap (λ l. l ++ rest) e) in omega (arith, x, none)

    by : Front N t.front v → ⊥
    by (inl p) = empty (32 * (length p.low - 1) + p.type) p.low p.joined
    by (inr (inl p)) = empty 28 p.text p.joined
    by (inr (inr p)) = let f = first_of_lone t.front v p in empty f.0 [] f.1

-- the bytes after the head of such a value
pub low_of : (b : List ℕ) (h : ℕ) (tail low : List ℕ) (v : Value) (rest : List ℕ) → IsFramed b → low ≡ take (h / 32 + 1) tail → TakenLow (NameStands b) h tail v rest → IsLow b (h % 32) low v
low_of b h tail low v rest framed is t =
    let long = t.long in
    let few = t.few in
    let size : length low ≡ h / 32 + 1 = ap length is ∙ length-take-le (h / 32 + 1) tail long in
    record {
      framed = framed;
      some = omega (arith, size);
      few = omega (arith, size, few);
      stands = subst (λ (l : List ℕ). ValueStands (NameStands b) (h % 32) l v) (sym is) t.stands;
    }

-- an array is a number of values and these
pub array_parts : (N : ℕ → Name → Type 0) (bytes : List ℕ) (vs : List Value) (rest : List ℕ) → Takes (SpellsArray N) bytes vs rest → (mid : List ℕ) × Takes Spells bytes (length vs) mid × Takes (Many (SpellsValue N) (length vs)) mid vs rest
array_parts N bytes vs rest t = Then-takes Spells (Many (SpellsValue N)) bytes rest (length vs, vs) (record { front = t.front; whole = t.whole; spelled = t.spelled })

-- the values that are due after a number that was read
pub values_due : (N : ℕ → Name → Type 0) (bytes : List ℕ) (m n : ℕ) (mid left : List ℕ) (vs : List Value) (rest : List ℕ) → Takes Spells bytes m mid → Takes Spells bytes n left → Takes (Many (SpellsValue N) m) mid vs rest → Takes (Many (SpellsValue N) n) left vs rest
values_due N bytes m n mid left vs rest p q t =
    let one = number_one bytes m n mid left p q in
    subst (λ (l : List ℕ). Takes (Many (SpellsValue N) n) l vs rest) one.1 (subst (λ (k : ℕ). Takes (Many (SpellsValue N) k) mid vs rest) one.0 t)

-- ---- what is due, one after the other

module _ {V : Type 0} (G : List ℕ → V → Type 0) where
  pub due_start : (n : ℕ) (bytes : List ℕ) (vs : List V) (rest : List ℕ) → Takes (Many G n) bytes vs rest → Takes (Each G) bytes vs rest
  due_start n bytes vs rest t = record { front = t.front; whole = t.whole; spelled = t.spelled.1 }

  pub record NextDue (left : List ℕ) (turn : ℕ) (vs : List V) (d : V) (rest : List ℕ) : Type 0 where
    pub mid : List ℕ
    pub one : Takes G left (get_or vs turn d) mid
    pub more : Takes (Each G) mid (drop (turn + 1) vs) rest

  pub due_next : (left : List ℕ) (turn : ℕ) (vs : List V) (d : V) (rest : List ℕ) → turn < length vs → Takes (Each G) left (drop turn vs) rest → NextDue left turn vs d rest
  due_next left turn vs d rest lt t =
      let x = Each-takes_first G left rest (get_or vs turn d) (drop (suc turn) vs) (subst (λ (ws : List V). Takes (Each G) left ws rest) (drop-cons vs turn d lt) t) in
      record {
        mid = x.0;
        one = x.1;
        more = (let e : suc turn ≡ turn + 1 = omega arith in subst (λ (k : ℕ). Takes (Each G) x.0 (drop k vs) rest) e x.2);
      }

  none_left : (left rest : List ℕ) (vs : List V) → vs ≡ [] → Takes (Each G) left vs rest → left ≡ rest
  none_left left rest [] e t = t.whole ∙ ap (λ l. l ++ rest) t.spelled
  none_left left rest (v ∷ vs) e t = absurd cc

  pub due_end : (left : List ℕ) (turn : ℕ) (vs : List V) (rest : List ℕ) → length vs ≤ turn → Takes (Each G) left (drop turn vs) rest → left ≡ rest
  due_end left turn vs rest le t = none_left left rest (drop turn vs) (drop_all turn vs le) t

-- what follows is no longer
pub taken_short : {V : Type 0} (G : List ℕ → V → Type 0) (bytes : List ℕ) (v : V) (rest : List ℕ) → Takes G bytes v rest → length rest ≤ length bytes
taken_short G bytes v rest t = let e = ap length t.whole ∙ length-append t.front rest in omega (arith, e)
