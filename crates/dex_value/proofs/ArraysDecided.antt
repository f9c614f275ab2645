-- At a place of a file an array stands, or a fault does.
use Rattle.std.proofs.Common.{◌≡◌, ℕ, zero, suc, ◌+◌, ◌-◌, ◌/◌, ◌%◌, ◌<◌, ◌≤◌, ◌==◌, ◌⊎◌, inl, inr, Bool, true, false, List, [], ◌∷◌, ◌++◌, length, take, drop, refl, sym, ap, ◌∙◌, subst, arith, lit≤}
use Rattle.std.specs.Prelude.{if◌then◌else◌}
use Rattle.std.proofs.lemmas.Bool.{cases_lt, cases_eq}
use Rattle.std.proofs.lemmas.Bool.Decides.{Decides-eqb}
use Rattle.dex_base.specs.declared.fault.Fault.{Fault}
use Rattle.dex_base.specs.Grammar.{Takes, Each}
use Rattle.dex_base.specs.Leb128.{Spells}
use Rattle.dex_base.proofs.TakesLaws.{Begins-from_takes, NoneBegins-from_takes, Takes-each_none, Takes-each_first}
use Rattle.dex_container.specs.Frame.{IsFramed}
use Rattle.dex_container.specs.Layout.{size_of}
use Rattle.dex_container.proofs.Framed.{IsSection-one}
use Rattle.program_types.specs.Content.{Name, OfText, OfDesc, OfField, OfMethod, Value, Byte, Short, Char, Int, Long, Float, Double, Named, Enum, Array, Null, Boolean, values}
use Rattle.program_types.specs.Depth.{most_depth}
use Rattle.dex_container.specs.Where.{IsInSection}
use Rattle.tables_rows.specs.Sorted.{TablesHold}
use Rattle.tables_rows.specs.Stands.{NameStands}
use Rattle.dex_container.proofs.Standing.{mod_one}
use Rattle.dex_base.proofs.Deciding.{decide_uleb}
use Rattle.dex_container.proofs.PlacesDecided.{HasSection, decide_section, found_at}
use Rattle.dex_value.specs.Spelling.{unsigned_of, signed_of, high_of, value_type_of, SpellsArray}
use Rattle.dex_value.specs.Standing.{Shallow}
use Rattle.dex_value.specs.Faults.{widest_of, IsSizedHead, IsNameOfType, OwnBreaks, NextBreaks, ValueBreaks, ArrayBreaks, values_fault, kind_fault, depth_fault}
use Rattle.dex_value.specs.inner.Reading.{ValueStands}
use Rattle.dex_value.proofs.Taking.{takes_sized, takes_alone, takes_array, takes_static, takes_deep, takes_many, own_breaks}
use Rattle.dex_base.specs.Fields.{AreBytes}
use Rattle.dex_value.specs.FileArrays.{ArrayIsDecided}
use Rattle.dex_base.proofs.ListFacts.{take_bytes}
use Rattle.dex_base.proofs.FieldBounds.{drop-AreBytes}

-- ---- bytes

after_are : (front rest : List ℕ) → AreBytes (front ++ rest) → AreBytes rest
after_are [] rest are = are
after_are (x ∷ xs) rest are = after_are xs rest (λ i. are (suc i))

rest_are : {V : Type 0} (G : List ℕ → V → Type 0) (bytes rest : List ℕ) (v : V) → Takes G bytes v rest → AreBytes bytes → AreBytes rest
rest_are G bytes rest v t are = after_are t.front rest (subst AreBytes t.whole are)

-- ---- names

-- what an index of a type stands for
IsNameDecided : (ℕ → Name → Type 0) → ℕ → ℕ → Type 0
IsNameDecided N i t = ((which : Name) × (value_type_of which ≡ t) × N i which) ⊎ ((which : Name) → value_type_of which ≡ t → N i which → ⊥)

-- the rows of the table of a type's names
abbrev rows_of_type : List ℕ → ℕ → ℕ
rows_of_type b t = size_of b (if t == 23 then 0 else (if t == 24 then 1 else (if t == 25 then 3 else 4)))

module _ (b : List ℕ) (i : ℕ) where
  within : (which : Name) → NameStands b i which → i < rows_of_type b (value_type_of which)
  within (OfText s) st = st.row
  within _ st = st.row

  -- where each row stands for a name
  by_rows : (t : ℕ) → (i < rows_of_type b t → (which : Name) × (value_type_of which ≡ t) × NameStands b i which) → IsNameDecided (NameStands b) i t
  unfolding IsNameDecided
  by_rows t row = elim (cases_lt i (rows_of_type b t)) [
    | inl lt ↦ inl (row lt)
    | inr ge ↦ inr (λ which e st. let lt : i < rows_of_type b t = subst (λ (k : ℕ). i < rows_of_type b k) e (within which st) in omega (arith, lt, ge))
  ]

-- ---- a value with bytes after its head

-- these bytes stand for a value of the type, or the index that they are for no name
IsSizedDecided : (ℕ → Name → Type 0) → ℕ → List ℕ → Type 0
IsSizedDecided N t low = ((v : Value) × ValueStands N t low v) ⊎ ((23 ≤ t) × ((which : Name) → IsNameOfType t which → N (unsigned_of low) which → ⊥))

-- of type k, or of those of which the table of widths knows more
pick : (G : Type 0) (t k w rest : ℕ) → 0 < (if t == k then w else rest) → (t ≡ k → G) → (0 < rest → G) → G
pick G t k w rest h here past = by (t == k) (Decides-eqb t k).0 h
  where
    by : (z : Bool) → (z ≡ true → t ≡ k) → 0 < (if z then w else rest) → G
    by true e h = here (e refl)
    by false e h = past h

module _ (N : ℕ → Name → Type 0) (names : (i t : ℕ) → (23 ≤ t) × (t ≤ 26) → IsNameDecided N i t) (low : List ℕ) where
  at_type : (t : ℕ) → 23 ≤ t → t ≤ 26 → (t == 27) ≡ false → IsSizedDecided N t low
  unfolding IsNameDecided IsSizedDecided
  at_type t from to other = elim (names (unsigned_of low) t (from, to)) [
    | inl x ↦ inl (Named x.0, (sym x.1, x.2))
    | inr none ↦ inr (from, λ which e. none which (e ∙ (λ i. if other i then 25 else t)))
  ]

  at_enum : IsSizedDecided N 27 low
  unfolding IsNameDecided IsSizedDecided
  at_enum = elim (names (unsigned_of low) 25 (omega arith, omega arith)) [
    | inl x ↦ by x.0 x.1 x.2
    | inr none ↦ inr (omega arith, none)
  ]
    where
      by : (which : Name) → value_type_of which ≡ 25 → N (unsigned_of low) which → IsSizedDecided N 27 low
      by (OfField f) e n = inl (Enum f, (refl, n))
      by _ e n = absurd (omega (arith, e))

  number : (t : ℕ) (v : Value) → ValueStands N t low v → IsSizedDecided N t low
  unfolding IsSizedDecided
  number t v s = inl (v, s)

  sized_value : (t : ℕ) → 0 < widest_of t → IsSizedDecided N t low
  sized_value t h0 =
      let G = λ (k : ℕ). IsSizedDecided N k low in
      pick (G t) t 0 1 _ h0 (λ e. number t (Byte (signed_of low)) (e, refl)) (λ h1.
      pick (G t) t 2 2 _ h1 (λ e. number t (Short (signed_of low)) (e, refl)) (λ h2.
      pick (G t) t 3 2 _ h2 (λ e. number t (Char (unsigned_of low)) (e, refl)) (λ h3.
      pick (G t) t 4 4 _ h3 (λ e. number t (Int (signed_of low)) (e, refl)) (λ h4.
      pick (G t) t 6 8 _ h4 (λ e. number t (Long (signed_of low)) (e, refl)) (λ h5.
      pick (G t) t 16 4 _ h5 (λ e. number t (Float (high_of 4 low)) (e, refl)) (λ h6.
      pick (G t) t 17 8 _ h6 (λ e. number t (Double (high_of 8 low)) (e, refl)) (λ h7.
      pick (G t) t 23 4 _ h7 (λ e. subst G (sym e) (at_type 23 (lit≤ tt) (lit≤ tt) refl)) (λ h8.
      pick (G t) t 24 4 _ h8 (λ e. subst G (sym e) (at_type 24 (lit≤ tt) (lit≤ tt) refl)) (λ h9.
      pick (G t) t 25 4 _ h9 (λ e. subst G (sym e) (at_type 25 (lit≤ tt) (lit≤ tt) refl)) (λ h10.
      pick (G t) t 26 4 _ h10 (λ e. subst G (sym e) (at_type 26 (lit≤ tt) (lit≤ tt) refl)) (λ h11.
      pick (G t) t 27 4 _ h11 (λ e. subst G (sym e) at_enum) (λ h12. absurd (omega (arith, h12))))))))))))))

-- ---- values

-- a value stands at the front, or a fault does
IsValueDecided : (ℕ → Name → Type 0) → ℕ → ℕ → ℕ → List ℕ → Type 0
IsValueDecided N off end limit bytes =
    ((v : Value) × (rest : List ℕ) × Takes (Shallow N limit) bytes v rest) ⊎ ((e : Fault) × ValueBreaks N off end limit bytes e)

-- so many do, or at one a fault does
AreDecided : (ℕ → Name → Type 0) → ℕ → ℕ → ℕ → ℕ → List ℕ → Type 0
AreDecided N off end limit n bytes =
    ((vs : List Value) × (rest : List ℕ) × (length vs ≡ n) × Takes (Each (Shallow N limit)) bytes vs rest) ⊎ ((e : Fault) × NextBreaks (Shallow N limit) (ValueBreaks N off end limit) n bytes e)

module _ (N : ℕ → Name → Type 0) (names : (i t : ℕ) → (23 ≤ t) × (t ≤ 26) → IsNameDecided N i t) (off end : ℕ) where
  own : (limit : ℕ) (bytes : List ℕ) (e : Fault) → OwnBreaks N off end limit bytes e → IsValueDecided N off end limit bytes
  unfolding IsValueDecided
  own limit bytes e u = inr (e, own_breaks N off end limit bytes e u)

  sized_step : (limit head : ℕ) (rest : List ℕ) → AreBytes rest → IsSizedHead head → IsValueDecided N off end limit (head ∷ rest)
  unfolding IsValueDecided IsSizedDecided
  sized_step limit head rest are sized = elim (cases_lt (length rest) (head / 32 + 1)) [
    | inl short ↦ own limit (head ∷ rest) (values_fault off) (inr (inr (inl (inr (inl (record { head = head; rest = rest; first = refl; sized = sized; short = short })), refl))))
    | inr enough ↦ elim (sized_value N names (take (head / 32 + 1) rest) (head % 32) (omega (arith, sized))) [
      | inl x ↦ inl (x.0, drop (head / 32 + 1) rest, takes_sized N limit head (head ∷ rest) rest (take (head / 32 + 1) rest) (drop (head / 32 + 1) rest) x.0 refl refl refl enough are (omega (arith, sized)) x.1)
      | inr none ↦ own limit (head ∷ rest) (kind_fault end (head ∷ rest)) (inr (inr (inr (record { head = head; rest = rest; first = refl; sized = sized; named = none.0; whole = enough; nothing = none.1 }, refl))))
    ]
  ]

  head_step : (limit head : ℕ) (rest : List ℕ) → AreBytes rest → (head ≡ 28 → IsValueDecided N off end limit (head ∷ rest)) → IsValueDecided N off end limit (head ∷ rest)
  unfolding IsValueDecided
  head_step limit head rest are array = elim (cases_lt (head / 32) (widest_of (head % 32))) [
    | inl sized ↦ sized_step limit head rest are sized
    | inr flat ↦ elim (cases_eq head 28) [
      | inl e ↦ array e
      | inr not28 ↦ elim (cases_eq head 30) [
        | inl e ↦ inl (Null, rest, takes_alone N limit head (head ∷ rest) rest Null refl (ap (λ h. h ∷ []) e) refl)
        | inr not30 ↦ elim (cases_eq head 31) [
          | inl e ↦ inl (Boolean false, rest, takes_alone N limit head (head ∷ rest) rest (Boolean false) refl (ap (λ h. h ∷ []) e) refl)
          | inr not31 ↦ elim (cases_eq head 63) [
            | inl e ↦ inl (Boolean true, rest, takes_alone N limit head (head ∷ rest) rest (Boolean true) refl (ap (λ h. h ∷ []) e) refl)
            | inr not63 ↦ own limit (head ∷ rest) (kind_fault end (head ∷ rest)) (inl (
              record {
                head = head;
                rest = rest;
                first = refl;
                not_sized = λ s. omega (arith, s, flat);
                not_lone = λ l. elim l [ inl e ↦ not28 e | inr m ↦ elim m [ inl e ↦ not30 e | inr k ↦ elim k [ inl e ↦ not31 e | inr e ↦ not63 e ] ] ];
              },
              refl,
            ))
          ]
        ]
      ]
    ]
  ]

  more_values : (limit : ℕ) → ((bytes : List ℕ) → AreBytes bytes → IsValueDecided N off end limit bytes) → (n : ℕ) (bytes : List ℕ) → AreBytes bytes → AreDecided N off end limit n bytes
  unfolding IsValueDecided AreDecided
  more_values limit d zero bytes are = inl ([], bytes, refl, Takes-each_none (Shallow N limit) bytes)
  more_values limit d (suc n) bytes are = elim (d bytes are) [
    | inl x ↦ elim (more_values limit d n x.1 (rest_are (Shallow N limit) bytes x.1 x.0 x.2 are)) [
      | inl y ↦ inl (x.0 ∷ y.0, y.1, ap suc y.2, Takes-each_first (Shallow N limit) bytes x.1 y.1 x.0 y.0 x.2 y.3)
      | inr u ↦
          let k = u.1 in
          let more = k.more in
          inr (u.0, record { before = x.0 ∷ k.before; left = k.left; spelled = Takes-each_first (Shallow N limit) bytes x.1 k.left x.0 k.before x.2 k.spelled; more = omega (arith, more); breaks = k.breaks })
    ]
    | inr u ↦ inr (u.0, record { before = []; left = bytes; spelled = Takes-each_none (Shallow N limit) bytes; more = omega arith; breaks = u.1 })
  ]

  array_step : (limit : ℕ) → ((bytes : List ℕ) → AreBytes bytes → IsValueDecided N off end limit bytes) → (head : ℕ) (rest : List ℕ) → AreBytes rest → head ≡ 28 → IsValueDecided N off end (suc limit) (head ∷ rest)
  unfolding IsValueDecided AreDecided
  array_step limit d head rest are e = elim (decide_uleb rest) [
    | inl x ↦ elim (more_values limit d x.0 x.1 (rest_are Spells rest x.1 x.0 x.2 are)) [
      | inl y ↦
          let count = Begins-from_takes Spells rest x.0 x.1 x.2 in
          let same : limit ≡ suc limit - 1 = omega arith in
          inl (
            Array (values y.0),
            y.1,
            takes_array N (suc limit) x.0 (length x.2.front) (head ∷ rest) rest x.1 y.1 y.0 (omega arith) (ap (λ h. h ∷ rest) e) count.0 (sym count.1)
                (takes_many (Shallow N (suc limit - 1)) x.0 x.1 y.1 y.0 y.2 (subst (λ (k : ℕ). Takes (Each (Shallow N k)) x.1 y.0 y.1) same y.3)),
          )
      | inr u ↦ inr (u.0, inr (record { rest = rest; first = ap (λ h. h ∷ rest) e; n = x.0; after = x.1; counted = x.2; next = u.1 }))
    ]
    | inr none ↦ own (suc limit) (head ∷ rest) (values_fault off) (inr (inr (inl (inr (inr (record { rest = rest; first = ap (λ h. h ∷ rest) e; some_left = omega arith; none = NoneBegins-from_takes Spells rest none })), refl))))
  ]

  value_decided : (limit : ℕ) (bytes : List ℕ) → AreBytes bytes → IsValueDecided N off end limit bytes
  value_decided limit [] are = own limit [] (values_fault off) (inr (inr (inl (inl refl, refl))))
  value_decided zero (head ∷ rest) are = head_step 0 head rest (λ i. are (suc i)) (λ e. own 0 (head ∷ rest) (depth_fault end (head ∷ rest)) (inr (inl (record { rest = rest; first = ap (λ h. h ∷ rest) e; none_left = refl }, refl))))
  value_decided (suc limit) (head ∷ rest) are = head_step (suc limit) head rest (λ i. are (suc i)) (array_step limit (value_decided limit) head rest (λ i. are (suc i)))

  -- ---- arrays of static values

  array_decided : (most : ℕ) (bytes : List ℕ) → AreBytes bytes → ((vs : List Value) × (n : ℕ) × (after : List ℕ) × (left : List ℕ) × Takes (SpellsArray N) bytes vs after × (n ≤ most) × (length vs ≡ n) × Takes (Each (Shallow N most_depth)) left vs after) ⊎ ((e : Fault) × ArrayBreaks N off end most bytes e)
  unfolding AreDecided
  array_decided most bytes are = elim (decide_uleb bytes) [
    | inl x ↦ elim (cases_lt most x.0) [
      | inl above ↦ inr (record { code = 49; place = off }, inr (inl (record { n = x.0; after = x.1; counted = x.2; above = above }, refl)))
      | inr few ↦ elim (more_values most_depth (value_decided most_depth) x.0 x.1 (rest_are Spells bytes x.1 x.0 x.2 are)) [
        | inl y ↦
            let count = Begins-from_takes Spells bytes x.0 x.1 x.2 in
            inl (y.0, x.0, y.1, x.1, takes_static N x.0 (length x.2.front) most_depth bytes x.1 y.1 y.0 count.0 (sym count.1) (takes_many (Shallow N most_depth) x.0 x.1 y.1 y.0 y.2 y.3), few, y.2, y.3)
        | inr u ↦ inr (u.0, inr (inr (record { n = x.0; after = x.1; counted = x.2; few = few; next = u.1 })))
      ]
    ]
    | inr none ↦ inr (values_fault off, inl (NoneBegins-from_takes Spells bytes none, refl))
  ]

-- ---- of a file

file_names : (b : List ℕ) → TablesHold b → (i t : ℕ) → (23 ≤ t) × (t ≤ 26) → IsNameDecided (NameStands b) i t
file_names b hold i t is = elim (cases_eq t 23) [
  | inl e ↦ subst (IsNameDecided (NameStands b) i) (sym e) (by_rows b i 23 (λ lt. let row = hold.strings i lt in (OfText row.name, refl, row.stands)))
  | inr a ↦
      elim (cases_eq t 24) [
        | inl e ↦ subst (IsNameDecided (NameStands b) i) (sym e) (by_rows b i 24 (λ lt. let row = hold.types i lt in (OfDesc row.name, refl, row.stands)))
        | inr c ↦
            elim (cases_eq t 25) [
              | inl e ↦ subst (IsNameDecided (NameStands b) i) (sym e) (by_rows b i 25 (λ lt. let row = hold.fields i lt in (OfField row.name, refl, row.stands)))
              | inr d ↦
                  elim (cases_eq t 26) [
                    | inl e ↦ subst (IsNameDecided (NameStands b) i) (sym e) (by_rows b i 26 (λ lt. let row = hold.methods i lt in (OfMethod row.name, refl, row.stands)))
                    | inr k ↦
                        let low = is.0 in let high = is.1 in absurd (omega (arith, a, c, d, k, low, high))
                  ]
            ]
      ]
]

-- a place inside the section
inside : (b : List ℕ) → AreBytes b → IsFramed b → TablesHold b → (off most : ℕ) (s : HasSection b 0x2005) → s.begin ≤ off → off < s.end → ArrayIsDecided b off most
inside b are framed hold off most s low high =
    let bytes = take (s.end - off) (drop off b) in
    elim (array_decided (NameStands b) (file_names b hold) off s.end most bytes (take_bytes (s.end - off) (drop off b) (drop-AreBytes b off are))) [
      | inl x ↦
          let few = x.5 in let n = x.6 in
          inl (
            x.0,
            record {
              stands = found_at (SpellsArray (NameStands b)) b framed 0x2005 1 off s low (omega (arith, high)) (mod_one off) x.0 x.2 x.4;
              few = omega (arith, few, n);
              deep = takes_deep (NameStands b) x.1 most_depth x.3 x.2 x.0 (takes_many (Shallow (NameStands b) most_depth) x.1 x.3 x.2 x.0 x.6 x.7);
            },
          )
      | inr u ↦ inr (u.0, inr (s.end, bytes, record { begin = s.begin; section = s.section; after = low; before = high; same = refl }, u.1))
    ]

-- a place outside it
outside : (b : List ℕ) (off most : ℕ) → (IsInSection b 0x2005 off → ⊥) → ArrayIsDecided b off most
outside b off most out = inr (values_fault off, inl (out, refl))

pub arrays_are_decided : (b : List ℕ) → AreBytes b → IsFramed b → TablesHold b → (off most : ℕ) → ArrayIsDecided b off most
arrays_are_decided b are framed hold off most = elim (decide_section b 0x2005) [
  | inl s ↦ elim (cases_lt off s.begin) [
    | inl before ↦ outside b off most (λ p. let e = (IsSection-one b framed 0x2005 p.begin p.end s.begin s.end p.section s.section).0 in let low = p.after in omega (arith, e, low, before))
    | inr low ↦ elim (cases_lt off s.end) [
      | inl high ↦ inside b are framed hold off most s low high
      | inr past ↦ outside b off most (λ p. let e = (IsSection-one b framed 0x2005 p.begin p.end s.begin s.end p.section s.section).1 in let high = p.before in omega (arith, e, high, past))
    ]
  ]
  | inr none ↦ outside b off most (λ p. none (record { begin = p.begin; end = p.end; section = p.section }))
]
