-- The shortest spelling of values is one.
use Rattle.std.proofs.Common.{◌≡◌, ℕ, ◌+◌, ◌*◌, ◌-◌, ◌≤◌, List, [], ◌∷◌, ◌++◌, length, refl, sym, ap, ◌∙◌, arith, subst, true, false, length-append}
use Rattle.dex_base.specs.Fields.{AreBytes}
use Rattle.dex_base.specs.Leb128.{Spells, Shortest}
use Rattle.dex_base.proofs.ShortestLaws.{AllBytes, shortest_one}
use Rattle.program_types.specs.Content.{Name, OfField, Value, Byte, Short, Char, Int, Long, Float, Double, Named, Enum, Array, Null, Boolean, Values, no_values, more_values, values}
use Rattle.dex_value.specs.Spelling.{Sized, SpellsValue, SpellsValues, SpellsArray, count_of, unsigned_of}
use Rattle.dex_value.proofs.Lists.{each-values, values-each}
use Rattle.dex_value.proofs.NumberOnce.{unsigned_once, signed_once, high_once}
use Rattle.dex_base.proofs.ListFacts.{all_of}

pub front_all : (xs ys : List ℕ) → AllBytes (xs ++ ys) → AllBytes xs
front_all [] ys h = tt
front_all (x ∷ xs) ys h = (h.0, front_all xs ys h.1)

pub back_all : (xs ys : List ℕ) → AllBytes (xs ++ ys) → AllBytes ys
back_all [] ys h = h
back_all (x ∷ xs) ys h = back_all xs ys h.1

-- one meaning, by how many bytes there are
abbrev IsOneMeaning : (List ℕ → Type 0) → Type 0
IsOneMeaning M = (x y : List ℕ) → AllBytes x → AllBytes y → length x ≡ length y → M x → M y → x ≡ y

sized_once : (t w : ℕ) (M : List ℕ → Type 0) → IsOneMeaning M → (a b : List ℕ) → length a ≡ length b → Sized t w M a → Sized t w M b → a ≡ b
sized_once t w M one a b l p q =
    let e = ap length p.joined in let f = ap length q.joined in
    let n : length p.low ≡ length q.low = omega (arith, l, e, f) in
    let low = one p.low q.low (all_of p.low p.bytes) (all_of q.low q.bytes) n p.means q.means in
    p.joined ∙ (λ k. (32 * (n k - 1) + t) ∷ low k) ∙ sym q.joined

-- shortest spellings of one value are equally long
same_length : {V : Type 0} (G : List ℕ → V → Type 0) (a b : List ℕ) (v : V) → Shortest G a v → Shortest G b v → length a ≡ length b
same_length G a b v p q = let l = p.least b q.spelled in let m = q.least a p.spelled in omega (arith, l, m)

-- of two parts of what is shortest each is
front_shortest : {V : Type 0} (G : List ℕ → V → Type 0) (v : V) (front back : List ℕ) (extra : ℕ) → G front v
    → ((other : List ℕ) → G other v → extra + length (front ++ back) ≤ extra + length (other ++ back)) → Shortest G front v
front_shortest G v front back extra s h = record {
  spelled = s;
  least = λ other t. (let l = h other t in let m = length-append front back in let n = length-append other back in omega (arith, l, m, n));
}

back_shortest : {V : Type 0} (G : List ℕ → V → Type 0) (v : V) (front back : List ℕ) (extra : ℕ) → G back v
    → ((other : List ℕ) → G other v → extra + length (front ++ back) ≤ extra + length (front ++ other)) → Shortest G back v
back_shortest G v front back extra s h = record {
  spelled = s;
  least = λ other t. (let l = h other t in let m = length-append front back in let n = length-append front other in omega (arith, l, m, n));
}

-- a name has one index
abbrev pub IsRankedOnce : (ℕ → Name → Type 0) → Type 0
IsRankedOnce N = (i j : ℕ) (which : Name) → N i which → N j which → i ≡ j

module _ (N : ℕ → Name → Type 0) (ranked : IsRankedOnce N) where
  sized_shortest : (t w : ℕ) (M : List ℕ → Type 0) (v : Value) → ((bytes : List ℕ) → SpellsValue N bytes v → Sized t w M bytes) → IsOneMeaning M
      → (a b : List ℕ) → Shortest (SpellsValue N) a v → Shortest (SpellsValue N) b v → a ≡ b
  sized_shortest t w M v is one a b p q = sized_once t w M one a b (same_length (SpellsValue N) a b v p q) (is a p.spelled) (is b q.spelled)

  array_count : (vs : Values) (a count back : List ℕ) → a ≡ 0x1c ∷ (count ++ back) → Spells count (count_of vs) → SpellsValues N back vs → Shortest (SpellsValue N) a (Array vs) → Shortest Spells count (count_of vs)
  array_count vs a count back x c m p = front_shortest Spells (count_of vs) count back 1 c
      (λ other t. (let l = p.least (0x1c ∷ (other ++ back)) (other ++ back, refl, record { count = other; back = back; joined = refl; counted = t; means = m }) in let e = ap length x in omega (arith, l, e)))

  array_back : (vs : Values) (a count back : List ℕ) → a ≡ 0x1c ∷ (count ++ back) → Spells count (count_of vs) → SpellsValues N back vs → Shortest (SpellsValue N) a (Array vs) → Shortest (SpellsValues N) back vs
  array_back vs a count back x c m p = back_shortest (SpellsValues N) vs count back 1 m
      (λ other t. (let l = p.least (0x1c ∷ (count ++ other)) (count ++ other, refl, record { count = count; back = other; joined = refl; counted = c; means = t }) in let e = ap length x in omega (arith, l, e)))

  first_value : (v : Value) (vs : Values) (a front back : List ℕ) → a ≡ front ++ back → SpellsValue N front v → SpellsValues N back vs → Shortest (SpellsValues N) a (more_values v vs) → Shortest (SpellsValue N) front v
  first_value v vs a front back x s m p = front_shortest (SpellsValue N) v front back 0 s
      (λ other t. (let l = p.least (other ++ back) (other, back, refl, t, m) in let e = ap length x in omega (arith, l, e)))

  other_values : (v : Value) (vs : Values) (a front back : List ℕ) → a ≡ front ++ back → SpellsValue N front v → SpellsValues N back vs → Shortest (SpellsValues N) a (more_values v vs) → Shortest (SpellsValues N) back vs
  other_values v vs a front back x s m p = back_shortest (SpellsValues N) vs front back 0 m
      (λ other t. (let l = p.least (front ++ other) (front, other, refl, s, t) in let e = ap length x in omega (arith, l, e)))

  mutual
    pub value_once : (v : Value) (a b : List ℕ) → AllBytes a → AllBytes b → Shortest (SpellsValue N) a v → Shortest (SpellsValue N) b v → a ≡ b
    value_once (Byte n) a b i j p q = sized_shortest _ _ _ (Byte n) (λ bytes s. s) (λ x y f g l m k. signed_once x y f g l (sym m ∙ k)) a b p q
    value_once (Short n) a b i j p q = sized_shortest _ _ _ (Short n) (λ bytes s. s) (λ x y f g l m k. signed_once x y f g l (sym m ∙ k)) a b p q
    value_once (Char n) a b i j p q = sized_shortest _ _ _ (Char n) (λ bytes s. s) (λ x y f g l m k. unsigned_once x y f g l (sym m ∙ k)) a b p q
    value_once (Int n) a b i j p q = sized_shortest _ _ _ (Int n) (λ bytes s. s) (λ x y f g l m k. signed_once x y f g l (sym m ∙ k)) a b p q
    value_once (Long n) a b i j p q = sized_shortest _ _ _ (Long n) (λ bytes s. s) (λ x y f g l m k. signed_once x y f g l (sym m ∙ k)) a b p q
    value_once (Float n) a b i j p q = sized_shortest _ _ _ (Float n) (λ bytes s. s) (λ x y f g l m k. high_once 4 x y f g l (sym m ∙ k)) a b p q
    value_once (Double n) a b i j p q = sized_shortest _ _ _ (Double n) (λ bytes s. s) (λ x y f g l m k. high_once 8 x y f g l (sym m ∙ k)) a b p q
    value_once (Named which) a b i j p q = sized_shortest _ _ _ (Named which) (λ bytes s. s) (λ x y f g l m k. unsigned_once x y f g l (ranked (unsigned_of x) (unsigned_of y) which m k)) a b p q
    value_once (Enum field) a b i j p q = sized_shortest _ _ _ (Enum field) (λ bytes s. s) (λ x y f g l m k. unsigned_once x y f g l (ranked (unsigned_of x) (unsigned_of y) (OfField field) m k)) a b p q
    value_once (Array vs) a b i j p q =
        let s = p.spelled in let t = q.spelled in
        let u = s.2 in let w = t.2 in
        let x : a ≡ 0x1c ∷ (u.count ++ u.back) = s.1 ∙ ap (λ (l : List ℕ). 0x1c ∷ l) u.joined in
        let y : b ≡ 0x1c ∷ (w.count ++ w.back) = t.1 ∙ ap (λ (l : List ℕ). 0x1c ∷ l) w.joined in
        let f = subst (λ (l : List ℕ). AllBytes l) x i in let g = subst (λ (l : List ℕ). AllBytes l) y j in
        let counts = shortest_one u.count w.count (count_of vs) (front_all u.count u.back f.1) (front_all w.count w.back g.1) (array_count vs a u.count u.back x u.counted u.means p) (array_count vs b w.count w.back y w.counted w.means q) in
        let backs = values_once vs u.back w.back (back_all u.count u.back f.1) (back_all w.count w.back g.1) (array_back vs a u.count u.back x u.counted u.means p) (array_back vs b w.count w.back y w.counted w.means q) in
        x ∙ (λ k. 0x1c ∷ (counts k ++ backs k)) ∙ sym y
    value_once Null a b i j p q = p.spelled ∙ sym q.spelled
    value_once (Boolean false) a b i j p q = p.spelled ∙ sym q.spelled
    value_once (Boolean true) a b i j p q = p.spelled ∙ sym q.spelled

    pub values_once : (vs : Values) (a b : List ℕ) → AllBytes a → AllBytes b → Shortest (SpellsValues N) a vs → Shortest (SpellsValues N) b vs → a ≡ b
    values_once no_values a b i j p q = p.spelled ∙ sym q.spelled
    values_once (more_values v vs) a b i j p q =
        let s = p.spelled in let t = q.spelled in
        let f = subst (λ (l : List ℕ). AllBytes l) s.2 i in let g = subst (λ (l : List ℕ). AllBytes l) t.2 j in
        let one = value_once v s.0 t.0 (front_all s.0 s.1 f) (front_all t.0 t.1 g) (first_value v vs a s.0 s.1 s.2 s.3 s.4 p) (first_value v vs b t.0 t.1 t.2 t.3 t.4 q) in
        let rest = values_once vs s.1 t.1 (back_all s.0 s.1 f) (back_all t.0 t.1 g) (other_values v vs a s.0 s.1 s.2 s.3 s.4 p) (other_values v vs b t.0 t.1 t.2 t.3 t.4 q) in
        s.2 ∙ (λ k. one k ++ rest k) ∙ sym t.2

  pub array_once : (vs : List Value) (a b : List ℕ) → AreBytes a → AreBytes b → Shortest (SpellsArray N) a vs → Shortest (SpellsArray N) b vs → a ≡ b
  array_once vs a b i j p q =
      let s = p.spelled in let t = q.spelled in
      let f = subst (λ (l : List ℕ). AllBytes l) s.joined (all_of a i) in let g = subst (λ (l : List ℕ). AllBytes l) t.joined (all_of b j) in
      let counts = shortest_one s.front t.front (length vs) (front_all s.front s.back f) (front_all t.front t.back g) (count_part a s p) (count_part b t q) in
      let backs = values_once (values vs) s.back t.back (back_all s.front s.back f) (back_all t.front t.back g) (back_part a s p) (back_part b t q) in
      s.joined ∙ (λ k. counts k ++ backs k) ∙ sym t.joined
    where
      count_part : (c : List ℕ) (s : SpellsArray N c vs) → Shortest (SpellsArray N) c vs → Shortest Spells s.front (length vs)
      count_part c s p = front_shortest Spells (length vs) s.front s.back 0 s.first
          (λ other t. (let l = p.least (other ++ s.back) (record { front = other; back = s.back; joined = refl; first = t; second = s.second }) in let e = ap length s.joined in omega (arith, l, e)))

      back_part : (c : List ℕ) (s : SpellsArray N c vs) → Shortest (SpellsArray N) c vs → Shortest (SpellsValues N) s.back (values vs)
      back_part c s p = back_shortest (SpellsValues N) (values vs) s.front s.back 0 (each-values N vs s.back s.second.1)
          (λ other t. (let l = p.least (s.front ++ other) (record { front = s.front; back = other; joined = refl; first = s.first; second = (refl, values-each N vs other t) }) in let e = ap length s.joined in omega (arith, l, e)))
