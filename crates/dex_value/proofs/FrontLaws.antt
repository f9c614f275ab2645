-- A spelled value whose front is known is no other.
use Rattle.std.proofs.Common.{◌≡◌, ℕ, zero, suc, ◌+◌, ◌*◌, ◌-◌, ◌<◌, ◌≤◌, ◌==◌, ◌⊎◌, inl, inr, if◌then◌else◌, max, List, [], ◌∷◌, ◌++◌, length, take, refl, sym, ap, subst, ◌∙◌, lit<, arith}
use Rattle.std.proofs.lemmas.List.{take_at}
use Rattle.std.proofs.lemmas.Bool.Decides.{nat_tests}
use Rattle.dex_base.specs.Grammar.{IsPrefixUnique, Counted}
use Rattle.dex_base.specs.Leb128.{Spells}
use Rattle.dex_base.proofs.GrammarLaws.{Counted-unique}
use Rattle.dex_base.proofs.Numbers.{spells_unique}
use Rattle.program_types.specs.Content.{Name, OfText, OfDesc, OfField, OfMethod, Value, Byte, Short, Char, Int, Long, Float, Double, Named, Enum, Array, Values, values}
use Rattle.program_types.specs.Depth.{depth, greatest_depth}
use Rattle.dex_value.specs.Spelling.{unsigned_of, signed_of, high_of, After, SpellsValue, SpellsValues, SpellsArray, count_of}
use Rattle.dex_value.specs.Standing.{Shallow}
use Rattle.dex_value.specs.Unique.{IsFunctionalByType}
use Rattle.dex_value.specs.Faults.{IsNameOfType}
use Rattle.dex_value.specs.inner.Reading.{ValueStands}
use Rattle.dex_value.proofs.Lists.{length-listed, each-listed}
use Rattle.dex_value.proofs.Fronts.{SizedFront, ArrayFront, LoneFront, BareNull, BareFalse, BareTrue, Front, front}
use Rattle.program_types.proofs.Nesting.{listed, values-listed}

-- ---- one value of bytes after a head

-- an enum constant is a field
enum_of : Name → Value
enum_of (OfField f) = Enum f
enum_of which = Named which

-- what the bytes after a head of the type stand for, if a name is this one
leaf_value : ℕ → List ℕ → Name → Value
leaf_value type low which =
    if type == 0 then Byte (signed_of low) else (
    if type == 2 then Short (signed_of low) else (
    if type == 3 then Char (unsigned_of low) else (
    if type == 4 then Int (signed_of low) else (
    if type == 6 then Long (signed_of low) else (
    if type == 16 then Float (high_of 4 low) else (
    if type == 17 then Double (high_of 8 low) else (
    if type == 27 then enum_of which else (
    Named which))))))))

-- no name where the type names none
no_name : Name
no_name = OfText []

record Leaf (N : ℕ → Name → Type 0) (t : ℕ) (low : List ℕ) (v : Value) : Type 0 where
  which : Name
  value : v ≡ leaf_value t low which
  name : (IsNameOfType t which × N (unsigned_of low) which) ⊎ ((t < 23) × (which ≡ no_name))

module _ (N : ℕ → Name → Type 0) where
  number_leaf : (v : Value) (t k : ℕ) (low : List ℕ) → t ≡ k → k < 23 → v ≡ leaf_value k low no_name → Leaf N t low v
  number_leaf v t k low e small is =
      record { which = no_name; value = subst (λ (j : ℕ). v ≡ leaf_value j low no_name) (sym e) is; name = inr (omega arith, refl) }

  named_leaf : (v : Value) (t k : ℕ) (low : List ℕ) (which : Name) → t ≡ k → IsNameOfType k which → N (unsigned_of low) which → v ≡ leaf_value k low which → Leaf N t low v
  named_leaf v t k low which e of n is =
      record { which = which; value = subst (λ (j : ℕ). v ≡ leaf_value j low which) (sym e) is; name = inl (subst (λ (j : ℕ). IsNameOfType j which) (sym e) of, n) }

  leaf : (v : Value) (t : ℕ) (low : List ℕ) → ValueStands N t low v → Leaf N t low v
  unfolding leaf_value enum_of
  leaf (Byte n) t low s = number_leaf (Byte n) t 0 low s.0 (lit< tt) (ap Byte s.1)
  leaf (Short n) t low s = number_leaf (Short n) t 2 low s.0 (lit< tt) (ap Short s.1)
  leaf (Char n) t low s = number_leaf (Char n) t 3 low s.0 (lit< tt) (ap Char s.1)
  leaf (Int n) t low s = number_leaf (Int n) t 4 low s.0 (lit< tt) (ap Int s.1)
  leaf (Long n) t low s = number_leaf (Long n) t 6 low s.0 (lit< tt) (ap Long s.1)
  leaf (Float n) t low s = number_leaf (Float n) t 16 low s.0 (lit< tt) (ap Float s.1)
  leaf (Double n) t low s = number_leaf (Double n) t 17 low s.0 (lit< tt) (ap Double s.1)
  leaf (Named (OfText n)) t low s = named_leaf (Named (OfText n)) t 23 low (OfText n) s.0 refl s.1 refl
  leaf (Named (OfDesc n)) t low s = named_leaf (Named (OfDesc n)) t 24 low (OfDesc n) s.0 refl s.1 refl
  leaf (Named (OfField n)) t low s = named_leaf (Named (OfField n)) t 25 low (OfField n) s.0 refl s.1 refl
  leaf (Named (OfMethod n)) t low s = named_leaf (Named (OfMethod n)) t 26 low (OfMethod n) s.0 refl s.1 refl
  leaf (Enum f) t low s = named_leaf (Enum f) t 27 low (OfField f) s.0 refl s.1 refl
  leaf _ t low s = absurd s

  names_type : (t : ℕ) (which : Name) → IsNameOfType t which → 23 ≤ t
  names_type t (OfText n) e = grind (arith, nat_tests)
  names_type t _ e = grind (arith, nat_tests)

  pub stands_one : IsFunctionalByType N → (v w : Value) (t : ℕ) (low : List ℕ) → ValueStands N t low v → ValueStands N t low w → v ≡ w
  stands_one one v w t low s r =
      let x = leaf v t low s in
      let y = leaf w t low r in
      let same : x.which ≡ y.which = elim (x.name) [
        | inl a ↦ elim (y.name) [
          | inl b ↦ one (unsigned_of low) x.which y.which (a.0 ∙ sym b.0) a.1 b.1
          | inr b ↦ let k = names_type t x.which a.0 in let h = b.0 in absurd (omega (arith, k, h))
        ]
        | inr a ↦ elim (y.name) [
          | inl b ↦ let k = names_type t y.which b.0 in let h = a.0 in absurd (omega (arith, k, h))
          | inr b ↦ a.1 ∙ sym b.1
        ]
      ] in
      x.value ∙ ap (leaf_value t low) same ∙ sym y.value

-- ---- one value, by its front

-- the bytes after equal heads
head_type : (n m t u : ℕ) → t < 28 → u < 28 → 32 * n + t ≡ 32 * m + u → (n ≡ m) × (t ≡ u)
head_type n m t u p q e = (omega arith, omega arith)

pub cons_head : (a b : ℕ) (as_ bs : List ℕ) → a ∷ as_ ≡ b ∷ bs → (a ≡ b) × (as_ ≡ bs)
cons_head a b as_ bs e = (cc, cc)

front_same : (a b x y : List ℕ) → length a ≡ length b → a ++ x ≡ b ++ y → a ≡ b
front_same a b x y e h = sym (take_at a x (length a) refl) ∙ ap (take (length a)) h ∙ take_at b y (length a) (sym e)

module _ (N : ℕ → Name → Type 0) (one : IsFunctionalByType N) where
  sized_same : (a b x y : List ℕ) (v w : Value) → SizedFront N a v → SizedFront N b w → a ++ x ≡ b ++ y → (a ≡ b) × (v ≡ w)
  sized_same a b x y v w p q e =
      let whole : (32 * (length p.low - 1) + p.type) ∷ (p.low ++ x) ≡ (32 * (length q.low - 1) + q.type) ∷ (q.low ++ y) = ap (λ l. l ++ x) (sym p.joined) ∙ e ∙ ap (λ l. l ++ y) q.joined in
      let parts = cons_head _ _ _ _ whole in
      let same = head_type (length p.low - 1) (length q.low - 1) p.type q.type p.small q.small parts.0 in
      let lens : length p.low ≡ length q.low = let s = p.some in let r = q.some in let n = same.0 in omega (arith, s, r, n) in
      let low = front_same p.low q.low x y lens parts.1 in
      let there : ValueStands N p.type p.low w = subst (λ (t : ℕ). ValueStands N t p.low w) (sym same.1) (subst (λ (l : List ℕ). ValueStands N q.type l w) (sym low) q.stands) in (
        p.joined ∙ ap (λ l. (32 * (length l - 1) + p.type) ∷ l) low ∙ ap (λ t. (32 * (length q.low - 1) + t) ∷ q.low) same.1 ∙ sym q.joined,
        stands_one N one v w p.type p.low p.stands there,
      )

-- heads of three sorts differ
pub first_of_lone : (b : List ℕ) (w : Value) → LoneFront b w → (h : ℕ) × (b ≡ h ∷ []) × (28 < h) × ((h ≡ 30) ⊎ (h ≡ 31) ⊎ (h ≡ 63))
first_of_lone b w (BareNull e i) = (30, e, lit< tt, inl refl)
first_of_lone b w (BareFalse e i) = (31, e, lit< tt, inr (inl refl))
first_of_lone b w (BareTrue e i) = (63, e, lit< tt, inr (inr refl))

heads : (a b x y ra rb : List ℕ) (h k : ℕ) → a ≡ h ∷ ra → b ≡ k ∷ rb → a ++ x ≡ b ++ y → h ≡ k
heads a b x y ra rb h k p q e = (cons_head h k (ra ++ x) (rb ++ y) (ap (λ l. l ++ x) (sym p) ∙ e ∙ ap (λ l. l ++ y) q)).0

pub sized_not_array : (n t : ℕ) → t < 28 → 32 * n + t ≡ 28 → ⊥
sized_not_array n t small e = omega arith

pub sized_not_lone : (n t h : ℕ) → t < 28 → ((h ≡ 30) ⊎ (h ≡ 31) ⊎ (h ≡ 63)) → 32 * n + t ≡ h → ⊥
sized_not_lone n t h small is e = grind arith

lone_same : (a b x y : List ℕ) (v w : Value) → LoneFront a v → LoneFront b w → a ++ x ≡ b ++ y → (a ≡ b) × (v ≡ w)
lone_same a b x y v w (BareNull p i) (BareNull q j) e = (p ∙ sym q, i ∙ sym j)
lone_same a b x y v w (BareFalse p i) (BareFalse q j) e = (p ∙ sym q, i ∙ sym j)
lone_same a b x y v w (BareTrue p i) (BareTrue q j) e = (p ∙ sym q, i ∙ sym j)
lone_same a b x y v w (BareNull p i) (BareFalse q j) e = let h = heads a b x y [] [] 30 31 p q e in absurd (omega arith)
lone_same a b x y v w (BareNull p i) (BareTrue q j) e = let h = heads a b x y [] [] 30 63 p q e in absurd (omega arith)
lone_same a b x y v w (BareFalse p i) (BareNull q j) e = let h = heads a b x y [] [] 31 30 p q e in absurd (omega arith)
lone_same a b x y v w (BareFalse p i) (BareTrue q j) e = let h = heads a b x y [] [] 31 63 p q e in absurd (omega arith)
lone_same a b x y v w (BareTrue p i) (BareNull q j) e = let h = heads a b x y [] [] 63 30 p q e in absurd (omega arith)
lone_same a b x y v w (BareTrue p i) (BareFalse q j) e = let h = heads a b x y [] [] 63 31 p q e in absurd (omega arith)

-- an array within a limit is values within the one below it
pub array_each : (N : ℕ → Name → Type 0) (k : ℕ) (text : List ℕ) (vs : Values) → After (count_of vs) (λ back. SpellsValues N back vs) text → greatest_depth vs ≤ k → Counted Spells (Shallow N k) text (listed vs)
array_each N k text vs b d = record {
  front = b.count;
  back = b.back;
  joined = b.joined;
  first = subst (λ (n : ℕ). Spells b.count n) (sym (length-listed vs)) b.counted;
  second = (refl, each-listed N k b.back vs b.means d);
}

array_same : (N : ℕ → Name → Type 0) (k : ℕ) → IsPrefixUnique (Shallow N k) → (a b x y : List ℕ) (v w : Value) (p : ArrayFront N a v) (q : ArrayFront N b w) → greatest_depth p.vs ≤ k → greatest_depth q.vs ≤ k → a ++ x ≡ b ++ y → (a ≡ b) × (v ≡ w)
array_same N k unique a b x y v w p q d g e =
    let whole : 28 ∷ (p.text ++ x) ≡ 28 ∷ (q.text ++ y) = ap (λ l. l ++ x) (sym p.joined) ∙ e ∙ ap (λ l. l ++ y) q.joined in
    let parts = cons_head _ _ _ _ whole in
    let both = Counted-unique Spells (Shallow N k) spells_unique unique p.text q.text x y (listed p.vs) (listed q.vs) (array_each N k p.text p.vs p.after d) (array_each N k q.text q.vs q.after g) parts.1 in (
      p.joined ∙ ap (λ l. 28 ∷ l) both.0 ∙ sym q.joined,
      p.value ∙ ap Array (sym (values-listed p.vs) ∙ ap values both.1 ∙ values-listed q.vs) ∙ sym q.value,
    )

pub array_depth : (k : ℕ) (v : Value) (vs : Values) → v ≡ Array vs → depth v ≤ suc k → greatest_depth vs ≤ k
array_depth k v vs e d = let h : depth v ≡ suc (greatest_depth vs) = ap depth e in omega (arith, h, d)

array_deep : (v : Value) (vs : Values) → v ≡ Array vs → depth v ≤ 0 → ⊥
array_deep v vs e d = let h : depth v ≡ suc (greatest_depth vs) = ap depth e in omega (arith, h, d)

module _ (N : ℕ → Name → Type 0) (one : IsFunctionalByType N) where
  -- where two arrays agree, two values do
  by_fronts : (a b x y : List ℕ) (v w : Value) → a ++ x ≡ b ++ y → ((p : ArrayFront N a v) → (q : ArrayFront N b w) → (a ≡ b) × (v ≡ w)) → Front N a v → Front N b w → (a ≡ b) × (v ≡ w)
  by_fronts a b x y v w e arrays (inl p) (inl q) = sized_same N one a b x y v w p q e
  by_fronts a b x y v w e arrays (inl p) (inr (inl q)) =
      absurd (sized_not_array (length p.low - 1) p.type p.small (heads a b x y p.low q.text _ 28 p.joined q.joined e))
  by_fronts a b x y v w e arrays (inl p) (inr (inr q)) =
      let f = first_of_lone b w q in
      absurd (sized_not_lone (length p.low - 1) p.type f.0 p.small f.3 (heads a b x y p.low [] _ f.0 p.joined f.1 e))
  by_fronts a b x y v w e arrays (inr (inl p)) (inl q) =
      absurd (sized_not_array (length q.low - 1) q.type q.small (sym (heads a b x y p.text q.low 28 _ p.joined q.joined e)))
  by_fronts a b x y v w e arrays (inr (inl p)) (inr (inl q)) = arrays p q
  by_fronts a b x y v w e arrays (inr (inl p)) (inr (inr q)) =
      let f = first_of_lone b w q in
      let h = heads a b x y p.text [] 28 f.0 p.joined f.1 e in let l = f.2 in absurd (omega (arith, h, l))
  by_fronts a b x y v w e arrays (inr (inr p)) (inl q) =
      let f = first_of_lone a v p in
      absurd (sized_not_lone (length q.low - 1) q.type f.0 q.small f.3 (sym (heads a b x y [] q.low f.0 _ f.1 q.joined e)))
  by_fronts a b x y v w e arrays (inr (inr p)) (inr (inl q)) =
      let f = first_of_lone a v p in
      let h = heads a b x y [] q.text f.0 28 f.1 q.joined e in let l = f.2 in absurd (omega (arith, h, l))
  by_fronts a b x y v w e arrays (inr (inr p)) (inr (inr q)) = lone_same a b x y v w p q e

  -- no spelling of a value within a limit begins another
  pub shallow_unique : (k : ℕ) → IsPrefixUnique (Shallow N k)
  shallow_unique zero a b x y v w p q e =
      by_fronts a b x y v w e (λ f g. absurd (array_deep v f.vs f.value p.deep)) (front N a v p.spelled) (front N b w q.spelled)
  shallow_unique (suc k) a b x y v w p q e =
      by_fronts a b x y v w e (λ f g. array_same N k (shallow_unique k) a b x y v w f g (array_depth k v f.vs f.value p.deep) (array_depth k w g.vs g.value q.deep) e) (front N a v p.spelled) (front N b w q.spelled)

  -- no spelling of a value begins another
  pub SpellsValue-unique : IsPrefixUnique (SpellsValue N)
  SpellsValue-unique a b x y v w p q e =
      shallow_unique (max (depth v) (depth w)) a b x y v w (record { spelled = p; deep = omega arith }) (record { spelled = q; deep = omega arith }) e

  pub SpellsArray-unique : IsPrefixUnique (SpellsArray N)
  SpellsArray-unique = Counted-unique Spells (SpellsValue N) spells_unique SpellsValue-unique
