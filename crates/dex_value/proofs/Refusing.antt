-- Where a fault stands, nothing is spelled.
use Rattle.std.proofs.Common.{◌≡◌, ℕ, zero, suc, ◌+◌, ◌*◌, ◌-◌, ◌/◌, ◌%◌, ◌<◌, ◌≤◌, ◌⊎◌, inl, inr, List, [], ◌∷◌, ◌++◌, length, take, refl, sym, ap, subst, ◌∙◌, arith, append_assoc}
use Rattle.std.proofs.lemmas.List.{length-append, take_at}
use Rattle.std.specs.List.{AllByRecursion}
use Rattle.dex_base.specs.Grammar.{NoneBegins, IsPrefixUnique, Takes, Many}
use Rattle.dex_base.specs.Leb128.{Spells}
use Rattle.dex_base.specs.declared.fault.Fault.{Fault}
use Rattle.dex_base.proofs.GrammarLaws.{Each-next}
use Rattle.dex_base.proofs.Numbers.{spells_unique}
use Rattle.dex_base.proofs.TakesLaws.{Counted-takes, Takes-unique}
use Rattle.program_types.specs.Content.{Name, OfText, OfDesc, OfField, OfMethod, Value, Named, Enum, Array}
use Rattle.program_types.specs.Depth.{depth, greatest_depth, most_depth}
use Rattle.dex_value.specs.Spelling.{unsigned_of, SpellsValue, SpellsArray, count_of}
use Rattle.dex_value.specs.Standing.{Shallow}
use Rattle.dex_value.specs.Unique.{IsFunctionalByType}
use Rattle.dex_value.specs.Faults.{widest_of, IsSizedHead, IsLoneHead, IsUnknown, IsTooDeep, IsEnded, IsCut, HasNoCount, IsNameOfType, NamesNothing, OwnBreaks, NextBreaks, InsideBreaks, ValueBreaks, ArrayBreaks}
use Rattle.dex_value.specs.inner.Reading.{ValueStands}
use Rattle.dex_value.proofs.Lists.{each-shallow}
use Rattle.dex_value.proofs.Fronts.{SizedFront, ArrayFront, Front, front}
use Rattle.dex_value.proofs.FrontLaws.{cons_head, first_of_lone, sized_not_array, array_depth, array_each, shallow_unique}
use Rattle.program_types.proofs.Nesting.{listed}

-- the first byte of a front
first_is : (bytes front after ra rest : List ℕ) (h k : ℕ) → front ≡ h ∷ ra → bytes ≡ front ++ after → bytes ≡ k ∷ rest → (h ≡ k) × (ra ++ after ≡ rest)
first_is bytes front after ra rest h k p e q = cons_head h k (ra ++ after) rest (ap (λ l. l ++ after) (sym p) ∙ sym e ∙ q)

lone : (h : ℕ) → ((h ≡ 30) ⊎ (h ≡ 31) ⊎ (h ≡ 63)) → IsLoneHead h
lone h (inl e) = inr (inl e)
lone h (inr (inl e)) = inr (inr (inl e))
lone h (inr (inr e)) = inr (inr (inr e))

pub lone_not_sized : (h : ℕ) → IsLoneHead h → IsSizedHead h → ⊥
lone_not_sized h (inl e) s = let k : IsSizedHead 28 = subst (λ (j : ℕ). IsSizedHead j) e s in absurd (omega (arith, k))
lone_not_sized h (inr (inl e)) s = let k : IsSizedHead 30 = subst (λ (j : ℕ). IsSizedHead j) e s in absurd (omega (arith, k))
lone_not_sized h (inr (inr (inl e))) s = let k : IsSizedHead 31 = subst (λ (j : ℕ). IsSizedHead j) e s in absurd (omega (arith, k))
lone_not_sized h (inr (inr (inr e))) s = let k : IsSizedHead 63 = subst (λ (j : ℕ). IsSizedHead j) e s in absurd (omega (arith, k))

head_type : (n t : ℕ) → t < 28 → (32 * n + t) % 32 ≡ t
head_type n t h = omega arith

head_arg : (n t : ℕ) → t < 28 → (32 * n + t) / 32 ≡ n
head_arg n t h = omega arith

sized_head : (n t : ℕ) → t < 28 → n < widest_of t → IsSizedHead (32 * n + t)
sized_head n t h few = subst (λ (k : ℕ). k < widest_of ((32 * n + t) % 32)) (sym (head_arg n t h)) (subst (λ (k : ℕ). n < widest_of k) (sym (head_type n t h)) few)

stands_name : (N : ℕ → Name → Type 0) (t : ℕ) (low : List ℕ) (v : Value) → 23 ≤ t → ValueStands N t low v → (which : Name) × IsNameOfType t which × N (unsigned_of low) which
stands_name N t low (Named (OfText n)) h s = (OfText n, rw s.0 refl, s.1)
stands_name N t low (Named (OfDesc n)) h s = (OfDesc n, rw s.0 refl, s.1)
stands_name N t low (Named (OfField n)) h s = (OfField n, rw s.0 refl, s.1)
stands_name N t low (Named (OfMethod n)) h s = (OfMethod n, rw s.0 refl, s.1)
stands_name N t low (Enum f) h s = (OfField f, rw s.0 refl, s.1)
stands_name N t low (Array vs) h s = absurd s
stands_name N t low _ h s = absurd (omega arith)

module _ (N : ℕ → Name → Type 0) where
  sized_is : (a : List ℕ) (v : Value) (p : SizedFront N a v) → IsSizedHead (32 * (length p.low - 1) + p.type)
  sized_is a v p = let s = p.some in let f = p.few in sized_head (length p.low - 1) p.type p.small (omega (arith, s, f))

  -- the front's head is one that values have
  known : (bytes a after rest : List ℕ) (h : ℕ) (v : Value) → bytes ≡ a ++ after → bytes ≡ h ∷ rest → Front N a v → IsSizedHead h ⊎ IsLoneHead h
  known bytes a after rest h v e first (inl p) = inl (subst (λ (j : ℕ). IsSizedHead j) (first_is bytes a after p.low rest _ h p.joined e first).0 (sized_is a v p))
  known bytes a after rest h v e first (inr (inl p)) = inr (inl (sym (first_is bytes a after p.text rest 28 h p.joined e first).0))
  known bytes a after rest h v e first (inr (inr p)) =
      let f = first_of_lone a v p in inr (lone h (subst (λ (j : ℕ). (j ≡ 30) ⊎ (j ≡ 31) ⊎ (j ≡ 63)) (first_is bytes a after [] rest f.0 h f.1 e first).0 f.3))

  unknown_none : (bytes a after : List ℕ) (v : Value) → IsUnknown bytes → bytes ≡ a ++ after → Front N a v → ⊥
  unknown_none bytes a after v u e f = elim (known bytes a after u.rest u.head v e u.first f) [
    | inl s ↦ u.not_sized s
    | inr l ↦ u.not_lone l
  ]

  -- an array's head is an array's
  is_array : (bytes a after rest : List ℕ) (v : Value) → bytes ≡ a ++ after → bytes ≡ 28 ∷ rest → Front N a v → (p : ArrayFront N a v) × (p.text ++ after ≡ rest)
  is_array bytes a after rest v e first (inl p) = absurd (sized_not_array (length p.low - 1) p.type p.small (first_is bytes a after p.low rest _ 28 p.joined e first).0)
  is_array bytes a after rest v e first (inr (inl p)) = (p, (first_is bytes a after p.text rest 28 28 p.joined e first).1)
  is_array bytes a after rest v e first (inr (inr p)) =
      let f = first_of_lone a v p in let h = (first_is bytes a after [] rest f.0 28 f.1 e first).0 in let l = f.2 in absurd (omega (arith, h, l))

  -- a head with bytes is of a value with bytes
  is_sized : (bytes a after rest : List ℕ) (h : ℕ) (v : Value) → IsSizedHead h → bytes ≡ a ++ after → bytes ≡ h ∷ rest → Front N a v
      → (p : SizedFront N a v) × (32 * (length p.low - 1) + p.type ≡ h) × (p.low ++ after ≡ rest)
  is_sized bytes a after rest h v s e first (inl p) = let f = first_is bytes a after p.low rest _ h p.joined e first in (p, f.0, f.1)
  is_sized bytes a after rest h v s e first (inr (inl p)) =
      let f = (first_is bytes a after p.text rest 28 h p.joined e first).0 in absurd (lone_not_sized h (inl (sym f)) s)
  is_sized bytes a after rest h v s e first (inr (inr p)) =
      let f = first_of_lone a v p in
      let k = (first_is bytes a after [] rest f.0 h f.1 e first).0 in
      absurd (lone_not_sized h (lone h (subst (λ (j : ℕ). (j ≡ 30) ⊎ (j ≡ 31) ⊎ (j ≡ 63)) k f.3)) s)

  deep_none : (limit : ℕ) (bytes a after : List ℕ) (v : Value) → IsTooDeep limit bytes → bytes ≡ a ++ after → depth v ≤ limit → Front N a v → ⊥
  deep_none limit bytes a after v u e d f =
      let p = (is_array bytes a after u.rest v e u.first f).0 in
      let k : depth v ≡ suc (greatest_depth p.vs) = ap depth p.value in
      let z = u.none_left in
      omega (arith, k, d, z)

  ended_none : (bytes a after : List ℕ) (v : Value) → IsEnded bytes → bytes ≡ a ++ after → Front N a v → ⊥
  ended_none bytes a after v u e (inl p) = absurd (let k : [] ≡ (32 * (length p.low - 1) + p.type) ∷ (p.low ++ after) = sym u ∙ e ∙ ap (λ l. l ++ after) p.joined in cc)
  ended_none bytes a after v u e (inr (inl p)) = absurd (let k : [] ≡ 28 ∷ (p.text ++ after) = sym u ∙ e ∙ ap (λ l. l ++ after) p.joined in cc)
  ended_none bytes a after v u e (inr (inr p)) = let f = first_of_lone a v p in absurd (let k : [] ≡ f.0 ∷ after = sym u ∙ e ∙ ap (λ l. l ++ after) f.1 in cc)

  sized_arg : (a : List ℕ) (v : Value) (p : SizedFront N a v) (h : ℕ) → 32 * (length p.low - 1) + p.type ≡ h → (h / 32 + 1 ≡ length p.low) × (h % 32 ≡ p.type)
  sized_arg a v p h e =
      let s = p.some in let m = p.small in
      (omega (arith, e, s, m), omega (arith, e, m))

  cut_none : (bytes a after : List ℕ) (v : Value) → IsCut bytes → bytes ≡ a ++ after → Front N a v → ⊥
  cut_none bytes a after v u e f =
      let p = is_sized bytes a after u.rest u.head v u.sized e u.first f in
      let arg = (sized_arg a v p.0 u.head p.1).0 in
      let len : length p.0.low + length after ≡ length u.rest = sym (length-append p.0.low after) ∙ ap length p.2 in
      let short = u.short in
      omega (arith, arg, len, short)

  count_none : (limit : ℕ) (bytes a after : List ℕ) (v : Value) → HasNoCount limit bytes → bytes ≡ a ++ after → Front N a v → ⊥
  count_none limit bytes a after v u e f =
      let p = is_array bytes a after u.rest v e u.first f in
      let b = p.0.after in
      u.none b.count (b.back ++ after) (count_of p.0.vs) (sym p.1 ∙ ap (λ l. l ++ after) b.joined ∙ append_assoc b.count b.back after) b.counted

  nothing_none : (bytes a after : List ℕ) (v : Value) → NamesNothing N bytes → bytes ≡ a ++ after → Front N a v → ⊥
  nothing_none bytes a after v u e f =
      let p = is_sized bytes a after u.rest u.head v u.sized e u.first f in
      let arg = sized_arg a v p.0 u.head p.1 in
      let low : take (u.head / 32 + 1) u.rest ≡ p.0.low = ap (take (u.head / 32 + 1)) (sym p.2) ∙ take_at p.0.low after (u.head / 32 + 1) (sym arg.0) in
      let name = stands_name N p.0.type p.0.low v (let k = u.named in let t = arg.1 in omega (arith, k, t)) p.0.stands in
      u.nothing name.0 (subst (λ (t : ℕ). IsNameOfType t name.0) (sym arg.1) name.1) (subst (λ (l : List ℕ). N (unsigned_of l) name.0) (sym low) name.2)

  own_none : (off end limit : ℕ) (bytes : List ℕ) (fault : Fault) → OwnBreaks N off end limit bytes fault → NoneBegins (Shallow N limit) bytes
  own_none off end limit bytes fault (inl u) a after v e s = unknown_none bytes a after v u.0 e (front N a v s.spelled)
  own_none off end limit bytes fault (inr (inl u)) a after v e s = deep_none limit bytes a after v u.0 e s.deep (front N a v s.spelled)
  own_none off end limit bytes fault (inr (inr (inl ((inl u), is)))) a after v e s = ended_none bytes a after v u e (front N a v s.spelled)
  own_none off end limit bytes fault (inr (inr (inl ((inr (inl u)), is)))) a after v e s = cut_none bytes a after v u e (front N a v s.spelled)
  own_none off end limit bytes fault (inr (inr (inl ((inr (inr u)), is)))) a after v e s = count_none limit bytes a after v u e (front N a v s.spelled)
  own_none off end limit bytes fault (inr (inr (inr u))) a after v e s = nothing_none bytes a after v u.0 e (front N a v s.spelled)

-- where the next of the values breaks, they aren't all spelled
next_none : (G : List ℕ → Value → Type 0) (ArrayBreaksAt : List ℕ → Fault → Type 0) → IsPrefixUnique G → ((bytes : List ℕ) (fault : Fault) → ArrayBreaksAt bytes fault → NoneBegins G bytes)
    → (n : ℕ) (bytes : List ℕ) (fault : Fault) → NextBreaks G ArrayBreaksAt n bytes fault → NoneBegins (Many G n) bytes
next_none G ArrayBreaksAt unique none n bytes fault u front after vs e s =
    let t = u.spelled in
    let more = u.more in
    let len = s.0 in
    let next = Each-next G unique u.before vs t.front front u.left after (omega (arith, more, len)) t.spelled s.1 (sym t.whole ∙ e) in
    none u.left fault u.breaks next.0 next.1 next.2 next.3 next.4

module _ (N : ℕ → Name → Type 0) (one : IsFunctionalByType N) (off end : ℕ) where
  inside_none : (limit : ℕ) → ((bytes : List ℕ) (fault : Fault) → ValueBreaks N off end limit bytes fault → NoneBegins (Shallow N limit) bytes)
      → (bytes : List ℕ) (fault : Fault) → InsideBreaks (Shallow N limit) (ValueBreaks N off end limit) bytes fault → NoneBegins (Shallow N (suc limit)) bytes
  inside_none limit none bytes fault u a after v e s =
      let p = is_array N bytes a after u.rest v e u.first (front N a v s.spelled) in
      let d = array_depth limit v p.0.vs p.0.value s.deep in
      let c = array_each N limit p.0.text p.0.vs p.0.after d in
      let t = Counted-takes Spells (Shallow N limit) u.rest after (listed p.0.vs) (record { front = p.0.text; whole = sym p.1; spelled = c }) in
      let same = Takes-unique Spells u.rest u.n (length (listed p.0.vs)) u.after t.0 spells_unique u.counted t.1 in
      let q = t.2 in
      next_none (Shallow N limit) (ValueBreaks N off end limit) (shallow_unique N one limit) none u.n u.after fault u.next
      q.front after (listed p.0.vs) (same.1 ∙ q.whole) (sym same.0, q.spelled)

  pub value_none : (limit : ℕ) (bytes : List ℕ) (fault : Fault) → ValueBreaks N off end limit bytes fault → NoneBegins (Shallow N limit) bytes
  value_none zero bytes fault u = own_none N off end 0 bytes fault u
  value_none (suc limit) bytes fault (inl u) = own_none N off end (suc limit) bytes fault u
  value_none (suc limit) bytes fault (inr u) = inside_none limit (value_none limit) bytes fault u

  -- where an array of static values breaks, none stands with at most so many values, none deeper than a value may be
  pub array_none : (most : ℕ) (bytes : List ℕ) (fault : Fault) → ArrayBreaks N off end most bytes fault → (vs : List Value) (rest : List ℕ) → Takes (SpellsArray N) bytes vs rest → length vs ≤ most
      → AllByRecursion (λ v. depth v ≤ most_depth) vs → ⊥
  array_none most bytes fault (inl u) vs rest t few deep =
      let c = Counted-takes Spells (SpellsValue N) bytes rest vs t in
      u.0 c.1.front c.0 (length vs) c.1.whole c.1.spelled
  array_none most bytes fault (inr (inl u)) vs rest t few deep =
      let c = Counted-takes Spells (SpellsValue N) bytes rest vs t in
      let same = Takes-unique Spells bytes u.0.n (length vs) u.0.after c.0 spells_unique u.0.counted c.1 in
      let k = same.0 in let above = u.0.above in
      omega (arith, k, above, few)
  array_none most bytes fault (inr (inr u)) vs rest t few deep =
      let c = Counted-takes Spells (SpellsValue N) bytes rest vs t in
      let same = Takes-unique Spells bytes u.n (length vs) u.after c.0 spells_unique u.counted c.1 in
      let q = c.2 in
      next_none (Shallow N most_depth) (ValueBreaks N off end most_depth) (shallow_unique N one most_depth) (value_none most_depth) u.n u.after fault u.next
      q.front rest vs (same.1 ∙ q.whole) (sym same.0, each-shallow N most_depth q.front vs q.spelled deep)
