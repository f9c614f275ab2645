-- A list of rules, or of numbers, has one first fault, and none if all hold.
use Rattle.std.proofs.Common.{◌≡◌, ◌⊎◌, ℕ, zero, suc, ◌<◌, ◌≤◌, List, [], ◌∷◌, length, Some, inl, inr, refl, sym, ◌∙◌, subst, arith, slice_get}
use Rattle.std.proofs.lemmas.Bool.{cases_lt}
use Rattle.std.proofs.lemmas.Option.{same_Some, slice_get_within}
use Rattle.dex_base.specs.FirstFault.{or_later, or_else, AllBelow, First, or_first, FirstBroken, or_broken, HoldsAtEntry, EntryFails, FirstEntry}

-- ---- lists of rules

module _ {F : Type 0} {wanted : F} {Rule : Type 0} where
  -- no fault, if the rule is satisfied and the rest of the list has none
  pub else_clear : {e : F} {After : Type 0} → Rule → (After → ⊥) → or_else wanted e Rule After → ⊥
  else_clear kept after (inl x) = x.0 kept
  else_clear kept after (inr x) = after x.1

  -- one fault; the rest of the list may need the rule
  pub else_with : {e f : F} {A B : Type 0} → (Rule → A → B → e ≡ f) → or_else wanted e Rule A → or_else wanted f Rule B → e ≡ f
  else_with after (inl x) (inl y) = x.1 ∙ sym y.1
  else_with after (inl x) (inr y) = absurd (x.0 y.0)
  else_with after (inr x) (inl y) = absurd (y.0 x.0)
  else_with after (inr x) (inr y) = after x.0 x.1 y.1

  pub else_one : {e f : F} {A B : Type 0} → (A → B → e ≡ f) → or_else wanted e Rule A → or_else wanted f Rule B → e ≡ f
  else_one after = else_with (λ _. after)

-- the end of a list
pub none_one : {F : Type 0} {e f : F} → ⊥ → ⊥ → e ≡ f
none_one none _ = absurd none

module _ {Holds : Type 0} where
  pub later_clear : {X After : Type 0} → (Holds → X → ⊥) → (After → ⊥) → Holds → or_later X Holds After → ⊥
  later_clear clear after kept (inl x) = clear kept x
  later_clear clear after kept (inr x) = after x.1

  pub later_one : {F : Type 0} {e f : F} {X Y A B : Type 0} → (Holds → X → ⊥) → (Holds → Y → ⊥) → (X → Y → e ≡ f) → (A → B → e ≡ f) → or_later X Holds A → or_later Y Holds B → e ≡ f
  later_one clear clear2 one after (inl x) (inl y) = one x y
  later_one clear clear2 one after (inl x) (inr y) = absurd (clear y.0 x)
  later_one clear clear2 one after (inr x) (inl y) = absurd (clear2 x.0 y)
  later_one clear clear2 one after (inr x) (inr y) = after x.1 y.1

-- ---- numbers

module _ {F : Type 0} {n : ℕ} {Holds : ℕ → Type 0} {Breaks : ℕ → F → Type 0} where
  pub first_clear : {e : F} → ((i : ℕ) (x : F) → Holds i → Breaks i x → ⊥) → AllBelow n Holds → First n Holds Breaks e → ⊥
  first_clear {e} clear hold x = clear x.number e (hold x.number x.within) x.breaks

  pub first_one : {e f : F} → ((i : ℕ) (x : F) → Holds i → Breaks i x → ⊥) → ((i : ℕ) (x y : F) → Breaks i x → Breaks i y → x ≡ y)
      → First n Holds Breaks e → First n Holds Breaks f → e ≡ f
  first_one {e} {f} clear one x y = elim (cases_lt x.number y.number) [
    | inl less ↦ absurd (clear x.number e (y.before x.number less) x.breaks)
    | inr ge ↦ elim (cases_lt y.number x.number) [
      | inl more ↦ absurd (clear y.number f (x.before y.number more) y.breaks)
      | inr le ↦
          let same : x.number ≡ y.number = omega (arith, ge, le) in
          one y.number e f (subst (λ (i : ℕ). Breaks i e) same x.breaks) y.breaks
    ]
  ]

  -- a line of a list
  pub first_later : {e f : F} {A B : Type 0} → ((i : ℕ) (x : F) → Holds i → Breaks i x → ⊥) → ((i : ℕ) (x y : F) → Breaks i x → Breaks i y → x ≡ y)
      → (A → B → e ≡ f) → or_first n Holds Breaks e A → or_first n Holds Breaks f B → e ≡ f
  first_later {e} {f} clear one after = later_one (λ hold. first_clear {e = e} clear hold) (λ hold. first_clear {e = f} clear hold) (first_one clear one) after

  first_up_to : (m : ℕ) → m ≤ n → ((i : ℕ) → i < n → Holds i ⊎ ((e : F) × Breaks i e)) → AllBelow m Holds ⊎ ((e : F) × First n Holds Breaks e)
  first_up_to zero le each = inl (λ i lt. absurd (omega (arith, lt)))
  first_up_to (suc m) le each = elim (first_up_to m (omega (arith, le)) each) [
    | inl before ↦ elim (each m (omega (arith, le))) [
      | inl here ↦ inl (λ i lt. elim (cases_lt i m) [
        | inl less ↦ before i less
        | inr ge ↦ let e : m ≡ i = omega (arith, ge, lt) in subst Holds e here
      ])
      | inr found ↦ inr (found.0, record { number = m; within = omega (arith, le); breaks = found.1; before = before })
    ]
    | inr first ↦ inr first
  ]

  -- all numbers satisfy the rules, or there is a first that doesn't
  pub first_decided : ((i : ℕ) → i < n → Holds i ⊎ ((e : F) × Breaks i e)) → AllBelow n Holds ⊎ ((e : F) × First n Holds Breaks e)
  first_decided = first_up_to n (omega arith)

-- ---- one rule that all keep

module _ {F : Type 0} {n : ℕ} {Holds : ℕ → Type 0} {wanted : ℕ → F} where
  pub broken_clear : {e : F} → AllBelow n Holds → FirstBroken n Holds wanted e → ⊥
  broken_clear = first_clear (λ i x h b. b.broken h)

  pub broken_one : {e f : F} → FirstBroken n Holds wanted e → FirstBroken n Holds wanted f → e ≡ f
  broken_one = first_one (λ i x h b. b.broken h) (λ i x y p q. p.is ∙ sym q.is)

  -- a line of a list
  pub broken_later : {e f : F} {A B : Type 0} → (A → B → e ≡ f) → or_broken n Holds wanted e A → or_broken n Holds wanted f B → e ≡ f
  broken_later = first_later (λ i x h b. b.broken h) (λ i x y p q. p.is ∙ sym q.is)

  pub broken_decided : ((i : ℕ) → Holds i ⊎ (Holds i → ⊥)) → AllBelow n Holds ⊎ ((e : F) × FirstBroken n Holds wanted e)
  broken_decided each = first_decided (λ i lt. elim (each i) [ inl hold ↦ inl hold | inr not ↦ inr (wanted i, record { broken = not; is = refl }) ])

-- ---- entries of a list

module _ {A F : Type 0} (xs : List A) (Holds : ℕ → A → Type 0) (Breaks : ℕ → A → F → Type 0) (clear : (i : ℕ) (a : A) (x : F) → Holds i a → Breaks i a x → ⊥) where
  pub entry_clear : (i : ℕ) (e : F) → HoldsAtEntry xs Holds i → EntryFails xs Breaks i e → ⊥
  entry_clear i e hold x = clear i x.entry e (hold x.entry x.there) x.breaks

  pub first_entry_one : ((i : ℕ) (a : A) (x y : F) → Breaks i a x → Breaks i a y → x ≡ y) → (e f : F) → FirstEntry xs Holds Breaks e → FirstEntry xs Holds Breaks f → e ≡ f
  first_entry_one one e f = first_one entry_clear (λ i x y p q.
      let same = same_Some p.entry q.entry (sym p.there ∙ q.there) in
      one i q.entry x y (subst (λ (a : A). Breaks i a x) same p.breaks) q.breaks)

some_entry : {A : Type 0} (xs : List A) (k : ℕ) → k < length xs → (x : A) × (slice_get xs k ≡ Some x)
some_entry [] k lt = absurd (omega (arith, lt))
some_entry (x ∷ xs) zero lt = (x, refl)
some_entry (x ∷ xs) (suc k) lt = some_entry xs k (omega (arith, lt))

-- all entries satisfy the rules, or there is a first that doesn't
pub entries_decided : {A F : Type 0} (xs : List A) (Holds : ℕ → A → Type 0) (Breaks : ℕ → A → F → Type 0) → ((i : ℕ) (a : A) → slice_get xs i ≡ Some a → Holds i a ⊎ ((e : F) × Breaks i a e))
    → ((i : ℕ) (a : A) → slice_get xs i ≡ Some a → Holds i a) ⊎ ((e : F) × FirstEntry xs Holds Breaks e)
entries_decided {A} {F} xs Holds Breaks each = all (first_decided entry)
  where
    entry : (i : ℕ) → i < length xs → HoldsAtEntry xs Holds i ⊎ ((e : F) × EntryFails xs Breaks i e)
    entry i lt =
        let at = some_entry xs i lt in
        elim (each i at.0 at.1) [
          | inl hold ↦ inl (λ a there. subst (λ (x : A). Holds i x) (same_Some at.0 a (sym at.1 ∙ there)) hold)
          | inr found ↦ inr (found.0, record { entry = at.0; there = at.1; breaks = found.1 })
        ]

    all : AllBelow (length xs) (HoldsAtEntry xs Holds) ⊎ ((e : F) × FirstEntry xs Holds Breaks e) → ((i : ℕ) (a : A) → slice_get xs i ≡ Some a → Holds i a) ⊎ ((e : F) × FirstEntry xs Holds Breaks e)
    all (inl hold) = inl (λ i a there. hold i (slice_get_within xs i a there) a there)
    all (inr first) = inr first
