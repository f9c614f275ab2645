-- The first fault: of a list of rules the first that is violated, of numbered items the first that violates one. What
-- is found is a fault, or its number alone.
use Rattle.std.specs.Prelude.{ℕ, ◌≡◌, ◌<◌, ◌⊎◌, List, length, Some}
use Rattle.std.specs.List.{slice_get}

-- `breaks`, or `holds` and the rest of the list.
abbrev pub or_later : Type 0 → Type 0 → Type 0 → Type 0
or_later breaks holds after = breaks ⊎ (holds × after)

-- One line of a list of rules: the rule is violated and the fault is `wanted`, or it is satisfied and the rest has the
-- fault.
abbrev pub or_else : {F : Type 0} → F → F → Type 0 → Type 0 → Type 0
or_else wanted found rule after = or_later ((¬ rule) × (found ≡ wanted)) rule after

-- Each number below n satisfies the rule.
abbrev pub AllBelow : ℕ → (ℕ → Type 0) → Type 0
AllBelow n Holds = (i : ℕ) → i < n → Holds i

-- The first number below n that violates a rule, and its fault.
pub record First {F : Type 0} (n : ℕ) (Holds : ℕ → Type 0) (Breaks : ℕ → F → Type 0) (found : F) : Type 0 where
  pub number : ℕ
  pub within : number < n
  pub breaks : Breaks number found
  pub before : AllBelow number Holds

-- Number i violates the rule, and the fault is the one that `wanted` gives for it.
pub record BreaksRule {F : Type 0} (Holds : ℕ → Type 0) (wanted : ℕ → F) (i : ℕ) (found : F) : Type 0 where
  pub broken : ¬ Holds i
  pub is : found ≡ wanted i

-- The first number below n that violates the rule, and the fault that `wanted` gives for it.
abbrev pub FirstBroken : {F : Type 0} → ℕ → (ℕ → Type 0) → (ℕ → F) → F → Type 0
FirstBroken n Holds wanted = First n Holds (BreaksRule Holds wanted)

-- One line for a rule of each number below n: the first that violates it has the fault, or all satisfy it and the rest
-- has it.
abbrev pub or_first : {F : Type 0} → ℕ → (ℕ → Type 0) → (ℕ → F → Type 0) → F → Type 0 → Type 0
or_first n Holds Breaks found after = or_later (First n Holds Breaks found) (AllBelow n Holds) after

-- The same, where the fault follows from the number.
abbrev pub or_broken : {F : Type 0} → ℕ → (ℕ → Type 0) → (ℕ → F) → F → Type 0 → Type 0
or_broken n Holds wanted found after = or_later (FirstBroken n Holds wanted found) (AllBelow n Holds) after

-- Entry i of a list, if there is one, satisfies the rule.
abbrev pub HoldsAtEntry : {A : Type 0} → List A → (ℕ → A → Type 0) → ℕ → Type 0
HoldsAtEntry {A} xs Holds i = (x : A) → slice_get xs i ≡ Some x → Holds i x

-- Entry i of a list violates a rule.
pub record EntryFails {A F : Type 0} (xs : List A) (Breaks : ℕ → A → F → Type 0) (i : ℕ) (found : F) : Type 0 where
  pub entry : A
  pub there : slice_get xs i ≡ Some entry
  pub breaks : Breaks i entry found

-- The first entry of a list that violates a rule, and its fault.
abbrev pub FirstEntry : {A F : Type 0} → List A → (ℕ → A → Type 0) → (ℕ → A → F → Type 0) → F → Type 0
FirstEntry xs Holds Breaks = First (length xs) (HoldsAtEntry xs Holds) (EntryFails xs Breaks)
