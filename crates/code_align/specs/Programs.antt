-- A program with each of its bodies aligned, and all else as it was.
-- Page: "Dalvik bytecode": packed-switch, sparse-switch and fill-array-data refer to payloads at even addresses.
use Rattle.std.specs.Prelude.{◌≡◌, ◌≤◌, List, [], ◌∷◌, length, Option, None, Some, ⊤}
use Rattle.std.specs.List.{AllByRecursion}
use Rattle.dex_base.specs.declared.fault.Fault.{Fault}
use Rattle.code_align.specs.Aligned.{Aligned}
use Rattle.code_align.specs.Aligning.{too_many}
use Rattle.program_types.specs.Content.{Code, Method, Class, Program}
use Rattle.program_rules.specs.Rules.{CodesHold}

-- Two lists have one length, and R relates each item of the first to that of the second at its place.
abbrev pub Pairwise : {A : Type 0} → (A → A → Type 0) → List A → List A → Type 0
Pairwise R [] [] = ⊤
Pairwise R (x ∷ xs) (y ∷ ys) = R x y × Pairwise R xs ys
Pairwise R _ _ = ⊥

-- The body aligned, where there is one.
abbrev pub AlignedBody : Option Code → Option Code → Type 0
AlignedBody None None = ⊤
AlignedBody (Some c) (Some d) = Aligned c d
AlignedBody _ _ = ⊥

-- The method with its body aligned.
pub record AlignedMethod (m n : Method) : Type 0 where
  pub name : n.name ≡ m.name
  pub proto : n.proto ≡ m.proto
  pub flags : n.flags ≡ m.flags
  pub code : AlignedBody m.code n.code

-- The class with the bodies of its methods aligned.
pub record AlignedClass (c d : Class) : Type 0 where
  pub ty : d.ty ≡ c.ty
  pub flags : d.flags ≡ c.flags
  pub superclass : d.superclass ≡ c.superclass
  pub interfaces : d.interfaces ≡ c.interfaces
  pub source : d.source ≡ c.source
  pub statics : d.statics ≡ c.statics
  pub values : d.values ≡ c.values
  pub instances : d.instances ≡ c.instances
  pub directs : Pairwise AlignedMethod c.directs d.directs
  pub virtuals : Pairwise AlignedMethod c.virtuals d.virtuals

-- The program with the bodies of its classes aligned.
abbrev pub AlignedProgram : Program → Program → Type 0
AlignedProgram p q = Pairwise AlignedClass p q

-- A code has as many instructions as one can have, or fewer.
abbrev pub IsShort : Code → Type 0
IsShort c = length c.insns ≤ 2147483647

-- Aligned, some body of the program would have more instructions than a code can have.
pub record IsTooLong (p : Program) (fault : Fault) : Type 0 where
  pub is : fault ≡ too_many
  pub each : (q : Program) → AlignedProgram p q → ¬ AllByRecursion (CodesHold IsShort) q
