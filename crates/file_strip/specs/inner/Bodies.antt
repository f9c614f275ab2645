-- Bodies of methods that stand in a file and are written by the numbers of its kept rows.
-- Page: "Dalvik Executable format", "encoded_method": code_off, 0 for a method without a body; "code_item".
use Rattle.std.specs.Prelude.{◌≡◌, ℕ, ◌+◌, ◌==◌, List, [], ◌∷◌, ◌++◌, ◌⊎◌, MatchBool, Option, None, Some, map, take}
use Rattle.std.specs.List.{AllByRecursion, AllZip}
use Rattle.code_write.specs.Fits.{CodeBreaksLimit}
use Rattle.file_renumber.specs.inner.CarriedCodes.{IsCarriedCode}
use Rattle.file_classes.specs.declared.class_data.MethodEntry.{MethodEntry}
use Rattle.file_strip.specs.inner.AtLeast.{FitsButHandlers}
use Rattle.file_limits.specs.Wide.{bodies_of}
use Rattle.file_put.specs.inner.Codes.{WritesBody, is_bodiless}
use Rattle.program_types.specs.Content.{Code, Program}
use Rattle.program_types.specs.Formed.{IsFormed}
use Rattle.tables_names.specs.Closure.{Five, NameRanks}
use Rattle.tables_names.specs.Needed.{needed}
use Rattle.file_renumber.specs.inner.Marked.{Columns}
use Rattle.file_strip.specs.declared.codes.PlacedBody.{PlacedBody}
use Rattle.file_strip.specs.inner.Moved.{IsItem}

-- The body is a code that stands at this offset, by these numbers each name in it has its rank among names s; it is well
-- formed, and fits the fields of a file of these names, how far handlers are aside.
pub record IsCarriedSome (b : List ℕ) (numbers : Columns) (s : Five) (off : ℕ) (v : Option Code) : Type 0 where
  pub code : Code
  pub is : v ≡ Some code
  pub carried : IsCarriedCode b off numbers s code
  pub fits : FitsButHandlers (NameRanks s) code
  pub formed : IsFormed code

-- At offset 0 there is no body; at any other one the body is a code that stands there, and by these numbers each name
-- in it has its rank among names s.
abbrev pub IsCarriedBody : List ℕ → Columns → Five → ℕ → Option Code → Type 0
IsCarriedBody b numbers s off v = MatchBool (off == 0) (v ≡ None) (IsCarriedSome b numbers s off v)

-- What is written for the code at an offset.
abbrev pub WritesCarried : List ℕ → Columns → ℕ → List ℕ → Type 0
WritesCarried b numbers off bytes = (s : Five) (v : Option Code) → IsCarriedSome b numbers s off v → IsItem is_bodiless (WritesBody s) bytes v

-- ---- the bodies of classes, each with the number of its class

-- the bodies of these classes, each with the number of its class, which for the first is n
abbrev pub numbered : ℕ → Program → List (ℕ × Option Code)
numbered n [] = []
numbered n (c ∷ p) = map (λ v. (n, v)) (bodies_of c) ++ numbered (n + 1) p

-- The body of a method of the class with this number stands where the method's entry says.
pub record IsOwned (b : List ℕ) (numbers : Columns) (s : Five) (e : PlacedBody) (x : ℕ × Option Code) : Type 0 where
  pub class : e.class ≡ x.0
  pub body : IsCarriedBody b numbers s e.code x.1

-- The bodies of methods, each of the class with its number, stand where the methods' entries say.
abbrev pub AreOwned : List ℕ → Columns → Five → List PlacedBody → List (ℕ × Option Code) → Type 0
AreOwned b numbers s es xs = AllZip (IsOwned b numbers s) es xs

-- the bodies alone
abbrev pub bodies_alone : List (ℕ × Option Code) → List (Option Code)
bodies_alone xs = map (λ x. x.1) xs

-- of a method's entry: the number of its class, and where its body stands
abbrev pub body_of : ℕ → MethodEntry → PlacedBody
body_of n e = record { class = n; code = e.code }

-- The bodies of the first n classes are these.
abbrev pub AreFirstBodies : List ℕ → Columns → Program → ℕ → List PlacedBody → Type 0
AreFirstBodies b numbers p n es = AreOwned b numbers (needed p) es (numbered 0 (take n p))

-- ---- handlers that begin too far after the list's begin

-- A handler of the body begins too far after the list's begin (89).
pub record IsFar (s : Five) (v : Option Code) : Type 0 where
  pub code : Code
  pub is : v ≡ Some code
  pub breaks : CodeBreaksLimit (NameRanks s) code 89

-- None of these bodies has a handler that begins too far after the list's begin.
abbrev pub AreNear : Five → List (ℕ × Option Code) → Type 0
AreNear s xs = AllByRecursion (λ x. ¬ IsFar s x.1) xs

-- One of the bodies has a handler that begins too far after the list's begin, and the first that does is of the class
-- with this number.
abbrev pub IsFirstFar : Five → List (ℕ × Option Code) → ℕ → Type 0
IsFirstFar s [] class = ⊥
IsFirstFar s (x ∷ xs) class = ((x.0 ≡ class) × IsFar s x.1) ⊎ ((¬ IsFar s x.1) × IsFirstFar s xs class)
