-- Which programs can be written, and why one is not: the limits of a file's fields.
-- Page: "Dalvik Executable format", "header_item" and "code_item"; "Dalvik Executable instruction formats", the widths of fields.
use Rattle.std.specs.Prelude.{◌≡◌, ℕ, ◌<◌, ◌≤◌, List, ◌++◌, length, Some}
use Rattle.std.specs.List.{AllByRecursion, flat_map, slice_get}
use Rattle.std.specs.Option.{option_to_list}
use Rattle.dex_base.specs.declared.fault.Fault.{Fault}
use Rattle.code_write.specs.Fits.{CodeBreaksLimit, FitsCode}
use Rattle.tables_names.specs.Closure.{NameRanks}
use Rattle.tables_names.specs.Needed.{needed}
use Rattle.program_types.specs.Content.{Name, Code, Method, Class, Program}
use Rattle.file_limits.specs.Wide.{wide}

-- ---- bodies

-- the body of a method that has one
abbrev pub method_code : Method → List Code
method_code m = option_to_list m.code

-- The bodies of these methods that have one.
abbrev pub codes_in : List Method → List Code
codes_in ms = flat_map method_code ms

-- The bodies of a class: direct methods, then virtual ones.
abbrev pub codes_of : Class → List Code
codes_of c = codes_in c.directs ++ codes_in c.virtuals

-- One of the bodies breaks the limit of this number.
pub record SomeBreaks (N : ℕ → Name → Type 0) (number : ℕ) (cs : List Code) : Type 0 where
  pub index : ℕ
  pub code : Code
  pub there : slice_get cs index ≡ Some code
  pub breaks : CodeBreaksLimit N code number

-- A body of class i breaks the limit of this number.
pub record ClassBreaksLimit (N : ℕ → Name → Type 0) (number : ℕ) (p : Program) (i : ℕ) : Type 0 where
  pub class : Class
  pub there : slice_get p i ≡ Some class
  pub body : SomeBreaks N number (codes_of class)

-- Class i is the first with a body that breaks the limit of this number.
pub record IsFirstToBreak (N : ℕ → Name → Type 0) (number : ℕ) (p : Program) (i : ℕ) : Type 0 where
  pub here : ClassBreaksLimit N number p i
  pub first : (j : ℕ) → ClassBreaksLimit N number p j → i ≤ j

-- ---- a program

-- The program breaks no limit.
pub record Fits (p : Program) : Type 0 where
  pub few_types : length (needed p).types ≤ 65535
  pub few_protos : length (needed p).protos ≤ 65535
  pub bodies : (i : ℕ) (c : Class) → slice_get p i ≡ Some c → AllByRecursion (FitsCode (NameRanks (needed p))) (codes_of c)
  pub small : wide p ≤ 4294967295

-- The program breaks the limit of this number at this place.
pub data LimitBreaks (p : Program) : ℕ → ℕ → Type 0 where
  -- more types or prototypes are needed than type_ids_size and proto_ids_size may be: the place is how many
  TooManyTypes : 65535 < length (needed p).types → LimitBreaks p 80 (length (needed p).types)
  TooManyProtos : 65535 < length (needed p).protos → LimitBreaks p 81 (length (needed p).protos)
  -- a body breaks one of 82 to 88: at the first class with such a body
  BodyBreaks : {number i : ℕ} → number ≤ 88 → IsFirstToBreak (NameRanks (needed p)) number p i → LimitBreaks p number i
  -- a body breaks 89, and the file is not too big itself: at the first class with such a body
  HandlerTooFar : {i : ℕ} → wide p ≤ 4294967295 → IsFirstToBreak (NameRanks (needed p)) 89 p i → LimitBreaks p 89 i
  -- the file is too big for a file_size of four bytes: at 0
  TooBig : 4294967295 < wide p → LimitBreaks p 90 0

-- The fault is the lowest limit that the program breaks.
pub record IsLowestLimit (p : Program) (fault : Fault) : Type 0 where
  pub breaks : LimitBreaks p fault.code fault.place
  pub lowest : (n place : ℕ) → LimitBreaks p n place → fault.code ≤ n
