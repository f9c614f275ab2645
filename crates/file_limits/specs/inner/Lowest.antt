-- The search for the lowest limit: what the contracts of private functions cite.
use Rattle.std.specs.Prelude.{◌≡◌, ℕ, ◌≤◌, List, ◌==◌, min, nat_le, if◌then◌else◌, Option, Some, None, IfNone, IfSome}
use Rattle.std.specs.List.{AllByRecursion, slice_get}
use Rattle.dex_base.specs.declared.fault.Fault.{Fault}
use Rattle.code_write.specs.Fits.{FitsCode}
use Rattle.program_types.specs.Content.{Name, Code, Class, Program}
use Rattle.file_limits.specs.Limits.{ClassBreaksLimit, IsFirstToBreak, SomeBreaks, codes_of}

-- Of bodies this is the lowest limit that one of them breaks, if one is broken.
pub record IsLowestBroken (N : ℕ → Name → Type 0) (cs : List Code) (number : Option ℕ) : Type 0 where
  pub none : IfNone number (AllByRecursion (FitsCode N) cs)
  pub some : IfSome number (λ n. SomeBreaks N n cs)
  pub least : (m : ℕ) → SomeBreaks N m cs → (n : ℕ) × (number ≡ Some n) × (n ≤ m)

-- the lower of two numbers, where there are any
abbrev pub lower : Option ℕ → Option ℕ → Option ℕ
lower None number = number
lower (Some m) None = Some m
lower (Some m) (Some n) = Some (min m n)

-- Of classes this is the lowest limit that a body breaks, at its first class, if one is broken.
pub record IsLowestOf (N : ℕ → Name → Type 0) (p : Program) (fault : Option Fault) : Type 0 where
  pub none : IfNone fault ((i : ℕ) (c : Class) → slice_get p i ≡ Some c → AllByRecursion (FitsCode N) (codes_of c))
  pub some : IfSome fault (λ f. IsFirstToBreak N f.code p f.place)
  pub least : (m i : ℕ) → ClassBreaksLimit N m p i → (f : Fault) × (fault ≡ Some f) × (f.code ≤ m)

-- the lowest limit, with one of this number at this class, which stands after those before
abbrev pub earlier : Option Fault → Option ℕ → ℕ → Option Fault
earlier fault None class = fault
earlier None (Some number) class = Some (record { code = number; place = class })
earlier (Some fault) (Some number) class = if nat_le fault.code number then Some fault else Some (record { code = number; place = class })

-- what stands where a file is too big: the limit that a body breaks, but for how far handlers are
abbrev pub or_too_big : Option Fault → Fault
or_too_big None = record { code = 90; place = 0 }
or_too_big (Some fault) = if fault.code == 89 then record { code = 90; place = 0 } else fault
