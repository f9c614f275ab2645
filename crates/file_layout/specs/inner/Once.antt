-- Items that are laid once each: their values and the place at which they begin decide the bytes, and those decide the file.
-- Page: "Dalvik Executable format", "File layout".
use Rattle.std.specs.Prelude.{◌≡◌, ℕ, ◌-◌, ◌≤◌, List, Bool, length, slice_get, Some}
use Rattle.dex_base.specs.Fields.{AreBytes}
use Rattle.dex_container.specs.Where.{slice}
use Rattle.file_layout.specs.declared.plan.Plan.{Plan}
use Rattle.file_layout.specs.inner.Plan.{IsWritten}
use Rattle.file_layout.specs.inner.Tiles.{AreShared, Lays}

-- Of all lists of bytes one at most spells the value by G.
abbrev pub HasOneSpelling : {V : Type 0} → (List ℕ → V → Type 0) → V → Type 0
HasOneSpelling G v = (a b : List ℕ) → AreBytes a → AreBytes b → G a v → G b v → a ≡ b

-- Of all lists of bytes one at most spells each of these values by G.
abbrev pub HaveOneSpelling : {V : Type 0} → (List ℕ → V → Type 0) → List V → Type 0
HaveOneSpelling {V} G vs = (n : ℕ) (v : V) → slice_get vs n ≡ Some v → HasOneSpelling G v

-- the bytes from one place to another
abbrev pub part_of : List ℕ → ℕ → ℕ → List ℕ
part_of b from to = slice b from (to - from)

-- Two layings from the same place on have the same end, the same places, the same bytes and so many items.
pub record AreSame (b c : List ℕ) (begin end last : ℕ) (places others : List ℕ) (count number : ℕ) : Type 0 where
  pub places_are : places ≡ others
  pub ends : end ≡ last
  pub counts : count ≡ number
  pub bytes : part_of b begin end ≡ part_of c begin last

-- The same values are laid in one way from the same place on, if equal ones share an item and each is spelled in one way.
abbrev pub LayingsAreOne : {V : Type 0} → (V → Bool) → (List ℕ → V → Type 0) → ℕ → Type 0
LayingsAreOne {V} none G align =
    (begin end last : ℕ) (b c : List ℕ) (vs : List V) (places others : List ℕ) (count number : ℕ)
    → HaveOneSpelling G vs → AreBytes b → AreBytes c → end ≤ length b → last ≤ length c
    → Lays none G align begin end b vs places count → AreShared places vs
    → Lays none G align begin last c vs others number → AreShared others vs
    → AreSame b c begin end last places others count number

-- Two files by one plan that agree between the header and the map are one.
abbrev pub WrittenIsOne : Type 0
WrittenIsOne =
    (b c : List ℕ) (p : Plan) (map : ℕ) → AreBytes b → AreBytes c → IsWritten b p map → IsWritten c p map
    → 112 ≤ map → part_of b 112 map ≡ part_of c 112 map → b ≡ c
