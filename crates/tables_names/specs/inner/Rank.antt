-- Beside Rank.antt: what no promise reaches.
use Rattle.std.specs.Prelude.{◌≡◌, ℕ, List, []}
use Rattle.std.specs.declared.cmp.Ordering.{Ordering}
use Rattle.std.specs.Ordering.{nat_cmp, ordering_then}
use Rattle.program_types.specs.Key.{Key, key_cmp}
use Rattle.tables_names.specs.Rank.{IsAt, IsSubset, Rising, add_all}

-- in a rising list keys compare as their places do
abbrev pub KeysCompareAsIndices : Type 0
KeysCompareAsIndices =
    (table : List Key) (i j : ℕ) (a b : Key) → Rising table → IsAt table i a → IsAt table j b → key_cmp a b ≡ nat_cmp i j

-- two names compare as these ranks of their parts do, unless the ranks tie
abbrev pub RanksDecide : Ordering → Ordering → Type 0
RanksDecide ranks names = ordering_then ranks names ≡ names

-- a set is made by any list of its members, in any order
abbrev pub SetsAreTheirMembers : Type 0
SetsAreTheirMembers = (ks js : List Key) → IsSubset ks js → IsSubset js ks → add_all [] ks ≡ add_all [] js
