-- Sets of names as strictly rising lists of their keys, and the rank of a name in one: its index in the table that has just
-- these names.
-- Page: "Dalvik Executable format", "File layout": each table of names is sorted and has no duplicates.
use Rattle.std.specs.Prelude.{◌≡◌, ℕ, List, Bool, true, Some, count_by, fold, slice_get, Option, SomeIff, IsTrue, ◌<◌, ◌≤◌, ◌^◌}
use Rattle.std.specs.Ordering.{is_lt, eq_by_cmp}
use Rattle.std.specs.List.{list_any}
use Rattle.std.specs.List.Sorted.{IsStrictlySortedBy}
use Rattle.std.specs.BTreeSet as set
use Rattle.program_types.specs.Key.{Key, key_cmp}

-- each key is above the one before
abbrev pub Rising : List Key → Type 0
Rising ks = IsStrictlySortedBy key_cmp ks

-- the keys, with k at its place
abbrev pub insert_key : List Key → Key → List Key
insert_key ks k = set.insert_key key_cmp ks k

-- whether k is one of the keys
abbrev pub is_member : List Key → Key → Bool
is_member ks k = list_any (eq_by_cmp key_cmp k) ks

-- how many of the keys are less
abbrev pub rank_of : List Key → Key → ℕ
rank_of ks k = count_by (λ q. is_lt (key_cmp q k)) ks

-- the keys, with each of more at its place
abbrev pub add_all : List Key → List Key → List Key
add_all ks more = fold (λ ks k. insert_key ks k) ks more

-- each key of ks is one of js
pub record IsSubset (ks js : List Key) : Type 0 where
  pub each : (k : Key) → is_member ks k ≡ true → is_member js k ≡ true

-- i is the index of a key
abbrev pub IsAt : List Key → ℕ → Key → Type 0
IsAt ks i k = slice_get ks i ≡ Some k

-- the result of a look-up of k: the rank, if k is in the set and the rank has 32 bits
abbrev pub LookUpAnswers : List Key → Key → Option ℕ → Type 0
LookUpAnswers ks k r = SomeIff r (IsTrue (is_member ks k) × (rank_of ks k < 2 ^ 32)) (rank_of ks k)

-- in a table that has each name of a set, the index of a name is at least its rank in the set
abbrev pub IndexIsAtLeastRank : Type 0
IndexIsAtLeastRank =
    (set table : List Key) (i : ℕ) (k : Key) → Rising set → Rising table → IsSubset set table → IsAt table i k → rank_of set k ≤ i
