-- Sets of keys made by adding one after the other.
use Rattle.std.proofs.Common.{◌≡◌, ◌||◌, List, []}
use Rattle.std.specs.List.Sorted.{IsStrictlySortedBy}
use Rattle.program_types.specs.Key.{Key}
use Rattle.program_types.specs.inner.KeyLaws.{key_cmp-total, key_cmp-same}
use Rattle.tables_names.specs.Rank.{Rising, is_member, add_all}
use Rattle.tables_names.proofs.RisingLemmas.{sorted-fold, is_member-fold}

pub rising-add_all : (ks more : List Key) → Rising ks → Rising (add_all ks more)
rising-add_all = sorted-fold key_cmp-total key_cmp-same

pub is_member-add_all : (ks more : List Key) (q : Key) → is_member (add_all ks more) q ≡ (is_member ks q || is_member more q)
is_member-add_all = is_member-fold key_cmp-total key_cmp-same

pub rising-none : Rising []
unfolding IsStrictlySortedBy
rising-none = tt
