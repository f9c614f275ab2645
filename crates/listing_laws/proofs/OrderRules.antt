-- Keys that rise one by one are in their order.
use Rattle.std.proofs.Common.{◌≡◌, suc, ◌+◌, List, [], ◌∷◌, arith}
use Rattle.std.specs.declared.cmp.Ordering.TheVariants as ordering
use Rattle.program_types.specs.Key.{Key, key_cmp}
use Rattle.program_types.specs.inner.KeyLaws.{key_cmp-total}
use Rattle.program_rules.specs.Rules.{KeysRise}
use Rattle.listing_laws.proofs.Printable.{IsBelowAll, KeysAreSorted}

-- ---- keys

below_more : (k q : Key) (ks : List Key) → key_cmp k q ≡ ordering.Less → IsBelowAll q ks → IsBelowAll k ks
below_more k q [] e h = tt
below_more k q (r ∷ ks) e h = (key_cmp-total.trans k q r e h.0, below_more k q ks e h.1)

pub keys_sorted : (ks : List Key) → KeysRise ks → KeysAreSorted ks
keys_sorted [] h = tt
keys_sorted (k ∷ []) h = (tt, tt)
keys_sorted (k ∷ q ∷ ks) h =
    let e : key_cmp k q ≡ ordering.Less = h 0 (omega arith) in
    let s = keys_sorted (q ∷ ks) (λ i l. let n : suc i + 1 ≡ suc (i + 1) = omega arith in rw n at (h (suc i) (omega arith))) in
    ((e, below_more k q ks e s.0), s)
