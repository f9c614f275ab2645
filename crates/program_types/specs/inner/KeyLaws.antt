-- Beside KeyLaws.antt: what no promise reaches.
use Rattle.std.specs.Cmp.{IsTotalOrder}
use Rattle.std.specs.FinSet.{IsAntisymmetric, slice_cmp-IsAntisymmetric, nat_cmp-IsAntisymmetric}
use Rattle.std.specs.Cmp.Lexicographic.{lists_total, nat_list_cmp_total}
use Rattle.program_types.specs.Key.{key_cmp}

-- The order of keys is total and transitive.
pub key_cmp-total : IsTotalOrder key_cmp
key_cmp-total = lists_total nat_list_cmp_total

-- Two keys tie only where they are one key.
pub key_cmp-same : IsAntisymmetric key_cmp
key_cmp-same = slice_cmp-IsAntisymmetric (slice_cmp-IsAntisymmetric nat_cmp-IsAntisymmetric)
