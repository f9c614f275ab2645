use Rattle.std.proofs.Common.{◌≡◌, ◌++◌, map, drop, length}
use Rattle.code_write.specs.inner.Writing.{joined_keys, places_from}
use Rattle.code_write.proofs.handlers.list_of.Given as goal

abbrev pub invariant-loop-k : goal.invariant-loop-k
invariant-loop-k l = record {
  is : l.bytes.items ++ joined_keys (drop l.k (map (λ v. v.items) l.handlers.keys)) ≡ l.initial.bytes.items ++ joined_keys (map (λ v. v.items) l.handlers.keys);
  places_are : l.places.items ++ places_from (length l.bytes.items) (drop l.k (map (λ v. v.items) l.handlers.keys)) ≡ places_from (length l.initial.bytes.items) (map (λ v. v.items) l.handlers.keys);
}
