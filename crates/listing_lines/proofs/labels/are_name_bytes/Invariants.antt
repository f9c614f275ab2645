use Rattle.std.proofs.Common.{◌≡◌, drop}
use Rattle.listing_lines.specs.Labels.{are_name_bytes}
use Rattle.listing_lines.proofs.labels.are_name_bytes.Given as goal

abbrev pub invariant-loop-c : goal.invariant-loop-c
invariant-loop-c l = are_name_bytes l.name ≡ are_name_bytes (drop l.c-index l.name)
