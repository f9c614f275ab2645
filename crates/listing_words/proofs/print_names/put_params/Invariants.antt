use Rattle.std.proofs.Common.{◌≡◌, ◌++◌, take, map}
use Rattle.std.specs.List.{flat_map}
use Rattle.program_types.specs.View.{desc}
use Rattle.listing_words.specs.Written.{name_text}
use Rattle.listing_words.proofs.print_names.put_params.Given as goal

abbrev pub invariant-loop-param : goal.invariant-loop-param
invariant-loop-param l = l.out.items ≡ l.fn.out.items ++ name_text (flat_map (λ t. t) (map desc (take l.param-index l.params)))
