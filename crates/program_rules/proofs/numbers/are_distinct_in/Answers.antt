use Rattle.std.proofs.Common.{map, length, sym}
use Rattle.std.proofs.lemmas.List.{length-map}
use Rattle.program_types.specs.View.{desc}
use Rattle.program_rules.proofs.NumberLaws.{distinct-by}
use Rattle.program_rules.proofs.numbers.are_distinct_in.Goals as goal

pub returns : goal.returns
returns c = record { ok = distinct-by (map desc c.args.list.now) (length c.args.list.now) (sym (length-map c.args.list.now desc)) _ c.in_ok-numbers.ensures.ok.again _ c.is_none.ensures }
