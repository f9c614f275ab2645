use Rattle.std.proofs.Common.{refl, map}
use Rattle.std.specs.List.{flat_map}
use Rattle.program_types.specs.View.{insn, try, code}
use Rattle.program_types.specs.Formed.{insn_leads}
use Rattle.listing_print.specs.Canon.{try_numbers, code_numbers}
use Rattle.listing_print.proofs.MarkLaws.{marked_join}
use Rattle.listing_print.proofs.marks.mark_code.Goals as goal

pub returns-clause-marked : goal.returns-clause-marked
returns-clause-marked c = λ ns m.
    marked_join c.mark_tries.new.marks ns (flat_map insn_leads (map insn c.args.one.now.insns.now)) (flat_map try_numbers (map try c.args.one.now.tries.now)) (code_numbers (code c.args.one.now)) refl
    (c.mark_tries.ensures.marked _ (c.mark_insns.ensures.marked ns m))
