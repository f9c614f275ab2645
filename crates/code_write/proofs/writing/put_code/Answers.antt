use Rattle.std.proofs.Common.{map}
use Rattle.std.specs.List.{flat_map}
use Rattle.dex_base.proofs.ListFacts.{all_front}
use Rattle.program_types.specs.Mentions.{names_of_insn, names_of_try}
use Rattle.program_types.specs.View as view
use Rattle.tables_names.specs.Closure.{NameRanks}
use Rattle.code_write.specs.Fits.{HasIndexBelow}
use Rattle.code_write.proofs.writing.put_code.Goals as goal

pub indices_of-requires : goal.indices_of-requires
indices_of-requires c =
    all_front (HasIndexBelow (NameRanks c.args.ranks.now) 4294967296) (flat_map names_of_insn (map view.insn c.args.code.now.insns.now)) (flat_map names_of_try (map view.try c.args.code.now.tries.now)) c.requires.ranked.ranked

pub make_item-requires-clause-indices : goal.make_item-requires-clause-indices
make_item-requires-clause-indices c = rw c.deref.ensures.value c.in_ok-indices.ensures.ok
