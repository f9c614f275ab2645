use Rattle.std.proofs.Common.{arith}
use Rattle.std.proofs.lemmas.Option.{slice_get_within}
use Rattle.file_put.proofs.index.type_index.Goals as goal

pub unreachable-requires : goal.unreachable-requires
unreachable-requires c = let w = slice_get_within c.args.ranks.now.types c.requires.held.0 _ c.requires.held.1 in c.in-None.ensures.none c.requires.held.0 (omega (arith, w, c.requires.few)) c.requires.held.1

pub overflow_cast-result : goal.overflow_cast-result
overflow_cast-result c = let w = slice_get_within c.args.ranks.now.types c.in-Some.index _ c.in-Some.ensures.some in omega (arith, w, c.requires.few)
