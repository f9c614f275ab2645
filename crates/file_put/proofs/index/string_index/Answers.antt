use Rattle.std.proofs.Common.{arith}
use Rattle.std.proofs.lemmas.Option.{slice_get_within}
use Rattle.file_put.proofs.index.string_index.Goals as goal

pub unreachable-requires : goal.unreachable-requires
unreachable-requires c = let w = slice_get_within c.args.ranks.now.strings c.requires.held.0 _ c.requires.held.1 in c.in-None.ensures.none c.requires.held.0 (omega (arith, w, c.requires.few)) c.requires.held.1
