use Rattle.std.proofs.Common.{◌<◌, get_or, arith}
use Rattle.program_types.specs.View.{name}
use Rattle.code_write.proofs.MentionLaws.{one_there, one_is}
use Rattle.code_write.proofs.RankLaws.{below-limit}
use Rattle.code_write.proofs.lowering.only.Goals as goal

pub bounds-indices-0 : goal.bounds-indices-0
bounds-indices-0 c = one_there c.args.ranks.now (name c.args.name) c.args.indices.now c.requires.index

pub overflow_cast-result : goal.overflow_cast-result
overflow_cast-result c =
    let is = one_is c.args.ranks.now (name c.args.name) c.args.indices.now c.requires.index in
    let below : get_or c.args.indices.now 0 0 < c.args.limit = below-limit c.args.ranks.now (get_or c.args.indices.now 0 0) c.args.limit (name c.args.name) c.rise.ensures is c.requires.fits in
    omega (arith, below, c.requires.limit)

pub returns-clause-stands : goal.returns-clause-stands
returns-clause-stands c = one_is c.args.ranks.now (name c.args.name) c.args.indices.now c.requires.index

pub returns-clause-short : goal.returns-clause-short
returns-clause-short c =
    below-limit c.args.ranks.now (get_or c.args.indices.now 0 0) c.args.limit (name c.args.name) c.rise.ensures (one_is c.args.ranks.now (name c.args.name) c.args.indices.now c.requires.index) c.requires.fits
