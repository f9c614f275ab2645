use Rattle.file_renumber.proofs.tries.handler_of.Goals as goal

pub unreachable-requires : goal.unreachable-requires
unreachable-requires c =
    let f = c.from.ensures in let u = c.u16_at.ensures in let n = c.number_at.ensures in let s = c.in-None.is in let x = c.requires.there.1 in cc

pub returns : goal.returns
returns c =
    let f = c.from.ensures in let u = c.u16_at.ensures in let n = c.number_at.ensures in let s = c.in-Some.is in cc
