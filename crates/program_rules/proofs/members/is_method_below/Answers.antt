use Rattle.std.proofs.Common.{◌+◌, map, arith, rules}
use Rattle.program_types.specs.View.{method}
use Rattle.program_rules.specs.Rules.{method_key}
use Rattle.program_rules.proofs.MemberLaws.{key-at, below-next}
use Rattle.program_rules.proofs.members.is_method_below.Goals as goal

pub returns : goal.returns
returns c =
    let xs = c.args.all.now in
    let e = key-at method_key method xs c.args.k _ (omega arith) in
    let f = key-at method_key method xs (c.args.k + 1) _ c.requires.inside in
    let h = below-next (map method_key (map method xs)) c.args.k _ _ _ e f c.method_cmp.ensures in
    search (rules, h)
