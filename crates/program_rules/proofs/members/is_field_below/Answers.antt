use Rattle.std.proofs.Common.{◌+◌, map, arith, rules}
use Rattle.program_types.specs.View.{member}
use Rattle.program_rules.specs.Rules.{member_key}
use Rattle.program_rules.proofs.MemberLaws.{key-at, below-next}
use Rattle.program_rules.proofs.members.is_field_below.Goals as goal

pub returns : goal.returns
returns c =
    let xs = c.args.all.now in
    let e = key-at member_key member xs c.args.k _ (omega arith) in
    let f = key-at member_key member xs (c.args.k + 1) _ c.requires.inside in
    let h = below-next (map member_key (map member xs)) c.args.k _ _ _ e f c.member_cmp.ensures in
    search (rules, h)
