use Rattle.std.proofs.Common.{◌≡◌, ◌*◌, ◌∙◌, ap, length, length-drop, arith}
use Rattle.tables_rows.specs.Stands.{NameStands}
use Rattle.code_read.specs.Item.{insns_size, list_begin}
use Rattle.code_read.proofs.FaultLaws.{units-even}
use Rattle.code_read.proofs.ItemLaws.{read-from_takes}
use Rattle.code_read.proofs.StandLaws.{outside_none, at_takes, code_body}
use Rattle.file_renumber.proofs.ItemLemmas.{item_spells}
use Rattle.file_renumber.proofs.code_fronts.item_at.Goals as goal

pub unreachable-requires : goal.unreachable-requires
unreachable-requires c =
    let b = c.args.sections.now in
    outside_none (NameStands b) b c.args.off c.requires.stands.0 c.in_default.ensures.none (code_body (NameStands b) b c.args.off c.requires.stands.0 c.requires.stands.1)

pub unreachable-requires-in-None : goal.unreachable-requires-in-None
unreachable-requires-in-None c =
    let b = c.args.sections.now in
    let code = c.requires.stands.0 in
    let t = at_takes (NameStands b) b c.in-Some.bytes.now c.args.codes c.args.off c.requires.codes c.in-Some.ensures.value code (code_body (NameStands b) b c.args.off code c.requires.stands.1) in
    c.in-None.ensures.none (read-from_takes (NameStands b) c.in-Some.bytes.now t.0 code t.1).whole

pub returns-clause-spelled : goal.returns-clause-spelled
returns-clause-spelled c = λ code a.
    let b = c.args.sections.now in
    let t = at_takes (NameStands b) b c.in-Some.bytes.now c.args.codes c.args.off c.requires.codes c.in-Some.ensures.value code (code_body (NameStands b) b c.args.off code a) in
    item_spells (NameStands b) c.in-Some.bytes.now t.0 c.in-Some-item_of.item code c.in-Some-item_of.ensures.some (read-from_takes (NameStands b) c.in-Some.bytes.now t.0 code t.1)

pub returns-clause-units : goal.returns-clause-units
returns-clause-units c =
    let i = c.in-Some-item_of.ensures.some in
    let e : length c.in-Some-item_of.item.units.now ≡ 2 * insns_size c.in-Some.bytes.now = ap length i.units ∙ units-even c.in-Some.bytes.now i.whole in
    let s = i.size in
    omega (arith, e, s)

pub returns-clause-short : goal.returns-clause-short
returns-clause-short c =
    let e = ap length c.in-Some-item_of.ensures.some.list in
    let d = length-drop (list_begin c.in-Some.bytes.now) c.in-Some.bytes.now in
    let s = c.in-Some.ensures.size in
    omega (arith, e, d, s)
