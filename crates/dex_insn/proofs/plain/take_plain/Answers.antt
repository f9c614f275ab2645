use Rattle.std.proofs.Common.{rules, ◌≡◌, ◌<◌, ◌≤◌, ◌*◌, Some, length}
use Rattle.std.specs.Prelude.{IsTrue}
use Rattle.dex_insn.specs.Fields.{field}
use Rattle.dex_insn.specs.Flaws.{format_at, has_zero_byte}
use Rattle.dex_insn.specs.Opcodes.{units_of}
use Rattle.dex_insn.proofs.Flaws.{cut, non_zero}
use Rattle.dex_insn.proofs.plain.take_plain.Goals as goal

pub returns-then-front-units-clause-err : goal.returns-then-front-units-clause-err
returns-then-front-units-clause-err g c = λ at.
    let is : format_at c.args.front.now ≡ Some c.in-Some.format = search rules in
    let less : length c.args.front.now < 2 * units_of c.in-Some.format = search rules in
    cut at c.args.front.now c.requires.long c.in-Some.format c.requires.plain is less

pub returns-in-F10x-clause-err : goal.returns-in-F10x-clause-err
returns-in-F10x-clause-err g c = λ at.
    let is : format_at c.args.front.now ≡ Some c.in-Some.format = search rules in
    let whole : 2 * units_of c.in-Some.format ≤ length c.args.front.now = search rules in
    let zero : IsTrue (has_zero_byte c.in-Some.format) = search rules in
    let some : 0 < field c.args.front.now 0 8 8 = search rules in
    non_zero at c.args.front.now c.requires.long c.in-Some.format c.requires.plain is whole zero some
