use Rattle.std.proofs.Common.{◌<◌, ◌∙◌, ap, rules, subst, sym}
use Rattle.std.specs.List.{AllByRecursion}
use Rattle.dex_insn.specs.Raw.{raw}
use Rattle.program_types.specs.Formed.{insn_registers}
use Rattle.program_types.specs.View.{insn}
use Rattle.tables_rows.specs.Names.{NameIsAt}
use Rattle.code_read.specs.Symbols.{name_in}
use Rattle.code_read.proofs.LinkLaws.{has-name, registers-linked}
use Rattle.code_read.proofs.PlainLaws.{plain_body}
use Rattle.code_read.proofs.visiting.VisitorTake.take.Goals as goal

pub link-requires-clause-plain : goal.link-requires-clause-plain
link-requires-clause-plain c = plain_body (raw c.args.one) (search rules)

pub returns : goal.returns
returns c =
    let resolves = c.in_ok-insn.ensures.some in
    record {
      plain = search rules;
      named = has-name (NameIsAt c.args.self.tables.now) (raw c.args.one) (name_in (insn c.in_ok-insn.insn)) resolves.named;
      among = subst (AllByRecursion (λ v. v < c.args.self.registers)) (sym (registers-linked _ _ (raw c.args.one) ∙ ap insn_registers resolves.symbol)) (search rules);
      units_are = c.size_of.ensures;
      branch = c.branch_offset.ensures;
    }
