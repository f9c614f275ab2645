use Rattle.std.proofs.Common.{◌∙◌, ◌++◌, ap, sym, take}
use Rattle.program_types.specs.View.{name}
use Rattle.listing_print.proofs.TextLaws.{call_text, followed}
use Rattle.listing_print.proofs.operands.put_operands.Goals as goal

pub returns-in-I35c : goal.returns-in-I35c
returns-in-I35c c = record {
  ok = rw c.in-I35c.is (followed c.put_call.result (λ e. e ∙ ap (λ t. c.args.out.now.items ++ t) (sym (call_text c.args.form (take c.in-I35c.n c.in-I35c.regs) (name c.in-I35c.name)))) c.put_call.ensures.ok);
}
