use Rattle.std.proofs.Common.{ap, ◌∙◌, ◌++◌}
use Rattle.std.proofs.lemmas.Result.{on_ok_weaker}
use Rattle.listing_words.specs.Written.{name_text}
use Rattle.listing_words.proofs.PlainLaws.{name_joined}
use Rattle.listing_words.proofs.print_names.put_name.Goals as goal

pub returns : goal.returns
returns c = record {
  ok = on_ok_weaker c.put_name_units.result
      (λ e. name_joined c.args.out.now.items c.put_plain.new.out.items c.put_name_units.new.out.items c.args.units.now c.in_ok-done.done c.in_ok-done.ensures.ok
      (e ∙ ap (λ l. c.put_plain.new.out.items ++ name_text l) c.split_at.ensures.back))
      c.put_name_units.ensures.ok;
}
