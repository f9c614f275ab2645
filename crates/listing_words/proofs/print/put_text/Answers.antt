use Rattle.std.proofs.Common.{ap, ◌∙◌, ◌++◌, ◌∷◌, []}
use Rattle.std.specs.List.{flat_map}
use Rattle.listing_words.specs.Texts.{unit_text}
use Rattle.listing_words.proofs.PlainLaws.{text_joined}
use Rattle.listing_words.proofs.print.put_text.Goals as goal

pub returns : goal.returns
returns c = record {
  ok = text_joined c.args.out.now.items c.put_plain.new.out.items c.push-2.new.self.items c.args.units.now c.in_ok-done.done
      (rw c.in_ok-push.ensures.items at c.in_ok-done.ensures.ok)
      (c.in_ok-push-2.ensures.items ∙ ap (λ l. l ++ 34 ∷ []) (c.in_ok-put_units.ensures.ok ∙ ap (λ l. c.put_plain.new.out.items ++ flat_map unit_text l) c.split_at.ensures.back));
}
