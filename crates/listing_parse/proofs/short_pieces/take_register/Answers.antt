use Rattle.std.proofs.Common.{ap, ◌∙◌, ◌∷◌}
use Rattle.std.proofs.lemmas.Option.{IfSome_then}
use Rattle.listing_parse.proofs.ShortLaws.{register_taken}
use Rattle.listing_parse.proofs.short_pieces.take_register.Goals as goal

pub returns : goal.returns
returns c =
    IfSome_then c.take_digits.result c.take_digits.ensures
    (λ r h. register_taken c.args.most c.args.text.now c.in_ok-digits.digits.now r.0 r.1.now (c.in_ok-after_byte.ensures ∙ ap (λ t. 32 ∷ t) c.in_ok-digits.ensures) h)
