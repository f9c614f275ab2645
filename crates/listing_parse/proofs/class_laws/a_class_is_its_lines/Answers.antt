use Rattle.std.proofs.Common.{◌∷◌}
use Rattle.listing_lines.specs.Lines.{open_class}
use Rattle.listing_parse.proofs.ClassLaws.{class_read, class_goes}
use Rattle.listing_parse.proofs.class_laws.a_class_is_its_lines.Goals as goal

pub returns : goal.returns
returns c = λ s t n fl d ls top fine. (class_read s t n fl d ls top fine, class_goes s t ((n, open_class d fl) ∷ ls))
