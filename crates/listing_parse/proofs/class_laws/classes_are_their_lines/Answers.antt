use Rattle.listing_parse.proofs.ClassLaws.{classes_read, classes_go}
use Rattle.listing_parse.proofs.class_laws.classes_are_their_lines.Goals as goal

pub returns : goal.returns
returns c = λ s t ls top fine. (classes_read s t ls top fine, classes_go s t ls)
