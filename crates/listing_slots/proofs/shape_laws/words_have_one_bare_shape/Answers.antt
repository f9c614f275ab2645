use Rattle.listing_slots.proofs.ShapeLaws.{bare_one}
use Rattle.listing_slots.proofs.shape_laws.words_have_one_bare_shape.Goals as goal

pub returns : goal.returns
returns c = bare_one
