use Rattle.listing_slots.proofs.ShapeLaws.{shapes_one}
use Rattle.listing_slots.proofs.shape_laws.words_have_one_shape.Goals as goal

pub returns : goal.returns
returns c = shapes_one
