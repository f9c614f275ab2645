use Rattle.listing_parse.proofs.ListingLaws.{lines_read, lines_go}
use Rattle.listing_parse.proofs.text_laws.lines_are_read_as_their_text.Goals as goal

pub returns : goal.returns
returns c = λ form s t ls e h top. (lines_read form s t ls e h top, lines_go form s t ls e h)
