-- Beside States.antt: what no promise reaches.
use Rattle.listing_parse.specs.States.{Block, at_members, in_class, in_code}

-- The class of the open code, outside of it.
abbrev pub class_again : Block → Block
class_again (in_code o b p) = in_class o at_members
class_again other = other
