-- Lines that may stand wherever in a block.
use Rattle.std.proofs.Common.{◌≡◌, true, refl}
use Rattle.listing_lines.specs.Places.{is_in_class, is_in_code}
use Rattle.listing_parse.specs.States.{ClassPart, at_heads, CodePart, at_insns, class_stage, code_stage}

-- A member or the class's end may stand wherever in a class.
pub class_goes_on : (p : ClassPart) → is_in_class (class_stage p) ≡ true
class_goes_on at_heads = refl
class_goes_on _ = refl

-- A try or the code's end may stand wherever in a code.
pub code_goes_on : (p : CodePart) → is_in_code (code_stage p) ≡ true
code_goes_on at_insns = refl
code_goes_on _ = refl
