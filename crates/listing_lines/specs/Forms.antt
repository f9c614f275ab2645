-- Forms of listings.
-- Page: docs/LISTING.md, "The two forms".
use Rattle.std.specs.Prelude.{Bool, true, false}
use Rattle.listing_lines.specs.declared.form.Form.{Form}
use Rattle.listing_lines.specs.declared.form.Form.TheVariants.{One, Two}

-- The form is the second.
abbrev pub is_two : Form → Bool
is_two One = false
is_two Two = true
