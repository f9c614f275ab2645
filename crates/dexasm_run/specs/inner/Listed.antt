-- A file that is listed class by class.
-- Page: docs/LISTING.md, "Lines".
use Rattle.std.specs.Prelude.{◌≡◌, ℕ, ◌++◌, List}
use Rattle.std.specs.List.{flat_map}
use Rattle.program_types.specs.Content.{Class}
use Rattle.file_read.specs.declared.class_reader.ClassReader.{ClassReader}
use Rattle.file_read.specs.inner.ByClass.{IsReader, HasRead}
use Rattle.listing_lines.specs.declared.form.Form.TheVariants.{Two}
use Rattle.listing_print.specs.Canon.{class_text, first_text}

-- The text is the first line, and the lines of the classes that the reader has read.
pub record HasPrinted (text : List ℕ) (r : ClassReader) : Type 0 where
  pub reader : IsReader r
  pub classes : List Class
  pub read : HasRead r classes
  pub printed : text ≡ first_text Two ++ flat_map (class_text Two) classes
