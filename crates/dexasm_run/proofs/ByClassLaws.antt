-- A file that is listed class by class.
use Rattle.std.proofs.Common.{◌≡◌, ℕ, List, ◌∷◌, [], ◌++◌, ap, ◌∙◌}
use Rattle.std.proofs.lemmas.List.{flat_map_more}
use Rattle.program_types.specs.Content.{Class}
use Rattle.file_read.specs.declared.class_reader.ClassReader.{ClassReader}
use Rattle.file_read.specs.inner.ByClass.{IsReader, HasRead}
use Rattle.listing_lines.specs.declared.form.Form.TheVariants.{Two}
use Rattle.listing_print.specs.Canon.{class_text, first_text}
use Rattle.dexasm_run.specs.inner.Listed.{HasPrinted}

-- one class more
pub listed_more : (text new : List ℕ) (old next : ClassReader) (c : Class) → HasPrinted text old → IsReader next → ((classes : List Class) → HasRead old classes → HasRead next (classes ++ c ∷ [])) → new ≡ text ++ class_text Two c → HasPrinted new next
listed_more text new old next c before reader more put = record {
  reader = reader;
  classes = before.classes ++ c ∷ [];
  read = more before.classes before.read;
  printed = put ∙ ap (λ (t : List ℕ). t ++ class_text Two c) before.printed ∙ flat_map_more (class_text Two) (first_text Two) before.classes c;
}
