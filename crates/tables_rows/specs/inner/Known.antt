-- What is kept of a list of parameters while proto_ids is read.
-- Page: "Dalvik Executable format", "proto_id_item": shorty_idx.
use Rattle.std.specs.Prelude.{◌≡◌, ℕ, List, ◌∷◌, map}
use Rattle.program_types.specs.Content.{Units}
use Rattle.program_types.specs.Shorty.{letter_of}
use Rattle.program_types.specs.View.{desc}
use Rattle.tables_rows.specs.Stands.{StringStands}
use Rattle.tables_rows.specs.TableFaults.{ParametersAt}
use Rattle.tables_rows.specs.declared.proto_ids.Known.{Known}

-- The types are the parameters at the offset, and a text in the shorty's row is the shorty of them and of a return type with this letter.
pub record IsKnown (b : List ℕ) (off : ℕ) (known : Known) : Type 0 where
  pub list : ParametersAt b off (map desc known.params.now)
  pub fits : (text : Units) → StringStands b known.shorty text → text ≡ known.letter ∷ map letter_of (map desc known.params.now)
