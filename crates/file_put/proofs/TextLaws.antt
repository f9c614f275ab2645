-- Texts of strings.
use Rattle.std.proofs.Common.{◌≡◌, ◌*◌, ◌≤◌, List, [], ◌∷◌, length, map, refl, ap, arith}
use Rattle.program_types.specs.Content.{Units}
use Rattle.program_types.specs.View.{str}
use Rattle.program_types.specs.declared.names.Str.{Str}
use Rattle.tables_names.specs.Keys.{key_of_str}
use Rattle.tables_names.specs.Rows.{first_of}
use Rattle.file_layout.specs.Sections.{wide_all}
use Rattle.file_limits.specs.inner.Wide.{wide_text}

abbrev pub no_str : Str
no_str = record { units = record { ref_ptr = (0, 0); now = [] } }

-- a string's key is its text
pub texts_of_keys : (xs : List Str) → map first_of (map key_of_str xs) ≡ map str xs
texts_of_keys [] = refl
texts_of_keys (x ∷ xs) = ap (λ l. str x ∷ l) (texts_of_keys xs)

pub strings_room : (ts : List Units) → 6 * length ts ≤ wide_all wide_text ts
strings_room [] = omega arith
strings_room (t ∷ ts) = let r = strings_room ts in omega (arith, r)
