-- Beside Shorty.antt: what no promise reaches.
use Rattle.std.specs.Prelude.{◌≡◌, ℕ, ◌⊎◌, [], ◌∷◌}
use Rattle.dex_base.specs.Descriptor.{IsClass, IsArray}
use Rattle.program_types.specs.Content.{Descriptor}

-- A letter stands for a type: `L` (76) for a class or an array, for any other type the one letter that is its descriptor.
abbrev pub StandsFor : ℕ → Descriptor → Type 0
StandsFor letter descriptor = ((IsClass descriptor ⊎ IsArray descriptor) × (letter ≡ 76)) ⊎ (descriptor ≡ letter ∷ [])
