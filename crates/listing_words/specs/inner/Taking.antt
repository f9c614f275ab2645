-- Beside Taking.antt: what no promise reaches.
use Rattle.std.specs.Prelude.{List}

-- Nothing of the grammar stands at the front.
abbrev pub NoneAt : {X V : Type 0} → (List X → V → List X → Type 0) → List X → Type 0
NoneAt {X} {V} G text = (v : V) (rest : List X) → G text v rest → ⊥
