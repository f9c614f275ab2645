-- A part of the data section while it is written, item by item.
-- Page: "Dalvik Executable format", "alignment" of each item.
use Rattle.std.specs.Prelude.{ℕ, ◌+◌, List, [], ◌∷◌}

-- how many bytes the items of these values take at most, if one takes at most `wide` of it
abbrev pub wide_all : {V : Type 0} → (V → ℕ) → List V → ℕ
wide_all wide [] = 0
wide_all wide (v ∷ vs) = wide v + wide_all wide vs
