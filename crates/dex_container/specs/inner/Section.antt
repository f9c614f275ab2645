-- Beside Section.antt: what no promise reaches.
use Rattle.std.specs.Prelude.{ℕ}

-- the data section
abbrev pub data_section : ℕ
data_section = 6
