-- How many items there are, place by place.
-- Page: "Dalvik Executable format", where an offset of 0 stands for no item.
use Rattle.std.specs.Prelude.{ℕ, zero, suc, ◌+◌}

-- one more item, unless its place is 0
abbrev pub items_with : ℕ → ℕ → ℕ
items_with zero items = items
items_with (suc place) items = items + 1
