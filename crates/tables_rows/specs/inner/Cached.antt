-- What is decoded of a file, cached by the byte offset at which it stands.
-- Page: "Dalvik Executable format": items that several rows refer to.
use Rattle.std.specs.Prelude.{◌≡◌, ℕ, nat_eq, Some}
use Rattle.std.specs.HashMap.{HashMap, get}

-- Each value that is cached is one that stands at its offset.
abbrev pub AreCached : {V S : Type 0} → (ℕ → V → Type 0) → HashMap ℕ V S → Type 0
AreCached {V} Stands cached = (off : ℕ) (v : V) → get nat_eq cached off ≡ Some v → Stands off v
