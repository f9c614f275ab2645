-- The bodies of methods as items.
-- Page: "Dalvik Executable format", "encoded_method": code_off, 0 for a method without a body; "code_item".
use Rattle.std.specs.Prelude.{ℕ, Bool, true, false, List, Option, Some, None}
use Rattle.dex_base.specs.Fields.{AreBytes}
use Rattle.code_write.specs.Packs.{PacksCode}
use Rattle.code_read.specs.Code.{SpellsCode}
use Rattle.tables_names.specs.Closure.{Five, NameRanks}
use Rattle.program_types.specs.Content.{Name, Code}
use Rattle.program_types.specs.Formed.{IsFormed}

-- there is no body
abbrev pub is_bodiless : Option Code → Bool
is_bodiless None = true
is_bodiless (Some c) = false

-- The bytes are what is written of the body, if there is one.
abbrev pub PacksBody : (ℕ → Name → Type 0) → List ℕ → Option Code → Type 0
PacksBody N bytes None = ⊥
PacksBody N bytes (Some c) = PacksCode N bytes c

-- The bytes are what is written of the code, and they spell it, so that other bodies have other bytes; the code is well
-- formed, so that no other bytes are written of it.
pub record WritesCode (s : Five) (bytes : List ℕ) (c : Code) : Type 0 where
  pub packs : PacksCode (NameRanks s) bytes c
  pub spells : SpellsCode (NameRanks s) bytes c
  pub formed : IsFormed c
  pub are : AreBytes bytes

-- The bytes are what is written of a well-formed body, if there is one, and they spell it.
abbrev pub WritesBody : Five → List ℕ → Option Code → Type 0
WritesBody s bytes None = ⊥
WritesBody s bytes (Some c) = WritesCode s bytes c
