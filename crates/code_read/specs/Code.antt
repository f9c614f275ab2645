-- Which bytes encode which code.
-- Page: "Dalvik Executable format", "code_item".
use Rattle.std.specs.Prelude.{ℕ, ◌≡◌, ◌<◌, List, drop}
use Rattle.dex_insn.specs.Raw.{Raw}
use Rattle.program_types.specs.Content.{Name, Code}
use Rattle.program_types.specs.Formed.{RegistersHold}
use Rattle.dex_container.specs.Where.{At}
use Rattle.code_read.specs.Walk.{starts}
use Rattle.code_read.specs.Item.{registers_of, ins_of, outs_of, tries_of, insns_size, insns_bytes, items_of, list_begin, HasFixedParts}
use Rattle.code_read.specs.Linked.{SpellsInsns}
use Rattle.code_read.specs.Tries.{SpellsTries}

-- The bytes are the code_item of this code, whichever registers it names; N relates an index to the name that it denotes.
-- debug_info_off and the padding are ignored.
pub record SpellsBody (N : ℕ → Name → Type 0) (bytes : List ℕ) (c : Code) : Type 0 where
  pub whole : HasFixedParts bytes
  pub some : 0 < insns_size bytes
  pub registers : c.registers ≡ registers_of bytes
  pub ins : c.ins ≡ ins_of bytes
  pub outs : c.outs ≡ outs_of bytes
  pub raws : List Raw
  pub insns : SpellsInsns N (insns_bytes bytes) raws c.insns
  pub tries : SpellsTries N (starts raws) (insns_size bytes) (tries_of bytes) (items_of bytes) (drop (list_begin bytes) bytes) c.tries

-- The bytes are the code_item of this code, and its ins and the registers that it names are among its registers.
pub record SpellsCode (N : ℕ → Name → Type 0) (bytes : List ℕ) (c : Code) : Type 0 where
  pub body : SpellsBody N bytes c
  pub named : RegistersHold c

-- At this place of the section of code items, 4-aligned, is the code, whichever registers it names.
abbrev pub BodyStands : (ℕ → Name → Type 0) → List ℕ → ℕ → Code → Type 0
BodyStands N b off c = At (SpellsBody N) b 0x2001 4 off c

-- At this place is the code.
abbrev pub CodeStands : (ℕ → Name → Type 0) → List ℕ → ℕ → Code → Type 0
CodeStands N b off c = At (SpellsCode N) b 0x2001 4 off c
