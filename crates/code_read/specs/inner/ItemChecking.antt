-- The result of checking a code item.
use Rattle.std.specs.Prelude.{ℕ, ◌≡◌, List, Option, IfNone, IfSome}
use Rattle.dex_base.specs.Grammar.{Takes}
use Rattle.dex_base.specs.declared.fault.Fault.{Fault}
use Rattle.program_types.specs.Content.{Name, Insn, Try, Code}
use Rattle.program_types.specs.Formed.{RegistersHold}
use Rattle.code_read.specs.Code.{SpellsBody, BodyStands}
use Rattle.code_read.specs.Faults.{RegistersBreak}
use Rattle.code_read.specs.inner.Plain.{ArePlain}
use Rattle.code_read.specs.declared.item.Item.{Item}

-- The code of an item with these instructions and tries.
abbrev pub code_with : Item → List Insn → List Try → Code
code_with i is ts = record { registers = i.registers; ins = i.ins; outs = i.outs; insns = is; tries = ts }

-- This is kept of the instructions of an item, of which only the ins are left to be checked: it has no tries, and no rule is violated.
pub record IsClear {I : Type 0} (Are : I → List Insn → Type 0) (N : ℕ → Name → Type 0) (i : Item) (all : I) : Type 0 where
  pub none : i.tries ≡ 0
  pub begins : List ℕ
  pub insns : List Insn
  pub plain : ArePlain N i.units.now begins i.registers insns
  pub are : Are all insns

-- The item of some code is at the front of the bytes, and its registers hold, or this is what is wrong with them.
pub record HoldsItem (N : ℕ → Name → Type 0) (off : ℕ) (bytes : List ℕ) (past : Option Fault) : Type 0 where
  pub code : Code
  pub rest : List ℕ
  pub takes : Takes (SpellsBody N) bytes code rest
  pub named : IfNone past (RegistersHold code)
  pub breaks : IfSome past (RegistersBreak off code)

-- Some code stands at this place, whichever registers it names, and its registers hold, or this is what is wrong with them.
pub record HoldsBody (N : ℕ → Name → Type 0) (b : List ℕ) (off : ℕ) (past : Option Fault) : Type 0 where
  pub code : Code
  pub stands : BodyStands N b off code
  pub named : IfNone past (RegistersHold code)
  pub breaks : IfSome past (RegistersBreak off code)
