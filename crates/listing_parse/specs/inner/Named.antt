-- What the instructions name that were read so far.
-- Page: docs/LISTING.md, "What a word can be", "The lines".
use Rattle.std.specs.Prelude.{⊤, List, IfSome, IsTrue}
use Rattle.std.specs.List.{AllByRecursion}
use Rattle.program_types.specs.Content.{Insn, Method}
use Rattle.program_rules.specs.Rules.{CodesHold}
use Rattle.program_rules.specs.inner.Valid.{InsnIsNamed, InsnsAreNamed}
use Rattle.listing_slots.specs.inner.ValidNames.{Spellings}
use Rattle.listing_parse.specs.States.{Open, Block, in_class, in_code, State}
use Rattle.listing_parse.specs.Text.{Reading}

-- A file can have what each instruction of these methods names.
abbrev pub MethodsAreNamed : List Method → Type 0
MethodsAreNamed = AllByRecursion (λ m. IfSome m.code InsnsAreNamed)

-- Of the class that is open.
abbrev pub OpenIsNamed : Open → Type 0
OpenIsNamed o = MethodsAreNamed o.directs × MethodsAreNamed o.virtuals

-- Of the block that is open.
abbrev pub BlockIsNamed : Block → Type 0
BlockIsNamed (in_class o p) = OpenIsNamed o
BlockIsNamed (in_code o b p) = OpenIsNamed o × AllByRecursion InsnIsNamed b.insns
BlockIsNamed _ = ⊤

-- Of all that was read: the whole classes, and the block that is open.
pub record StateIsNamed (s : State) : Type 0 where
  pub done : AllByRecursion (CodesHold InsnsAreNamed) s.done
  pub block : BlockIsNamed s.block

-- It can, if it can have all names that were read.
abbrev pub ReadingIsNamed : Spellings → Reading → Type 0
ReadingIsNamed known r = IsTrue known.valid → StateIsNamed r.base

-- If a file can have all names now, it can have those from before and what the instruction names.
abbrev pub StayNamed : Spellings → Spellings → Insn → Type 0
StayNamed old new i = IsTrue new.valid → IsTrue old.valid × InsnIsNamed i
