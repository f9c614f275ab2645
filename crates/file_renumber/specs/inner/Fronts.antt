-- The parts of a code item: what the contracts of private functions cite.
use Rattle.std.specs.Prelude.{ℕ, ◌≡◌, List, length, map, Some}
use Rattle.dex_insn.specs.Raw.{Raw}
use Rattle.program_types.specs.Content.{Name, OfDesc, Catch, Code}
use Rattle.code_read.specs.Places.{position}
use Rattle.code_read.specs.Walk.{starts}
use Rattle.code_read.specs.Linked.{SpellsInsns}
use Rattle.code_read.specs.Handlers.{Handler}
use Rattle.code_read.specs.inner.ItemReading.{ReadTries}
use Rattle.code_read.specs.declared.item.Item.{Item}

-- These are the fixed parts of the code's item, its try_items, and at the front of the list the handlers of its tries.
pub record SpellsItem (N : ℕ → Name → Type 0) (i : Item) (c : Code) : Type 0 where
  pub registers : c.registers ≡ i.registers
  pub ins : c.ins ≡ i.ins
  pub outs : c.outs ≡ i.outs
  pub raws : List Raw
  pub insns : SpellsInsns N i.units.now raws c.insns
  pub tries : ReadTries N (starts raws) i.size i.tries i.items.now i.list.now c.tries

-- ---- handlers

-- The handlers begin at these offsets, and catch so many types.
pub record AreListed (hs : List (ℕ × Handler)) (offsets catches : List ℕ) : Type 0 where
  pub offsets_are : offsets ≡ map (λ (p : ℕ × Handler). p.0) hs
  pub catches_are : catches ≡ map (λ (p : ℕ × Handler). length p.1.catches) hs

-- The type's index and the address are those of the catch, and this follows it.
pub record IsCatch (N : ℕ → Name → Type 0) (ss : List ℕ) (ty address : ℕ) (after : List ℕ) (c : Catch) (rest : List ℕ) : Type 0 where
  pub type : N ty (OfDesc c.ty)
  pub place : position ss address ≡ Some c.at
  pub follows : after ≡ rest

-- the types that catches name
abbrev pub types_of : List Catch → List Name
types_of cs = map (λ (c : Catch). OfDesc c.ty) cs
