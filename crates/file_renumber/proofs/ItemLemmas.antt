-- A code item, taken apart.
use Rattle.std.proofs.Common.{ℕ, List, ◌∙◌, sym, subst}
use Rattle.program_types.specs.Content.{Name, Code}
use Rattle.code_read.specs.Walk.{starts}
use Rattle.code_read.specs.Linked.{SpellsInsns}
use Rattle.code_read.specs.Item.{insns_size, tries_of}
use Rattle.code_read.specs.inner.ItemReading.{IsCodeItem}
use Rattle.code_read.specs.Tries.{SpellsTries}
use Rattle.code_read.specs.declared.item.Item.{Item}
use Rattle.code_read.proofs.ItemLaws.{ReadCode}
use Rattle.file_renumber.specs.inner.Fronts.{SpellsItem}

pub item_spells : (N : ℕ → Name → Type 0) (bytes rest : List ℕ) (i : Item) (c : Code) → IsCodeItem bytes i → ReadCode N bytes rest c → SpellsItem N i c
item_spells N bytes rest i c p r = record {
  registers = r.registers ∙ sym p.registers;
  ins = r.ins ∙ sym p.ins;
  outs = r.outs ∙ sym p.outs;
  raws = r.raws;
  insns = subst (λ (us : List ℕ). SpellsInsns N us r.raws c.insns) (sym p.units) r.insns;
  tries = record {
    list = r.list;
    after = rest;
    joined = p.list ∙ r.joined;
    tries = subst (λ (z : ℕ). SpellsTries N (starts r.raws) z i.tries i.items.now r.list c.tries) (sym p.size)
        (subst (λ (z : ℕ). SpellsTries N (starts r.raws) (insns_size bytes) z i.items.now r.list c.tries) (sym p.tries)
        (subst (λ (z : List ℕ). SpellsTries N (starts r.raws) (insns_size bytes) (tries_of bytes) z r.list c.tries) (sym p.items) r.tries));
  };
}
