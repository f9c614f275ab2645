-- Where a code is spelled, no rule is broken.
use Rattle.std.proofs.Common.{◌≡◌, ℕ, ◌+◌, ◌-◌, ◌<◌, ◌≤◌, ◌*◌, ◌%◌, ◌++◌, List, length, drop, refl, ap, sym, ◌∙◌, subst, arith, zero, suc, inl, inr}
use Rattle.dex_base.specs.declared.fault.Fault.{Fault}
use Rattle.dex_base.proofs.FirstFaultLaws.{else_clear, later_clear, broken_clear}
use Rattle.dex_insn.specs.Raw.{Raw}
use Rattle.dex_insn.proofs.Unique.{slice-length}
use Rattle.program_types.specs.Content.{Name, Code, Insn, Try}
use Rattle.code_read.specs.Walk.{starts}
use Rattle.code_read.specs.InsnFaults.{InsnsBreak}
use Rattle.code_read.specs.inner.InsnReading.{ReadInsns}
use Rattle.code_read.proofs.InsnsOnce.{walks-one}
use Rattle.code_read.proofs.InsnFaultLaws.{insns-clear}
use Rattle.code_read.specs.Linked.{SpellsInsns}
use Rattle.code_read.specs.inner.Symbols.{IsFunctional}
use Rattle.code_read.specs.Item.{tries_of, insns_size, units_end, tries_begin, list_begin, insns_bytes, items_of, HasFixedParts}
use Rattle.code_read.specs.Tries.{SpellsTries, handler_of}
use Rattle.program_types.specs.Formed.{try_at}
use Rattle.code_read.specs.Faults.{HasHandlers, TriesBreak, ItemBreaks}
use Rattle.code_read.specs.inner.ItemReading.{IsCodeItem}
use Rattle.code_read.specs.declared.item.Item.{Item}
use Rattle.code_read.proofs.ItemLaws.{ReadCode, begins_late}

has-handlers : (N : ℕ → Name → Type 0) (ss : List ℕ) (size n : ℕ) (items list rest : List ℕ) (ts : List Try) → 0 < n → SpellsTries N ss size n items list ts → HasHandlers N ss n items (list ++ rest)
has-handlers N ss size zero items list rest ts l s = absurd (omega arith)
has-handlers N ss size (suc n) items list rest ts l s =
    record { list = list; after = rest; joined = refl; handlers = s.handlers; spelled = s.spelled; each = λ i m. (handler_of (try_at ts i), (s.each i m).handler) }

pub tries-clear : (N : ℕ → Name → Type 0) (ss : List ℕ) (size n : ℕ) (items list rest bytes : List ℕ) (base : ℕ) (ts : List Try) (fault : Fault) → bytes ≡ list ++ rest → SpellsTries N ss size n items list ts → TriesBreak N ss size n items bytes base fault → ⊥
tries-clear N ss size n items list rest bytes base ts fault e s =
    later_clear broken_clear (else_clear (λ l. subst (λ (z : List ℕ). HasHandlers N ss n items z) (sym e) (has-handlers N ss size n items list rest ts l s)) (λ none. none)) s.hold

pub units-even : (bytes : List ℕ) → HasFixedParts bytes → length (insns_bytes bytes) ≡ 2 * insns_size bytes
units-even bytes w =
    let late = begins_late bytes in let l = w.fixed in
    slice-length bytes 16 (units_end bytes) (omega arith) (omega arith) ∙ (let z : units_end bytes - 16 ≡ 2 * insns_size bytes = omega arith in z)

-- what has to hold of the units before they are read
pub units-asked : (bytes us : List ℕ) → HasFixedParts bytes → us ≡ insns_bytes bytes → length bytes < 4294967296 → (length us % 2 ≡ 0) × (length us ≤ 8589934590)
units-asked bytes us w are short =
    let e : length us ≡ 2 * insns_size bytes = ap length are ∙ units-even bytes w in
    let late = begins_late bytes in
    let l = w.fixed in
    (omega arith, omega arith)

pub item-clear : (N : ℕ → Name → Type 0) → IsFunctional N → (off : ℕ) (bytes rest : List ℕ) (c : Code) (fault : Fault) → ReadCode N bytes rest c → ItemBreaks N off bytes fault → ⊥
item-clear N one off bytes rest c fault r = else_clear r.whole (else_clear r.some (λ u. elim u [
  | inl b ↦ let u = units-even bytes r.whole in insns-clear N (insns_bytes bytes) r.raws c.insns (off + 16) fault one (omega (arith, u)) r.insns b
  | inr b ↦
      let e = walks-one (insns_bytes bytes) b.0 r.raws b.2.walk r.insns.walk in
      tries-clear N (starts b.0) (insns_size bytes) (tries_of bytes) (items_of bytes) r.list rest (drop (list_begin bytes) bytes) (off + tries_begin bytes) c.tries fault r.joined
      (subst (λ (rs : List Raw). SpellsTries N (starts rs) (insns_size bytes) (tries_of bytes) (items_of bytes) r.list c.tries) (sym e) r.tries) b.3
]))

-- ---- what the stages of reading refuse

pub insns-break : (N : ℕ → Name → Type 0) (off at : ℕ) (bytes us : List ℕ) (fault : Fault) → HasFixedParts bytes → 0 < insns_size bytes → us ≡ insns_bytes bytes → at ≡ off → InsnsBreak N us (at + 16) fault → ItemBreaks N off bytes fault
insns-break N off at bytes us fault w s e a b =
    inr (w, inr (s, inl (subst (λ (z : ℕ). InsnsBreak N (insns_bytes bytes) (z + 16) fault) a (subst (λ (z : List ℕ). InsnsBreak N z (at + 16) fault) e b))))

pub tries-break : (N : ℕ → Name → Type 0) (off at : ℕ) (bytes begins : List ℕ) (i : Item) (is : List Insn) (fault : Fault) → IsCodeItem bytes i → 0 < insns_size bytes → at ≡ off → ReadInsns N i.units.now begins is
    → TriesBreak N begins i.size i.tries i.items.now i.list.now (at + i.items_at) fault → ItemBreaks N off bytes fault
tries-break N off at bytes begins i is fault p s a r b =
    inr (
      p.whole,
      inr (
        s,
        inr (
          r.raws,
          is,
          subst (λ (us : List ℕ). SpellsInsns N us r.raws is) p.units r.insns,
          subst (λ (z : List ℕ). TriesBreak N z (insns_size bytes) (tries_of bytes) (items_of bytes) (drop (list_begin bytes) bytes) (off + tries_begin bytes) fault) r.table.is
              (subst (λ (z : ℕ). TriesBreak N begins z (tries_of bytes) (items_of bytes) (drop (list_begin bytes) bytes) (off + tries_begin bytes) fault) p.size
              (subst (λ (z : ℕ). TriesBreak N begins i.size z (items_of bytes) (drop (list_begin bytes) bytes) (off + tries_begin bytes) fault) p.tries
              (subst (λ (z : List ℕ). TriesBreak N begins i.size i.tries z (drop (list_begin bytes) bytes) (off + tries_begin bytes) fault) p.items
              (subst (λ (z : List ℕ). TriesBreak N begins i.size i.tries i.items.now z (off + tries_begin bytes) fault) p.list
              (subst (λ (z : ℕ). TriesBreak N begins i.size i.tries i.items.now i.list.now (off + z) fault) p.place
              (subst (λ (z : ℕ). TriesBreak N begins i.size i.tries i.items.now i.list.now (z + i.items_at) fault) a b)))))),
        ),
      ),
    )
