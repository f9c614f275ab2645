-- The item at the front of bytes, and what follows it.
use Rattle.std.proofs.Common.{◌≡◌, ◌≢◌, ℕ, ◌+◌, ◌<◌, ◌≤◌, ◌*◌, ◌%◌, ◌++◌, List, length, take, drop, ap, sym, ◌∙◌, subst, arith, append_assoc, length-append, length-take, if◌then◌else◌, ◌==◌}
use Rattle.std.specs.Prelude.{slice_range}
use Rattle.std.proofs.lemmas.List.{take-append-drop, drop-append-le, append_cancel_right}
use Rattle.dex_base.specs.Grammar.{IsPrefixUnique, Takes}
use Rattle.dex_base.proofs.FieldBounds.{u16_at-front, u32_at-front}
use Rattle.dex_insn.specs.Raw.{Raw}
use Rattle.dex_insn.proofs.More.{slice-append}
use Rattle.program_types.specs.Content.{Name, Code, Insn, Try}
use Rattle.code_read.specs.Walk.{starts}
use Rattle.code_read.specs.inner.Symbols.{IsFunctional}
use Rattle.code_read.specs.inner.InsnReading.{ReadInsns}
use Rattle.code_read.specs.Item.{registers_of, ins_of, outs_of, tries_of, insns_size, units_end, tries_begin, list_begin, insns_bytes, items_of, HasFixedParts}
use Rattle.code_read.specs.Linked.{SpellsInsns}
use Rattle.code_read.specs.Tries.{SpellsTries}
use Rattle.code_read.specs.Code.{SpellsBody}
use Rattle.code_read.specs.inner.ItemChecking.{code_with}
use Rattle.code_read.specs.inner.ItemReading.{ReadTries, IsCodeItem}
use Rattle.code_read.specs.declared.item.Item.{Item}
use Rattle.code_read.proofs.InsnsOnce.{walks-one, insns-one}
use Rattle.code_read.proofs.TriesOnce.{tries-one}
use Rattle.dex_base.proofs.GrammarLaws.{rest_same}

-- The bytes begin with the code_item of this code, and these bytes follow.
pub record ReadCode (N : ℕ → Name → Type 0) (bytes rest : List ℕ) (c : Code) : Type 0 where
  pub whole : HasFixedParts bytes
  pub some : 0 < insns_size bytes
  pub registers : c.registers ≡ registers_of bytes
  pub ins : c.ins ≡ ins_of bytes
  pub outs : c.outs ≡ outs_of bytes
  pub raws : List Raw
  pub insns : SpellsInsns N (insns_bytes bytes) raws c.insns
  pub list : List ℕ
  pub joined : drop (list_begin bytes) bytes ≡ list ++ rest
  pub tries : SpellsTries N (starts raws) (insns_size bytes) (tries_of bytes) (items_of bytes) list c.tries

-- the try_items begin after the header and the units
pub begins_late : (bytes : List ℕ) → units_end bytes ≤ tries_begin bytes
unfolding tries_begin
begins_late bytes = omega arith

-- the fields of a front that is long enough are those of the whole
module _ (f b : List ℕ) (head : 16 ≤ length f) where
  pub size-front : insns_size (f ++ b) ≡ insns_size f
  size-front = u32_at-front f b 12 (omega arith)

  pub tries-front : tries_of (f ++ b) ≡ tries_of f
  tries-front = u16_at-front f b 6 (omega arith)

  pub begin-front : tries_begin (f ++ b) ≡ tries_begin f
  unfolding tries_begin
  begin-front =
      let s = size-front in let t = tries-front in
      (λ i. 16 + 2 * s i + (if t i == 0 then 0 else 2 * (s i % 2)))

  pub list-front : list_begin (f ++ b) ≡ list_begin f
  list-front = let s = begin-front in let t = tries-front in (λ i. s i + 8 * t i)

  pub units-front : list_begin f ≤ length f → insns_bytes (f ++ b) ≡ insns_bytes f
  units-front l =
      let s = size-front in
      let late = begins_late f in
      (λ i. slice_range (f ++ b) 16 (16 + 2 * s i)) ∙ slice-append f b 16 (units_end f) (omega arith) (omega arith)

  pub items-front : list_begin f ≤ length f → items_of (f ++ b) ≡ items_of f
  items-front l =
      let s = begin-front in let t = list-front in
      (λ i. slice_range (f ++ b) (s i) (t i)) ∙ slice-append f b (tries_begin f) (list_begin f) (omega arith) l

-- the item at the front, seen from all of the bytes
pub read-from_front : (N : ℕ → Name → Type 0) (f rest : List ℕ) (c : Code) → SpellsBody N f c → ReadCode N (f ++ rest) rest c
read-from_front N f rest c s =
    let h = s.whole.head in let l = s.whole.fixed in
    let size = size-front f rest h in
    let n = tries-front f rest h in
    let list = list-front f rest h in
    let u = units-front f rest h l in
    let it = items-front f rest h l in
    record {
      whole = record { head = omega (arith, length-append f rest); fixed = omega (arith, length-append f rest, list) };
      some = rw size s.some;
      registers = s.registers ∙ sym (u16_at-front f rest 0 (omega arith));
      ins = s.ins ∙ sym (u16_at-front f rest 2 (omega arith));
      outs = s.outs ∙ sym (u16_at-front f rest 4 (omega arith));
      raws = s.raws;
      insns = subst (λ (us : List ℕ). SpellsInsns N us s.raws c.insns) (sym u) s.insns;
      list = drop (list_begin f) f;
      joined = ap (λ (k : ℕ). drop k (f ++ rest)) list ∙ drop-append-le (list_begin f) f rest l;
      tries =
          subst (λ (z : ℕ). SpellsTries N (starts s.raws) z (tries_of (f ++ rest)) (items_of (f ++ rest)) (drop (list_begin f) f) c.tries) (sym size)
          (subst (λ (z : ℕ). SpellsTries N (starts s.raws) (insns_size f) z (items_of (f ++ rest)) (drop (list_begin f) f) c.tries) (sym n)
          (subst (λ (z : List ℕ). SpellsTries N (starts s.raws) (insns_size f) (tries_of f) z (drop (list_begin f) f) c.tries) (sym it) s.tries));
    }

pub read-from_takes : (N : ℕ → Name → Type 0) (bytes rest : List ℕ) (c : Code) → Takes (SpellsBody N) bytes c rest → ReadCode N bytes rest c
read-from_takes N bytes rest c t = subst (λ (b : List ℕ). ReadCode N b rest c) (sym t.whole) (read-from_front N t.front rest c t.spelled)

-- and from all of the bytes the item at the front
read-to_front : (N : ℕ → Name → Type 0) (f rest : List ℕ) (c : Code) → 16 ≤ length f → list_begin f ≤ length f → ReadCode N (f ++ rest) rest c → SpellsBody N f c
read-to_front N f rest c h l r =
    let d : drop (list_begin f) f ≡ r.list =
    append_cancel_right (drop (list_begin f) f) r.list rest
    (sym (drop-append-le (list_begin f) f rest l) ∙ sym (ap (λ (k : ℕ). drop k (f ++ rest)) (list-front f rest h)) ∙ r.joined) in
    let size = size-front f rest h in
    let n = tries-front f rest h in
    let u = units-front f rest h l in
    let it = items-front f rest h l in
    record {
      whole = record { head = h; fixed = l };
      some = rw size at r.some;
      registers = r.registers ∙ u16_at-front f rest 0 (omega arith);
      ins = r.ins ∙ u16_at-front f rest 2 (omega arith);
      outs = r.outs ∙ u16_at-front f rest 4 (omega arith);
      raws = r.raws;
      insns = subst (λ (us : List ℕ). SpellsInsns N us r.raws c.insns) u r.insns;
      tries =
          subst (λ (z : List ℕ). SpellsTries N (starts r.raws) (insns_size f) (tries_of f) (items_of f) z c.tries) (sym d)
          (subst (λ (z : List ℕ). SpellsTries N (starts r.raws) (insns_size f) (tries_of f) z r.list c.tries) it
          (subst (λ (z : ℕ). SpellsTries N (starts r.raws) (insns_size f) z (items_of (f ++ rest)) r.list c.tries) n
          (subst (λ (z : ℕ). SpellsTries N (starts r.raws) z (tries_of (f ++ rest)) (items_of (f ++ rest)) r.list c.tries) size r.tries)));
    }

pub takes-from_read : (N : ℕ → Name → Type 0) (bytes rest : List ℕ) (c : Code) → ReadCode N bytes rest c → Takes (SpellsBody N) bytes c rest
takes-from_read N bytes rest c r =
    let k = list_begin bytes in
    let f = take k bytes ++ r.list in
    let e : bytes ≡ f ++ rest = sym (take-append-drop k bytes) ∙ ap (λ (z : List ℕ). take k bytes ++ z) r.joined ∙ sym (append_assoc (take k bytes) r.list rest) in
    let late = begins_late bytes in
    let fixed = r.whole.fixed in
    let tk : length (take k bytes) ≡ k = length-take k bytes ∙ (let w = fixed in omega arith) in
    let h : 16 ≤ length f = omega (arith, length-append (take k bytes) r.list) in
    let q : ReadCode N (f ++ rest) rest c = subst (λ (b : List ℕ). ReadCode N b rest c) e r in
    let b : list_begin f ≡ k = sym (list-front f rest h) ∙ sym (ap list_begin e) in
    let l : list_begin f ≤ length f = omega (arith, length-append (take k bytes) r.list, b) in
    record { front = f; whole = e; spelled = read-to_front N f rest c h l q }

-- ---- what the stages of reading give together

pub item-read : (N : ℕ → Name → Type 0) (bytes begins : List ℕ) (i : Item) (is : List Insn) (ts : List Try) → IsCodeItem bytes i → i.size ≢ 0
    → ReadInsns N i.units.now begins is → ReadTries N begins i.size i.tries i.items.now i.list.now ts → (rest : List ℕ) × Takes (SpellsBody N) bytes (code_with i is ts) rest
item-read N bytes begins i is ts p nz a b =
    let size = p.size in (
      b.after,
      takes-from_read N bytes b.after (code_with i is ts) (record {
        whole = p.whole;
        some = omega arith;
        registers = p.registers;
        ins = p.ins;
        outs = p.outs;
        raws = a.raws;
        insns = subst (λ (us : List ℕ). SpellsInsns N us a.raws is) p.units a.insns;
        list = b.list;
        joined = sym p.list ∙ b.joined;
        tries =
            subst (λ (z : List ℕ). SpellsTries N z (insns_size bytes) (tries_of bytes) (items_of bytes) b.list ts) a.table.is
            (subst (λ (z : ℕ). SpellsTries N begins z (tries_of bytes) (items_of bytes) b.list ts) p.size
            (subst (λ (z : ℕ). SpellsTries N begins i.size z (items_of bytes) b.list ts) p.tries
            (subst (λ (z : List ℕ). SpellsTries N begins i.size i.tries z b.list ts) p.items b.tries)));
      }),
    )

-- ---- one code

pub read-one : (N : ℕ → Name → Type 0) (bytes r s : List ℕ) (c d : Code) → IsFunctional N → ReadCode N bytes r c → ReadCode N bytes s d → (c ≡ d) × (r ≡ s)
read-one N bytes r s c d f p q =
    let e = walks-one (insns_bytes bytes) p.raws q.raws p.insns.walk q.insns.walk in
    let i = insns-one N (insns_bytes bytes) p.raws c.insns d.insns f p.insns (subst (λ (rs : List Raw). SpellsInsns N (insns_bytes bytes) rs d.insns) (sym e) q.insns) in
    let t = subst (λ (rs : List Raw). SpellsTries N (starts rs) (insns_size bytes) (tries_of bytes) (items_of bytes) q.list d.tries) (sym e) q.tries in
    let j = sym p.joined ∙ q.joined in
    let both = tries-one N (starts p.raws) (insns_size bytes) (tries_of bytes) (items_of bytes) p.list q.list r s c.tries d.tries f p.tries t j in
    let a = p.registers ∙ sym q.registers in let b = p.ins ∙ sym q.ins in let o = p.outs ∙ sym q.outs in
    ((λ k. record { registers = a k; ins = b k; outs = o k; insns = i k; tries = both.1 k }), rest_same p.list q.list r s both.0 j)

-- no code item begins another one, and it spells one code
pub SpellsBody-unique : (N : ℕ → Name → Type 0) → IsFunctional N → IsPrefixUnique (SpellsBody N)
SpellsBody-unique N f a b x y c d p q e =
    let u = read-from_front N a x c p in
    let v = subst (λ (l : List ℕ). ReadCode N l y d) (sym e) (read-from_front N b y d q) in
    let r = read-one N (a ++ x) x y c d f u v in
    let t : a ++ x ≡ b ++ x = e ∙ ap (λ (l : List ℕ). b ++ l) (sym r.1) in
    (append_cancel_right a b x t, r.0)
