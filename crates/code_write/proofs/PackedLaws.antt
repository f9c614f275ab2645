-- What is written of a code is a code item of it.
use Rattle.std.proofs.Common.{◌≡◌, ℕ, ◌+◌, ◌-◌, ◌*◌, ◌%◌, ◌<◌, ◌≤◌, ◌++◌, List, [], ◌∷◌, length, drop, take, refl, ap, sym, ◌∙◌, arith, subst, Bool, true, false, length-append, append_assoc, if◌then◌else◌, ◌==◌}
use Rattle.std.specs.Prelude.{slice_range}
use Rattle.std.proofs.lemmas.Bool.Decides.{nat_tests}
use Rattle.std.proofs.lemmas.List.{drop_at, take_at}
use Rattle.dex_base.specs.Fields.{u16_at, u32_at, u16_bytes, u32_bytes}
use Rattle.dex_base.proofs.FieldBounds.{length-u32_bytes}
use Rattle.dex_insn.specs.Raw.{Raw}
use Rattle.program_types.specs.Content.{Name, Code, Try}
use Rattle.program_types.specs.Formed.{IsFormed}
use Rattle.program_types.specs.Sizes.{addresses_of, length_of}
use Rattle.code_read.specs.Walk.{starts}
use Rattle.code_read.specs.Linked.{SpellsInsns}
use Rattle.code_read.specs.Item.{registers_of, ins_of, outs_of, tries_of, insns_size, units_end, tries_begin, list_begin, insns_bytes, items_of}
use Rattle.code_read.specs.Tries.{SpellsTries}
use Rattle.code_read.specs.Code.{SpellsCode}
use Rattle.code_write.specs.Fits.{FitsCode, wide_code}
use Rattle.code_write.specs.Packs.{PacksCode, head_bytes, padding, joined, items_bytes}
use Rattle.code_write.proofs.FormLaws.{address-low, length-addresses}
use Rattle.code_write.proofs.WrittenLaws.{lowered-starts, lowered-length}
use Rattle.code_write.proofs.LoweredLaws.{lowered-spells}
use Rattle.code_write.proofs.PackedTries.{tries-spelled, items-length, length-u16_bytes}

-- ---- the head

pub length-head : (c : Code) (size : ℕ) → length (head_bytes c size) ≡ 16
length-head c size =
    let a = u16_bytes c.registers in let b = u16_bytes c.ins in let d = u16_bytes c.outs in let e = u16_bytes (length c.tries) in let f = u32_bytes 0 in let g = u32_bytes size in
    omega (
      arith,
      length-append (a ++ b ++ d ++ e ++ f) g,
      length-append (a ++ b ++ d ++ e) f,
      length-append (a ++ b ++ d) e,
      length-append (a ++ b) d,
      length-append a b,
      length-u16_bytes c.registers,
      length-u16_bytes c.ins,
      length-u16_bytes c.outs,
      length-u16_bytes (length c.tries),
      length-u32_bytes 0,
      length-u32_bytes size,
    )

record Heads (c : Code) (size : ℕ) (bytes : List ℕ) : Type 0 where
  registers : registers_of bytes ≡ c.registers
  ins : ins_of bytes ≡ c.ins
  outs : outs_of bytes ≡ c.outs
  tries : tries_of bytes ≡ length c.tries
  size_is : insns_size bytes ≡ size

heads : (c : Code) (size : ℕ) (rest : List ℕ) → c.registers < 65536 → c.ins < 65536 → c.outs < 65536 → length c.tries ≤ 65535 → size ≤ 4294967295 → Heads c size (head_bytes c size ++ rest)
unfolding u16_at u32_at u16_bytes u32_bytes
heads c size rest r i o t s = record { registers = omega arith; ins = omega arith; outs = omega arith; tries = omega arith; size_is = omega arith }

-- ---- the padding

odd-unit : (m : ℕ) → (if m % 2 == 0 then 0 else 2) ≡ 2 * (m % 2)
odd-unit m = grind (arith, nat_tests)

abbrev pads : Bool → Bool → List ℕ
pads a b = if a then [] else (if b then [] else 0 ∷ 0 ∷ [])

pad-length : (a b : Bool) → length (pads a b) ≡ (if a then 0 else (if b then 0 else 2))
pad-length true b = refl
pad-length false true = refl
pad-length false false = refl

length-padding : (size n : ℕ) → length (padding size n) ≡ (if n == 0 then 0 else 2 * (size % 2))
length-padding size n = pad-length (n == 0) (size % 2 == 0) ∙ ap (λ (m : ℕ). if n == 0 then 0 else m) (odd-unit size)

-- ---- the parts

-- a part of three
middle : (xs ys zs : List ℕ) (a b : ℕ) → length xs ≡ a → a + length ys ≡ b → slice_range (xs ++ (ys ++ zs)) a b ≡ ys
middle xs ys zs a b e f =
    let n : b - a ≡ length ys = omega arith in
    ap (take (b - a)) (drop_at xs (ys ++ zs) a e) ∙ take_at ys zs (b - a) (sym n)

record Parts (whole units items list : List ℕ) (size n : ℕ) : Type 0 where
  units_is : insns_bytes whole ≡ units
  items_is : items_of whole ≡ items
  list_is : drop (list_begin whole) whole ≡ list
  fixed : list_begin whole ≤ length whole
  head : 16 ≤ length whole

parts : (h j p i l : List ℕ) (size n : ℕ) → length h ≡ 16 → length j ≡ 2 * size → length p ≡ (if n == 0 then 0 else 2 * (size % 2)) → length i ≡ 8 * n
    → insns_size (h ++ (j ++ (p ++ (i ++ l)))) ≡ size → tries_of (h ++ (j ++ (p ++ (i ++ l)))) ≡ n → Parts (h ++ (j ++ (p ++ (i ++ l)))) j i l size n
unfolding tries_begin
parts h j p i l size n lh lj lp li es et =
    let whole = h ++ (j ++ (p ++ (i ++ l))) in
    let pad : length p ≡ (if tries_of (h ++ (j ++ (p ++ (i ++ l)))) == 0 then 0 else 2 * (insns_size (h ++ (j ++ (p ++ (i ++ l)))) % 2)) =
    lp ∙ (λ k. if sym et k == 0 then 0 else 2 * (sym es k % 2)) in
    let front = h ++ (j ++ p) in
    let again : h ++ (j ++ (p ++ (i ++ l))) ≡ (h ++ (j ++ p)) ++ (i ++ l) = ap (λ (xs : List ℕ). h ++ xs) (sym (append_assoc j p (i ++ l))) ∙ sym (append_assoc h (j ++ p) (i ++ l)) in
    let once : h ++ (j ++ (p ++ (i ++ l))) ≡ ((h ++ (j ++ p)) ++ i) ++ l = again ∙ sym (append_assoc (h ++ (j ++ p)) i l) in
    let a = length-append h (j ++ p) in let b = length-append j p in
    let c = length-append (h ++ (j ++ p)) i in
    let d = ap length once in
    let e = length-append ((h ++ (j ++ p)) ++ i) l in
    let begin : length (h ++ (j ++ p)) ≡ tries_begin (h ++ (j ++ (p ++ (i ++ l)))) = omega arith in
    let end : length ((h ++ (j ++ p)) ++ i) ≡ list_begin (h ++ (j ++ (p ++ (i ++ l)))) = omega arith in
    record {
      units_is = middle h j (p ++ (i ++ l)) 16 (units_end (h ++ (j ++ (p ++ (i ++ l))))) lh (omega arith);
      items_is = ap (λ (xs : List ℕ). slice_range xs (tries_begin (h ++ (j ++ (p ++ (i ++ l))))) (list_begin (h ++ (j ++ (p ++ (i ++ l)))))) again
          ∙ middle (h ++ (j ++ p)) i l (tries_begin (h ++ (j ++ (p ++ (i ++ l))))) (list_begin (h ++ (j ++ (p ++ (i ++ l))))) begin (omega arith);
      list_is = ap (drop (list_begin (h ++ (j ++ (p ++ (i ++ l)))))) once ∙ drop_at ((h ++ (j ++ p)) ++ i) l (list_begin (h ++ (j ++ (p ++ (i ++ l))))) end;
      fixed = omega arith;
      head = omega arith;
    }

-- ---- the item

moved-tries : {N : ℕ → Name → Type 0} {ss tt : List ℕ} {m n k l : ℕ} {is js xs ys : List ℕ} {ts : List Try} → ss ≡ tt → m ≡ n → k ≡ l → is ≡ js → xs ≡ ys → SpellsTries N ss m k is xs ts → SpellsTries N tt n l js ys ts
moved-tries {N} {ss} {tt} {m} {n} {k} {l} {is} {js} {xs} {ys} {ts} a b c d e u =
    subst (λ (z : List ℕ). SpellsTries N tt n l js z ts) e (subst (λ (z : List ℕ). SpellsTries N tt n l z xs ts) d
    (subst (λ (z : ℕ). SpellsTries N tt n z is xs ts) c (subst (λ (z : ℕ). SpellsTries N tt z k is xs ts) b (subst (λ (z : List ℕ). SpellsTries N z m k is xs ts) a u))))

module _ (N : ℕ → Name → Type 0) (c : Code) (formed : IsFormed c) (fits : FitsCode N c) (short : wide_code c ≤ 4294967295) where
  packed-at : (raws : List Raw) (list offs whole : List ℕ) (size : ℕ) → Heads c size whole → Parts whole (joined raws) (items_bytes size (addresses_of c.insns) c.tries offs) list size (length c.tries)
      → size ≡ length_of c.insns → 0 < size → starts raws ≡ addresses_of c.insns → SpellsInsns N (joined raws) raws c.insns
      → SpellsTries N (addresses_of c.insns) (length_of c.insns) (length c.tries) (items_bytes (length_of c.insns) (addresses_of c.insns) c.tries offs) list c.tries → SpellsCode N whole c
  packed-at raws list offs whole size h p e some s i t =
      let z = h.size_is in
      record {
        body = record {
          whole = record { head = p.head; fixed = p.fixed };
          some = omega arith;
          registers = sym h.registers;
          ins = sym h.ins;
          outs = sym h.outs;
          raws = raws;
          insns = subst (λ (us : List ℕ). SpellsInsns N us raws c.insns) (sym p.units_is) i;
          tries = moved-tries (sym s) (sym (z ∙ e)) (sym h.tries) (sym (p.items_is ∙ ap (λ (k : ℕ). items_bytes k (addresses_of c.insns) c.tries offs) e)) (sym p.list_is) t;
        };
        named = formed.named;
      }

  pub packed-spells : (bytes : List ℕ) → PacksCode N bytes c → SpellsCode N bytes c
  packed-spells bytes p =
      let size = length_of c.insns in
      let n = length-addresses c.insns in
      let some = formed.some in
      let low = address-low c.insns 0 (omega arith) in
      let i = items_bytes (length_of c.insns) (addresses_of c.insns) c.tries p.offsets in
      let rest = joined p.raws ++ (padding (length_of c.insns) (length c.tries) ++ (items_bytes (length_of c.insns) (addresses_of c.insns) c.tries p.offsets ++ p.list)) in
      let few = fits.few in
      let h = heads c (length_of c.insns) (joined p.raws ++ (padding (length_of c.insns) (length c.tries) ++ (items_bytes (length_of c.insns) (addresses_of c.insns) c.tries p.offsets ++ p.list)))
      formed.registers formed.ins formed.outs fits.few (omega arith) in
      subst (λ (b : List ℕ). SpellsCode N b c) (sym p.is)
      (packed-at p.raws p.list p.offsets (head_bytes c (length_of c.insns) ++ (joined p.raws ++ (padding (length_of c.insns) (length c.tries) ++ (items_bytes (length_of c.insns) (addresses_of c.insns) c.tries p.offsets ++ p.list)))) (length_of c.insns) h
      (parts (head_bytes c (length_of c.insns)) (joined p.raws) (padding (length_of c.insns) (length c.tries)) (items_bytes (length_of c.insns) (addresses_of c.insns) c.tries p.offsets) p.list (length_of c.insns) (length c.tries)
      (length-head c (length_of c.insns)) (lowered-length N c.insns p.raws p.lowered) (length-padding (length_of c.insns) (length c.tries))
      (items-length (length_of c.insns) (addresses_of c.insns) c.tries p.offsets p.handlers.offsets.count) h.size_is h.tries)
      refl (omega arith) (lowered-starts N c.insns p.raws p.lowered) (lowered-spells N c.insns p.raws p.lowered formed.targets formed.payloads)
      (tries-spelled c.insns c.tries formed.tries fits.tries N p.list p.offsets p.handlers (omega arith) (fits.handlers short p.list p.offsets p.handlers)))

-- ---- its length

at-most : (x y : Bool) → length (pads x y) ≤ 2
at-most true y = omega arith
at-most false true = omega arith
at-most false false = omega arith

pub few-padding : (s m : ℕ) → length (padding s m) ≤ 2
few-padding s m = at-most (m == 0) (s % 2 == 0)

-- with three zeros before it, it takes no more than its term of the sum
pub packed-length : (N : ℕ → Name → Type 0) (c : Code) (bytes : List ℕ) → PacksCode N bytes c → (16 ≤ length bytes) × (length bytes + 3 ≤ wide_code c)
packed-length N c bytes p =
    let size = length_of c.insns in
    let n = length c.tries in
    let h = head_bytes c (length_of c.insns) in
    let i = items_bytes (length_of c.insns) (addresses_of c.insns) c.tries p.offsets in
    let pad = padding (length_of c.insns) (length c.tries) in
    let lh = length-head c (length_of c.insns) in
    let lj = lowered-length N c.insns p.raws p.lowered in
    let lp = few-padding (length_of c.insns) (length c.tries) in
    let li = items-length (length_of c.insns) (addresses_of c.insns) c.tries p.offsets p.handlers.offsets.count in
    let short = p.handlers.short in
    let a = length-append h (joined p.raws ++ (pad ++ (i ++ p.list))) in
    let b = length-append (joined p.raws) (pad ++ (i ++ p.list)) in
    let d = length-append pad (i ++ p.list) in
    let e = length-append i p.list in
    let w = ap length p.is in
    (omega arith, omega arith)
