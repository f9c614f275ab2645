-- A code that stands in a file is well formed.
use Rattle.std.proofs.Common.{◌≡◌, ◌≢◌, ℕ, ℤ, zero, suc, pos, negsuc, ◌+◌, ◌-◌, ◌*◌, ◌/◌, ◌<◌, ◌≤◌, inl, inr, Option, Some, None, List, [], ◌∷◌, length, drop, get_or, refl, sym, ap, ◌∙◌, subst, arith, length-take, length-drop}
use Rattle.std.specs.Prelude.{IfSome, IfNone}
use Rattle.std.specs.List.{AllByRecursion}
use Rattle.std.proofs.lemmas.Bool.{cases_lt}
use Rattle.std.proofs.lemmas.Bool.Decides.{nat_tests}
use Rattle.dex_base.specs.Fields.{AreBytes, u16_at}
use Rattle.dex_base.specs.Grammar.{Each}
use Rattle.dex_base.proofs.FieldBounds.{u32_at-fits, drop-AreBytes}
use Rattle.dex_container.specs.Frame.{IsFramed}
use Rattle.dex_container.specs.Where.{slice}
use Rattle.dex_insn.specs.Raw as raw
use Rattle.dex_insn.specs.Raw.{Raw}
use Rattle.dex_insn.specs.RawInsns.{InsnStands}
use Rattle.dex_insn.proofs.Fits.{stands_fits}
use Rattle.program_types.specs.Content.{Name, Catch, Insn, Try, Code}
use Rattle.program_types.specs.Formed.{WantsPayload, wanted_by, insn_at, try_at, insn_wants, insn_reach, insn_branch, insn_targets, insn_leads, RefersToPayload, IsTarget, TargetHolds, PayloadHolds, TryFormed, RegistersHold, IsFormed}
use Rattle.program_types.specs.Operands.{IsOperand}
use Rattle.program_types.specs.Content as made
use Rattle.tables_rows.specs.Stands.{NameStands}
use Rattle.code_read.specs.Places.{count_below, Rises}
use Rattle.code_read.specs.Walk.{Run, starts, raw_at, address}
use Rattle.code_read.specs.Symbols.{name_in}
use Rattle.code_read.specs.Linked.{SpellsInsns}
use Rattle.code_read.proofs.PlaceLaws.{position-there}
use Rattle.code_read.proofs.Runs.{run-at, table-of, run-few}
use Rattle.code_read.specs.Item.{insns_size, tries_of, insns_bytes, items_of, list_begin, units_end, try_start, try_count}
use Rattle.code_read.specs.Handlers.{Handler, catches_of, SpellsHandlers, handler_at}
use Rattle.code_read.specs.inner.Handlers.{SpellsAddress, SpellsCatch, SpellsHandler}
use Rattle.code_read.specs.Tries.{SpellsTries, handler_of}
use Rattle.code_read.specs.Code.{SpellsBody, CodeStands}
use Rattle.code_read.proofs.FaultLaws.{units-even}
use Rattle.code_read.proofs.HandlerReading.{SpellsCatchAll}
use Rattle.code_read.proofs.ItemLaws.{begins_late}
use Rattle.code_read.proofs.NamesHaveRows.{at-offset}
use Rattle.code_read.proofs.ResolvedLaws.{raw-bytes, operand-said}
use Rattle.dex_base.proofs.ListFacts.{take_bytes, all_weaker}
use Rattle.code_rules.proofs.OperandLaws.{alike_itself}

-- ---- instructions

run-some : (us : List ℕ) (rs : List Raw) (e : ℕ) → Run us 0 rs e → 0 < e → 0 < length rs
run-some us [] e h l = omega (arith, h, l)
run-some us (r ∷ rs) e h l = omega arith

-- where an instruction that keeps the rules leads to is an instruction
pub leads-inside : (is : List Insn) (k : ℕ) → TargetHolds is k → PayloadHolds is k → (i : Insn) → insn_at is k ≡ i → AllByRecursion (λ to. to < length is) (insn_leads i)
unfolding insn_branch insn_targets insn_wants insn_reach
leads-inside is k t p (made.I10t op to) e = ((subst (λ (i : Insn). IfSome (insn_branch i) (IsTarget is)) e t.lands).inside, tt)
leads-inside is k t p (made.I20t op to) e = ((subst (λ (i : Insn). IfSome (insn_branch i) (IsTarget is)) e t.lands).inside, tt)
leads-inside is k t p (made.I30t op to) e = ((subst (λ (i : Insn). IfSome (insn_branch i) (IsTarget is)) e t.lands).inside, tt)
leads-inside is k t p (made.I21t op a to) e = ((subst (λ (i : Insn). IfSome (insn_branch i) (IsTarget is)) e t.lands).inside, tt)
leads-inside is k t p (made.I22t op a b to) e = ((subst (λ (i : Insn). IfSome (insn_branch i) (IsTarget is)) e t.lands).inside, tt)
leads-inside is k t p (made.I31t op a to) e = ((subst (λ (i : Insn). WantsPayload (insn_wants i) → RefersToPayload is k (insn_reach i)) e p.refers (alike_itself (wanted_by op))).payload, tt)
leads-inside is k t p (made.Packed first to) e = all_weaker _ _ (λ n h. h.inside) to (subst (λ (i : Insn). AllByRecursion (IsTarget is) (insn_targets i)) e t.all)
leads-inside is k t p (made.Sparse keys to) e = all_weaker _ _ (λ n h. h.inside) to (subst (λ (i : Insn). AllByRecursion (IsTarget is) (insn_targets i)) e t.all)
leads-inside is k t p _ e = tt

module _ (N : ℕ → Name → Type 0) (us : List ℕ) (rs : List Raw) (is : List Insn) (s : SpellsInsns N us rs is) where
  operand-at : AreBytes us → length us ≤ 4294967295 → (k : ℕ) → k < length is → IsOperand (length is) (insn_at is k)
  unfolding raw_at
  operand-at are short k m =
      let n = s.linked.count in
      let l : k < length rs = omega (arith, m, n) in
      let x = s.linked.each k l in
      let st : InsnStands us (address rs k) (raw_at rs k) = run-at us 0 rs (length us / 2) k (raw.I10x 0) s.walk.run l in
      let inside = leads-inside is k (s.keep.targets k m) (s.keep.payloads k m) (insn_at is k) refl in
      subst (IsOperand (length is)) x.resolves.symbol
      (operand-said N _ (name_in (insn_at is k)) (length is) (raw_at rs k) (subst (λ (i : Insn). AllByRecursion (λ to. to < length is) (insn_leads i)) (sym x.resolves.symbol) inside) (stands_fits us (address rs k) (raw_at rs k) are st)
      (raw-bytes (drop (2 * address rs k) us) (raw_at rs k) (drop-AreBytes us (2 * address rs k) are) (omega (arith, short, length-drop (2 * address rs k) us)) st.spelled) x.resolves.named)

-- ---- tries

pub count-most : (ss : List ℕ) (x n : ℕ) → ((k : ℕ) → n ≤ k → k < length ss → x ≤ get_or ss k 0) → count_below x ss ≤ n
unfolding count_below
count-most [] x n h = omega arith
count-most (s ∷ ss) x zero h =
    let r = count-most ss x zero (λ k l m. h (suc k) (omega arith) (omega (arith, m))) in
    let q : x ≤ s = h zero (omega arith) (omega arith) in
    grind (arith, nat_tests)
count-most (s ∷ ss) x (suc n) h =
    let r = count-most ss x n (λ k l m. h (suc k) (omega (arith, l)) (omega (arith, m))) in
    elim (cases_lt s x) [ inl a ↦ grind (arith, nat_tests) | inr a ↦ grind (arith, nat_tests) ]

count-least : (ss : List ℕ) (x n : ℕ) → n ≤ length ss → ((k : ℕ) → k < n → get_or ss k 0 < x) → n ≤ count_below x ss
unfolding count_below
count-least ss x zero l h = omega arith
count-least [] x (suc n) l h = omega (arith, l)
count-least (s ∷ ss) x (suc n) l h =
    let r = count-least ss x n (omega (arith, l)) (λ k m. h (suc k) (omega (arith, m))) in
    let q : s < x = h zero (omega arith) in
    grind (arith, nat_tests)

-- what begins at an address is not below it, and nothing drop-AreBytes it is
pub not-below : (ss : List ℕ) (n k x : ℕ) → Rises ss → n ≤ k → k < length ss → x ≤ get_or ss n 0 → x ≤ get_or ss k 0
not-below ss n k x r l m h = elim (cases_lt n k) [
  | inl a ↦ let q = r.each n k a m in omega (arith, q, h)
  | inr a ↦ let e : n ≡ k = omega (arith, l, a) in subst (λ (j : ℕ). x ≤ get_or ss j 0) e h
]

up-to : (ss : List ℕ) (n k x : ℕ) → Rises ss → k < n + 1 → n < length ss → get_or ss n 0 < x → get_or ss k 0 < x
up-to ss n k x r l m h = elim (cases_lt k n) [
  | inl a ↦ let q = r.each k n a m in omega (arith, q, h)
  | inr a ↦ let e : n ≡ k = omega (arith, l, a) in subst (λ (j : ℕ). get_or ss j 0 < x) e h
]

-- what a handler of a code of so many instructions is like
record HandlerFormed (count : ℕ) (h : Handler) : Type 0 where
  places : AllByRecursion (λ c. c.at < count) h.catches
  last : IfSome h.all (λ k. k < count)
  handled : IfNone h.all (h.catches ≢ [])

module _ (N : ℕ → Name → Type 0) (ss : List ℕ) where
  place-below : (bytes : List ℕ) (n : ℕ) → SpellsAddress N ss bytes n → n < length ss
  place-below bytes n s = (position-there ss s.raw n s.means).0

  catches-below : (bytes : List ℕ) (cs : List Catch) → Each (SpellsCatch N ss) bytes cs → AllByRecursion (λ c. c.at < length ss) cs
  catches-below bytes [] s = tt
  catches-below bytes (c ∷ cs) s = (place-below s.3.back c.at s.3.second, catches-below s.1 cs s.4)

  all-below : (z : ℤ) (bytes : List ℕ) (o : Option ℕ) → SpellsCatchAll N ss z bytes o → IfSome o (λ k. k < length ss)
  all-below z bytes None s = tt
  all-below z bytes (Some n) s = place-below bytes n s.1

  some-caught : (z : ℤ) (bytes : List ℕ) (o : Option ℕ) (cs : List Catch) → length cs ≡ catches_of z → SpellsCatchAll N ss z bytes o → IfNone o (cs ≢ [])
  some-caught (pos zero) bytes None cs e s = absurd (s.0 tt)
  some-caught (pos (suc n)) bytes None cs e s = λ f. let l = ap length f in omega (arith, l, e)
  some-caught (negsuc n) bytes None cs e s = absurd (s.0 tt)
  some-caught z bytes (Some n) cs e s = tt

  handler-formed : (front : List ℕ) (h : Handler) → SpellsHandler N ss front h → HandlerFormed (length ss) h
  handler-formed front h s =
      let z = s.raw.0 in
      let p = s.spelled.second in
      let made : HandlerFormed (length ss) (record { catches = s.raw.1.0; all = s.raw.1.1 }) = record {
        places = catches-below p.front s.raw.1.0 p.first.1;
        last = all-below z p.back s.raw.1.1 p.second;
        handled = some-caught z p.back s.raw.1.1 s.raw.1.0 p.first.0 p.second;
      } in
      subst (HandlerFormed (length ss)) (λ i. record { catches = (s.means i).0; all = (s.means i).1 }) made

  handlers-formed : (list : List ℕ) (n : ℕ) (hs : List (ℕ × Handler)) → SpellsHandlers N ss n list hs → (off : ℕ) (h : Handler) → handler_at hs off ≡ Some h → HandlerFormed (length ss) h
  unfolding handler_at
  handlers-formed list zero hs s off h e = absurd (let f : handler_at [] off ≡ Some h = subst (λ (l : List (ℕ × Handler)). handler_at l off ≡ Some h) s.1 e in cc)
  handlers-formed list (suc n) hs s off h e = at-offset (SpellsHandler N ss) (HandlerFormed (length ss)) handler-formed (length s.front) s.back hs s.each off h e

  module _ (rises : Rises ss) (size n : ℕ) (items list : List ℕ) (ts : List Try) (s : SpellsTries N ss size n items list ts) where
    pub from-at : (i : ℕ) → i < n → ((try_at ts i).from < length ss) × (get_or ss (try_at ts i).from 0 ≡ try_start items i)
    from-at i l = position-there ss (try_start items i) (try_at ts i).from (s.each i l).from

    try-formed : (i : ℕ) → i < n → TryFormed (length ss) ts i
    try-formed i l =
        let x = s.each i l in
        let t = s.hold i l in
        let f = from-at i l in
        let h = handlers-formed list n s.handlers s.spelled _ (handler_of (try_at ts i)) x.handler in
        let inside = f.0 in let begins = f.1 in let covers = t.some in
        let below : get_or ss (try_at ts i).from 0 < try_start items i + try_count items i = omega (arith, begins, covers) in
        let to = x.to in
        let some : (try_at ts i).from + 1 ≤ count_below (try_start items i + try_count items i) ss =
        count-least ss (try_start items i + try_count items i) ((try_at ts i).from + 1) (omega (arith, inside)) (λ k m. up-to ss (try_at ts i).from k _ rises m inside below) in
        let most : count_below (try_start items i + try_count items i) ss ≤ length ss = count-most ss (try_start items i + try_count items i) (length ss) (λ k a b. absurd (omega (arith, a, b))) in
        record {
          some = omega (arith, to, some);
          within = omega (arith, to, most);
          after = λ j e. later j e (omega (arith, l, e)) inside begins (t.after j e);
          places = h.places;
          last = h.last;
          handled = h.handled;
        }
      where
        later : (j : ℕ) → j + 1 ≡ i → j < n → (try_at ts i).from < length ss → get_or ss (try_at ts i).from 0 ≡ try_start items i → try_start items j + try_count items j ≤ try_start items i → (try_at ts j).to ≤ (try_at ts i).from
        later j e m inside begins ends =
            let to = (s.each j m).to in
            let most = count-most ss (try_start items j + try_count items j) (try_at ts i).from (λ k a b. not-below ss (try_at ts i).from k _ rises a b (omega (arith, begins, ends))) in
            omega (arith, to, most)

-- ---- a code

pub u16-fits : (b : List ℕ) (p : ℕ) → AreBytes b → u16_at b p < 65536
unfolding u16_at
u16-fits b p are = let d = drop-AreBytes b p are in omega (arith, d 0, d 1)

pub spelled-formed : (N : ℕ → Name → Type 0) (bytes : List ℕ) (c : Code) → AreBytes bytes → length bytes ≤ 4294967295 → SpellsBody N bytes c → RegistersHold c → IsFormed c
spelled-formed N bytes c are short s named =
    let us = insns_bytes bytes in
    let even = units-even bytes s.whole in
    let late = begins_late bytes in let fixed = s.whole.fixed in
    let size : 16 + 2 * insns_size bytes ≤ 4294967295 = omega (arith, late, fixed, short) in
    let units-are : AreBytes (insns_bytes bytes) = take_bytes (units_end bytes - 16) (drop 16 bytes) (drop-AreBytes bytes 16 are) in
    let run = s.insns.walk.run in
    let count = s.insns.linked.count in
    let few = run-few us 0 s.raws (length us / 2) run in
    let positive = s.some in
    let some = run-some us s.raws (length us / 2) run (omega (arith, even, positive)) in
    let small : length us ≤ 8589934590 = omega (arith, even, size) in
    let table = table-of us (starts s.raws) s.raws small run refl in
    let same : length (starts s.raws) ≡ length c.insns = table.count ∙ sym count in
    let tries = s.tries.count in
    record {
      some = omega (arith, count, some);
      few = omega (arith, few, count, even, size);
      operands = operand-at N us s.raws c.insns s.insns units-are (omega (arith, even, size));
      targets = s.insns.keep.targets;
      payloads = s.insns.keep.payloads;
      tries = λ i l. subst (λ (m : ℕ). TryFormed m c.tries i) same
          (try-formed N (starts s.raws) table.rises (insns_size bytes) (tries_of bytes) (items_of bytes) (drop (list_begin bytes) bytes) c.tries s.tries i (omega (arith, l, tries)));
      registers = subst (λ (n : ℕ). n < 65536) (sym s.registers) (u16-fits bytes 0 are);
      ins = subst (λ (n : ℕ). n < 65536) (sym s.ins) (u16-fits bytes 2 are);
      outs = subst (λ (n : ℕ). n < 65536) (sym s.outs) (u16-fits bytes 4 are);
      named = named;
    }

pub standing-formed : (b : List ℕ) → AreBytes b → IsFramed b → (off : ℕ) (c : Code) → CodeStands (NameStands b) b off c → IsFormed c
unfolding slice
standing-formed b are framed off c a =
    let whole = framed.header.file_size in
    let fits = u32_at-fits b 32 are in
    spelled-formed (NameStands b) (slice b off a.size) c (take_bytes a.size (drop off b) (drop-AreBytes b off are))
    (omega (arith, whole, fits, length-take a.size (drop off b), length-drop off b)) a.spelled.body a.spelled.named
