-- Nops before payloads at odd addresses.
use Rattle.std.proofs.Common.{◌≡◌, ◌≢◌, ℕ, ◌+◌, ◌%◌, ◌<◌, ◌≤◌, ◌++◌, List, [], ◌∷◌, length, get_or, drop, take, refl, ap, sym, ◌∙◌, arith, zero, suc, subst, Bool, true, false, Option, Some, None, inl, inr, append_assoc, length-append, ◌==◌, if◌then◌else◌}
use Rattle.std.proofs.lemmas.Bool.{cases_lt}
use Rattle.std.proofs.lemmas.Bool.Decides.{nat_tests}
use Rattle.std.proofs.lemmas.List.{drop_more, length-map}
use Rattle.program_types.specs.Content.{Insn, Code}
use Rattle.program_types.specs.Content as made
use Rattle.program_types.specs.Formed.{insn_payload}
use Rattle.program_types.specs.Sizes.{insn_units}
use Rattle.program_types.specs.declared.payload.Payload.{Payload}
use Rattle.code_read.proofs.Lists.{at-old, at-new}
use Rattle.code_align.specs.Aligned.{PayloadsEven, with_nops, PadsPayloads, nops_to, moved, moved_insn, padded, Aligned}
use Rattle.code_align.specs.inner.Aligning.{is_there, is_odd, pads_from, AreMovedNumbers}
use Rattle.std.proofs.Math.Seq.{take-length}

-- how many are true
unfoldable pub trues : List Bool → ℕ
trues [] = 0
trues (p ∷ ps) = (if p then 1 else 0) + trues ps

-- a nop has one unit
nop : insn_units (made.I10x 0) ≡ 1
unfolding insn_units
nop = refl

-- ---- one way to align

pub pads-one : (at : ℕ) (is : List Insn) (ps qs : List Bool) → PadsPayloads ps is → PadsPayloads qs is → PayloadsEven at (with_nops ps is) → PayloadsEven at (with_nops qs is) → ps ≡ qs
pads-one at [] [] [] a b x y = refl
pads-one at (i ∷ is) (true ∷ ps) (true ∷ qs) a b x y = ap (λ (l : List Bool). true ∷ l) (pads-one (at + insn_units (made.I10x 0) + insn_units i) is ps qs a.1 b.1 x.1.1 y.1.1)
pads-one at (i ∷ is) (false ∷ ps) (false ∷ qs) a b x y = ap (λ (l : List Bool). false ∷ l) (pads-one (at + insn_units i) is ps qs a.1 b.1 x.1 y.1)
pads-one at (i ∷ is) (true ∷ ps) (false ∷ qs) a b x y = let l = a.0 refl in let e = x.1.0 l in let o = y.0 l in let n = nop in absurd (omega arith)
pads-one at (i ∷ is) (false ∷ ps) (true ∷ qs) a b x y = let l = b.0 refl in let e = y.1.0 l in let o = x.0 l in let n = nop in absurd (omega arith)
pads-one at [] (p ∷ ps) qs a b x y = absurd a
pads-one at (i ∷ is) [] qs a b x y = absurd a
pads-one at [] [] (q ∷ qs) a b x y = absurd b
pads-one at (i ∷ is) (p ∷ ps) [] a b x y = absurd b

pub aligned-one : (c d e : Code) → Aligned c d → Aligned c e → d ≡ e
aligned-one c d e p q = let s = pads-one 0 c.insns p.pads q.pads p.payloads q.payloads p.even q.even in p.is ∙ ap (λ (ps : List Bool). padded ps c) s ∙ sym q.is

-- ---- the walk

odd-there : (o : Option Payload) (b : Bool) → (if is_there o then b else false) ≡ true → o ≢ None
odd-there None b e = λ f. cc
odd-there (Some p) b e = λ f. cc

odd-at : (o : Option Payload) (at : ℕ) → (if is_there o then (at % 2 == 1) else false) ≡ true → at % 2 ≡ 1
odd-at None at e = absurd cc
odd-at (Some p) at e = grind (arith, nat_tests)

even-at : (o : Option Payload) (at : ℕ) → (if is_there o then (at % 2 == 1) else false) ≡ false → o ≢ None → at % 2 ≡ 0
even-at None at e f = absurd (f refl)
even-at (Some p) at e f = let n : at % 2 ≢ 1 = not-one at e in omega arith
  where
    not-one : (m : ℕ) → (m % 2 == 1) ≡ false → m % 2 ≢ 1
    not-one m g = grind (arith, nat_tests)

pub pads-good : (at : ℕ) (is : List Insn) → PadsPayloads (pads_from at is) is
pads-good at [] = tt
pads-good at (i ∷ is) = (λ e. odd-there (insn_payload i) (at % 2 == 1) e, pads-good (at + (if is_odd at i then 1 else 0) + insn_units i) is)

no-payload : insn_payload (made.I10x 0) ≢ None → ⊥
unfolding insn_payload
no-payload f = f refl

even-step : (at : ℕ) (i : Insn) (is : List Insn) (ps : List Bool) (p : Bool) → is_odd at i ≡ p → PayloadsEven (at + (if p then 1 else 0) + insn_units i) (with_nops ps is) → PayloadsEven at (with_nops (p ∷ ps) (i ∷ is))
even-step at i is ps true e h =
    let a = odd-at (insn_payload i) at e in
    let n = nop in
    (λ f. absurd (no-payload f), (λ f. omega arith, subst (λ (m : ℕ). PayloadsEven (at + m + insn_units i) (with_nops ps is)) (sym n) h))
even-step at i is ps false e h =
    let z : at + 0 ≡ at = omega arith in
    (λ f. even-at (insn_payload i) at e f, subst (λ (m : ℕ). PayloadsEven (m + insn_units i) (with_nops ps is)) z h)

pub pads-even : (at : ℕ) (is : List Insn) → PayloadsEven at (with_nops (pads_from at is) is)
pads-even at [] = tt
pads-even at (i ∷ is) = even-step at i is (pads_from (at + (if is_odd at i then 1 else 0) + insn_units i) is) (is_odd at i) refl (pads-even (at + (if is_odd at i then 1 else 0) + insn_units i) is)

pub pads-turn : (is : List Insn) (k at : ℕ) (i : Insn) (pads new whole : List Bool) → k < length is → i ≡ get_or is k (made.I10x 0) → pads ++ pads_from at (drop k is) ≡ whole → new ≡ pads ++ is_odd at i ∷ []
    → new ++ pads_from (at + (if is_odd at i then 1 else 0) + insn_units i) (drop (k + 1) is) ≡ whole
pads-turn is k at i pads new whole l e h n =
    let rest = pads_from (at + (if is_odd at i then 1 else 0) + insn_units i) (drop (k + 1) is) in
    let d : drop k is ≡ i ∷ drop (k + 1) is = drop_more is k (made.I10x 0) l ∙ ap (λ (j : Insn). j ∷ drop (k + 1) is) (sym e) in
    ap (λ (ps : List Bool). ps ++ rest) n ∙ append_assoc pads (is_odd at i ∷ []) rest ∙ ap (λ (js : List Insn). pads ++ pads_from at js) (sym d) ∙ h

pub length-pads : (at : ℕ) (is : List Insn) → length (pads_from at is) ≡ length is
length-pads at [] = refl
length-pads at (i ∷ is) = ap suc (length-pads (at + (if is_odd at i then 1 else 0) + insn_units i) is)

-- ---- the new numbers

nops-take : (ps : List Bool) (k : ℕ) → k < length ps → nops_to ps k ≡ trues (take (suc k) ps)
unfolding trues
nops-take [] k l = absurd (omega arith)
nops-take (p ∷ ps) zero l = omega arith
nops-take (p ∷ ps) (suc k) l = ap (λ (n : ℕ). (if p then 1 else 0) + n) (nops-take ps k (omega arith))

trues-more : (ps : List Bool) (k : ℕ) (p : Bool) → k < length ps → p ≡ get_or ps k false → trues (take (suc k) ps) ≡ (if p then 1 else 0) + trues (take k ps)
unfolding trues
trues-more [] k p l e = absurd (omega arith)
trues-more (q ∷ ps) zero p l e = ap (λ (b : Bool). (if b then 1 else 0) + 0) (sym e)
trues-more (q ∷ ps) (suc k) p l e = let t = trues-more ps k p (omega arith) e in omega arith

pub nops-end : (ps : List Bool) → nops_to ps (length ps) ≡ trues ps
unfolding trues
nops-end [] = refl
nops-end (p ∷ ps) = ap (λ (n : ℕ). (if p then 1 else 0) + n) (nops-end ps)

-- The first k numbers are there, with so many nops before them.
pub record SomeMoved (ps : List Bool) (k : ℕ) (ns : List ℕ) (nops : ℕ) : Type 0 where
  pub count : length ns ≡ k
  pub sum : nops ≡ trues (take k ps)
  pub few : nops ≤ k
  pub each : (j : ℕ) → j < k → get_or ns j 0 ≡ moved ps j

pub moved-none : (ps : List Bool) (ns : List ℕ) → ns ≡ [] → SomeMoved ps 0 ns 0
unfolding trues
moved-none ps ns e = record { count = ap length e; sum = refl; few = omega arith; each = λ j l. absurd (omega arith) }

pub moved-more : (ps : List Bool) (k : ℕ) (ns new : List ℕ) (nops more at : ℕ) (p : Bool) → k < length ps → p ≡ get_or ps k false → more ≡ (if p then 1 else 0) + nops → at ≡ k + more → SomeMoved ps k ns nops → new ≡ ns ++ at ∷ [] → SomeMoved ps (k + 1) new more
moved-more ps k ns new nops more at p l e m a s n =
    let c = s.count in let f = s.few in
    let t = trues-more ps k p l e in
    let sum : more ≡ trues (take (suc k) ps) = omega (arith, s.sum) in
    let next : suc k ≡ k + 1 = omega arith in
    let here : at ≡ moved ps k = omega (arith, nops-take ps k l) in
    subst (λ (xs : List ℕ). SomeMoved ps (k + 1) xs more) (sym n) (record {
      count = omega (arith, length-append ns (at ∷ []));
      sum = sum ∙ ap (λ (j : ℕ). trues (take j ps)) next;
      few = at-most p nops more k m f;
      each = λ j lj. elim (cases_lt j k) [
        | inl b ↦ at-old ns at 0 j (omega arith) ∙ s.each j b
        | inr b ↦ let q : length ns ≡ j = omega arith in let r : k ≡ j = omega arith in
            ap (λ (i : ℕ). get_or (ns ++ at ∷ []) i 0) (sym q) ∙ at-new ns at 0 ∙ here ∙ ap (moved ps) r
      ];
    })
  where
    at-most : (b : Bool) (x y z : ℕ) → y ≡ (if b then 1 else 0) + x → x ≤ z → y ≤ z + 1
    at-most true x y z g h = omega arith
    at-most false x y z g h = omega arith

pub end-is : (ps : List Bool) (ns : List ℕ) (nops k : ℕ) → k ≡ length ps → SomeMoved ps k ns nops → length ps + nops ≡ moved ps (length ps)
end-is ps ns nops k e s =
    let a = s.sum in
    let t : trues (take k ps) ≡ trues ps = ap (λ (j : ℕ). trues (take j ps)) e ∙ ap trues (take-length ps) in
    omega (arith, nops-end ps)

pub moved-all : (ps : List Bool) (ns new : List ℕ) (nops at k : ℕ) → k ≡ length ps → SomeMoved ps k ns nops → at ≡ length ps + nops → new ≡ ns ++ at ∷ [] → AreMovedNumbers ps new
moved-all ps ns new nops at k e s a n =
    let c = s.count in
    let z = end-is ps ns nops k e s in
    subst (λ (xs : List ℕ). AreMovedNumbers ps xs) (sym n) (record {
      count = omega (arith, length-append ns (at ∷ []));
      each = λ j lj. elim (cases_lt j k) [
        | inl b ↦ at-old ns at 0 j (omega arith) ∙ s.each j b
        | inr b ↦ let q : length ns ≡ j = omega arith in let r : length ps ≡ j = omega arith in
            ap (λ (i : ℕ). get_or (ns ++ at ∷ []) i 0) (sym q) ∙ at-new ns at 0 ∙ a ∙ z ∙ ap (moved ps) r
      ];
    })

pub length-with_nops : (ps : List Bool) (is : List Insn) → length ps ≡ length is → length (with_nops ps is) ≡ moved ps (length ps)
length-with_nops [] [] e = refl
length-with_nops [] (i ∷ is) e = absurd (omega arith)
length-with_nops (p ∷ ps) [] e = absurd (omega arith)
length-with_nops (true ∷ ps) (i ∷ is) e = let r = length-with_nops ps is (omega arith) in omega arith
length-with_nops (false ∷ ps) (i ∷ is) e = let r = length-with_nops ps is (omega arith) in omega arith

pub pads-count : (ps : List Bool) (is : List Insn) → PadsPayloads ps is → length ps ≡ length is
pads-count [] [] h = refl
pads-count [] (i ∷ is) h = absurd h
pads-count (p ∷ ps) [] h = absurd h
pads-count (p ∷ ps) (i ∷ is) h = ap suc (pads-count ps is h.1)

pub after-most : (b : Bool) (x y u : ℕ) → y ≡ x + (if b then 1 else 0) + u → u ≤ 4294967296 → y ≤ x + 4294967297
after-most true x y u e l = omega arith
after-most false x y u e l = omega arith

pub aligned-length : (c d : Code) → Aligned c d → length d.insns ≡ moved (pads_from 0 c.insns) (length (pads_from 0 c.insns))
aligned-length c d a =
    ap (λ (e : Code). length e.insns) a.is ∙ length-map (with_nops a.pads c.insns) (moved_insn (moved a.pads)) ∙ length-with_nops a.pads c.insns (pads-count a.pads c.insns a.payloads)
    ∙ ap (λ (ps : List Bool). moved ps (length ps)) (pads-one 0 c.insns a.pads (pads_from 0 c.insns) a.payloads (pads-good 0 c.insns) a.even (pads-even 0 c.insns))

-- the numbers as they stand in memory
pub same-moved : (whole ps : List Bool) (ns ms : List ℕ) → ps ≡ whole → ms ≡ ns → AreMovedNumbers ps ns → (k : ℕ) → k < length whole + 1 → get_or ms k 0 ≡ moved whole k
same-moved whole ps ns ms e f a k l =
    let n = ap length e in
    ap (λ (xs : List ℕ). get_or xs k 0) f ∙ a.each k (omega arith) ∙ ap (λ (qs : List Bool). moved qs k) e
