-- Instructions one after the other.
use Rattle.std.proofs.Common.{◌≡◌, ℕ, ℤ, ◌+◌, ◌/◌, ◌<◌, List, [], ◌∷◌, ◌++◌, length, take, refl, sym, ap, subst, arith, length-append}
use Rattle.std.specs.List.{flat_map}
use Rattle.std.proofs.lemmas.List.{take_all}
use Rattle.dex_insn.specs.Raw.{Raw, units}
use Rattle.dex_insn.specs.RawInsns.{InsnStands}
use Rattle.dex_insn.proofs.StandingLaws.{one-stands}
use Rattle.program_types.specs.Content.{Insn}
use Rattle.program_types.specs.Content as made
use Rattle.program_types.specs.Formed.{insn_at}
use Rattle.program_types.specs.Mentions.{names_of_insn}
use Rattle.tables_rows.specs.Stands.{NameStands}
use Rattle.file_renumber.specs.inner.Marked.{Marked, AddsNames}
use Rattle.file_renumber.proofs.MarkLemmas.{adds_none, adds_next}
use Rattle.code_read.specs.Linked.{target_number}
use Rattle.code_read.specs.Symbols.{Resolves}
use Rattle.code_read.specs.Walk.{address, Run, Walks, starts, raw_at}
use Rattle.code_read.specs.Linked.{SpellsInsns}
use Rattle.code_read.proofs.Runs.{run-more, run-once, run-reaches, run-le}

-- what stands after some of the instructions is the next of them
pub record Meets (rs : List Raw) (k : ℕ) (r : Raw) : Type 0 where
  pub inside : k < length rs
  pub same : raw_at rs k ≡ r

pub run-meets : (us : List ℕ) (a : ℕ) (before rs : List Raw) (at e : ℕ) (r : Raw) → Run us a before at → Run us a rs e → at < e → InsnStands us at r → Meets rs (length before) r
unfolding raw_at
run-meets us a [] [] at e r p q l s = absurd (omega (arith, p, q, l))
run-meets us a [] (x ∷ xs) at e r p q l s = record { inside = omega arith; same = one-stands us a x r q.0 (subst (λ (n : ℕ). InsnStands us n r) (sym p) s) }
run-meets us a (x ∷ xs) [] at e r p q l s = let k = run-le us (a + units x) xs at p.1 in absurd (omega (arith, k, q, l))
run-meets us a (x ∷ xs) (y ∷ ys) at e r p q l s =
    let i = one-stands us a x y p.0 q.0 in
    let m = run-meets us (a + units x) xs ys at e r p.1 (subst (λ (z : Raw). Run us (a + units z) ys e) (sym i) q.1) l s in
    let inside = m.inside in
    record { inside = omega (arith, inside); same = m.same }

-- an instruction stands where others end before the last one does
pub stands_next : (us : List ℕ) (before rs : List Raw) (at : ℕ) → Run us 0 before at → Walks us rs → at < length us / 2 → (r : Raw) × InsnStands us at r
stands_next us before rs at p w l = run-reaches us 0 before rs at (length us / 2) p w.run l

-- ---- what they name

-- as far as this unit what the instructions name is marked
pub record MarkedTo (b : List ℕ) (old new : Marked) (us : List ℕ) (at : ℕ) (is : List Insn) : Type 0 where
  pub before : List Raw
  pub run : Run us 0 before at
  pub marked : AddsNames b old new (flat_map names_of_insn (take (length before) is))

pub marked_start : (b : List ℕ) (m : Marked) (us : List ℕ) (is : List Insn) → MarkedTo b m m us 0 is
marked_start b m us is = record { before = []; run = refl; marked = adds_none b m }

-- the instruction that the next one says
pub record SaysNext (b : List ℕ) (k : ℕ) (r : Raw) (is : List Insn) : Type 0 where
  pub to : ℤ → _
  pub resolves : Resolves (NameStands b) to r (insn_at is k)
  pub inside : k < length is

pub says_next : (b us : List ℕ) (before rs : List Raw) (is : List Insn) (at : ℕ) (r : Raw) → Run us 0 before at → SpellsInsns (NameStands b) us rs is → at < length us / 2 → InsnStands us at r → SaysNext b (length before) r is
says_next b us before rs is at r p s l st =
    let m = run-meets us 0 before rs at (length us / 2) r p s.walk.run l st in
    let x = s.linked.each (length before) m.inside in
    let count = s.linked.count in
    let inside = m.inside in
    record {
      to = target_number (starts rs) (address rs x.origin);
      resolves = subst (λ (q : Raw). Resolves (NameStands b) (target_number (starts rs) (address rs x.origin)) q (insn_at is (length before))) m.same x.resolves;
      inside = omega (arith, inside, count);
    }

pub marked_more : (b : List ℕ) (old mid new : Marked) (us : List ℕ) (at : ℕ) (r : Raw) (is : List Insn) (m : MarkedTo b old mid us at is) → length m.before < length is → InsnStands us at r
    → AddsNames b mid new (names_of_insn (insn_at is (length m.before))) → MarkedTo b old new us (at + units r) is
marked_more b old mid new us at r is m lt s f =
    let count : length (m.before ++ r ∷ []) ≡ length m.before + 1 = length-append m.before (r ∷ []) in
    record {
      before = m.before ++ r ∷ [];
      run = run-more us 0 m.before at r m.run s;
      marked = subst (λ (k : ℕ). AddsNames b old new (flat_map names_of_insn (take k is))) (sym count) (adds_next names_of_insn b old mid new is (length m.before) (made.I10x 0) lt m.marked f);
    }

pub marked_end : (b : List ℕ) (old new : Marked) (us : List ℕ) (at : ℕ) (rs : List Raw) (is : List Insn) → at ≡ length us / 2 → SpellsInsns (NameStands b) us rs is → MarkedTo b old new us at is → AddsNames b old new (flat_map names_of_insn is)
marked_end b old new us at rs is e s m =
    let same = run-once us 0 m.before rs (length us / 2) (subst (λ (n : ℕ). Run us 0 m.before n) e m.run) s.walk.run in
    let count = s.linked.count in
    let n : length m.before ≡ length rs = ap length same in
    subst (λ (l : List Insn). AddsNames b old new (flat_map names_of_insn l)) (take_all (length m.before) is (omega (arith, n, count))) m.marked
