-- Where the offsets of linked instructions lead, by address.
use Rattle.std.proofs.Common.{◌≡◌, ℕ, ℤ, pos, ◌/◌, ◌<◌, List, [], ◌∷◌, length, map, get_or, refl, ap, sym, ◌∙◌, subst, arith, Option, Some, None, inl, inr}
use Rattle.std.specs.Prelude.{unwrap_or}
use Rattle.std.specs.List.{AllByRecursion, AllZip}
use Rattle.std.proofs.lemmas.Bool.{cases_lt}
use Rattle.dex_insn.specs.Raw as raw
use Rattle.dex_insn.specs.Raw.{Raw}
use Rattle.program_types.specs.Content.{Name, Insn}
use Rattle.program_types.specs.Content as made
use Rattle.program_types.specs.Formed.{IsSwitch, insn_at, insn_payload, insn_leads, RefersToPayload, PayloadHolds}
use Rattle.code_rules.specs.Branches.{IsOrigin}
use Rattle.code_read.specs.Places.{Rises, target_at}
use Rattle.code_read.specs.Walk.{Walks, starts, raw_at, address}
use Rattle.code_read.specs.Symbols.{linked, name_in, ints}
use Rattle.code_read.specs.Linked.{target_number, payload_of, IsLinked, SpellsInsns}
use Rattle.code_read.specs.inner.ByAddress.{offsets_of, CountFrom, OffsetTargets, TargetsByAddress, IsLinkedByAddress, SpellsInsnsByAddress}
use Rattle.code_read.proofs.Runs.{run-rises, length-of_starts}
use Rattle.code_read.proofs.PlaceLaws.{target-there, target-to}
use Rattle.code_read.proofs.LinkLaws.{kind-linked}
use Rattle.code_read.proofs.CodesFormed.{leads-inside}

-- ---- one offset

walk-rises : (us : List ℕ) (rs : List Raw) → Walks us rs → Rises (starts rs)
walk-rises us rs w = let n = length-of_starts rs in record { each = λ i j p q. run-rises us 0 rs (length us / 2) i j w.run p (omega (arith, n, q)) }

-- addresses that rise are those of one instruction each
rises-one : (ss : List ℕ) (i j : ℕ) → Rises ss → i < length ss → j < length ss → get_or ss i 0 ≡ get_or ss j 0 → i ≡ j
rises-one ss i j r a b e = elim (cases_lt i j) [
  | inl l ↦ let q = r.each i j l b in absurd (omega (arith, q, e))
  | inr l ↦ elim (cases_lt j i) [
    | inl m ↦ let q = r.each j i m a in absurd (omega (arith, q, e))
    | inr m ↦ omega (arith, l, m)
  ]
]

pos-one : (m n : ℕ) → pos m ≡ pos n → m ≡ n
pos-one m n e = cc

-- `lead` answers the length only where an offset leads nowhere
some-below : (o : Option ℕ) (d : ℕ) → unwrap_or o d < d → o ≡ Some (unwrap_or o d)
some-below None d h = absurd (omega (arith, h))
some-below (Some n) d h = refl

target_number-there : (ss : List ℕ) (base : ℕ) (z : ℤ) → target_number ss base z < length ss → target_at ss base z ≡ Some (target_number ss base z)
unfolding target_number
target_number-there ss base z h = some-below (target_at ss base z) (length ss) h

leads-to : (rs : List Raw) (from : ℕ) (z : ℤ) → Rises (starts rs) → target_number (starts rs) (address rs from) z < length rs → OffsetTargets rs from z (target_number (starts rs) (address rs from) z)
leads-to rs from z r h =
    let n = length-of_starts rs in
    let p = target-there (starts rs) (address rs from) z _ (target_number-there (starts rs) (address rs from) z (omega (arith, n, h))) in
    record { there = h; sum = p.1; only = λ m l e. rises-one (starts rs) m _ r (omega (arith, n, l)) p.0 (pos-one _ _ (e ∙ sym p.1)) }

-- ---- the offsets of one instruction

all-target_number : (rs : List Raw) (from : ℕ) (zs : List ℤ) → Rises (starts rs) → AllByRecursion (λ to. to < length rs) (map (target_number (starts rs) (address rs from)) zs)
    → AllZip (OffsetTargets rs from) zs (map (target_number (starts rs) (address rs from)) zs)
all-target_number rs from [] r h = tt
all-target_number rs from (z ∷ zs) r h = (leads-to rs from z r h.0, all-target_number rs from zs r h.1)

leads-linked : (T : ℤ → ℕ) (w : Name) (r : Raw) → insn_leads (linked T w r) ≡ map T (offsets_of r)
unfolding linked
leads-linked T w (raw.I10x op) = refl
leads-linked T w _ = refl

-- ---- from where they count

switch-origin : (is : List Insn) (k o : ℕ) → IsSwitch (insn_payload (insn_at is k)) → PayloadHolds is k → IsOrigin is k o → RefersToPayload is o k
switch-origin is k o w p (inl s) = s.1
switch-origin is k o w p (inr s) = let u = p.used w in absurd (s.0 u.0 (w, u.1, λ i x. let e = u.2 i x in omega (arith, e)))

other-origin : (is : List Insn) (k o : ℕ) → (¬ IsSwitch (insn_payload (insn_at is k))) → IsOrigin is k o → o ≡ k
other-origin is k o h (inl s) = absurd (h s.0)
other-origin is k o h (inr s) = s.1

count-from : (is : List Insn) (k o : ℕ) (r : Raw) → insn_payload (insn_at is k) ≡ payload_of r → PayloadHolds is k → IsOrigin is k o → CountFrom is k r o
unfolding payload_of
count-from is k o (raw.Packed first offsets) e p c = switch-origin is k o (subst IsSwitch (sym e) tt) p c
count-from is k o (raw.Sparse keys offsets) e p c = switch-origin is k o (subst IsSwitch (sym e) tt) p c
count-from is k o _ e p c = other-origin is k o (λ w. subst IsSwitch e w) c

-- a switch's payload has one switch
count-one : (is : List Insn) (k i j : ℕ) (r : Raw) → insn_payload (insn_at is k) ≡ payload_of r → PayloadHolds is k → CountFrom is k r i → CountFrom is k r j → i ≡ j
unfolding payload_of
count-one is k i j (raw.Packed first offsets) e p a b = let u = p.used (subst IsSwitch (sym e) tt) in u.2 i a ∙ sym (u.2 j b)
count-one is k i j (raw.Sparse keys offsets) e p a b = let u = p.used (subst IsSwitch (sym e) tt) in u.2 i a ∙ sym (u.2 j b)
count-one is k i j _ e p a b = a ∙ sym b

-- ---- all of them

pub leads-by_address : (N : ℕ → Name → Type 0) (us : List ℕ) (rs : List Raw) (is : List Insn) → SpellsInsns N us rs is → (k : ℕ) → k < length is → TargetsByAddress rs is k
leads-by_address N us rs is s k m =
    let n = s.linked.count in
    let x = s.linked.each k (omega (arith, m, n)) in
    let p = s.keep.payloads k m in
    let T = target_number (starts rs) (address rs x.origin) in
    let zs = offsets_of (raw_at rs k) in
    let kind : insn_payload (insn_at is k) ≡ payload_of (raw_at rs k) = ap insn_payload (sym x.resolves.symbol) ∙ kind-linked _ _ (raw_at rs k) in
    let targeted : insn_leads (insn_at is k) ≡ map T zs = ap insn_leads (sym x.resolves.symbol) ∙ leads-linked T (name_in (insn_at is k)) (raw_at rs k) in
    let counts = count-from is k x.origin (raw_at rs k) kind p x.counts in
    let inside = subst (AllByRecursion (λ (to : ℕ). to < length is)) targeted (leads-inside is k (s.keep.targets k m) p (insn_at is k) refl) in
    record {
      from = x.origin;
      counts = counts;
      only = λ j c. count-one is k j x.origin (raw_at rs k) kind p c counts;
      leads = subst (AllZip (OffsetTargets rs x.origin) zs) (sym targeted) (all-target_number rs x.origin zs (walk-rises us rs s.walk) (subst (λ (d : ℕ). AllByRecursion (λ (to : ℕ). to < d) (map T zs)) n inside));
    }

-- ---- the other way: what leads by address is linked

-- an offset that leads to an instruction is linked to its number
target_number-is : (rs : List Raw) (from to : ℕ) (z : ℤ) → Rises (starts rs) → OffsetTargets rs from z to → target_number (starts rs) (address rs from) z ≡ to
unfolding target_number
target_number-is rs from to z r o =
    let n = length-of_starts rs in
    let there = o.there in
    ap (λ (t : Option ℕ). unwrap_or t (length (starts rs))) (target-to (starts rs) (address rs from) to z r (omega (arith, n, there)) (sym o.sum))

all-are : (rs : List Raw) (from : ℕ) (T : ℤ → ℕ) (zs : List ℤ) → Rises (starts rs) → AllZip (OffsetTargets rs from) zs (map T zs) → map T zs ≡ map (target_number (starts rs) (address rs from)) zs
all-are rs from T [] r h = refl
all-are rs from T (z ∷ zs) r h =
    let one = target_number-is rs from (T z) z r h.0 in
    let rest = all-are rs from T zs r h.1 in
    ap (λ (t : ℕ). t ∷ map T zs) (sym one) ∙ ap (λ (ts : List ℕ). target_number (starts rs) (address rs from) z ∷ ts) rest

first-same : (a b : ℕ) (xs ys : List ℕ) → a ∷ xs ≡ b ∷ ys → a ≡ b
first-same a b xs ys e = cc

-- where two ways to link lead the offsets alike, they make the same instruction
linked-alike : (S T : ℤ → ℕ) (w : Name) (r : Raw) → map S (offsets_of r) ≡ map T (offsets_of r) → linked S w r ≡ linked T w r
unfolding linked
linked-alike S T w (raw.I10t op offset) e = ap (made.I10t op) (first-same (S offset) (T offset) [] [] e)
linked-alike S T w (raw.I20t op offset) e = ap (made.I20t op) (first-same (S offset) (T offset) [] [] e)
linked-alike S T w (raw.I30t op offset) e = ap (made.I30t op) (first-same (S offset) (T offset) [] [] e)
linked-alike S T w (raw.I21t op a offset) e = ap (made.I21t op a) (first-same (S offset) (T offset) [] [] e)
linked-alike S T w (raw.I22t op a b offset) e = ap (made.I22t op a b) (first-same (S offset) (T offset) [] [] e)
linked-alike S T w (raw.I31t op a offset) e = ap (made.I31t op a) (first-same (S offset) (T offset) [] [] e)
linked-alike S T w (raw.Packed first offsets) e = ap (made.Packed first) e
linked-alike S T w (raw.Sparse keys offsets) e = ap (made.Sparse (ints keys)) e
linked-alike S T w _ e = refl

-- offsets that count from the one switch of a payload, or from their own instruction, have that origin
switch-from : (is : List Insn) (k from : ℕ) → IsSwitch (insn_payload (insn_at is k)) → PayloadHolds is k → RefersToPayload is from k → IsOrigin is k from
switch-from is k from w p c = let u = p.used w in inl (w, c, λ i x. let a = u.2 i x in let b = u.2 from c in omega (arith, a, b))

other-from : (is : List Insn) (k from : ℕ) → (¬ IsSwitch (insn_payload (insn_at is k))) → from ≡ k → IsOrigin is k from
other-from is k from h e = inr (λ i s. h s.0, e)

origin-from : (is : List Insn) (k from : ℕ) (r : Raw) → insn_payload (insn_at is k) ≡ payload_of r → PayloadHolds is k → CountFrom is k r from → IsOrigin is k from
unfolding payload_of
origin-from is k from (raw.Packed first offsets) e p c = switch-from is k from (subst IsSwitch (sym e) tt) p c
origin-from is k from (raw.Sparse keys offsets) e p c = switch-from is k from (subst IsSwitch (sym e) tt) p c
origin-from is k from _ e p c = other-from is k from (λ w. subst IsSwitch e w) c

linked-by_address : (N : ℕ → Name → Type 0) (rs : List Raw) (is : List Insn) (k : ℕ) → Rises (starts rs) → PayloadHolds is k → IsLinkedByAddress N rs is k → IsLinked N rs is k
linked-by_address N rs is k rise p x =
    let r = raw_at rs k in
    let w = name_in (insn_at is k) in
    let from = x.leads.from in
    let kind : insn_payload (insn_at is k) ≡ payload_of r = ap insn_payload (sym x.resolves.symbol) ∙ kind-linked _ _ r in
    let targeted : insn_leads (insn_at is k) ≡ map x.target (offsets_of r) = ap insn_leads (sym x.resolves.symbol) ∙ leads-linked x.target w r in
    let same = all-are rs from x.target (offsets_of r) rise (subst (AllZip (OffsetTargets rs from) (offsets_of r)) targeted x.leads.leads) in
    record {
      origin = from;
      counts = origin-from is k from r kind p x.leads.counts;
      resolves = record { symbol = sym (linked-alike x.target (target_number (starts rs) (address rs from)) w r same) ∙ x.resolves.symbol; named = x.resolves.named };
    }

-- the two say the same
pub to-by_address : (N : ℕ → Name → Type 0) (us : List ℕ) (rs : List Raw) (is : List Insn) → SpellsInsns N us rs is → SpellsInsnsByAddress N us rs is
to-by_address N us rs is s = record {
  walk = s.walk;
  count = s.linked.count;
  each = λ k m. let n = s.linked.count in record { target = _; resolves = (s.linked.each k m).resolves; leads = leads-by_address N us rs is s k (omega (arith, m, n)) };
  keep = s.keep;
}

pub from-by_address : (N : ℕ → Name → Type 0) (us : List ℕ) (rs : List Raw) (is : List Insn) → SpellsInsnsByAddress N us rs is → SpellsInsns N us rs is
from-by_address N us rs is s = record {
  walk = s.walk;
  linked = record { count = s.count; each = λ k m. let n = s.count in linked-by_address N rs is k (walk-rises us rs s.walk) (s.keep.payloads k (omega (arith, m, n))) (s.each k m) };
  keep = s.keep;
}
