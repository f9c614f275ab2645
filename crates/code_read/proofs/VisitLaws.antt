-- Instructions that are visited in one walk: if all are passed, and one begins at each target of a branch, they violate no rule.
use Rattle.std.proofs.Common.{◌≡◌, ◌≢◌, ℕ, ℤ, pos, ◌+ℤ◌, ◌+◌, ◌/◌, ◌%◌, ◌<◌, ◌≤◌, ◌⊎◌, inl, inr, List, [], ◌∷◌, ◌++◌, length, get_or, set, refl, ap, sym, ◌∙◌, subst, arith, Option, Some, None, length-set}
use Rattle.std.specs.Prelude.{IfSome, unwrap_or}
use Rattle.std.specs.Int.RustNames.{bit_or}
use Rattle.std.specs.List.{AllByRecursion}
use Rattle.std.proofs.lemmas.Bool.{cases_lt, cases_eq}
use Rattle.std.proofs.lemmas.List.{get_or-set_same, get_or-set_other, get_or_append_left, length_push}
use Rattle.std.proofs.lemmas.Nat.{and_le_r, or_lt, or_mod, or_disjoint, le_or_l, le_or_r}
use Rattle.std.proofs.lemmas.Option.{IfSome_then}
use Rattle.std.proofs.Math.Seq.{get_or-append_seam}
use Rattle.dex_insn.specs.Raw as raw
use Rattle.dex_insn.specs.Raw.{Raw, units}
use Rattle.program_types.specs.Content.{Name, Insn}
use Rattle.program_types.specs.Formed.{AreAmong, insn_at, insn_branch, insn_short_branch}
use Rattle.code_rules.specs.inner.Branches.{BranchStays}
use Rattle.code_rules.specs.First.{AllHold}
use Rattle.code_read.specs.Walk.{Run, raw_at, address, starts}
use Rattle.code_read.specs.inner.Walk.{IsTable}
use Rattle.code_read.specs.Places.{target_at}
use Rattle.code_read.specs.Symbols.{linked, Resolves}
use Rattle.code_read.specs.Linked.{target_number}
use Rattle.code_read.specs.inner.Plain.{ArePlain}
use Rattle.code_read.specs.inner.Visiting.{branch_offset, IsVisited, IsBegun, TargetIsMarked, AreMarked, IsPassed}
use Rattle.code_read.proofs.InsnsDecided.{half}
use Rattle.code_read.proofs.LinkLaws.{registers-linked}
use Rattle.code_read.proofs.PlaceLaws.{target-to}
use Rattle.code_read.proofs.PlainLaws.{ResolvesPlainly, are-linked, keep, raw_front, raw_last}
use Rattle.code_read.proofs.Runs.{length-of_starts, run-more, starts-more, table-of}

-- ---- a mark that is set

module _ (ms : List ℕ) (u with : ℕ) (inside : u < length ms) where
  marked : List ℕ
  marked = set ms u (bit_or (get_or ms u 0) with)

  here : get_or (set ms u (bit_or (get_or ms u 0) with)) u 0 ≡ bit_or (get_or ms u 0) with
  here = get_or-set_same ms u (bit_or (get_or ms u 0) with) 0 inside

  -- what holds of each other mark, and of this one and what it becomes
  each_mark : (P : ℕ → ℕ → Type 0) → ((m : ℕ) → P m m) → P (get_or ms u 0) (bit_or (get_or ms u 0) with) → (v : ℕ) → P (get_or ms v 0) (get_or (set ms u (bit_or (get_or ms u 0) with)) v 0)
  each_mark P other one v = elim (cases_eq v u) [
    | inl e ↦ subst (λ (w : ℕ). P (get_or ms w 0) (get_or (set ms u (bit_or (get_or ms u 0) with)) w 0)) (sym e) (subst (P (get_or ms u 0)) (sym here) one)
    | inr ne ↦ subst (P (get_or ms v 0)) (sym (get_or-set_other ms u v (bit_or (get_or ms u 0) with) 0 ne)) (other (get_or ms v 0))
  ]

-- a mark for a target still has whether an instruction begins there
same_begin : (m : ℕ) → bit_or m 2 % 2 ≡ 1 → m % 2 ≡ 1
same_begin m h =
    let e : bit_or m 2 % 2 ≡ bit_or (m % 2) 0 = or_mod m 2 1 in
    let z = and_le_r (m % 2) 0 in
    let f = or_disjoint (m % 2) 0 (omega (arith, z)) in
    omega (arith, e, f, h)

-- the instruction at this unit is no branch
pub marks_begun : (ms : List ℕ) (at : ℕ) → at < length ms → AreMarked at None ms (set ms at (bit_or (get_or ms at 0) 1))
marks_begun ms at inside = record {
  size = length-set ms at _;
  small = each_mark ms at 1 inside (λ m n. m < 4 → n < 4) (λ m l. l) (λ l. or_lt 2 (get_or ms at 0) 1 l (omega arith));
  begins = λ v b. elim (cases_eq v at) [ inl e ↦ inl e | inr ne ↦ inr (subst IsBegun (get_or-set_other ms at v _ 0 ne) b) ];
  targeted = each_mark ms at 1 inside (λ m n. 2 ≤ m → 2 ≤ n) (λ m l. l) (λ l. let o = le_or_l (get_or ms at 0) 1 in omega (arith, l, o));
  branch = tt;
}

-- it is one
pub marks_targeted : (ms ns : List ℕ) (at u : ℕ) (offset : ℤ) → AreMarked at None ms ns → u < length ns → pos u ≡ (pos at +ℤ offset) → u ≢ at → AreMarked at (Some offset) ms (set ns u (bit_or (get_or ns u 0) 2))
marks_targeted ms ns at u offset a inside sum other = record {
  size = length-set ns u _ ∙ a.size;
  small = λ v l. each_mark ns u 2 inside (λ m n. m < 4 → n < 4) (λ m k. k) (λ k. or_lt 2 (get_or ns u 0) 2 k (omega arith)) v (a.small v l);
  begins = λ v b. a.begins v (each_mark ns u 2 inside (λ m n. n % 2 ≡ 1 → m % 2 ≡ 1) (λ m k. k) (same_begin (get_or ns u 0)) v b);
  targeted = λ v l. each_mark ns u 2 inside (λ m n. 2 ≤ m → 2 ≤ n) (λ m k. k) (λ k. let o = le_or_l (get_or ns u 0) 2 in omega (arith, k, o)) v (a.targeted v l);
  branch = record {
    unit = u;
    sum = sum;
    inside = let e = length-set ns u (bit_or (get_or ns u 0) 2) in omega (arith, e, inside);
    other = other;
    targeted = let e = here ns u 2 inside in let o = le_or_r (get_or ns u 0) 2 in omega (arith, e, o);
  };
}

-- ---- all that were passed

-- From the first unit to this one such instructions stand, and these are the marks.
pub record PassedRun (N : ℕ → Name → Type 0) (us : List ℕ) (count : ℕ) (marks : List ℕ) (at : ℕ) : Type 0 where
  pub raws : List Raw
  pub run : Run us 0 raws at
  pub visited : AllHold (λ k. IsVisited N count (raw_at raws k) (units (raw_at raws k)) (branch_offset (raw_at raws k))) (length raws)
  pub small : (unit : ℕ) → get_or marks unit 0 < 4
  pub begins : (unit : ℕ) → IsBegun (get_or marks unit 0) → (k : ℕ) × (k < length raws) × (address raws k ≡ unit)
  pub branch : (k : ℕ) → k < length raws → IfSome (branch_offset (raw_at raws k)) (TargetIsMarked marks (address raws k))

module _ (N : ℕ → Name → Type 0) (us : List ℕ) (count : ℕ) where
  pub passed_none : (marks : List ℕ) → ((unit : ℕ) → get_or marks unit 0 ≡ 0) → PassedRun N us count marks 0
  passed_none marks zeros = record {
    raws = [];
    run = refl;
    visited = λ k l. absurd (omega (arith, l));
    small = λ u. let z = zeros u in omega (arith, z);
    begins = λ u b. let z = zeros u in absurd (omega (arith, z, b));
    branch = λ k l. absurd (omega (arith, l));
  }

  module _ (old new : List ℕ) (at size : ℕ) (p : PassedRun N us count old at) (one : IsPassed N us count at old new size) where
    more : List Raw
    more = p.raws ++ one.insn ∷ []

    addresses : starts (p.raws ++ one.insn ∷ []) ≡ starts p.raws ++ at ∷ []
    addresses = starts-more us 0 p.raws at one.insn p.run

    address_front : (k : ℕ) → k < length p.raws → address (p.raws ++ one.insn ∷ []) k ≡ address p.raws k
    address_front k l = ap (λ (ss : List ℕ). get_or ss k 0) addresses ∙ get_or_append_left (starts p.raws) (at ∷ []) 0 k (let e = length-of_starts p.raws in omega (arith, e, l))

    address_last : address (p.raws ++ one.insn ∷ []) (length p.raws) ≡ at
    address_last = ap (λ (ss : List ℕ). get_or ss (length p.raws) 0) addresses ∙ ap (λ (n : ℕ). get_or (starts p.raws ++ at ∷ []) n 0) (sym (length-of_starts p.raws)) ∙ get_or-append_seam (starts p.raws) at [] 0

    -- of each instruction what is known of those before, and of the last
    each_passed : (P : Raw → ℕ → Type 0) → ((k : ℕ) → k < length p.raws → P (raw_at p.raws k) (address p.raws k)) → P one.insn at → (k : ℕ) → k < length (p.raws ++ one.insn ∷ []) → P (raw_at (p.raws ++ one.insn ∷ []) k) (address (p.raws ++ one.insn ∷ []) k)
    each_passed P before last k l =
        let n = length_push p.raws one.insn in
        elim (cases_lt k (length p.raws)) [
          | inl m ↦ rw (raw_front p.raws one.insn k m, address_front k m) (before k m)
          | inr g ↦
              let e : length p.raws ≡ k = omega (arith, l, n, g) in
              subst (λ (j : ℕ). P (raw_at (p.raws ++ one.insn ∷ []) j) (address (p.raws ++ one.insn ∷ []) j)) e (rw (raw_last p.raws one.insn, address_last) last)
        ]

    still_marked : (a : ℕ) (o : ℤ) → TargetIsMarked old a o → TargetIsMarked new a o
    still_marked a o m = record { unit = m.unit; sum = m.sum; inside = let e = one.marked.size in let i = m.inside in omega (arith, e, i); other = m.other; targeted = one.marked.targeted m.unit m.targeted }

    begun : (u : ℕ) → (u ≡ at) ⊎ IsBegun (get_or old u 0) → (k : ℕ) × (k < length (p.raws ++ one.insn ∷ [])) × (address (p.raws ++ one.insn ∷ []) k ≡ u)
    begun u (inl e) = (length p.raws, (let n = length_push p.raws one.insn in omega (arith, n)), address_last ∙ sym e)
    begun u (inr b) = let x = p.begins u b in let l = x.1 in (x.0, (let n = length_push p.raws one.insn in omega (arith, n, l)), address_front x.0 x.1 ∙ x.2)

    pub passed_more : PassedRun N us count new (at + size)
    passed_more =
        let it = one.visited in
        record {
          raws = p.raws ++ one.insn ∷ [];
          run = rw it.units_are (run-more us 0 p.raws at one.insn p.run one.stands);
          visited = each_passed (λ r a. IsVisited N count r (units r) (branch_offset r)) p.visited (record { plain = it.plain; named = it.named; among = it.among; units_are = refl; branch = refl });
          small = λ u. one.marked.small u (p.small u);
          begins = λ u b. begun u (one.marked.begins u b);
          branch = each_passed (λ r a. IfSome (branch_offset r) (TargetIsMarked new a))
              (λ k l. IfSome_then (branch_offset (raw_at p.raws k)) {P = TargetIsMarked old (address p.raws k)} {Q = TargetIsMarked new (address p.raws k)} (p.branch k l) (still_marked (address p.raws k)))
              (subst (λ (o : Option ℤ). IfSome o (TargetIsMarked new at)) it.branch one.marked.branch);
        }

-- ---- linked

-- a branch stays if its offset targets another instruction
stays : (T : ℤ → ℕ) (w : Name) (n k : ℕ) (r : Raw) → IfSome (branch_offset r) (λ o. (T o < n) × (T o ≢ k)) → BranchStays n k (linked T w r)
unfolding linked branch_offset insn_branch insn_short_branch
stays T w n k (raw.I10t op o) h = record { inside = h.0; moves = h.1 }
stays T w n k (raw.I20t op o) h = record { inside = h.0; moves = h.1 }
stays T w n k (raw.I21t op a o) h = record { inside = h.0; moves = h.1 }
stays T w n k (raw.I22t op a b o) h = record { inside = h.0; moves = h.1 }
stays T w n k (raw.I30t op o) h = record { inside = h.0; moves = tt }
stays T w n k _ h = record { inside = tt; moves = tt }

module _ (N : ℕ → Name → Type 0) (us : List ℕ) (count : ℕ) (marks : List ℕ) (at : ℕ) (p : PassedRun N us count marks at) (short : length us ≤ 8589934590) (end : at ≡ length us / 2) (all : (unit : ℕ) → unit < length marks → get_or marks unit 0 ≢ 2) where
  run_all : Run us 0 p.raws (length us / 2)
  run_all = subst (λ (n : ℕ). Run us 0 p.raws n) end p.run

  table : IsTable (starts p.raws) p.raws
  table = table-of us (starts p.raws) p.raws short run_all refl

  found : (is : List Insn) × (length is ≡ length p.raws) × ((k : ℕ) → k < length p.raws → Resolves N (target_number (starts p.raws) (address p.raws k)) (raw_at p.raws k) (insn_at is k))
  found = half N p.raws (λ k l. (p.visited k l).named)

  unfolding_target_number : (k j : ℕ) (o : ℤ) → target_at (starts p.raws) (address p.raws k) o ≡ Some j → target_number (starts p.raws) (address p.raws k) o ≡ j
  unfolding target_number
  unfolding_target_number k j o e = ap (λ (x : Option ℕ). unwrap_or x (length (starts p.raws))) e

  lands : (k : ℕ) (o : ℤ) → TargetIsMarked marks (address p.raws k) o → (target_number (starts p.raws) (address p.raws k) o < length p.raws) × (target_number (starts p.raws) (address p.raws k) o ≢ k)
  lands k o m =
      let s = p.small m.unit in
      let targeted = m.targeted in
      let other = all m.unit m.inside in
      let b = p.begins m.unit (omega (arith, s, targeted, other)) in
      let inside = b.1 in
      let count_is = length-of_starts p.raws in
      let e = unfolding_target_number k b.0 o (target-to (starts p.raws) (address p.raws k) b.0 o table.rises (omega (arith, inside, count_is)) (sym m.sum ∙ ap (λ (x : ℕ). pos x) (sym b.2))) in
      (rw e b.1, λ same. m.other (sym b.2 ∙ ap (λ (x : ℕ). address p.raws x) (sym e ∙ same)))

  said : ResolvesPlainly N p.raws found.0
  said = record {
    count = found.1;
    plain = λ k l. (p.visited k l).plain;
    leads = λ k l. subst (BranchStays (length p.raws) k) (found.2 k l).symbol
        (stays (target_number (starts p.raws) (address p.raws k)) _ (length p.raws) k (raw_at p.raws k) (IfSome_then (branch_offset (raw_at p.raws k)) {P = TargetIsMarked marks (address p.raws k)} {Q = λ o. (target_number (starts p.raws) (address p.raws k) o < length p.raws) × (target_number (starts p.raws) (address p.raws k) o ≢ k)} (p.branch k l) (lands k)));
    resolves = found.2;
  }

  among : (k : ℕ) → k < length p.raws → AreAmong count (insn_at found.0 k)
  among k l = subst (λ (i : Insn). AreAmong count i) (found.2 k l).symbol (subst (AllByRecursion (λ v. v < count)) (registers-linked _ _ (raw_at p.raws k)) (p.visited k l).among)

  pub passed_all : (begins : List ℕ) × (is : List Insn) × ArePlain N us begins count is
  passed_all = (
    starts p.raws,
    found.0,
    record {
      read = record {
        raws = p.raws;
        table = table;
        insns = record { walk = record { run = run_all }; linked = are-linked N p.raws found.0 said; keep = keep N p.raws found.0 said };
      };
      among = λ k l. among k (let n = found.1 in omega (arith, l, n));
    },
  )
