-- What is written of instructions is walked so.
use Rattle.std.proofs.Common.{◌≡◌, ℕ, ◌+◌, ◌<◌, ◌*◌, ◌/◌, ◌%◌, ◌++◌, List, [], ◌∷◌, map, length, get_or, refl, ap, sym, ◌∙◌, arith, zero, suc, subst, append_assoc, append-nil, length-append, true}
use Rattle.dex_insn.specs.Raw as raw
use Rattle.dex_insn.specs.Raw.{Raw, units, is_payload}
use Rattle.dex_insn.specs.RawInsns.{InsnStands}
use Rattle.dex_insn.specs.Written.{written, IsRaw}
use Rattle.dex_insn.proofs.StandingLaws.{written-stands}
use Rattle.dex_insn.proofs.Spelled.{length_written}
use Rattle.program_types.specs.Content.{Name, Insn}
use Rattle.program_types.specs.Content as made
use Rattle.code_read.specs.Walk.{Run, Walks, starts, raw_at}
use Rattle.program_types.specs.Sizes.{starts_from, insn_units, addresses_of, length_of, total}
use Rattle.code_write.specs.Packs.{joined, AreLowered}

-- each can be written, the first at unit `at`
abbrev AreWritable : ℕ → List Raw → Type 0
AreWritable at [] = Unit {0}
AreWritable at (r ∷ rs) = IsRaw r × (is_payload r ≡ true → at % 2 ≡ 0) × AreWritable (at + units r) rs

run-written : (front rest : List ℕ) (at : ℕ) (rs : List Raw) → length front ≡ 2 * at → AreWritable at rs → Run (front ++ (joined rs ++ rest)) at rs (at + total (map units rs))
unfolding total
run-written front rest at [] e p = omega arith
run-written front rest at (r ∷ rs) e p =
    let st = written-stands front (joined rs ++ rest) at r p.0 e p.1 in
    let w = length_written r p.0 in
    let l : length (front ++ written r) ≡ 2 * (at + units r) = omega (arith, length-append front (written r)) in
    let t = run-written (front ++ written r) rest (at + units r) rs l p.2 in
    let j : (front ++ written r) ++ (joined rs ++ rest) ≡ front ++ ((written r ++ joined rs) ++ rest) =
    append_assoc front (written r) (joined rs ++ rest) ∙ ap (λ (z : List ℕ). front ++ z) (sym (append_assoc (written r) (joined rs) rest)) in
    let k : (at + units r) + total (map units rs) ≡ at + (units r + total (map units rs)) = omega arith in (
      subst (λ (z : List ℕ). InsnStands (front ++ z) at r) (sym (append_assoc (written r) (joined rs) rest)) st,
      subst (λ (z : ℕ). Run (front ++ ((written r ++ joined rs) ++ rest)) (at + units r) rs z) k (subst (λ (z : List ℕ). Run z (at + units r) rs ((at + units r) + total (map units rs))) j t),
    )

length-joined : (at : ℕ) (rs : List Raw) → AreWritable at rs → length (joined rs) ≡ 2 * total (map units rs)
unfolding total
length-joined at [] p = refl
length-joined at (r ∷ rs) p = let w = length_written r p.0 in let t = length-joined (at + units r) rs p.2 in omega (arith, length-append (written r) (joined rs))

pub walks-written : (rs : List Raw) → AreWritable 0 rs → Walks (joined rs) rs
walks-written rs p =
    let r = run-written [] [] 0 rs refl p in
    let e : joined rs ++ [] ≡ joined rs = append-nil (joined rs) in
    let l = length-joined 0 rs p in
    let n : 0 + total (map units rs) ≡ length (joined rs) / 2 = omega arith in
    record { run = subst (λ (z : ℕ). Run (joined rs) 0 rs z) n (subst (λ (z : List ℕ). Run z 0 rs (0 + total (map units rs))) e r) }

-- what is known of instruction k and of its raw one
record Pairs (at : ℕ) (is : List Insn) (rs : List Raw) (k : ℕ) : Type 0 where
  fits : IsRaw (get_or rs k (raw.I10x 0))
  even : is_payload (get_or rs k (raw.I10x 0)) ≡ true → get_or (starts_from at (map insn_units is)) k 0 % 2 ≡ 0
  size : units (get_or rs k (raw.I10x 0)) ≡ insn_units (get_or is k (made.I10x 0))

writable-from : (at : ℕ) (is : List Insn) (rs : List Raw) → length rs ≡ length is → ((k : ℕ) → k < length rs → Pairs at is rs k) → AreWritable at rs
writable-from at is [] e h = tt
writable-from at [] (r ∷ rs) e h = absurd (omega arith)
writable-from at (i ∷ is) (r ∷ rs) e h =
    let a = h zero (omega arith) in
    let s = a.size in (
      a.fits,
      a.even,
      writable-from (at + units r) is rs (omega arith) (λ k l.
          let b = h (suc k) (omega arith) in
          record { fits = b.fits; size = b.size; even = λ p. subst (λ (x : ℕ). get_or (starts_from (at + x) (map insn_units is)) k 0 % 2 ≡ 0) (sym s) (b.even p) }),
    )

-- the addresses of the raw instructions are those of the instructions
starts-same : (at : ℕ) (is : List Insn) (rs : List Raw) → length rs ≡ length is → ((k : ℕ) → k < length rs → units (get_or rs k (raw.I10x 0)) ≡ insn_units (get_or is k (made.I10x 0))) → starts_from at (map units rs) ≡ starts_from at (map insn_units is)
starts-same at [] [] e h = refl
starts-same at (i ∷ is) [] e h = absurd (omega arith)
starts-same at [] (r ∷ rs) e h = absurd (omega arith)
starts-same at (i ∷ is) (r ∷ rs) e h =
    let s = h zero (omega arith) in
    ap (λ (x : ℕ). at ∷ starts_from (at + x) (map units rs)) s ∙ ap (λ (l : List ℕ). at ∷ l) (starts-same (at + insn_units i) is rs (omega arith) (λ k l. h (suc k) (omega arith)))

-- what is lowered is walked, and the addresses are those of the instructions
pub lowered-walks : (N : ℕ → Name → Type 0) (is : List Insn) (rs : List Raw) → AreLowered N is (addresses_of is) rs → Walks (joined rs) rs
unfolding raw_at
lowered-walks N is rs a =
    walks-written rs (writable-from 0 is rs a.count (λ k l. record { fits = (a.each k l).lowers.fits; even = (a.each k l).even; size = (a.each k l).lowers.size }))

pub lowered-starts : (N : ℕ → Name → Type 0) (is : List Insn) (rs : List Raw) → AreLowered N is (addresses_of is) rs → starts rs ≡ addresses_of is
unfolding raw_at
lowered-starts N is rs a = starts-same 0 is rs a.count (λ k l. (a.each k l).lowers.size)

-- their bytes are two a unit
total-same : (is : List Insn) (rs : List Raw) → length rs ≡ length is → ((k : ℕ) → k < length rs → units (get_or rs k (raw.I10x 0)) ≡ insn_units (get_or is k (made.I10x 0))) → total (map units rs) ≡ total (map insn_units is)
unfolding total
total-same [] [] e h = refl
total-same (i ∷ is) [] e h = absurd (omega arith)
total-same [] (r ∷ rs) e h = absurd (omega arith)
total-same (i ∷ is) (r ∷ rs) e h =
    let s = h zero (omega arith) in
    let t = total-same is rs (omega arith) (λ k l. h (suc k) (omega arith)) in
    omega arith

pub lowered-length : (N : ℕ → Name → Type 0) (is : List Insn) (rs : List Raw) → AreLowered N is (addresses_of is) rs → length (joined rs) ≡ 2 * length_of is
unfolding raw_at
lowered-length N is rs a =
    let l = length-joined 0 rs (writable-from 0 is rs a.count (λ k l. record { fits = (a.each k l).lowers.fits; even = (a.each k l).even; size = (a.each k l).lowers.size })) in
    let t = total-same is rs a.count (λ k l. (a.each k l).lowers.size) in
    omega arith
