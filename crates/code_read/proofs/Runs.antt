-- Instructions end to end.
use Rattle.std.proofs.Common.{◌≡◌, ℕ, ◌+◌, ◌*◌, ◌/◌, ◌<◌, ◌≤◌, ◌++◌, List, [], ◌∷◌, length, map, get_or, refl, ap, sym, ◌∙◌, subst, arith, zero, suc}
use Rattle.dex_insn.specs.Raw.{Raw, units, raw, I10x}
use Rattle.dex_insn.specs.RawInsns.{InsnStands}
use Rattle.dex_base.specs.declared.fault.Fault.{Fault}
use Rattle.dex_insn.specs.declared.raw.RawInsn.{RawInsn}
use Rattle.dex_insn.proofs.StandingLaws.{stands-whole, one-stands, stands-clear}
use Rattle.code_read.specs.Walk.{Run, Walks, starts, raw_at, address, IsWalkFault}
use Rattle.code_read.specs.inner.Walk.{IsTable}
use Rattle.program_types.specs.Sizes.{starts_from}
use Rattle.std.proofs.lemmas.List.{length-map}

-- one more
pub run-more : (us : List ℕ) (a : ℕ) (rs : List Raw) (e : ℕ) (r : Raw) → Run us a rs e → InsnStands us e r → Run us a (rs ++ r ∷ []) (e + units r)
run-more us a [] e r h s = (subst (λ (x : ℕ). InsnStands us x r) (sym h) s, ap (λ (x : ℕ). x + units r) h)
run-more us a (q ∷ rs) e r h s = (h.0, run-more us (a + units q) rs e r h.1 s)

pub starts-more : (us : List ℕ) (a : ℕ) (rs : List Raw) (e : ℕ) (r : Raw) → Run us a rs e
    → starts_from a (map units (rs ++ r ∷ [])) ≡ starts_from a (map units rs) ++ e ∷ []
starts-more us a [] e r h = ap (λ (x : ℕ). x ∷ []) h
starts-more us a (q ∷ rs) e r h = ap (λ (xs : List ℕ). a ∷ xs) (starts-more us (a + units q) rs e r h.1)

pub run-le : (us : List ℕ) (a : ℕ) (rs : List Raw) (e : ℕ) → Run us a rs e → a ≤ e
run-le us a [] e h = omega arith
run-le us a (r ∷ rs) e h = let l = run-le us (a + units r) rs e h.1 in omega arith

-- the units spell one list of instructions
pub run-once : (us : List ℕ) (a : ℕ) (rs ss : List Raw) (e : ℕ) → Run us a rs e → Run us a ss e → rs ≡ ss
run-once us a [] [] e p q = refl
run-once us a [] (s ∷ ss) e p q = let l = run-le us (a + units s) ss e q.1 in let u = (stands-whole us a s q.0).0 in absurd (omega arith)
run-once us a (r ∷ rs) [] e p q = let l = run-le us (a + units r) rs e p.1 in let u = (stands-whole us a r p.0).0 in absurd (omega arith)
run-once us a (r ∷ rs) (s ∷ ss) e p q =
    let i = one-stands us a r s p.0 q.0 in
    let t = run-once us (a + units r) rs ss e p.1 (subst (λ (x : Raw). Run us (a + units x) ss e) (sym i) q.1) in
    cc

-- where another run goes on, an instruction stands
pub run-reaches : (us : List ℕ) (a : ℕ) (rs ss : List Raw) (m e : ℕ) → Run us a rs m → Run us a ss e → m < e → (s : Raw) × InsnStands us m s
run-reaches us a [] [] m e p q l = absurd (omega arith)
run-reaches us a [] (s ∷ ss) m e p q l = (s, subst (λ (x : ℕ). InsnStands us x s) p q.0)
run-reaches us a (r ∷ rs) [] m e p q l = let k = run-le us (a + units r) rs m p.1 in absurd (omega arith)
run-reaches us a (r ∷ rs) (s ∷ ss) m e p q l =
    let i = one-stands us a r s p.0 q.0 in
    run-reaches us (a + units r) rs ss m e p.1 (subst (λ (x : Raw). Run us (a + units x) ss e) (sym i) q.1) l

pub no-walk-fault : (us : List ℕ) (rs : List Raw) (base : ℕ) (fault : Fault) → length us ≡ 2 * (length us / 2) → Walks us rs → IsWalkFault us base fault → ⊥
no-walk-fault us rs base fault even w f =
    let i = f.inside in
    let s = run-reaches us 0 f.before rs f.at (length us / 2) f.run w.run (omega arith) in
    stands-clear us f.at s.0 f.inner s.1 f.broken

pub length-starts : (a : ℕ) (ns : List ℕ) → length (starts_from a ns) ≡ length ns
length-starts a [] = refl
length-starts a (n ∷ ns) = ap suc (length-starts (a + n) ns)

-- instruction k stands at its address
pub run-at : (us : List ℕ) (a : ℕ) (rs : List Raw) (e k : ℕ) (d : Raw) → Run us a rs e → k < length rs → InsnStands us (get_or (starts_from a (map units rs)) k 0) (get_or rs k d)
run-at us a [] e k d h l = absurd (omega arith)
run-at us a (r ∷ rs) e zero d h l = h.0
run-at us a (r ∷ rs) e (suc k) d h l = run-at us (a + units r) rs e k d h.1 (omega arith)

pub stands-at : (us : List ℕ) (rs : List Raw) → Walks us rs → (k : ℕ) → k < length rs → InsnStands us (address rs k) (raw_at rs k)
unfolding raw_at
stands-at us rs w k l = run-at us 0 rs (length us / 2) k (I10x 0) w.run l

map-more : (xs : List RawInsn) (x : RawInsn) → map raw (xs ++ x ∷ []) ≡ map raw xs ++ raw x ∷ []
map-more [] x = refl
map-more (y ∷ ys) x = ap (λ (rs : List Raw). raw y ∷ rs) (map-more ys x)

-- a turn of the walk
pub run-turn : (us : List ℕ) (xs : List RawInsn) (at : ℕ) (x : RawInsn) → Run us 0 (map raw xs) at → InsnStands us at (raw x) → Run us 0 (map raw (xs ++ x ∷ [])) (at + units (raw x))
run-turn us xs at x h s = rw map-more (run-more us 0 (map raw xs) at (raw x) h s)

pub starts-turn : (us : List ℕ) (xs : List RawInsn) (ss : List ℕ) (at : ℕ) (x : RawInsn) → Run us 0 (map raw xs) at → ss ≡ starts (map raw xs) → ss ++ at ∷ [] ≡ starts (map raw (xs ++ x ∷ []))
starts-turn us xs ss at x h e = rw (map-more, e) (sym (starts-more us 0 (map raw xs) at (raw x) h))

pub there : (us : List ℕ) (at : ℕ) (x : RawInsn) → InsnStands us at (raw x) → (0 < units (raw x)) × (2 * at + 2 * units (raw x) ≤ length us)
there us at x s = stands-whole us at (raw x) s

starts-low : (us : List ℕ) (a : ℕ) (rs : List Raw) (e k : ℕ) → Run us a rs e → k < length rs → a ≤ get_or (starts_from a (map units rs)) k 0
starts-low us a [] e k h l = absurd (omega arith)
starts-low us a (r ∷ rs) e zero h l = omega arith
starts-low us a (r ∷ rs) e (suc k) h l = let t = starts-low us (a + units r) rs e k h.1 (omega arith) in omega arith

pub run-rises : (us : List ℕ) (a : ℕ) (rs : List Raw) (e i j : ℕ) → Run us a rs e → i < j → j < length rs → get_or (starts_from a (map units rs)) i 0 < get_or (starts_from a (map units rs)) j 0
run-rises us a [] e i j h p l = absurd (omega arith)
run-rises us a (r ∷ rs) e i zero h p l = absurd (omega arith)
run-rises us a (r ∷ rs) e zero (suc j) h p l = let t = starts-low us (a + units r) rs e j h.1 (omega arith) in let u = (stands-whole us a r h.0).0 in omega arith
run-rises us a (r ∷ rs) e (suc i) (suc j) h p l = run-rises us (a + units r) rs e i j h.1 (omega arith) (omega arith)

pub length-of_starts : (rs : List Raw) → length (starts rs) ≡ length rs
length-of_starts rs = length-starts 0 (map units rs) ∙ length-map rs units

pub run-few : (us : List ℕ) (a : ℕ) (rs : List Raw) (e : ℕ) → Run us a rs e → a + length rs ≤ e
run-few us a [] e h = omega arith
run-few us a (r ∷ rs) e h = let t = run-few us (a + units r) rs e h.1 in let u = (stands-whole us a r h.0).0 in omega arith

pub table-of : (us : List ℕ) (ss : List ℕ) (rs : List Raw) → length us ≤ 8589934590 → Run us 0 rs (length us / 2) → ss ≡ starts rs → IsTable ss rs
table-of us ss rs m h e =
    let l : length ss ≡ length rs = ap length e ∙ length-of_starts rs in
    let f = run-few us 0 rs (length us / 2) h in
    record {
      is = e;
      rises = record { each = λ i j p q. rw e (run-rises us 0 rs (length us / 2) i j h p (omega arith)) };
      few = omega arith;
      count = l;
    }
