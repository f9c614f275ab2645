-- Instructions one after the other, with other indices.
use Rattle.std.proofs.Common.{◌≡◌, ℕ, ◌+◌, ◌-◌, ◌*◌, ◌/◌, ◌<◌, ◌≤◌, List, [], ◌∷◌, ◌++◌, length, map, take, drop, refl, sym, ap, subst, ◌∙◌, arith, append_assoc, length-append, length-drop}
use borrow.Rule.Slice.PartMut.{put_mid}
use Rattle.std.specs.List.{AllByRecursion}
use Rattle.std.proofs.lemmas.List.{append-nil, drop-drop}
use Rattle.std.proofs.Math.ListN.{drop_of_length-le}
use Rattle.std.proofs.Math.Seq.{take-append_seam, drop-append_seam}
use Rattle.dex_insn.specs.Raw as raw
use Rattle.dex_insn.specs.Raw.{Raw, units}
use Rattle.dex_insn.specs.RawInsns.{SpellsInsn, InsnStands}
use Rattle.dex_insn.specs.Written.{written, IsRaw}
use Rattle.dex_insn.proofs.StandingLaws.{stands-whole}
use Rattle.dex_insn.proofs.Spelled.{length_written}
use Rattle.file_renumber.specs.inner.Marked.{Columns}
use Rattle.code_read.specs.Walk.{Run, Walks, starts, raw_at}
use Rattle.code_read.specs.inner.Walk.{IsTable}
use Rattle.code_read.proofs.Runs.{run-more, run-once, starts-more, table-of}
use Rattle.code_write.specs.Packs.{joined}
use Rattle.code_write.proofs.ListLaws.{all-at}
use Rattle.file_renumber.specs.inner.InPlace.{IsRenumbered}
use Rattle.file_renumber.specs.inner.Renumbered.{renumbered, CanBeRenumbered}
use Rattle.file_renumber.proofs.NumberLemmas.{renumbered_units}
use Rattle.file_renumber.proofs.WalkLemmas.{run-meets, stands_next}

-- ---- the units from one on

pub put_back : (xs buf : List ℕ) (k : ℕ) → put_mid k (length xs - k) xs buf ≡ take k xs ++ buf
put_back xs buf k =
    let none : drop (length xs - k) (drop k xs) ≡ [] = drop_of_length-le (drop k xs) {i = length xs - k} (omega (arith, length-drop k xs)) in
    ap (λ (z : List ℕ). take k xs ++ (buf ++ z)) none ∙ ap (λ (z : List ℕ). take k xs ++ z) (append-nil buf)

-- the instruction that stands at a unit, as one reads it in what is left
pub record Next (us left : List ℕ) (at : ℕ) : Type 0 where
  pub one : Raw
  pub stands : InsnStands us at one
  pub front : SpellsInsn left one
  pub some : 0 < units one
  pub there : 2 * at + 2 * units one ≤ length us

pub next_in : (us left : List ℕ) (before rs : List Raw) (at : ℕ) → left ≡ drop (2 * at) us → Run us 0 before at → Walks us rs → at < length us / 2 → Next us left at
next_in us left before rs at e run walk l =
    let s = stands_next us before rs at run walk l in
    let w = stands-whole us at s.0 s.1 in
    record { one = s.0; stands = s.1; front = subst (λ (z : List ℕ). SpellsInsn z s.0) (sym e) s.1.spelled; some = w.0; there = w.1 }

-- ---- where they begin

-- as far as this unit they begin there
pub record BegunTo (us begins : List ℕ) (at : ℕ) : Type 0 where
  pub before : List Raw
  pub run : Run us 0 before at
  pub begins_are : begins ≡ starts before

pub begun_start : (us begins : List ℕ) → begins ≡ [] → BegunTo us begins 0
begun_start us begins e = record { before = []; run = refl; begins_are = e }

pub begun_more : (us begins more : List ℕ) (at : ℕ) (r : Raw) → BegunTo us begins at → InsnStands us at r → more ≡ begins ++ at ∷ [] → BegunTo us more (at + units r)
begun_more us begins more at r w s m = record {
  before = w.before ++ r ∷ [];
  run = run-more us 0 w.before at r w.run s;
  begins_are = m ∙ ap (λ l. l ++ at ∷ []) w.begins_are ∙ sym (starts-more us 0 w.before at r w.run);
}

pub begun_table : (us begins : List ℕ) (at : ℕ) (rs : List Raw) → at ≡ length us / 2 → Walks us rs → BegunTo us begins at → length us ≤ 8589934590 → IsTable begins rs
begun_table us begins at rs e walk w short =
    let same = run-once us 0 w.before rs (length us / 2) (subst (λ (n : ℕ). Run us 0 w.before n) e w.run) walk.run in
    table-of us begins rs short walk.run (w.begins_are ∙ ap starts same)

-- ---- with other indices

-- as far as this unit they have their numbers, and after it the units are as they were
pub record WrittenTo (numbers : Columns) (us new : List ℕ) (at : ℕ) : Type 0 where
  pub before : List Raw
  pub run : Run us 0 before at
  pub is_new : new ≡ joined (map (renumbered numbers) before) ++ drop (2 * at) us
  pub long : length (joined (map (renumbered numbers) before)) ≡ 2 * at
  pub fit : AllByRecursion IsRaw (map (renumbered numbers) before)

pub written_start : (numbers : Columns) (us : List ℕ) → WrittenTo numbers us us 0
written_start numbers us = record { before = []; run = refl; is_new = refl; long = refl; fit = tt }

-- the next one can be renumbered
pub can_next : (numbers : Columns) (us : List ℕ) (before rs : List Raw) (at : ℕ) (r : Raw) → Run us 0 before at → Walks us rs → AllByRecursion (CanBeRenumbered numbers) rs → at < length us / 2 → InsnStands us at r → CanBeRenumbered numbers r
unfolding raw_at
can_next numbers us before rs at r p w all l s =
    let m = run-meets us 0 before rs at (length us / 2) r p w.run l s in
    subst (CanBeRenumbered numbers) m.same (all-at (CanBeRenumbered numbers) rs (length before) (raw.I10x 0) all m.inside)

-- what is left is as it was
pub written_left : (numbers : Columns) (us new : List ℕ) (at : ℕ) → WrittenTo numbers us new at → drop (2 * at) new ≡ drop (2 * at) us
written_left numbers us new at w =
    let done = joined (map (renumbered numbers) w.before) in
    ap (drop (2 * at)) w.is_new ∙ ap (λ (k : ℕ). drop k (done ++ drop (2 * at) us)) (sym w.long) ∙ drop-append_seam done (drop (2 * at) us)

written_front : (numbers : Columns) (us new : List ℕ) (at : ℕ) (w : WrittenTo numbers us new at) → take (2 * at) new ≡ joined (map (renumbered numbers) w.before)
written_front numbers us new at w =
    let done = joined (map (renumbered numbers) w.before) in
    ap (take (2 * at)) w.is_new ∙ ap (λ (k : ℕ). take k (done ++ drop (2 * at) us)) (sym w.long) ∙ take-append_seam done (drop (2 * at) us)

joined-more : (f : Raw → Raw) (rs : List Raw) (r : Raw) → joined (map f (rs ++ r ∷ [])) ≡ joined (map f rs) ++ written (f r)
joined-more f [] r = append-nil (written (f r))
joined-more f (x ∷ xs) r = ap (λ l. written (f x) ++ l) (joined-more f xs r) ∙ sym (append_assoc (written (f x)) (joined (map f xs)) (written (f r)))

fit-more : (f : Raw → Raw) (rs : List Raw) (r : Raw) → AllByRecursion IsRaw (map f rs) → IsRaw (f r) → AllByRecursion IsRaw (map f (rs ++ r ∷ []))
fit-more f [] r all h = (h, tt)
fit-more f (x ∷ xs) r all h = (all.0, fit-more f xs r all.1 h)

pub written_more : (numbers : Columns) (us mid new front : List ℕ) (at n : ℕ) (r : Raw) → WrittenTo numbers us mid at → InsnStands us at r → IsRenumbered numbers (drop (2 * at) us) front n r → new ≡ take (2 * at) mid ++ front
    → WrittenTo numbers us new (at + n)
written_more numbers us mid new front at n r w s x e =
    let done = joined (map (renumbered numbers) w.before) in
    let one = written (renumbered numbers r) in
    let more = joined-more (renumbered numbers) w.before r in
    let size = x.size in
    let one_long : length one ≡ 2 * n = length_written (renumbered numbers r) x.fits ∙ ap (λ (k : ℕ). 2 * k) (renumbered_units numbers r ∙ sym size) in
    let left : drop (2 * units r) (drop (2 * at) us) ≡ drop (2 * (at + n)) us = drop-drop (2 * units r) (2 * at) us ∙ ap (λ (k : ℕ). drop k us) (let k : 2 * at + 2 * units r ≡ 2 * (at + n) = omega (arith, size) in k) in
    record {
      before = w.before ++ r ∷ [];
      run = subst (λ (k : ℕ). Run us 0 (w.before ++ r ∷ []) (at + k)) (sym size) (run-more us 0 w.before at r w.run s);
      is_new = e ∙ ap (λ l. l ++ front) (written_front numbers us mid at w) ∙ ap (λ l. done ++ l) (x.is_new ∙ ap (λ l. one ++ l) left)
          ∙ sym (append_assoc done one (drop (2 * (at + n)) us)) ∙ ap (λ l. l ++ drop (2 * (at + n)) us) (sym more);
      long = let k = length-append done one in let l = w.long in ap length more ∙ omega (arith, k, l, one_long);
      fit = fit-more (renumbered numbers) w.before r w.fit x.fits;
    }

module _ (numbers : Columns) (us new : List ℕ) (at : ℕ) (rs : List Raw) (e : at ≡ length us / 2) (walk : Walks us rs) (w : WrittenTo numbers us new at) where
  all_before : w.before ≡ rs
  all_before = run-once us 0 w.before rs (length us / 2) (subst (λ (n : ℕ). Run us 0 w.before n) e w.run) walk.run

  pub written_end : length us ≤ 2 * at → new ≡ joined (map (renumbered numbers) rs)
  written_end whole = w.is_new ∙ ap (λ l. joined (map (renumbered numbers) w.before) ++ l) (drop_of_length-le us whole) ∙ append-nil (joined (map (renumbered numbers) w.before)) ∙ ap (λ (l : List Raw). joined (map (renumbered numbers) l)) all_before

  pub written_fit : AllByRecursion IsRaw (map (renumbered numbers) rs)
  written_fit = subst (λ (l : List Raw). AllByRecursion IsRaw (map (renumbered numbers) l)) all_before w.fit
