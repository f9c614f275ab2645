-- What is written of a code is one.
use Rattle.std.proofs.Common.{◌≡◌, ℕ, ◌<◌, ◌++◌, List, [], ◌∷◌, length, refl, sym, ◌∙◌, arith, zero, suc, subst}
use Rattle.std.specs.Prelude.{slice_index}
use Rattle.std.specs.List.{AllByRecursion}
use Rattle.dex_base.specs.Fields.{AreBytes}
use Rattle.dex_base.proofs.ShortestLaws.{AllBytes}
use Rattle.dex_insn.specs.Raw.{Raw}
use Rattle.dex_insn.specs.Written.{written}
use Rattle.program_types.specs.Content.{Name, Insn, Code}
use Rattle.program_types.specs.Formed.{IsFormed, insn_at, insn_leads}
use Rattle.program_types.specs.Sizes.{addresses_of, length_of}
use Rattle.code_read.specs.Walk.{raw_at}
use Rattle.code_write.specs.Packs.{joined, IsLowered, Lowers, PacksCode, head_bytes, padding, items_bytes}
use Rattle.code_write.proofs.HandlerOnce.{IsInjective}
use Rattle.code_write.proofs.LayoutOnce.{layout-once}
use Rattle.code_read.proofs.InsnsOnce.{origin-one}
use Rattle.code_read.proofs.CodesFormed.{leads-inside}
use Rattle.code_write.proofs.FormLaws.{length-addresses}
use Rattle.code_write.proofs.RawOnce.{raw_once}
use Rattle.dex_base.proofs.ListFacts.{all_front, all_back, all_of}

raw_bytes : (rs : List Raw) (k : ℕ) → k < length rs → AllBytes (joined rs) → AllBytes (written (raw_at rs k))
unfolding raw_at
raw_bytes [] k lt h = absurd (omega arith)
raw_bytes (r ∷ rs) zero lt h = all_front (λ (n : ℕ). n < 256) (written r) (joined rs) h
raw_bytes (r ∷ rs) (suc k) lt h = raw_bytes rs k (omega arith) (all_back (λ (n : ℕ). n < 256) (written r) (joined rs) h)

raws_one : (rs ts : List Raw) → length rs ≡ length ts → ((k : ℕ) → k < length rs → raw_at rs k ≡ raw_at ts k) → rs ≡ ts
unfolding raw_at
raws_one [] [] n h = refl
raws_one [] (t ∷ ts) n h = absurd (omega arith)
raws_one (r ∷ rs) [] n h = absurd (omega arith)
raws_one (r ∷ rs) (t ∷ ts) n h =
    let here = h zero (omega arith) in
    let rest = raws_one rs ts (omega arith) (λ k lt. h (suc k) (omega arith)) in
    (λ j. here j ∷ rest j)

module _ (N : ℕ → Name → Type 0) (inj : IsInjective N) where
  lowered_one : (is : List Insn) (ss : List ℕ) (k : ℕ) (r t : Raw) → AllByRecursion (λ n. n < length ss) (insn_leads (insn_at is k)) → IsLowered N is ss k r → IsLowered N is ss k t → AllBytes (written r) → AllBytes (written t) → r ≡ t
  lowered_one is ss k r t h p q a b =
      let e = origin-one is k p.origin q.origin p.counts q.counts in
      let m = q.lowers in
      let l = subst (λ (j : ℕ). Lowers N ss (slice_index ss j) (insn_at is k) t) (sym e) m in
      raw_once N inj ss (slice_index ss p.origin) (insn_at is k) r t h p.lowers.resolves l.resolves p.lowers.fits l.fits a b

  pub code_once : (c : Code) (a b : List ℕ) → IsFormed c → AreBytes a → AreBytes b → PacksCode N a c → PacksCode N b c → a ≡ b
  code_once c a b formed i j p q =
      let size = length_of c.insns in
      let ss = addresses_of c.insns in
      let x = subst AllBytes p.is (all_of a i) in let y = subst AllBytes q.is (all_of b j) in
      let x1 = all_back (λ (n : ℕ). n < 256) (head_bytes c size) _ x in let y1 = all_back (λ (n : ℕ). n < 256) (head_bytes c size) _ y in
      let x2 = all_front (λ (n : ℕ). n < 256) (joined p.raws) _ x1 in let y2 = all_front (λ (n : ℕ). n < 256) (joined q.raws) _ y1 in
      let m = p.lowered.count in let n = q.lowered.count in
      let leads : (k : ℕ) → k < length c.insns → AllByRecursion (λ to. to < length ss) (insn_leads (insn_at c.insns k)) =
      λ k l. subst (λ (x : ℕ). AllByRecursion (λ to. to < x) (insn_leads (insn_at c.insns k))) (sym (length-addresses c.insns)) (leads-inside c.insns k (formed.targets k l) (formed.payloads k l) (insn_at c.insns k) refl) in
      let raws = raws_one p.raws q.raws (m ∙ sym n) (λ k lt. lowered_one c.insns ss k (raw_at p.raws k) (raw_at q.raws k) (leads k (omega (arith, lt, m)))
      (p.lowered.each k lt) (q.lowered.each k (omega (arith, lt, m, n))) (raw_bytes p.raws k lt x2) (raw_bytes q.raws k (omega (arith, lt, m, n)) y2)) in
      let handlers = layout-once N ss inj c.tries p.list p.offsets q.list q.offsets p.handlers q.handlers in
      p.is
      ∙ (λ k. head_bytes c size ++ (joined (raws k) ++ (padding size (length c.tries) ++ (items_bytes size ss c.tries (handlers.1 k) ++ handlers.0 k))))
      ∙ sym q.is
