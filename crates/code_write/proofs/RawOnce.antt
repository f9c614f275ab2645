-- A raw instruction that says a symbolic one is one.
use Rattle.std.proofs.Common.{◌≡◌, ℕ, ℤ, pos, ◌%◌, ◌/◌, ◌<◌, ◌++◌, List, [], ◌∷◌, length, map, get_or, refl, ap, sym, ◌∙◌, arith, subst}
use Rattle.std.specs.List.{AllByRecursion}
use Rattle.std.specs.Int.{cast_unsigned, w32}
use Rattle.dex_base.proofs.ShortestLaws.{AllBytes}
use Rattle.dex_insn.specs.Raw as raw
use Rattle.dex_insn.specs.Raw.{Raw}
use Rattle.dex_insn.specs.Written.{written, IsRaw, bytes_of}
use Rattle.program_types.specs.Content.{Name, Insn}
use Rattle.program_types.specs.Content as made
use Rattle.program_types.specs.Formed.{insn_leads}
use Rattle.code_read.specs.Linked.{target_number}
use Rattle.code_read.specs.Symbols as symbols
use Rattle.code_read.specs.Symbols.{Resolves, linked, name_in}
use Rattle.code_read.proofs.PlaceLaws.{target-there}
use Rattle.code_write.proofs.DistanceLaws.{gap-is, target_number-there}
use Rattle.code_write.proofs.HandlerOnce.{IsInjective}
use Rattle.code_write.proofs.WordOnce.{ints_once}
use Rattle.dex_base.proofs.ListFacts.{all_front, all_back}

-- ---- a raw instruction from the symbolic one and its index, offset, keys and offsets

abbrev rebuild : Insn → ℕ → ℤ → List ℕ → List ℕ → Raw
rebuild (made.I10x op) x z k o = raw.I10x op
rebuild (made.I12x op a b) x z k o = raw.I12x op a b
rebuild (made.I11n op a b) x z k o = raw.I11n op a b
rebuild (made.I11x op a) x z k o = raw.I11x op a
rebuild (made.I10t op to) x z k o = raw.I10t op z
rebuild (made.I20t op to) x z k o = raw.I20t op z
rebuild (made.I22x op a b) x z k o = raw.I22x op a b
rebuild (made.I21t op a to) x z k o = raw.I21t op a z
rebuild (made.I21s op a b) x z k o = raw.I21s op a b
rebuild (made.I21h op a b) x z k o = raw.I21h op a b
rebuild (made.I21c op a which) x z k o = raw.I21c op a x
rebuild (made.I23x op a b c) x z k o = raw.I23x op a b c
rebuild (made.I22b op a b c) x z k o = raw.I22b op a b c
rebuild (made.I22t op a b to) x z k o = raw.I22t op a b z
rebuild (made.I22s op a b c) x z k o = raw.I22s op a b c
rebuild (made.I22c op a b which) x z k o = raw.I22c op a b x
rebuild (made.I30t op to) x z k o = raw.I30t op z
rebuild (made.I32x op a b) x z k o = raw.I32x op a b
rebuild (made.I31i op a b) x z k o = raw.I31i op a b
rebuild (made.I31t op a to) x z k o = raw.I31t op a z
rebuild (made.I31c op a which) x z k o = raw.I31c op a x
rebuild (made.I35c op n regs which) x z k o = raw.I35c op n regs x
rebuild (made.I3rc op n first which) x z k o = raw.I3rc op n first x
rebuild (made.I51l op a b) x z k o = raw.I51l op a b
rebuild (made.Packed first to) x z k o = raw.Packed first o
rebuild (made.Sparse keys to) x z k o = raw.Sparse k o
rebuild (made.Data width bytes) x z k o = raw.Data width bytes

-- it is built so
record IsBuilt (r : Raw) (i : Insn) : Type 0 where
  index : ℕ
  offset : ℤ
  keys : List ℕ
  offsets : List ℕ
  is : r ≡ rebuild i index offset keys offsets

built_by : (i j : Insn) (x : ℕ) (z : ℤ) (k o : List ℕ) → i ≡ j → IsBuilt (rebuild i x z k o) j
built_by i j x z k o e = record { index = x; offset = z; keys = k; offsets = o; is = ap (λ (l : Insn). rebuild l x z k o) e }

built : (T : ℤ → ℕ) (w : Name) (r : Raw) (i : Insn) → linked T w r ≡ i → IsBuilt r i
unfolding linked
built T w (raw.I21c op a index) i e = built_by _ i index (pos 0) [] [] e
built T w (raw.I22c op a b index) i e = built_by _ i index (pos 0) [] [] e
built T w (raw.I31c op a index) i e = built_by _ i index (pos 0) [] [] e
built T w (raw.I35c op n regs index) i e = built_by _ i index (pos 0) [] [] e
built T w (raw.I3rc op n first index) i e = built_by _ i index (pos 0) [] [] e
built T w (raw.I10t op z) i e = built_by _ i 0 z [] [] e
built T w (raw.I20t op z) i e = built_by _ i 0 z [] [] e
built T w (raw.I21t op a z) i e = built_by _ i 0 z [] [] e
built T w (raw.I22t op a b z) i e = built_by _ i 0 z [] [] e
built T w (raw.I30t op z) i e = built_by _ i 0 z [] [] e
built T w (raw.I31t op a z) i e = built_by _ i 0 z [] [] e
built T w (raw.Packed first offsets) i e = built_by _ i 0 (pos 0) [] offsets e
built T w (raw.Sparse keys offsets) i e = built_by _ i 0 (pos 0) keys offsets e
built T w _ i e = built_by _ i 0 (pos 0) [] [] e

-- ---- offsets

led_one : (ss : List ℕ) (at : ℕ) (y z : ℤ) (n : ℕ) → n < length ss → target_number ss at y ≡ n → target_number ss at z ≡ n → y ≡ z
led_one ss at y z n l p q =
    let a = (target-there ss at y n (target_number-there ss at n y p l)).1 in let b = (target-there ss at z n (target_number-there ss at n z q l)).1 in
    gap-is (get_or ss n 0) at y (sym a) ∙ sym (gap-is (get_or ss n 0) at z (sym b))

all_led : (ss : List ℕ) (at : ℕ) (ys zs : List ℤ) (ns : List ℕ) → AllByRecursion (λ n. n < length ss) ns → map (target_number ss at) ys ≡ ns → map (target_number ss at) zs ≡ ns → ys ≡ zs
all_led ss at [] [] ns h p q = refl
all_led ss at [] (z ∷ zs) ns h p q = let e = ap length (p ∙ sym q) in absurd (omega (arith, e))
all_led ss at (y ∷ ys) [] ns h p q = let e = ap length (p ∙ sym q) in absurd (omega (arith, e))
all_led ss at (y ∷ ys) (z ∷ zs) [] h p q = let e = ap length p in absurd (omega (arith, e))
all_led ss at (y ∷ ys) (z ∷ zs) (n ∷ ns) h p q =
    let a : target_number ss at y ≡ n = cc in let b : target_number ss at z ≡ n = cc in
    let c : map (target_number ss at) ys ≡ ns = cc in let d : map (target_number ss at) zs ≡ ns = cc in
    let here = led_one ss at y z n h.0 a b in
    let rest = all_led ss at ys zs ns h.1 c d in
    (λ k. here k ∷ rest k)

-- ---- the numbers in a payload's bytes

packed_part : (first : ℤ) (o : List ℕ) → AllBytes (written (raw.Packed first o)) → AllBytes o
unfolding written
packed_part first o h = all_back (λ (n : ℕ). n < 256) (bytes_of (0x0100 ∷ (length o / 4) ∷ (cast_unsigned w32 first % 65536) ∷ (cast_unsigned w32 first / 65536) ∷ [])) o h

sparse_part : (k o : List ℕ) → AllBytes (written (raw.Sparse k o)) → AllBytes (k ++ o)
unfolding written
sparse_part k o h = all_back (λ (n : ℕ). n < 256) (bytes_of (0x0200 ∷ (length k / 4) ∷ [])) (k ++ o) h

-- ---- one raw instruction

module _ (N : ℕ → Name → Type 0) (inj : IsInjective N) (ss : List ℕ) (at : ℕ) where
  same : (i : Insn) (x y : ℕ) (z w : ℤ) (k l o p : List ℕ) → AllByRecursion (λ n. n < length ss) (insn_leads i) → Resolves N (target_number ss at) (rebuild i x z k o) i → Resolves N (target_number ss at) (rebuild i y w l p) i
      → IsRaw (rebuild i x z k o) → IsRaw (rebuild i y w l p) → AllBytes (written (rebuild i x z k o)) → AllBytes (written (rebuild i y w l p)) → rebuild i x z k o ≡ rebuild i y w l p
  unfolding linked
  same (made.I21c op q which) x y z w k l o p h s t a b f g = ap (λ (n : ℕ). raw.I21c op q n) (inj x y which s.named.stands t.named.stands)
  same (made.I22c op q r which) x y z w k l o p h s t a b f g = ap (λ (n : ℕ). raw.I22c op q r n) (inj x y which s.named.stands t.named.stands)
  same (made.I31c op q which) x y z w k l o p h s t a b f g = ap (λ (n : ℕ). raw.I31c op q n) (inj x y which s.named.stands t.named.stands)
  same (made.I35c op n regs which) x y z w k l o p h s t a b f g = ap (λ (m : ℕ). raw.I35c op n regs m) (inj x y which s.named.stands t.named.stands)
  same (made.I3rc op n first which) x y z w k l o p h s t a b f g = ap (λ (m : ℕ). raw.I3rc op n first m) (inj x y which s.named.stands t.named.stands)
  same (made.I10t op to) x y z w k l o p h s t a b f g = let u = s.symbol in let v = t.symbol in let c : target_number ss at z ≡ to = cc in let d : target_number ss at w ≡ to = cc in ap (λ (n : ℤ). raw.I10t op n) (led_one ss at z w to h.0 c d)
  same (made.I20t op to) x y z w k l o p h s t a b f g = let u = s.symbol in let v = t.symbol in let c : target_number ss at z ≡ to = cc in let d : target_number ss at w ≡ to = cc in ap (λ (n : ℤ). raw.I20t op n) (led_one ss at z w to h.0 c d)
  same (made.I21t op q to) x y z w k l o p h s t a b f g = let u = s.symbol in let v = t.symbol in let c : target_number ss at z ≡ to = cc in let d : target_number ss at w ≡ to = cc in ap (λ (n : ℤ). raw.I21t op q n) (led_one ss at z w to h.0 c d)
  same (made.I22t op q r to) x y z w k l o p h s t a b f g = let u = s.symbol in let v = t.symbol in let c : target_number ss at z ≡ to = cc in let d : target_number ss at w ≡ to = cc in ap (λ (n : ℤ). raw.I22t op q r n) (led_one ss at z w to h.0 c d)
  same (made.I30t op to) x y z w k l o p h s t a b f g = let u = s.symbol in let v = t.symbol in let c : target_number ss at z ≡ to = cc in let d : target_number ss at w ≡ to = cc in ap (λ (n : ℤ). raw.I30t op n) (led_one ss at z w to h.0 c d)
  same (made.I31t op q to) x y z w k l o p h s t a b f g = let u = s.symbol in let v = t.symbol in let c : target_number ss at z ≡ to = cc in let d : target_number ss at w ≡ to = cc in ap (λ (n : ℤ). raw.I31t op q n) (led_one ss at z w to h.0 c d)
  same (made.Packed first to) x y z w k l o p h s t a b f g =
      let u = s.symbol in let v = t.symbol in
      let c : map (target_number ss at) (symbols.ints o) ≡ to = cc in
      let d : map (target_number ss at) (symbols.ints p) ≡ to = cc in
      let e = all_led ss at (symbols.ints o) (symbols.ints p) to h c d in
      ap (λ (m : List ℕ). raw.Packed first m) (ints_once o p (packed_part first o f) (packed_part first p g) a.1 b.1 e)
  same (made.Sparse keys to) x y z w k l o p h s t a b f g =
      let u = s.symbol in let v = t.symbol in
      let firsts : symbols.ints k ≡ symbols.ints l = cc in
      let c : map (target_number ss at) (symbols.ints o) ≡ to = cc in
      let d : map (target_number ss at) (symbols.ints p) ≡ to = cc in
      let e = all_led ss at (symbols.ints o) (symbols.ints p) to h c d in
      let f1 = sparse_part k o f in let g1 = sparse_part l p g in
      let ks = ints_once k l (all_front (λ (n : ℕ). n < 256) k o f1) (all_front (λ (n : ℕ). n < 256) l p g1) a.0 b.0 firsts in
      let m : length o % 4 ≡ 0 = let q = a.1 in let j = a.0 in omega (arith, q, j) in
      let n : length p % 4 ≡ 0 = let q = b.1 in let j = b.0 in omega (arith, q, j) in
      let os = ints_once o p (all_back (λ (n : ℕ). n < 256) k o f1) (all_back (λ (n : ℕ). n < 256) l p g1) m n e in
      (λ j. raw.Sparse (ks j) (os j))
  same _ x y z w k l o p h s t a b f g = refl

  pub raw_once : (i : Insn) (r t : Raw) → AllByRecursion (λ n. n < length ss) (insn_leads i) → Resolves N (target_number ss at) r i → Resolves N (target_number ss at) t i → IsRaw r → IsRaw t → AllBytes (written r) → AllBytes (written t) → r ≡ t
  raw_once i r t h p q a b f g =
      let u = built (target_number ss at) (name_in i) r i p.symbol in
      let v = built (target_number ss at) (name_in i) t i q.symbol in
      u.is ∙ same i u.index v.index u.offset v.offset u.keys v.keys u.offsets v.offsets h
      (subst (λ (x : Raw). Resolves N (target_number ss at) x i) u.is p) (subst (λ (x : Raw). Resolves N (target_number ss at) x i) v.is q)
      (subst IsRaw u.is a) (subst IsRaw v.is b) (subst (λ (x : Raw). AllBytes (written x)) u.is f) (subst (λ (x : Raw). AllBytes (written x)) v.is g)
      ∙ sym v.is
