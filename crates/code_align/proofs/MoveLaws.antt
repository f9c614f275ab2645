-- Instructions and tries with the numbers in them moved.
use Rattle.std.proofs.Common.{◌≡◌, ℕ, ◌+◌, ◌<◌, ◌≤◌, ◌++◌, List, [], ◌∷◌, map, length, get_or, drop, take, refl, ap, sym, ◌∙◌, arith, zero, suc, Bool, true, false, Option, Some, None, append_assoc}
use Rattle.std.specs.Prelude.{option_map, IfSome}
use Rattle.std.specs.List.{AllByRecursion}
use Rattle.std.proofs.lemmas.List.{drop_more, map-append, length-map, get_or-map}
use Rattle.dex_base.proofs.ListFacts.{all_weaker, map_more}
use Rattle.program_types.specs.View.{insn}
use Rattle.program_types.specs.declared.insn.Insn.{Insn as Held}
use Rattle.program_types.specs.Content.{Insn, Try, Catch}
use Rattle.program_types.specs.Content as made
use Rattle.program_types.specs.Formed.{insn_at, try_at, TryFormed}
use Rattle.program_types.specs.Operands.{IsOperand}
use Rattle.code_align.specs.Aligned.{with_nops, moved_insn, moved_catch, moved_try}
use Rattle.code_align.specs.inner.Aligning.{IsTryBelow}

-- ---- functions that agree below a count move alike

pub operand-more : (m n : ℕ) (i : Insn) → m ≤ n → IsOperand m i → IsOperand n i
operand-more m n (made.I10t op to) l h = let b = h.1 in (h.0, omega arith)
operand-more m n (made.I20t op to) l h = let b = h.1 in (h.0, omega arith)
operand-more m n (made.I21t op a to) l h = let b = h.2 in (h.0, h.1, omega arith)
operand-more m n (made.I22t op a b to) l h = let c = h.3 in (h.0, h.1, h.2, omega arith)
operand-more m n (made.I30t op to) l h = let b = h.1 in (h.0, omega arith)
operand-more m n (made.I31t op a to) l h = let b = h.2 in (h.0, h.1, omega arith)
operand-more m n (made.Packed first to) l h = (h.0, h.1, all_weaker (λ (t : ℕ). t < m) (λ (t : ℕ). t < n) (λ t b. omega arith) to h.2)
operand-more m n (made.Sparse keys to) l h = (h.0, h.1, h.2, h.3, all_weaker (λ (t : ℕ). t < m) (λ (t : ℕ). t < n) (λ t b. omega arith) to h.4)
operand-more m n _ l h = h

module _ (f g : ℕ → ℕ) (count : ℕ) (same : (k : ℕ) → k < count → f k ≡ g k) where
  all-same : (ts : List ℕ) → AllByRecursion (λ t. t < count) ts → map f ts ≡ map g ts
  all-same [] h = refl
  all-same (t ∷ ts) h = let e = same t h.0 in let r = all-same ts h.1 in (λ i. e i ∷ r i)

  insn-same : (i : Insn) → IsOperand count i → moved_insn f i ≡ moved_insn g i
  insn-same (made.I10t op to) h = ap (λ (k : ℕ). made.I10t op k) (same to h.1)
  insn-same (made.I20t op to) h = ap (λ (k : ℕ). made.I20t op k) (same to h.1)
  insn-same (made.I21t op a to) h = ap (λ (k : ℕ). made.I21t op a k) (same to h.2)
  insn-same (made.I22t op a b to) h = ap (λ (k : ℕ). made.I22t op a b k) (same to h.3)
  insn-same (made.I30t op to) h = ap (λ (k : ℕ). made.I30t op k) (same to h.1)
  insn-same (made.I31t op a to) h = ap (λ (k : ℕ). made.I31t op a k) (same to h.2)
  insn-same (made.Packed first to) h = ap (λ (ks : List ℕ). made.Packed first ks) (all-same to h.2)
  insn-same (made.Sparse keys to) h = ap (λ (ks : List ℕ). made.Sparse keys ks) (all-same to h.4)
  insn-same _ h = refl

  pub insns-same : (ps : List Bool) (is : List Insn) → ((k : ℕ) → k < length is → IsOperand count (insn_at is k)) → map (moved_insn f) (with_nops ps is) ≡ map (moved_insn g) (with_nops ps is)
  insns-same (true ∷ ps) (i ∷ is) h =
      let e = insn-same i (h zero (omega arith)) in let r = insns-same ps is (λ k l. h (suc k) (omega arith)) in
      (λ j. made.I10x 0 ∷ e j ∷ r j)
  insns-same (false ∷ ps) (i ∷ is) h =
      let e = insn-same i (h zero (omega arith)) in let r = insns-same ps is (λ k l. h (suc k) (omega arith)) in
      (λ j. e j ∷ r j)
  insns-same [] [] h = refl
  insns-same (true ∷ ps) [] h = refl
  insns-same (false ∷ ps) [] h = refl
  insns-same [] (i ∷ is) h =
      let e = insn-same i (h zero (omega arith)) in let r = insns-same [] is (λ k l. h (suc k) (omega arith)) in
      (λ j. e j ∷ r j)

  catches-same : (cs : List Catch) → AllByRecursion (λ c. c.at < count) cs → map (moved_catch f) cs ≡ map (moved_catch g) cs
  catches-same [] h = refl
  catches-same (c ∷ cs) h = let e = same c.at h.0 in let r = catches-same cs h.1 in (λ i. record { ty = c.ty; at = e i } ∷ r i)

  last-same : (o : Option ℕ) → IfSome o (λ k. k < count) → option_map f o ≡ option_map g o
  last-same None h = refl
  last-same (Some k) h = ap (λ (n : ℕ). Some n) (same k h)

  try-same : (t : Try) → IsTryBelow count t → moved_try f t ≡ moved_try g t
  try-same t h =
      let a = same t.from h.from in let b = same t.to h.to in let c = catches-same t.catches h.catches in let d = last-same t.catch_all h.last in
      (λ i. record { from = a i; to = b i; catches = c i; catch_all = d i })

  pub tries-same : (ts : List Try) → ((i : ℕ) → i < length ts → IsTryBelow count (try_at ts i)) → map (moved_try f) ts ≡ map (moved_try g) ts
  tries-same [] h = refl
  tries-same (t ∷ ts) h =
      let e = try-same t (h zero (omega arith)) in let r = tries-same ts (λ i l. h (suc i) (omega arith)) in
      (λ j. e j ∷ r j)

-- ---- what is moved is within bounds

last-more : (m n : ℕ) (o : Option ℕ) → m ≤ n → IfSome o (λ k. k < m) → IfSome o (λ k. k < n)
last-more m n None l h = tt
last-more m n (Some k) l h = omega arith

pub try-below : (count n : ℕ) (ts : List Try) (i : ℕ) → n ≡ count + 1 → TryFormed count ts i → IsTryBelow n (try_at ts i)
try-below count n ts i e f =
    let a = f.some in let b = f.within in
    record { from = omega arith; to = omega arith; catches = all_weaker (λ (c : Catch). c.at < count) (λ (c : Catch). c.at < n) (λ c below. omega arith) (try_at ts i).catches f.places; last = last-more count n (try_at ts i).catch_all (omega arith) f.last }

-- ---- a turn of moving instructions

pub insns-turn : (f : ℕ → ℕ) (ps : List Bool) (is : List Insn) (k : ℕ) (p : Bool) (i : Insn) (all new whole : List Insn) → k < length ps → k < length is → p ≡ get_or ps k false → i ≡ get_or is k (made.I10x 0)
    → all ++ map (moved_insn f) (with_nops (drop k ps) (drop k is)) ≡ whole → new ≡ all ++ map (moved_insn f) (with_nops (p ∷ []) (i ∷ [])) → new ++ map (moved_insn f) (with_nops (drop (k + 1) ps) (drop (k + 1) is)) ≡ whole
insns-turn f ps is k p i all new whole l m e g h n =
    let d : drop k ps ≡ p ∷ drop (k + 1) ps = drop_more ps k false l ∙ ap (λ (b : Bool). b ∷ drop (k + 1) ps) (sym e) in
    let c : drop k is ≡ i ∷ drop (k + 1) is = drop_more is k (made.I10x 0) m ∙ ap (λ (j : Insn). j ∷ drop (k + 1) is) (sym g) in
    let one = map (moved_insn f) (with_nops (p ∷ []) (i ∷ [])) in
    let rest = map (moved_insn f) (with_nops (drop (k + 1) ps) (drop (k + 1) is)) in
    ap (λ (xs : List Insn). xs ++ rest) n ∙ append_assoc all one rest
    ∙ ap (λ (xs : List Insn). all ++ xs) (first p i (drop (k + 1) ps) (drop (k + 1) is))
    ∙ (λ j. all ++ map (moved_insn f) (with_nops (sym d j) (sym c j))) ∙ h
  where
    first : (q : Bool) (j : Insn) (qs : List Bool) (js : List Insn) → map (moved_insn f) (with_nops (q ∷ []) (j ∷ [])) ++ map (moved_insn f) (with_nops qs js) ≡ map (moved_insn f) (with_nops (q ∷ qs) (j ∷ js))
    first true j qs js = refl
    first false j qs js = refl

-- ---- in memory

pub one-more : (all new : List Held) (one : Held) → new ≡ all ++ one ∷ [] → map insn new ≡ map insn all ++ insn one ∷ []
one-more all new one e = ap (map insn) e ∙ map-append insn all (one ∷ [])

pub two-more : (all mid new : List Held) (nop one : Held) → mid ≡ all ++ nop ∷ [] → new ≡ mid ++ one ∷ [] → map insn new ≡ map insn all ++ insn nop ∷ insn one ∷ []
two-more all mid new nop one e f =
    ap (map insn) f ∙ map-append insn mid (one ∷ []) ∙ ap (λ (xs : List Held). map insn xs ++ insn one ∷ []) e
    ∙ ap (λ (xs : List Insn). xs ++ insn one ∷ []) (map-append insn all (nop ∷ [])) ∙ append_assoc (map insn all) (insn nop ∷ []) (insn one ∷ [])

pub view-more : {H V : Type 0} (view : H → V) (f : V → V) (xs all new : List H) (one : H) (i : ℕ) (d : H) → i < length xs → map view all ≡ map f (take i (map view xs)) → view one ≡ f (view (get_or xs i d)) → new ≡ all ++ one ∷ []
    → map view new ≡ map f (take (i + 1) (map view xs))
view-more {H} {V} view f xs all new one i d l h e n =
    let m = length-map xs view in
    let is : view one ≡ f (get_or (map view xs) i (view d)) = e ∙ ap f (sym (get_or-map view xs i d (view d) l)) in
    ap (map view) n ∙ map-append view all (one ∷ []) ∙ (λ j. h j ++ is j ∷ []) ∙ sym (map_more f (map view xs) i (view d) (omega arith))
