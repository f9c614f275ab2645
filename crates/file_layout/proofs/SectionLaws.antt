-- A section, item by item.
use Rattle.std.proofs.Common.{◌≡◌, ℕ, ◌+◌, ◌<◌, ◌≤◌, List, [], ◌∷◌, ◌++◌, length, refl, sym, ap, ◌∙◌, arith, append_assoc, append-nil, length-append, Bool, true, false, Some}
use Rattle.std.specs.List.{slice_get}
use Rattle.std.specs.Prelude.{MatchBool}
use Rattle.file_layout.specs.Tiles.{zeros, gap}
use Rattle.file_layout.specs.inner.Sections.{Adds, AddsSome, Laying, wide_bytes, IsItself, is_empty_list, count_with}
use Rattle.file_layout.proofs.TileLaws.{Lays-start, Lays-none, Lays-item, Lays-again, length-zeros}

pub Laying-start : {V : Type 0} (none : V → Bool) (G : List ℕ → V → Type 0) (align : ℕ) (wide : V → ℕ) (old : List ℕ) (all : List V) → Laying none G align wide old old [] all all [] 0
Laying-start none G align wide old all = record { lays = Lays-start none G align old; grown = ([], sym (append-nil old)); bound = omega arith }

pub Laying-none : {V : Type 0} (none : V → Bool) (G : List ℕ → V → Type 0) (align : ℕ) (wide : V → ℕ) (old out new : List ℕ) (done rest all : List V) (v : V) (places : List ℕ) (place count : ℕ)
    → Laying none G align wide old out done (v ∷ rest) all places count → none v ≡ true → (place ≡ 0) × (new ≡ out) → Laying none G align wide old new (done ++ v ∷ []) rest all (places ++ place ∷ []) count
Laying-none {V = V} none G align wide old out new done rest all v places place count l e a =
    let b = l.bound in
    rw (a.1, a.0)
    (record {
      lays = Lays-none none G align (length old) out done v places count l.lays e;
      grown = l.grown;
      bound = omega (arith, b);
    })

pub Laying-item : {V : Type 0} (none : V → Bool) (G : List ℕ → V → Type 0) (align : ℕ) (wide : V → ℕ) (old out new : List ℕ) (done rest all : List V) (v : V) (places : List ℕ) (place count : ℕ)
    → Laying none G align wide old out done (v ∷ rest) all places count → 0 < length old → none v ≡ false → Adds G align out new v place → length new ≤ length out + wide v
    → Laying none G align wide old new (done ++ v ∷ []) rest all (places ++ place ∷ []) (count + 1)
Laying-item {V = V} none G align wide old out new done rest all v places place count l front e a small =
    let b = l.bound in
    let n : length out ≡ length old + length l.grown.0 = ap length l.grown.1 ∙ length-append old l.grown.0 in
    rw a.there
    (record {
      lays = Lays-item none G align (length old) out a.bytes new done v places count l.lays (omega (arith, n)) e a.whole a.some a.spelled;
      grown = (l.grown.0 ++ (zeros (gap align (length out)) ++ a.bytes), a.whole ∙ ap (λ x. (x ++ zeros (gap align (length out))) ++ a.bytes) l.grown.1 ∙ simp append_assoc);
      bound = omega (arith, b, small);
    })

pub Laying-more : {V : Type 0} (none : V → Bool) (G : List ℕ → V → Type 0) (align : ℕ) (wide : V → ℕ) (old out new : List ℕ) (done rest all : List V) (v : V) (places : List ℕ) (place count more : ℕ)
    → Laying none G align wide old out done (v ∷ rest) all places count → 0 < length old → AddsSome none G align out new v place → length new ≤ length out + wide v → more ≡ count_with (none v) count
    → Laying none G align wide old new (done ++ v ∷ []) rest all (places ++ place ∷ []) more
Laying-more {V = V} none G align wide old out new done rest all v places place count more l front a small c =
    elim (none v) as (λ (t : Bool). none v ≡ t → MatchBool t ((place ≡ 0) × (new ≡ out)) (Adds G align out new v place) → more ≡ count_with t count → Laying none G align wide old new (done ++ v ∷ []) rest all (places ++ place ∷ []) more) [
      | true ↦ λ e a c. rw c (Laying-none none G align wide old out new done rest all v places place count l e a)
      | false ↦ λ e a c. rw c (Laying-item none G align wide old out new done rest all v places place count l front e a small)
    ] refl a c

-- a value that was laid before is laid again by the place that it had
pub Laying-again : {V : Type 0} (none : V → Bool) (G : List ℕ → V → Type 0) (align : ℕ) (wide : V → ℕ) (old out : List ℕ) (done rest all : List V) (v : V) (places : List ℕ) (place count turn : ℕ)
    → Laying none G align wide old out done (v ∷ rest) all places count → none v ≡ false → slice_get done turn ≡ Some v → slice_get places turn ≡ Some place
    → Laying none G align wide old out (done ++ v ∷ []) rest all (places ++ place ∷ []) count
Laying-again none G align wide old out done rest all v places place count turn l e there at =
    let b = l.bound in
    record {
      lays = Lays-again none G align (length old) out done v places place count turn l.lays e there at;
      grown = l.grown;
      bound = omega (arith, b);
    }

pub adds_some : {V : Type 0} (none : V → Bool) (G : List ℕ → V → Type 0) (align : ℕ) (old new : List ℕ) (v : V) (place : ℕ) → none v ≡ false → Adds G align old new v place → AddsSome none G align old new v place
adds_some none G align old new v place e a = rw e a

-- a gap to a multiple of one is none
pub gap_one : (n : ℕ) → gap 1 n ≡ 0
gap_one n = omega arith

pub unpadded : (b : List ℕ) → b ++ zeros (gap 1 (length b)) ≡ b
unpadded b = rw gap_one (append-nil b)

pub length-padded : (b : List ℕ) (n : ℕ) → length (b ++ zeros n) ≡ length b + n
length-padded b n = length-append b (zeros n) ∙ ap (λ m. length b + m) (length-zeros n)

pub not_none : {A : Type 0} (xs : List A) → 0 < length xs → is_empty_list xs ≡ false
not_none [] h = absurd (omega arith)
not_none (x ∷ xs) h = refl

-- an item that is 4-aligned takes at most three bytes more
pub few_more : (out new v : List ℕ) (place : ℕ) → AddsSome is_empty_list IsItself 4 out new v place → length new ≤ length out + wide_bytes v
few_more out new [] place a = let n = ap length a.1 in omega (arith, n)
few_more out new (x ∷ xs) place a =
    let n = ap length a.whole ∙ length-append (out ++ zeros (gap 4 (length out))) a.bytes in
    let p = length-padded out (gap 4 (length out)) in
    let s = ap length a.spelled in
    omega (arith, n, p, s)
