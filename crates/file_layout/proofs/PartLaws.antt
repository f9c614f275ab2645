-- Parts of bytes.
use Rattle.std.proofs.Common.{◌≡◌, ℕ, ◌+◌, ◌-◌, ◌≤◌, List, [], ◌++◌, length, take, drop, ap, ◌∙◌, arith}
use Rattle.std.proofs.Math.Seq.{take-add}
use Rattle.std.proofs.lemmas.List.{get_or-drop, length-drop, length-take-le, drop-drop}
use Rattle.dex_base.specs.Fields.{AreBytes}
use Rattle.dex_container.specs.Where.{slice}
use Rattle.file_layout.specs.inner.Once.{part_of}
use Rattle.dex_base.proofs.ListFacts.{take_bytes}

-- a part of bytes is bytes
pub slice_are : (b : List ℕ) (place size : ℕ) → AreBytes b → AreBytes (slice b place size)
unfolding slice
slice_are b place size h = take_bytes size (drop place b) (λ i. rw (get_or-drop place b i 0) (h (place + i)))

pub length_slice : (b : List ℕ) (place size : ℕ) → place + size ≤ length b → length (slice b place size) ≡ size
unfolding slice
length_slice b place size h = length-take-le size (drop place b) (let l = length-drop place b in omega (arith, h, l))

pub slice_more : (b : List ℕ) (at m n : ℕ) → slice b at (m + n) ≡ slice b at m ++ slice b (at + m) n
unfolding slice
slice_more b at m n = take-add m n (drop at b) ∙ ap (λ (t : List ℕ). take m (drop at b) ++ take n t) (drop-drop m at b)

-- a part, cut at a place between
pub part_cut : (b : List ℕ) (from mid to : ℕ) → from ≤ mid → mid ≤ to → part_of b from to ≡ part_of b from mid ++ part_of b mid to
part_cut b from mid to p q =
    let n : to - from ≡ (mid - from) + (to - mid) = omega (arith, p, q) in
    let m : from + (mid - from) ≡ mid = omega (arith, p) in
    ap (λ (k : ℕ). slice b from k) n ∙ slice_more b from (mid - from) (to - mid) ∙ ap (λ (k : ℕ). slice b from (mid - from) ++ slice b k (to - mid)) m

-- zeros, an item, and what is after it
pub part_item : (b : List ℕ) (at place size end g : ℕ) → place ≡ at + g → place + size ≤ end → part_of b at end ≡ slice b at g ++ (slice b place size ++ part_of b (place + size) end)
part_item b at place size end g here le =
    let m : place - at ≡ g = omega (arith, here) in
    let n : place + size - place ≡ size = omega arith in
    part_cut b at place end (omega (arith, here)) (omega (arith, le))
    ∙ ap (λ (t : List ℕ). part_of b at place ++ t) (part_cut b place (place + size) end (omega arith) le)
    ∙ ap (λ (k : ℕ). slice b at k ++ (part_of b place (place + size) ++ part_of b (place + size) end)) m
    ∙ ap (λ (k : ℕ). slice b at g ++ (slice b place k ++ part_of b (place + size) end)) n

-- no bytes
pub part_none : (b : List ℕ) (at : ℕ) → part_of b at at ≡ []
unfolding slice
part_none b at = let n : at - at ≡ 0 = omega arith in ap (λ (k : ℕ). take k (drop at b)) n
