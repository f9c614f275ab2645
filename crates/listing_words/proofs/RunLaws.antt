-- From the marks of sixteen bytes to the run of bytes of a kind.
use Rattle.std.proofs.Common.{◌≡◌, ℕ, ◌+◌, ◌-◌, ◌%◌, ◌^◌, ◌<◌, ◌≤◌, Bool, cond, leb, not, List, map, length, get_or, replicate, w8, ap, ◌∙◌, inl, inr, arith}
use Rattle.std.proofs.lemmas.Bool.{leb-true, leb-false, cases_lt}
use Rattle.std.proofs.lemmas.List.{length-map}
use Rattle.std.proofs.lemmas.Simd.{map-map, mask_l-mod, length-chunk, tops_compared, zip2_splat, zip2_splat_left, first_set_mask_l, run_in_chunk_le, run_in_chunk_fails, run_in_chunk_stops}
use Rattle.std.specs.List.{prefix_len}
use Rattle.std.specs.Simd.Lanes.{chunk, zip2, mask_l, top}
use Rattle.listing_words.specs.inner.Runs.{IsOf, IsRunEnd, first_mark}

-- a byte that isn't of the kind, as a lane says it
abbrev is_other : (ℕ → ℕ → ℕ) → ℕ → ℕ → ℕ → Bool
is_other minus first count c = leb count (minus c first)

-- the marks of the bytes that aren't of the kind
marks_are : (minus : ℕ → ℕ → ℕ) (first count : ℕ) (v : List ℕ) → length v ≡ 16
    → mask_l (map (top 7) (zip2 (λ a b. cond (leb a b) 255 0) (replicate 16 count) (zip2 minus v (replicate 16 first)))) % 2 ^ 64 ≡ mask_l (map (is_other minus first count) v)
marks_are minus first count v long =
    let from_first = map (λ c. minus c first) v in
    let wide : length from_first ≡ 16 = omega (arith, length-map v (λ c. minus c first)) in
    ap (λ l. mask_l (map (top 7) (zip2 (λ a b. cond (leb a b) 255 0) (replicate 16 count) l)) % 2 ^ 64) (zip2_splat minus v 16 first long)
    ∙ ap (λ l. mask_l l % 2 ^ 64) (tops_compared w8 leb (replicate 16 count) from_first ∙ zip2_splat_left leb count 16 from_first wide ∙ map-map (leb count) (λ c. minus c first) v)
    ∙ mask_l-mod (map (is_other minus first count) v) 64 (omega (arith, length-map v (is_other minus first count)))

pub run_marked : (minus : ℕ → ℕ → ℕ) (first count : ℕ) (text : List ℕ) (at run : ℕ) → at + 16 ≤ length text
    → run ≡ first_mark (mask_l (map (top 7) (zip2 (λ a b. cond (leb a b) 255 0) (replicate 16 count) (zip2 minus (chunk at 16 text) (replicate 16 first)))) % 2 ^ 64) 16
    → ((c : ℕ) → minus c first ≡ (c + 256 - first) % 256) → IsRunEnd first count text at (at + 16) (at + run)
run_marked minus first count text at run room found same =
    let p = is_other minus first count in
    let v = chunk at 16 text in
    let long = length-chunk at 16 text room in
    let counted : run ≡ prefix_len (λ x. not (p x)) v = found ∙ ap (λ m. first_mark m 16) (marks_are minus first count v long) ∙ first_set_mask_l p v 16 long (omega arith) in
    record {
      within = omega (arith, run_in_chunk_le p text at 16 run 0 room counted);
      all = λ k from to. omega (arith, leb-false _ _ (run_in_chunk_fails p text at 16 run 0 room counted k from to), same (get_or text k 0));
      stops = λ short of. omega (arith, leb-true _ _ (run_in_chunk_stops p text at 16 run 0 room counted (omega (arith, short))), same (get_or text (at + run) 0));
    }

-- ---- a run of all bytes, of those seen before and of sixteen

-- what was seen from the front on, and what stands from a place in it on
pub run_front : (first count : ℕ) (text : List ℕ) (seen from to stop : ℕ) → ((k : ℕ) → k < seen → IsOf first count (get_or text k 0))
    → from ≤ seen → to ≤ length text → (stop ≡ to → to ≡ length text) → IsRunEnd first count text from to stop → IsRunEnd first count text 0 (length text) stop
run_front first count text seen from to stop front over inside end run = record {
  within = omega (arith, run.within);
  all = λ k low high. elim (cases_lt k seen) [ inl early ↦ front k early | inr late ↦ run.all k (omega arith) high ];
  stops = λ short of. elim (cases_lt stop to) [
    | inl under ↦ run.stops under of
    | inr over ↦ let ends : stop ≡ to = omega (arith, run.within) in absurd (omega (arith, end ends))
  ];
}

pub run_more : (first count : ℕ) (text : List ℕ) (seen to stop : ℕ) → ((k : ℕ) → k < seen → IsOf first count (get_or text k 0))
    → to ≤ stop → IsRunEnd first count text seen to stop → (k : ℕ) → k < to → IsOf first count (get_or text k 0)
run_more first count text seen to stop front whole run k under =
    elim (cases_lt k seen) [ inl early ↦ front k early | inr late ↦ run.all k late (omega arith) ]
