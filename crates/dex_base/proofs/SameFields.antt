-- Bytes whose numbers at a place are the same are the same there.
use Rattle.std.proofs.Common.{◌≡◌, ℕ, zero, suc, ◌+◌, ◌*◌, ◌<◌, List, drop, get_or, sym, ◌∙◌, arith}
use Rattle.std.proofs.lemmas.List.{get_or-drop}
use Rattle.dex_base.specs.Fields.{AreBytes, u16_at, u32_at}
use Rattle.dex_base.proofs.ListFacts.{four_bytes}

two_bytes : (x y z w : ℕ) → x < 256 → y < 256 → z < 256 → w < 256 → x + 256 * (y + 256 * 0) ≡ z + 256 * (w + 256 * 0) → (x ≡ z) × (y ≡ w)
two_bytes x y z w a b c d e = (omega arith, omega arith)

module _ (b c : List ℕ) (bytes_b : AreBytes b) (bytes_c : AreBytes c) where
  moved : (p k : ℕ) → get_or (drop p b) k 0 ≡ get_or (drop p c) k 0 → get_or b (p + k) 0 ≡ get_or c (p + k) 0
  moved p k e = sym (get_or-drop p b k 0) ∙ e ∙ get_or-drop p c k 0

  here_b : (p k : ℕ) → get_or (drop p b) k 0 < 256
  here_b p k = rw (get_or-drop p b k 0) (bytes_b (p + k))

  here_c : (p k : ℕ) → get_or (drop p c) k 0 < 256
  here_c p k = rw (get_or-drop p c k 0) (bytes_c (p + k))

  pub same_half : (p : ℕ) → u16_at b p ≡ u16_at c p → (k : ℕ) → k < 2 → get_or b (p + k) 0 ≡ get_or c (p + k) 0
  unfolding u16_at
  same_half p e k lt =
      let r = two_bytes (get_or (drop p b) 0 0) (get_or (drop p b) 1 0) (get_or (drop p c) 0 0) (get_or (drop p c) 1 0) (here_b p 0) (here_b p 1) (here_c p 0) (here_c p 1) e in
      moved p k (pick k lt r)
    where
      pick : (k : ℕ) → k < 2 → (get_or (drop p b) 0 0 ≡ get_or (drop p c) 0 0) × (get_or (drop p b) 1 0 ≡ get_or (drop p c) 1 0) → get_or (drop p b) k 0 ≡ get_or (drop p c) k 0
      pick zero lt r = r.0
      pick (suc zero) lt r = r.1
      pick (suc (suc k)) lt r = absurd (omega arith)

  pub same_word : (p : ℕ) → u32_at b p ≡ u32_at c p → (k : ℕ) → k < 4 → get_or b (p + k) 0 ≡ get_or c (p + k) 0
  unfolding u32_at
  same_word p e k lt =
      let r = four_bytes (get_or (drop p b) 0 0) (get_or (drop p b) 1 0) (get_or (drop p b) 2 0) (get_or (drop p b) 3 0) (get_or (drop p c) 0 0) (get_or (drop p c) 1 0) (get_or (drop p c) 2 0) (get_or (drop p c) 3 0)
      (here_b p 0) (here_b p 1) (here_b p 2) (here_b p 3) (here_c p 0) (here_c p 1) (here_c p 2) (here_c p 3) e in
      moved p k (pick k lt r)
    where
      pick : (k : ℕ) → k < 4
          → (get_or (drop p b) 0 0 ≡ get_or (drop p c) 0 0) × (get_or (drop p b) 1 0 ≡ get_or (drop p c) 1 0) × (get_or (drop p b) 2 0 ≡ get_or (drop p c) 2 0) × (get_or (drop p b) 3 0 ≡ get_or (drop p c) 3 0)
          → get_or (drop p b) k 0 ≡ get_or (drop p c) k 0
      pick zero lt r = r.0
      pick (suc zero) lt r = r.1
      pick (suc (suc zero)) lt r = r.2
      pick (suc (suc (suc zero))) lt r = r.3
      pick (suc (suc (suc (suc k)))) lt r = absurd (omega arith)
