-- Lines of a text, and what reading them makes.
use Rattle.std.proofs.Common.{◌≡◌, ◌≢◌, ℕ, suc, ◌+◌, ◌<◌, List, [], ◌∷◌, ◌++◌, length, get_or, drop, refl, ap, ◌∙◌, arith}
use Rattle.std.proofs.lemmas.List.{append-nil}
use Rattle.std.proofs.lemmas.Bool.{ne_eqb}
use Rattle.listing_lines.specs.Splitting.{with_byte, lines}

lines_more : (c : ℕ) (cs : List ℕ) → c ≢ 10 → lines (c ∷ cs) ≡ with_byte c (lines cs)
unfolding lines
lines_more c cs n = rw (ne_eqb c 10 n) refl

lines_feed : (cs : List ℕ) → lines (10 ∷ cs) ≡ [] ∷ lines cs
unfolding lines
lines_feed cs = refl

lines_end : lines [] ≡ []
unfolding lines
lines_end = refl

-- a line after which a line feed stands
line_cut : (front rest : List ℕ) → ((k : ℕ) → k < length front → get_or front k 0 ≢ 10) → lines (front ++ 10 ∷ rest) ≡ front ∷ lines rest
line_cut [] rest p = lines_feed rest
line_cut (c ∷ front) rest p =
    rw (lines_more c (front ++ 10 ∷ rest) (p 0 (omega arith)), line_cut front rest (λ k h. p (suc k) (omega (arith, h)))) refl

-- the last line, after which nothing stands
line_last : (front : List ℕ) → 0 < length front → ((k : ℕ) → k < length front → get_or front k 0 ≢ 10) → lines front ≡ front ∷ lines []
line_last [] h p = absurd (omega arith)
line_last (c ∷ []) h p = rw (lines_more c [] (p 0 (omega arith)), lines_end) refl
line_last (c ∷ d ∷ front) h p =
    rw (lines_more c (d ∷ front) (p 0 (omega arith)), line_last (d ∷ front) (omega arith) (λ k h. p (suc k) (omega (arith, h))), lines_end) refl

-- the first line of a text that was cut at its first line feed
pub line_found : (text line after rest : List ℕ) → text ≡ line ++ after → ((k : ℕ) → k < length line → get_or line k 0 ≢ 10)
    → (0 < length after → get_or after 0 0 ≡ 10) → length after ≢ 0 → rest ≡ drop 1 after → lines text ≡ line ∷ lines rest
line_found text line [] rest e p s n r = absurd (n refl)
line_found text line (c ∷ after) rest e p s n r = rw (e, r, s (omega arith)) (line_cut line after p)

-- the only line of a text without a line feed
pub line_alone : (text line after : List ℕ) → text ≡ line ++ after → ((k : ℕ) → k < length line → get_or line k 0 ≢ 10)
    → length after ≡ 0 → 0 < length text → lines text ≡ line ∷ lines after
line_alone text line [] e p n h =
    let t : text ≡ line = e ∙ append-nil line in
    rw t (line_last line (let l = ap length t in omega (arith, l, h)) p)
line_alone text line (c ∷ after) e p n h = absurd (omega (arith, n))

pub no_lines : (text : List ℕ) → length text ≡ 0 → lines text ≡ []
no_lines [] h = lines_end
no_lines (c ∷ cs) h = absurd (omega arith)
