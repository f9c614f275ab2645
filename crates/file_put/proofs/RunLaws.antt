-- Runs of entries, one entry more.
use Rattle.std.proofs.Common.{◌≡◌, ℕ, ◌+◌, ◌-◌, ◌<◌, List, [], ◌∷◌, ◌++◌, length, take, get_or, refl, sym, ap, ◌∙◌, arith, subst, length-append, inl, inr}
use Rattle.std.specs.Prelude.{sum}
use Rattle.std.proofs.lemmas.Bool.{cases_lt}
use Rattle.std.proofs.lemmas.List.{take_all, take-append-le, map-append, length-map, get_or-append_right, get_or_append_left}
use Rattle.std.proofs.lemmas.Option.{slice_get_within}
use Rattle.std.proofs.lemmas.List.Sums.{sum_by-append}
use Rattle.file_classes.specs.ClassData.{steps, index_of, EntriesAre}
use Rattle.dex_base.proofs.ListFacts.{slice_split}

-- the index after all entries
abbrev pub total : {R : Type 0} → List (ℕ × R) → ℕ
total es = sum (steps es)

steps_push : {R : Type 0} (es : List (ℕ × R)) (e : ℕ × R) → steps (es ++ e ∷ []) ≡ steps es ++ e.0 ∷ []
steps_push {R} es e = map-append (λ (x : ℕ × R). x.0) es (e ∷ [])

pub total_push : {R : Type 0} (es : List (ℕ × R)) (e : ℕ × R) → total (es ++ e ∷ []) ≡ total es + e.0
total_push {R} es e =
    let s : total (es ++ e ∷ []) ≡ total es + (0 + e.0) = ap sum (steps_push es e) ∙ sum_by-append (λ (n : ℕ). n) (steps es) (e.0 ∷ []) in
    omega (arith, s)

length_steps : {R : Type 0} (es : List (ℕ × R)) → length (steps es) ≡ length es
length_steps {R} es = length-map es (λ (x : ℕ × R). x.0)

-- an index before the last
index_before : {R : Type 0} (es : List (ℕ × R)) (e : ℕ × R) (k : ℕ) → k < length es → index_of (steps (es ++ e ∷ [])) k ≡ index_of (steps es) k
index_before es e k lt =
    let n = length_steps es in
    ap (λ (ds : List ℕ). sum (take (k + 1) ds)) (steps_push es e) ∙ ap sum (take-append-le (k + 1) (steps es) (e.0 ∷ []) (omega (arith, n, lt)))

-- the last index
index_last : {R : Type 0} (es : List (ℕ × R)) (e : ℕ × R) → index_of (steps (es ++ e ∷ [])) (length es) ≡ total es + e.0
index_last es e =
    let n = ap length (steps_push es e) ∙ length-append (steps es) (e.0 ∷ []) in
    let m = length_steps es in
    ap sum (take_all (length es + 1) (steps (es ++ e ∷ [])) (omega (arith, n, m))) ∙ total_push es e

step_before : {R : Type 0} (es : List (ℕ × R)) (e : ℕ × R) (k : ℕ) → k < length es → get_or (steps (es ++ e ∷ [])) k 0 ≡ get_or (steps es) k 0
step_before es e k lt = let n = length_steps es in ap (λ (ds : List ℕ). get_or ds k 0) (steps_push es e) ∙ get_or_append_left (steps es) (e.0 ∷ []) 0 k (omega (arith, n, lt))

step_last : {R : Type 0} (es : List (ℕ × R)) (e : ℕ × R) → get_or (steps (es ++ e ∷ [])) (length es) 0 ≡ e.0
step_last es e =
    let n = length_steps es in
    let z : length es - length es ≡ 0 = omega arith in
    ap (λ (ds : List ℕ). get_or ds (length es) 0) (steps_push es e) ∙ get_or-append_right (steps es) (e.0 ∷ []) (length es) (length es) 0 n (omega arith) ∙ ap (λ (k : ℕ). get_or (e.0 ∷ []) k 0) z

pub no_run : {R V : Type 0} (M : ℕ → ℕ × R → V → Type 0) → EntriesAre M [] []
no_run M = record { count = refl; each = λ k e v at to. absurd (cc at); rises = λ k some lt. absurd (omega (arith, lt)) }

-- one more entry
pub run_push : {R V : Type 0} (M : ℕ → ℕ × R → V → Type 0) (es : List (ℕ × R)) (vs : List V) (e : ℕ × R) (v : V) (i : ℕ) → EntriesAre M es vs → i ≡ total es + e.0 → M i e v → (0 < length vs → 0 < e.0) → EntriesAre M (es ++ e ∷ []) (vs ++ v ∷ [])
run_push {R} {V} M es vs e v i run is m some =
    let c = run.count in
    let le = length-append es (e ∷ []) in
    let lv = length-append vs (v ∷ []) in
    record {
      count = omega (arith, c, le, lv);
      each = λ k x w at to. elim (slice_split es e x k at) [
        | inl before ↦ elim (slice_split vs v w k to) [
          | inl same ↦ (let lt = slice_get_within es k x before in subst (λ (j : ℕ). M j x w) (sym (index_before es e k lt)) (run.each k x w before same))
          | inr last ↦ (let lt = slice_get_within es k x before in let f = last.0 in absurd (omega (arith, lt, f, c)))
        ]
        | inr last ↦ elim (slice_split vs v w k to) [
          | inl same ↦ (let lt = slice_get_within vs k w same in let f = last.0 in absurd (omega (arith, lt, f, c)))
          | inr end ↦ subst (λ (j : ℕ). M j x w) (is ∙ sym (index_last es e) ∙ ap (index_of (steps (es ++ e ∷ []))) (sym last.0)) (subst (λ (y : ℕ × R). M i y w) last.1 (subst (λ (y : V). M i e y) end.1 m))
        ]
      ];
      rises = λ k some_k lt. elim (cases_lt k (length es)) [
        | inl before ↦ subst (λ (n : ℕ). 0 < n) (sym (step_before es e k before)) (run.rises k some_k before)
        | inr ge ↦ let end : k ≡ length es = omega (arith, lt, le, ge) in subst (λ (n : ℕ). 0 < n) (sym (ap (λ (j : ℕ). get_or (steps (es ++ e ∷ [])) j 0) end ∙ step_last es e)) (some (omega (arith, c, end, some_k)))
      ];
    }
