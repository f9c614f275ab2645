-- try_items one by one.
use Rattle.std.proofs.Common.{◌≡◌, ℕ, ◌+◌, ◌<◌, ◌≤◌, ◌++◌, List, [], ◌∷◌, map, length, get_or, drop, refl, ap, sym, ◌∙◌, arith, zero, suc, append_assoc, append-nil, subst, None}
use Rattle.std.proofs.lemmas.List.{get_or-map, length-map}
use Rattle.program_types.specs.View.{try}
use Rattle.program_types.specs.declared.code.Try.{Try as Held}
use Rattle.program_types.specs.Content.{Try}
use Rattle.program_types.specs.Formed.{try_at, TryFormed}
use Rattle.code_write.specs.Packs.{item_bytes, items_bytes}

next : (size : ℕ) (ss : List ℕ) (ts : List Try) (offs : List ℕ) (i : ℕ) → i < length ts → i < length offs
    → items_bytes size ss (drop i ts) (drop i offs) ≡ item_bytes size ss (try_at ts i) (get_or offs i 0) ++ items_bytes size ss (drop (i + 1) ts) (drop (i + 1) offs)
next size ss [] offs i l m = absurd (omega arith)
next size ss (t ∷ ts) [] i l m = absurd (omega arith)
next size ss (t ∷ ts) (o ∷ offs) zero l m = refl
next size ss (t ∷ ts) (o ∷ offs) (suc i) l m =
    let e : suc (i + 1) ≡ suc i + 1 = omega arith in
    subst (λ (q : ℕ). items_bytes size ss (drop i ts) (drop i offs) ≡ item_bytes size ss (try_at ts i) (get_or offs i 0) ++ items_bytes size ss (drop q (t ∷ ts)) (drop q (o ∷ offs))) e
    (next size ss ts offs i (omega arith) (omega arith))

pub items-turn : (size : ℕ) (ss : List ℕ) (ts : List Try) (offs old new all : List ℕ) (i off : ℕ) (t : Try) → i < length ts → i < length offs → t ≡ try_at ts i → off ≡ get_or offs i 0
    → new ≡ old ++ item_bytes size ss t off → old ++ items_bytes size ss (drop i ts) (drop i offs) ≡ all → new ++ items_bytes size ss (drop (i + 1) ts) (drop (i + 1) offs) ≡ all
items-turn size ss ts offs old new all i off t l m e f n h =
    let rest = items_bytes size ss (drop (i + 1) ts) (drop (i + 1) offs) in
    ap (λ (z : List ℕ). z ++ rest) (n ∙ (λ j. old ++ item_bytes size ss (e j) (f j))) ∙ append_assoc old (item_bytes size ss (try_at ts i) (get_or offs i 0)) rest
    ∙ ap (λ (z : List ℕ). old ++ z) (sym (next size ss ts offs i l m)) ∙ h

none-left : (size : ℕ) (ss : List ℕ) (ts : List Try) (offs : List ℕ) (i : ℕ) → length ts ≤ i → items_bytes size ss (drop i ts) (drop i offs) ≡ []
none-left size ss [] offs zero l = refl
none-left size ss [] offs (suc i) l = refl
none-left size ss (t ∷ ts) offs zero l = absurd (omega arith)
none-left size ss (t ∷ ts) [] (suc i) l = none-left-more ts i (omega arith)
  where
    none-left-more : (us : List Try) (k : ℕ) → length us ≤ k → items_bytes size ss (drop k us) [] ≡ []
    none-left-more [] zero m = refl
    none-left-more [] (suc k) m = refl
    none-left-more (u ∷ us) zero m = absurd (omega arith)
    none-left-more (u ∷ us) (suc k) m = none-left-more us k (omega arith)
none-left size ss (t ∷ ts) (o ∷ offs) (suc i) l = none-left size ss ts offs i (omega arith)

pub items-end : (size : ℕ) (ss : List ℕ) (ts : List Try) (offs new all : List ℕ) (i : ℕ) → length ts ≤ i → new ++ items_bytes size ss (drop i ts) (drop i offs) ≡ all → new ≡ all
items-end size ss ts offs new all i l h = sym (append-nil new) ∙ ap (λ (z : List ℕ). new ++ z) (sym (none-left size ss ts offs i l)) ∙ h

-- ---- try i in memory

pub seen-at : (xs : List Held) (i : ℕ) (x : Held) → i < length xs → try (get_or xs i x) ≡ try_at (map try xs) i
seen-at xs i x l = sym (get_or-map try xs i x (record { from = 0; to = 0; catches = []; catch_all = None }) l)

pub some-at : (count : ℕ) (xs : List Held) (i : ℕ) (x : Held) → i < length xs → TryFormed count (map try xs) i → (get_or xs i x).from < (get_or xs i x).to
some-at count xs i x l f = let e = seen-at xs i x l in subst (λ (t : Try). t.from < t.to) (sym e) f.some

pub within-at : (count : ℕ) (xs : List Held) (i : ℕ) (x : Held) → i < length xs → TryFormed count (map try xs) i → (get_or xs i x).to ≤ count
within-at count xs i x l f = let e = seen-at xs i x l in subst (λ (t : Try). t.to ≤ count) (sym e) f.within

pub turn-at : (size : ℕ) (ss : List ℕ) (xs : List Held) (offs old new all : List ℕ) (i : ℕ) (x : Held) → i < length xs → length offs ≡ length xs
    → new ≡ old ++ item_bytes size ss (try (get_or xs i x)) (get_or offs i 0) → old ++ items_bytes size ss (drop i (map try xs)) (drop i offs) ≡ all → new ++ items_bytes size ss (drop (i + 1) (map try xs)) (drop (i + 1) offs) ≡ all
turn-at size ss xs offs old new all i x l n e h =
    let m = length-map xs try in
    items-turn size ss (map try xs) offs old new all i (get_or offs i 0) (try (get_or xs i x)) (omega arith) (omega arith) (seen-at xs i x l) refl e h
