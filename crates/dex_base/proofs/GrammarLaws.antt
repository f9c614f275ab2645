-- Laws of grammars made of others, proved once for all of them.
use Rattle.std.proofs.Common.{◌≡◌, ℕ, suc, ◌+◌, ◌-◌, ◌<◌, ◌≤◌, List, [], ◌∷◌, ◌++◌, length, take, drop, get_or, ◌⊎◌, inl, inr, add-zero, refl, sym, ap, subst, ◌∙◌, append_assoc, arith}
use Rattle.std.proofs.Math.Seq.{take-add}
use Rattle.std.proofs.lemmas.List.{append_cancel_left, append-nil, take-append-drop, length-drop, take_more, get_or-drop}
use Rattle.dex_base.specs.Grammar.{Begins, NoneBegins, Appends, IsPrefixUnique, Then, Pair, Each, Many, Counted, Seen, Ended}

-- ---- no spelling begins another

-- two fronts of one list: cut at the inner pieces
pub regrouped : (a a1 a2 b b1 b2 x y : List ℕ) → a ≡ a1 ++ a2 → b ≡ b1 ++ b2 → a ++ x ≡ b ++ y → a1 ++ (a2 ++ x) ≡ b1 ++ (b2 ++ y)
regrouped a a1 a2 b b1 b2 x y p q e = sym (append_assoc a1 a2 x) ∙ ap (λ l. l ++ x) (sym p) ∙ e ∙ ap (λ l. l ++ y) q ∙ append_assoc b1 b2 y

pub rest_same : (a b r s : List ℕ) → a ≡ b → a ++ r ≡ b ++ s → r ≡ s
rest_same a b r s e h = append_cancel_left a r s (h ∙ ap (λ l. l ++ s) (sym e))

pub Then-unique : {V W : Type 0} (G : List ℕ → V → Type 0) (H : V → List ℕ → W → Type 0) → IsPrefixUnique G → ((v : V) → IsPrefixUnique (H v)) → IsPrefixUnique (Then G H)
Then-unique {V} {W} G H g h a b x y (v, w) (v', w') p q e =
    let r = regrouped a p.front p.back b q.front q.back x y p.joined q.joined e in
    let one = g p.front q.front (p.back ++ x) (q.back ++ y) v v' p.first q.first r in
    let second : H v q.back w' = subst (λ (u : V). H u q.back w') (sym one.1) q.second in
    let two = h v p.back q.back x y w w' p.second second (rest_same p.front q.front (p.back ++ x) (q.back ++ y) one.0 r) in
    let i = one.0 in let j = one.1 in let k = two.0 in let l = two.1 in
    let s = p.joined in let t = q.joined in
    (cc, cc)

pub Pair-unique : {V W : Type 0} (G : List ℕ → V → Type 0) (H : List ℕ → W → Type 0) → IsPrefixUnique G → IsPrefixUnique H → IsPrefixUnique (Pair G H)
Pair-unique {V} {W} G H g h = Then-unique G (λ (v : V). H) g (λ v. h)

pub Each-unique : {V : Type 0} (G : List ℕ → V → Type 0) → IsPrefixUnique G → (vs ws : List V) (a b x y : List ℕ) → length vs ≡ length ws → Each G a vs → Each G b ws → a ++ x ≡ b ++ y → (a ≡ b) × (vs ≡ ws)
Each-unique G g [] [] a b x y n p q e = (p ∙ sym q, refl)
Each-unique G g [] (w ∷ ws) a b x y n p q e = absurd (omega arith)
Each-unique G g (v ∷ vs) [] a b x y n p q e = absurd (omega arith)
Each-unique G g (v ∷ vs) (w ∷ ws) a b x y n p q e =
    let r = regrouped a p.0 p.1 b q.0 q.1 x y p.2 q.2 e in
    let one = g p.0 q.0 (p.1 ++ x) (q.1 ++ y) v w p.3 q.3 r in
    let two = Each-unique G g vs ws p.1 q.1 x y (omega arith) p.4 q.4 (rest_same p.0 q.0 (p.1 ++ x) (q.1 ++ y) one.0 r) in
    let i = one.0 in let j = one.1 in let k = two.0 in let l = two.1 in
    let s = p.2 in let t = q.2 in
    (cc, cc)

pub Many-unique : {V : Type 0} (G : List ℕ → V → Type 0) (n : ℕ) → IsPrefixUnique G → IsPrefixUnique (Many G n)
Many-unique G n g a b x y vs ws p q e = Each-unique G g vs ws a b x y (p.0 ∙ sym q.0) p.1 q.1 e

pub Counted-unique : {V : Type 0} (C : List ℕ → ℕ → Type 0) (G : List ℕ → V → Type 0) → IsPrefixUnique C → IsPrefixUnique G → IsPrefixUnique (Counted C G)
Counted-unique C G c g a b x y vs ws p q e =
    let both = Then-unique C (Many G) c (λ n. Many-unique G n g) a b x y (length vs, vs) (length ws, ws) p q e in
    (both.0, ap (λ t. t.1) both.1)

pub Seen-unique : {U V : Type 0} (view : U → V) (G : List ℕ → V → Type 0) → ((s t : U) → view s ≡ view t → s ≡ t) → IsPrefixUnique G → IsPrefixUnique (Seen view G)
Seen-unique view G inj g a b x y s t p q e =
    let r = g a b x y (view s) (view t) p q e in
    (r.0, inj s t r.1)

-- ---- reading

inside_both : (m n : ℕ) (bytes : List ℕ) → m ≤ length bytes → n ≤ length (drop m bytes) → m + n ≤ length bytes
inside_both m n bytes p q = let l = length-drop m bytes in omega arith

pub Then-found : {V W : Type 0} (G : List ℕ → V → Type 0) (H : V → List ℕ → W → Type 0) (bytes : List ℕ) (v : V) (w : W) (m n : ℕ)
    → Begins G bytes v m → Begins (H v) (drop m bytes) w n → Begins (Then G H) bytes (v, w) (m + n)
Then-found G H bytes v w m n p q = record {
  inside = inside_both m n bytes p.inside q.inside;
  spelled = record { front = take m bytes; back = take n (drop m bytes); joined = take-add m n bytes; first = p.spelled; second = q.spelled };
}

pub Then-none_first : {V W : Type 0} (G : List ℕ → V → Type 0) (H : V → List ℕ → W → Type 0) (bytes : List ℕ) → NoneBegins G bytes → NoneBegins (Then G H) bytes
Then-none_first G H bytes none front rest p e s = none s.front (s.back ++ rest) p.0 (e ∙ ap (λ l. l ++ rest) s.joined ∙ append_assoc s.front s.back rest) s.first

-- what stands after a front that is known
pub after : {V : Type 0} (G : List ℕ → V → Type 0) (bytes front rest : List ℕ) (v w : V) (m : ℕ) → IsPrefixUnique G → Begins G bytes v m → G front w → bytes ≡ front ++ rest → (v ≡ w) × (drop m bytes ≡ rest)
after G bytes front rest v w m g p q e =
    let whole = take-append-drop m bytes in
    let same = g (take m bytes) front (drop m bytes) rest v w p.spelled q (whole ∙ e) in
    (same.1, rest_same (take m bytes) front (drop m bytes) rest same.0 (whole ∙ e))

pub Then-none_second : {V W : Type 0} (G : List ℕ → V → Type 0) (H : V → List ℕ → W → Type 0) (bytes : List ℕ) (v : V) (m : ℕ)
    → IsPrefixUnique G → Begins G bytes v m → NoneBegins (H v) (drop m bytes) → NoneBegins (Then G H) bytes
Then-none_second {V} {W} G H bytes v m g p none front rest w e s =
    let b = after G bytes s.front (s.back ++ rest) v w.0 m g p s.first (e ∙ ap (λ l. l ++ rest) s.joined ∙ append_assoc s.front s.back rest) in
    none s.back rest w.1 b.1 (subst (λ (u : V). H u s.back w.1) (sym b.0) s.second)

pub Each-push : {V : Type 0} (G : List ℕ → V → Type 0) (a b : List ℕ) (vs : List V) (v : V) → Each G a vs → G b v → Each G (a ++ b) (vs ++ v ∷ [])
Each-push G a b [] v p q = (b, [], rw p (sym (append-nil b)), q, refl)
Each-push G a b (u ∷ us) v p q = (p.0, p.1 ++ b, ap (λ l. l ++ b) p.2 ∙ append_assoc p.0 p.1 b, p.3, Each-push G p.1 b us v p.4 q)

pub Each-none : {V : Type 0} (G : List ℕ → V → Type 0) (bytes : List ℕ) (vs : List V) → vs ≡ [] → Begins (Each G) bytes vs 0
Each-none G bytes [] e = record { inside = omega arith; spelled = refl }
Each-none G bytes (v ∷ vs) e = absurd cc

pub Each-more : {V : Type 0} (G : List ℕ → V → Type 0) (bytes : List ℕ) (vs : List V) (v : V) (m n : ℕ)
    → Begins (Each G) bytes vs m → Begins G (drop m bytes) v n → Begins (Each G) bytes (vs ++ v ∷ []) (m + n)
Each-more {V} G bytes vs v m n p q = record {
  inside = inside_both m n bytes p.inside q.inside;
  spelled = subst (λ (l : List ℕ). Each G l (vs ++ v ∷ [])) (sym (take-add m n bytes)) (Each-push G (take m bytes) (take n (drop m bytes)) vs v p.spelled q.spelled);
}

-- after some of the values stands the next
pub Each-next : {V : Type 0} (G : List ℕ → V → Type 0) → IsPrefixUnique G → (vs ws : List V) (a b x y : List ℕ) → length vs < length ws → Each G a vs → Each G b ws → a ++ x ≡ b ++ y
    → (front : List ℕ) × (rest : List ℕ) × (v : V) × (x ≡ front ++ rest) × G front v
Each-next G g vs [] a b x y n p q e = absurd (omega arith)
Each-next G g [] (w ∷ ws) a b x y n p q e =
    let i : x ≡ b ++ y = ap (λ l. l ++ x) (sym p) ∙ e in
    (q.0, q.1 ++ y, w, i ∙ ap (λ l. l ++ y) q.2 ∙ append_assoc q.0 q.1 y, q.3)
Each-next G g (v ∷ vs) (w ∷ ws) a b x y n p q e =
    let r = regrouped a p.0 p.1 b q.0 q.1 x y p.2 q.2 e in
    let one = g p.0 q.0 (p.1 ++ x) (q.1 ++ y) v w p.3 q.3 r in
    Each-next G g vs ws p.1 q.1 x y (omega arith) p.4 q.4 (rest_same p.0 q.0 (p.1 ++ x) (q.1 ++ y) one.0 r)

pub Many-none : {V : Type 0} (G : List ℕ → V → Type 0) (n : ℕ) (bytes : List ℕ) (vs : List V) (m : ℕ)
    → IsPrefixUnique G → Begins (Each G) bytes vs m → length vs < n → NoneBegins G (drop m bytes) → NoneBegins (Many G n) bytes
Many-none G n bytes vs m g p short none front rest ws e s =
    let k = s.0 in
    let next = Each-next G g vs ws (take m bytes) front (drop m bytes) rest (omega arith) p.spelled s.1 (take-append-drop m bytes ∙ e) in
    none next.0 next.1 next.2 next.3 next.4

-- `Counted` is a `Then` at a list and its length
pub Counted-found : {V : Type 0} (C : List ℕ → ℕ → Type 0) (G : List ℕ → V → Type 0) (bytes : List ℕ) (count m n : ℕ) (vs : List V)
    → Begins C bytes count m → Begins (Many G count) (drop m bytes) vs n → Begins (Counted C G) bytes vs (m + n)
Counted-found {V} C G bytes count m n vs p q =
    let e = q.spelled.0 in
    let r = Then-found C (Many G) bytes count vs m n p q in
    record { inside = r.inside; spelled = subst (λ (k : ℕ). Then C (Many G) (take (m + n) bytes) (k, vs)) (sym e) r.spelled }

pub Counted-none_many : {V : Type 0} (C : List ℕ → ℕ → Type 0) (G : List ℕ → V → Type 0) (bytes : List ℕ) (count m : ℕ)
    → IsPrefixUnique C → Begins C bytes count m → NoneBegins (Many G count) (drop m bytes) → NoneBegins (Counted C G) bytes
Counted-none_many C G bytes count m c p none front rest vs e s = Then-none_second C (Many G) bytes count m c p none front rest (length vs, vs) e s

-- ---- writing

pub Then-appends : {V W : Type 0} (G : List ℕ → V → Type 0) (H : V → List ℕ → W → Type 0) (old mid new : List ℕ) (v : V) (w : W)
    → Appends G old mid v → Appends (H v) mid new w → Appends (Then G H) old new (v, w)
Then-appends G H old mid new v w p q = record {
  bytes = p.bytes ++ q.bytes;
  joined = q.joined ∙ ap (λ l. l ++ q.bytes) p.joined ∙ append_assoc old p.bytes q.bytes;
  spelled = record { front = p.bytes; back = q.bytes; joined = refl; first = p.spelled; second = q.spelled };
}

pub Each-appends_none : {V : Type 0} (G : List ℕ → V → Type 0) (old : List ℕ) → Appends (Each G) old old []
Each-appends_none G old = record { bytes = []; joined = sym (append-nil old); spelled = refl }

pub Each-appends_more : {V : Type 0} (G : List ℕ → V → Type 0) (old mid new : List ℕ) (vs : List V) (v : V)
    → Appends (Each G) old mid vs → Appends G mid new v → Appends (Each G) old new (vs ++ v ∷ [])
Each-appends_more G old mid new vs v p q = record {
  bytes = p.bytes ++ q.bytes;
  joined = q.joined ∙ ap (λ l. l ++ q.bytes) p.joined ∙ append_assoc old p.bytes q.bytes;
  spelled = Each-push G p.bytes q.bytes vs v p.spelled q.spelled;
}

-- ---- a value of the program for the grammar's value

-- ---- a zero at the end

pub Ended-found : {V : Type 0} (G : List ℕ → V → Type 0) (bytes : List ℕ) (v : V) (m : ℕ) → Begins G bytes v m → m < length bytes → get_or bytes m 0 ≡ 0 → Begins (Ended G) bytes v (m + 1)
Ended-found G bytes v m p l z = record {
  inside = omega arith;
  spelled = record { front = take m bytes; joined = take_more bytes m 0 l ∙ ap (λ k. take m bytes ++ k ∷ []) z; spelled = p.spelled };
}

pub Ended-none : {V : Type 0} (G : List ℕ → V → Type 0) (bytes : List ℕ) → NoneBegins G bytes → NoneBegins (Ended G) bytes
Ended-none G bytes none front rest v e s = none s.front (0 ∷ rest) v (e ∙ ap (λ l. l ++ rest) s.joined ∙ append_assoc s.front (0 ∷ []) rest) s.spelled

-- after what is read stands no zero
pub Ended-none_zero : {V : Type 0} (G : List ℕ → V → Type 0) (bytes : List ℕ) (v : V) (m : ℕ) → IsPrefixUnique G → Begins G bytes v m → ((length bytes ≤ m) ⊎ (get_or bytes m 0 ≡ 0 → ⊥)) → NoneBegins (Ended G) bytes
Ended-none_zero G bytes v m g p bad front rest w e s =
    let b = after G bytes s.front (0 ∷ rest) v w m g p s.spelled (e ∙ ap (λ l. l ++ rest) s.joined ∙ append_assoc s.front (0 ∷ []) rest) in
    let n : length bytes - m ≡ suc (length rest) = sym (length-drop m bytes) ∙ ap length b.1 in
    let z : get_or bytes m 0 ≡ 0 = ap (λ k. get_or bytes k 0) (sym (add-zero m)) ∙ sym (get_or-drop m bytes 0 0) ∙ ap (λ l. get_or l 0 0) b.1 in
    elim bad [ inl short ↦ omega arith | inr other ↦ other z ]

pub Ended-unique : {V : Type 0} (G : List ℕ → V → Type 0) → IsPrefixUnique G → IsPrefixUnique (Ended G)
Ended-unique G g a b x y v w p q e =
    let l : p.front ++ (0 ∷ x) ≡ q.front ++ (0 ∷ y) = sym (append_assoc p.front (0 ∷ []) x) ∙ ap (λ l. l ++ x) (sym p.joined) ∙ e ∙ ap (λ l. l ++ y) q.joined ∙ append_assoc q.front (0 ∷ []) y in
    let r = g p.front q.front (0 ∷ x) (0 ∷ y) v w p.spelled q.spelled l in
    (p.joined ∙ ap (λ l. l ++ 0 ∷ []) r.0 ∙ sym q.joined, r.1)
