-- Distinct handlers, in the order of their first use.
use Rattle.std.proofs.Common.{◌≡◌, ℕ, ◌+◌, ◌<◌, ◌≤◌, ◌++◌, List, [], ◌∷◌, length, get_or, refl, ap, sym, ◌∙◌, arith, zero, suc, subst, Option, Some, None, inl, inr, length-append, append_assoc, append-nil, take, ◌*◌, ℤ}
use Rattle.std.specs.Prelude.{slice_get}
use Rattle.std.specs.List.{AllZip, AllByRecursion, flat_map}
use Rattle.dex_base.specs.Leb128.{Spells, SpellsSigned, Shortest}
use Rattle.code_write.specs.Fits.{catches_in}
use Rattle.std.proofs.lemmas.Bool.{cases_lt}
use Rattle.dex_base.proofs.ShortestLaws.{AllBytes}
use Rattle.dex_base.specs.Grammar.{IsPrefixUnique, Each}
use Rattle.program_types.specs.Content.{Name, Try, Catch}
use Rattle.program_types.specs.Formed.{try_at}
use Rattle.code_read.proofs.Lists.{at-old, at-new}
use Rattle.code_read.specs.Handlers.{Handler, AllBy}
use Rattle.code_read.specs.Tries.{handler_of}
use Rattle.code_read.specs.Places.{Rises}
use Rattle.code_write.specs.Packs.{IsFirstUse}
use Rattle.code_write.specs.inner.Packs.{PacksHandler, PacksCatch}
use Rattle.code_write.specs.inner.Writing.{IsHeldAs, IsDistinct, joined_keys}
use Rattle.code_write.proofs.ListLaws.{all-at}
use Rattle.dex_base.proofs.ListFacts.{zip_length, zip_more, get_last, slice_left, all_get, all_append, all_weaker}

-- ---- elements

pub zip-left : {A B : Type 0} (R : A → B → Type 0) (xs : List A) (ys : List B) (k : ℕ) (x : A) → AllZip R xs ys → slice_get xs k ≡ Some x → (y : B) × (slice_get ys k ≡ Some y) × R x y
zip-left R [] ys k x h e = absurd cc
zip-left R (a ∷ xs) [] k x h e = absurd h
zip-left R (a ∷ xs) (b ∷ ys) zero x h e = let q : a ≡ x = cc in (b, refl, subst (λ z. R z b) q h.0)
zip-left R (a ∷ xs) (b ∷ ys) (suc k) x h e = zip-left R xs ys k x h.1 e

zip-right : {A B : Type 0} (R : A → B → Type 0) (xs : List A) (ys : List B) (k : ℕ) (y : B) → AllZip R xs ys → slice_get ys k ≡ Some y → (x : A) × (slice_get xs k ≡ Some x) × R x y
zip-right R [] [] k y h e = absurd cc
zip-right R [] (b ∷ ys) k y h e = absurd h
zip-right R (a ∷ xs) [] k y h e = absurd cc
zip-right {A} {B} R (a ∷ xs) (b ∷ ys) zero y h e = let q : b ≡ y = cc in (a, refl, subst (λ (z : B). R a z) q h.0)
zip-right R (a ∷ xs) (b ∷ ys) (suc k) y h e = zip-right R xs ys k y h.1 e

-- ---- numbers that rise

all-below : (n : ℕ) (xs : List ℕ) → AllByRecursion (λ (k : ℕ). k < n) xs → AllByRecursion (λ (k : ℕ). k < n + 1) xs
all-below n = all_weaker (λ (k : ℕ). k < n) (λ (k : ℕ). k < n + 1) (λ k lt. omega arith)

rises-more : (xs : List ℕ) (x : ℕ) → Rises xs → AllByRecursion (λ (k : ℕ). k < x) xs → Rises (xs ++ x ∷ [])
rises-more xs x r h = record {
  each = λ i j lt inside.
      let n = length-append xs (x ∷ []) in
      elim (cases_lt j (length xs)) [
        | inl a ↦ let old = r.each i j lt a in omega (arith, old, at-old xs x 0 i (omega arith), at-old xs x 0 j a)
        | inr a ↦
            let e : length xs ≡ j = omega arith in
            let last : get_or (xs ++ x ∷ []) j 0 ≡ x = ap (λ (k : ℕ). get_or (xs ++ x ∷ []) k 0) (sym e) ∙ at-new xs x 0 in
            let below = all-at (λ (k : ℕ). k < x) xs i 0 h (omega arith) in
            omega (arith, last, below, at-old xs x 0 i (omega arith))
      ];
}

-- ---- lengths

joined-more : (keys : List (List ℕ)) (key : List ℕ) → joined_keys (keys ++ key ∷ []) ≡ joined_keys keys ++ key
joined-more [] key = append-nil key
joined-more (k ∷ ks) key = ap (λ (z : List ℕ). k ++ z) (joined-more ks key) ∙ sym (append_assoc k (joined_keys ks) key)

no-catches : (k : ℕ) → catches_in (take k []) ≡ 0
no-catches zero = refl
no-catches (suc k) = refl

pub catches-more : (ts : List Try) (i : ℕ) → catches_in (take (i + 1) ts) ≡ catches_in (take i ts) + length (try_at ts i).catches
catches-more [] i = omega (arith, no-catches (i + 1), no-catches i)
catches-more (t ∷ ts) zero = omega (arith, length-append t.catches (flat_map (λ (u : Try). u.catches) (take 0 ts)))
catches-more (t ∷ ts) (suc i) =
    let e : suc (i + 1) ≡ suc i + 1 = omega arith in
    subst (λ (k : ℕ). catches_in (take k (t ∷ ts)) ≡ catches_in (t ∷ take i ts) + length (try_at ts i).catches) e
    (let r = catches-more ts i in
    omega (arith, length-append t.catches (flat_map (λ (u : Try). u.catches) (take (i + 1) ts)), length-append t.catches (flat_map (λ (u : Try). u.catches) (take i ts))))

module _ (N : ℕ → Name → Type 0) (ss : List ℕ) where
  catches-most : (cs : List Catch) (a : List ℕ) → Each (PacksCatch N ss) a cs → length a ≤ 10 * length cs
  catches-most [] a h = omega (arith, ap length h)
  catches-most (c ∷ cs) a h =
      let r = catches-most cs h.1 h.4 in
      let x = h.3 in
      let f = x.first.spelled.spelled.short in let g = x.second.spelled.spelled.short in
      omega (arith, ap length h.2, length-append h.0 h.1, ap length x.joined, length-append x.front x.back)

  all-most : (z : ℤ) (o : Option ℕ) (a : List ℕ) → AllBy (Shortest Spells) (Shortest SpellsSigned) N ss z a o → length a ≤ 5
  all-most z None a h = omega (arith, ap length h.1)
  all-most z (Some n) a h = h.1.spelled.spelled.short

  pub handler-most : (a : List ℕ) (h : Handler) → PacksHandler N ss a h → length a ≤ 10 + 10 * length h.catches
  handler-most a h x =
      let s = x.spelled in
      let f = s.first.spelled.short in
      let cs : x.raw.1.0 ≡ h.catches = ap (λ (r : List Catch × Option ℕ). r.0) x.means in
      let g = catches-most x.raw.1.0 s.second.front s.second.first.1 in
      let k = all-most x.raw.0 x.raw.1.1 s.second.back s.second.second in
      omega (arith, ap length s.joined, length-append s.front s.back, ap length s.second.joined, length-append s.second.front s.second.back, ap length cs)

-- ---- a turn

module _ (N : ℕ → Name → Type 0) (ss : List ℕ) (ts : List Try)
    (unique : IsPrefixUnique (PacksHandler N ss)) (once : (a b : List ℕ) (h : Handler) → AllBytes a → AllBytes b → PacksHandler N ss a h → PacksHandler N ss b h → a ≡ b) where
  pub distinct-none : (keys : List (List ℕ)) (numbers : List ℕ) → keys ≡ [] → numbers ≡ [] → IsDistinct N ss ts 0 keys numbers
  distinct-none keys numbers e f = record {
    handlers = [];
    spelled = subst (λ (ks : List (List ℕ)). AllZip (PacksHandler N ss) ks []) (sym e) tt;
    bytes = subst (λ (ks : List (List ℕ)). AllByRecursion AllBytes ks) (sym e) tt;
    count = ap length f;
    few = omega (arith, ap length e);
    short = omega (arith, ap (λ (ks : List (List ℕ)). length (joined_keys ks)) e);
    each = λ i l. absurd (omega arith);
    order = record { firsts = []; each = tt; rise = record { each = λ i j a b. absurd (omega arith) } };
    early = tt;
  }

  pub distinct-more : (i n : ℕ) (old new : List (List ℕ)) (numbers more : List ℕ) (bytes : List ℕ) → i < length ts → IsDistinct N ss ts i old numbers → PacksHandler N ss bytes (handler_of (try_at ts i)) → AllBytes bytes
      → IsHeldAs old new bytes n → more ≡ numbers ++ n ∷ [] → IsDistinct N ss ts (i + 1) new more
  distinct-more i n old new numbers more bytes inside d p small s m = elim s.is_new [
    | inl same ↦
        let there = subst (λ (ks : List (List ℕ)). slice_get ks n ≡ Some bytes) same s.there in
        let z = zip-left (PacksHandler N ss) old d.handlers n bytes d.spelled there in
        let h = (unique bytes bytes [] [] z.0 (handler_of (try_at ts i)) z.2 p refl).1 in
        subst (λ (ks : List (List ℕ)). IsDistinct N ss ts (i + 1) ks more) (sym same) (subst (λ (ns : List ℕ). IsDistinct N ss ts (i + 1) old ns) (sym m) (record {
          handlers = d.handlers;
          spelled = d.spelled;
          bytes = d.bytes;
          count = let c = d.count in omega (arith, length-append numbers (n ∷ []));
          few = let f = d.few in omega arith;
          short = let f = d.short in let t = catches-more ts i in omega arith;
          each = numbered d.handlers (λ k x e. e) (z.1 ∙ ap (λ (x : Handler). Some x) h);
          order = d.order;
          early = all-below i d.order.firsts d.early;
        }))
    | inr fresh ↦
        let h = handler_of (try_at ts i) in
        let hs = d.handlers ++ h ∷ [] in
        let len = zip_length (PacksHandler N ss) old d.handlers d.spelled in
        let at = fresh.0 in
        subst (λ (ks : List (List ℕ)). IsDistinct N ss ts (i + 1) ks more) (sym fresh.1) (subst (λ (ns : List ℕ). IsDistinct N ss ts (i + 1) (old ++ bytes ∷ []) ns) (sym m) (record {
          handlers = hs;
          spelled = zip_more (PacksHandler N ss) old d.handlers bytes h d.spelled p;
          bytes = all_append AllBytes old (bytes ∷ []) d.bytes (small, tt);
          count = let c = d.count in omega (arith, length-append numbers (n ∷ []));
          few = let f = d.few in omega (arith, length-append old (bytes ∷ []));
          short = let f = d.short in let t = catches-more ts i in let j = joined-more old bytes in let k = handler-most N ss bytes (handler_of (try_at ts i)) p in omega (arith, ap length j, length-append (joined_keys old) bytes);
          each = numbered hs (λ k x e. slice_left d.handlers (h ∷ []) k x e) (let q : length d.handlers ≡ n = omega arith in subst (λ (k : ℕ). slice_get hs k ≡ Some h) q (get_last d.handlers h));
          order = record {
            firsts = d.order.firsts ++ i ∷ [];
            each = zip_more (IsFirstUse ts) d.handlers d.order.firsts h i d.order.each (record { inside = inside; uses = refl; first = first-here fresh.2 });
            rise = rises-more d.order.firsts i d.order.rise d.early;
          };
          early = all_append (λ (k : ℕ). k < i + 1) d.order.firsts (i ∷ []) (all-below i d.order.firsts d.early) (omega arith, tt);
        }))
  ]
    where
      -- the numbers of the tries so far, and the new one
      numbered : (hs : List Handler) → ((k : ℕ) (x : Handler) → slice_get d.handlers k ≡ Some x → slice_get hs k ≡ Some x) → slice_get hs n ≡ Some (handler_of (try_at ts i))
          → (j : ℕ) → j < i + 1 → slice_get hs (get_or (numbers ++ n ∷ []) j 0) ≡ Some (handler_of (try_at ts j))
      numbered hs keep last j l = elim (cases_lt j i) [
        | inl a ↦ let c = d.count in subst (λ (k : ℕ). slice_get hs k ≡ Some (handler_of (try_at ts j))) (sym (at-old numbers n 0 j (omega arith))) (keep (get_or numbers j 0) _ (d.each j a))
        | inr a ↦
            let c = d.count in
            let q : length numbers ≡ j = omega arith in
            let e : i ≡ j = omega arith in
            subst (λ (k : ℕ). slice_get hs (get_or (numbers ++ n ∷ []) k 0) ≡ Some (handler_of (try_at ts j))) q
            (subst (λ (k : ℕ). slice_get hs k ≡ Some (handler_of (try_at ts j))) (sym (at-new numbers n 0)) (subst (λ (k : ℕ). slice_get hs n ≡ Some (handler_of (try_at ts k))) e last))
      ]

      -- no try before has the handler of fresh bytes
      none-before : (j : ℕ) → ((k : ℕ) → slice_get old k ≡ Some bytes → ⊥) → handler_of (try_at ts j) ≡ handler_of (try_at ts i) → j < i → ⊥
      none-before j none e l =
          let z = zip-right (PacksHandler N ss) old d.handlers (get_or numbers j 0) (handler_of (try_at ts j)) d.spelled (d.each j l) in
          let b = all_get AllBytes old (get_or numbers j 0) z.0 d.bytes z.1 in
          let same = once z.0 bytes (handler_of (try_at ts i)) b small (subst (λ (x : Handler). PacksHandler N ss z.0 x) e z.2) p in
          none (get_or numbers j 0) (z.1 ∙ ap (λ (x : List ℕ). Some x) same)

      first-here : ((k : ℕ) → slice_get old k ≡ Some bytes → ⊥) → (j : ℕ) → handler_of (try_at ts j) ≡ handler_of (try_at ts i) → i ≤ j
      first-here none j e = elim (cases_lt j i) [ inl lt ↦ absurd (none-before j none e lt) | inr le ↦ le ]
