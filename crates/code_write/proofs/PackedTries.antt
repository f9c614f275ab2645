-- What is written of tries keeps the rules of what is read, and spells them.
use Rattle.std.proofs.Common.{◌≡◌, ◌≢◌, ℕ, ◌+◌, ◌-◌, ◌*◌, ◌<◌, ◌≤◌, ◌++◌, List, [], ◌∷◌, length, get_or, refl, ap, sym, ◌∙◌, arith, zero, suc, subst, Some, None, inl, inr, length-append, ℤ}
use Rattle.std.proofs.lemmas.Bool.{cases_lt}
use Rattle.std.proofs.lemmas.Bool.Decides.{nat_tests}
use Rattle.std.proofs.lemmas.List.{drop_at, get_or_past}
use Rattle.dex_base.specs.Leb128.{Spells, SpellsSigned, Shortest}
use Rattle.dex_base.specs.Fields.{u16_at, u32_at, u16_bytes, u32_bytes}
use Rattle.dex_base.proofs.FieldBounds.{u32_at-append, u16_at-drop, length-u32_bytes}
use Rattle.dex_base.proofs.PlacedLaws.{Placed-weaker}
use Rattle.dex_base.proofs.WeakerLaws.{Implies, Shortest-weaker, Then-weaker, Pair-weaker, Many-weaker}
use Rattle.program_types.specs.Content.{Name, Try, Insn}
use Rattle.program_types.specs.Formed.{try_at, TryFormed}
use Rattle.program_types.specs.Sizes.{addresses_of, length_of}
use Rattle.code_read.specs.Places.{position, count_below}
use Rattle.code_read.proofs.PlaceLaws.{count-is}
use Rattle.code_read.specs.Item.{try_start, try_count, try_handler}
use Rattle.code_read.specs.Handlers.{Handler, AddressBy, TypeBy, CatchBy, AllBy, PartsBy, SpellsHandlers, PacksHandlers, catches_of, handler_at}
use Rattle.code_read.specs.inner.Handlers.{SpellsHandler}
use Rattle.code_read.specs.Tries.{TryHolds, SpellsTries}
use Rattle.code_write.specs.Fits.{TryFits}
use Rattle.code_write.specs.Packs.{PacksHandlersOf, bound_of, covered, item_bytes, items_bytes}
use Rattle.code_write.specs.inner.Packs.{PacksHandler}
use Rattle.code_write.proofs.HandlerPacks.{position-own}
use Rattle.code_write.proofs.FormLaws.{addresses-rise, length-addresses, address-low}

-- ---- fields of try_items

pub length-u16_bytes : (n : ℕ) → length (u16_bytes n) ≡ 2
unfolding u16_bytes
length-u16_bytes n = refl

pub u16_at-append : (xs ys : List ℕ) (k p : ℕ) → length xs ≡ k → u16_at (xs ++ ys) (k + p) ≡ u16_at ys p
u16_at-append xs ys k p e = sym (u16_at-drop (xs ++ ys) k p) ∙ ap (λ (l : List ℕ). u16_at l p) (drop_at xs ys k e)

pub item-length : (size : ℕ) (ss : List ℕ) (t : Try) (off : ℕ) → length (item_bytes size ss t off) ≡ 8
item-length size ss t off =
    let a = u32_bytes (get_or ss t.from 0) in let b = u16_bytes (covered size ss t) in let c = u16_bytes off in
    omega (arith, length-append (a ++ b) c, length-append a b, length-u32_bytes (get_or ss t.from 0), length-u16_bytes (covered size ss t), length-u16_bytes off)

pub items-length : (size : ℕ) (ss : List ℕ) (ts : List Try) (offs : List ℕ) → length offs ≡ length ts → length (items_bytes size ss ts offs) ≡ 8 * length ts
items-length size ss [] offs e = refl
items-length size ss (t ∷ ts) [] e = absurd (omega arith)
items-length size ss (t ∷ ts) (o ∷ offs) e =
    let r = items-length size ss ts offs (omega arith) in
    omega (arith, length-append (item_bytes size ss t o) (items_bytes size ss ts offs), item-length size ss t o)

-- the three fields of the first item
record Firsts (size : ℕ) (ss : List ℕ) (t : Try) (off : ℕ) (rest : List ℕ) : Type 0 where
  start : u32_at (item_bytes size ss t off ++ rest) 0 ≡ get_or ss t.from 0
  count : u16_at (item_bytes size ss t off ++ rest) 4 ≡ covered size ss t
  handler : u16_at (item_bytes size ss t off ++ rest) 6 ≡ off

covered-small : (size : ℕ) (ss : List ℕ) (t : Try) → covered size ss t < 65536
covered-small size ss t = omega arith

firsts : (size : ℕ) (ss : List ℕ) (t : Try) (off : ℕ) (rest : List ℕ) → get_or ss t.from 0 ≤ 4294967295 → off < 65536 → Firsts size ss t off rest
unfolding u16_at u32_at u16_bytes u32_bytes
firsts size ss t off rest l m = let c = covered-small size ss t in record { start = omega arith; count = omega arith; handler = omega arith }

record Fields (size : ℕ) (ss : List ℕ) (ts : List Try) (offs : List ℕ) (i : ℕ) : Type 0 where
  start : try_start (items_bytes size ss ts offs) i ≡ get_or ss (try_at ts i).from 0
  count : try_count (items_bytes size ss ts offs) i ≡ covered size ss (try_at ts i)
  handler : try_handler (items_bytes size ss ts offs) i ≡ get_or offs i 0

fields : (size : ℕ) (ss : List ℕ) (ts : List Try) (offs : List ℕ) (i : ℕ) → length offs ≡ length ts → i < length ts → ((k : ℕ) → get_or ss k 0 ≤ 4294967295) → ((k : ℕ) → k < length offs → get_or offs k 0 < 65536) → Fields size ss ts offs i
fields size ss [] offs i e l low near = absurd (omega arith)
fields size ss (t ∷ ts) [] i e l low near = absurd (omega arith)
fields size ss (t ∷ ts) (o ∷ offs) zero e l low near =
    let f = firsts size ss t o (items_bytes size ss ts offs) (low t.from) (near zero (omega arith)) in
    record { start = f.start; count = f.count; handler = f.handler }
fields size ss (t ∷ ts) (o ∷ offs) (suc i) e l low near =
    let r = fields size ss ts offs i (omega arith) (omega arith) low (λ k m. near (suc k) (omega arith)) in
    let item = item_bytes size ss t o in let rest = items_bytes size ss ts offs in
    let n = item-length size ss t o in
    let a : 8 * suc i ≡ 8 + 8 * i = omega arith in
    let b : 8 * suc i + 4 ≡ 8 + (8 * i + 4) = omega arith in
    let c : 8 * suc i + 6 ≡ 8 + (8 * i + 6) = omega arith in
    record {
      start = ap (u32_at (item ++ rest)) a ∙ u32_at-append item rest 8 (8 * i) n ∙ r.start;
      count = ap (u16_at (item ++ rest)) b ∙ u16_at-append item rest 8 (8 * i + 4) n ∙ r.count;
      handler = ap (u16_at (item ++ rest)) c ∙ u16_at-append item rest 8 (8 * i + 6) n ∙ r.handler;
    }

-- ---- handlers: what is packed is spelled

module _ (N : ℕ → Name → Type 0) (ss : List ℕ) where
  place-weaker : Implies (AddressBy (Shortest Spells) (Shortest SpellsSigned) N ss) (AddressBy Spells SpellsSigned N ss)
  place-weaker bytes n p = record { raw = p.raw; spelled = p.spelled.spelled; means = p.means }

  type-weaker : Implies (TypeBy (Shortest Spells) (Shortest SpellsSigned) N ss) (TypeBy Spells SpellsSigned N ss)
  type-weaker bytes n p = record { raw = p.raw; spelled = p.spelled.spelled; means = p.means }

  catch-weaker : Implies (CatchBy (Shortest Spells) (Shortest SpellsSigned) N ss) (CatchBy Spells SpellsSigned N ss)
  catch-weaker bytes c p =
      Pair-weaker (TypeBy (Shortest Spells) (Shortest SpellsSigned) N ss) (TypeBy Spells SpellsSigned N ss) (AddressBy (Shortest Spells) (Shortest SpellsSigned) N ss) (AddressBy Spells SpellsSigned N ss) type-weaker place-weaker bytes (c.ty, c.at) p

  all-weaker : (z : ℤ) → Implies (AllBy (Shortest Spells) (Shortest SpellsSigned) N ss z) (AllBy Spells SpellsSigned N ss z)
  all-weaker z bytes None p = p
  all-weaker z bytes (Some n) p = (p.0, place-weaker bytes n p.1)

  handler-weaker : Implies (PacksHandler N ss) (SpellsHandler N ss)
  handler-weaker bytes h p = record {
    raw = p.raw;
    spelled = Then-weaker (Shortest SpellsSigned) SpellsSigned (PartsBy (Shortest Spells) (Shortest SpellsSigned) N ss) (PartsBy Spells SpellsSigned N ss) (Shortest-weaker SpellsSigned)
        (λ z. Pair-weaker _ _ _ _ (Many-weaker (CatchBy (Shortest Spells) (Shortest SpellsSigned) N ss) (CatchBy Spells SpellsSigned N ss) (catches_of z) catch-weaker) (all-weaker z)) bytes p.raw p.spelled;
    means = p.means;
  }

  pub handlers-weaker : (n : ℕ) (bytes : List ℕ) (hs : List (ℕ × Handler)) → PacksHandlers N ss n bytes hs → SpellsHandlers N ss n bytes hs
  handlers-weaker zero bytes hs p = p
  handlers-weaker (suc n) bytes hs p = record {
    front = p.front;
    back = p.back;
    joined = p.joined;
    count = p.count.spelled;
    each = Placed-weaker (PacksHandler N ss) (SpellsHandler N ss) handler-weaker (length p.front) p.back hs p.each;
  }

-- ---- tries

module _ (is : List Insn) (ts : List Try) (formed : (i : ℕ) → i < length ts → TryFormed (length is) ts i) (fit : (i : ℕ) → i < length ts → TryFits (addresses_of is) ts i) where
  ss : List ℕ
  ss = addresses_of is

  at : ℕ → ℕ
  at k = get_or (addresses_of is) k 0

  bound-same : (k : ℕ) → k < length is → bound_of (length_of is) (addresses_of is) k ≡ get_or (addresses_of is) k 0
  bound-same k l = let n = length-addresses is in let ne : k ≢ length (addresses_of is) = (λ e. omega arith) in grind (arith, nat_tests)

  bound-all : (k : ℕ) → k ≤ length is → bound_of (length_of is) (addresses_of is) k ≤ length_of is
  bound-all k l = elim (cases_lt k (length is)) [
    | inl a ↦ let n = length-addresses is in let t = address-low is k (omega arith) in let b = bound-same k a in omega arith
    | inr a ↦ let n = length-addresses is in let e : k ≡ length (addresses_of is) = omega arith in bound-end k e
  ]
    where
      bound-end : (j : ℕ) → j ≡ length (addresses_of is) → bound_of (length_of is) (addresses_of is) j ≤ length_of is
      bound-end j e = grind (arith, nat_tests)

  -- an instruction before a bound begins before it
  bound-above : (j k : ℕ) → j < k → k ≤ length is → get_or (addresses_of is) j 0 < bound_of (length_of is) (addresses_of is) k
  bound-above j k p l = elim (cases_lt k (length is)) [
    | inl a ↦ let n = length-addresses is in let r = (addresses-rise is).each j k p (omega arith) in let b = bound-same k a in omega arith
    | inr a ↦ let n = length-addresses is in let t = address-low is j (omega arith) in let e : k ≡ length (addresses_of is) = omega arith in bound-end k t e
  ]
    where
      bound-end : (m : ℕ) → get_or (addresses_of is) j 0 < length_of is → m ≡ length (addresses_of is) → get_or (addresses_of is) j 0 < bound_of (length_of is) (addresses_of is) m
      bound-end m t e = grind (arith, nat_tests)

  -- and one at or after it doesn't
  bound-below : (j k : ℕ) → k ≤ j → j < length is → bound_of (length_of is) (addresses_of is) k ≤ get_or (addresses_of is) j 0
  bound-below j k p l = elim (cases_lt k j) [
    | inl a ↦ let n = length-addresses is in let r = (addresses-rise is).each k j a (omega arith) in let b = bound-same k (omega arith) in omega arith
    | inr a ↦ let e : k ≡ j = omega arith in subst (λ (m : ℕ). bound_of (length_of is) (addresses_of is) m ≤ get_or (addresses_of is) j 0) (sym e) (let b = bound-same j l in omega arith)
  ]

  try-holds : (items : List ℕ) → ((i : ℕ) → i < length ts → (try_start items i ≡ at (try_at ts i).from) × (try_count items i ≡ covered (length_of is) (addresses_of is) (try_at ts i)))
      → (i : ℕ) → i < length ts → TryHolds (addresses_of is) (length_of is) items i
  unfolding at
  try-holds items f i l =
      let t = try_at ts i in
      let n = length-addresses is in
      let o = formed i l in
      let some = o.some in let within = o.within in
      let g = f i l in
      let g0 = g.0 in let g1 = g.1 in
      let up = bound-above t.from t.to o.some o.within in
      let all = bound-all t.to o.within in
      record {
        begins = (t.from, subst (λ (a : ℕ). position (addresses_of is) a ≡ Some t.from) (sym g.0) (position-own (addresses_of is) t.from (addresses-rise is) (omega arith)));
        some = omega arith;
        within = omega arith;
        after = λ j e.
            let p = f j (omega arith) in
            let p0 = p.0 in let p1 = p.1 in
            let b = o.after j e in
            let q = (formed j (omega arith)).some in
            let u = bound-above (try_at ts j).from (try_at ts j).to q (formed j (omega arith)).within in
            let w = bound-below t.from (try_at ts j).to b (omega arith) in
            omega arith;
      }

  try-to : (i : ℕ) → i < length ts → (try_at ts i).to ≡ count_below (at (try_at ts i).from + covered (length_of is) (addresses_of is) (try_at ts i)) (addresses_of is)
  unfolding at
  try-to i l =
      let t = try_at ts i in
      let n = length-addresses is in
      let o = formed i l in
      let some = o.some in let within = o.within in
      let up = bound-above t.from t.to o.some o.within in
      let h = fit i l in
      count-is (addresses_of is) (get_or (addresses_of is) t.from 0 + covered (length_of is) (addresses_of is) t) t.to (omega arith)
      (λ k a.
      let b = bound-above k t.to a o.within in
      let last : get_or (addresses_of is) k 0 ≤ get_or (addresses_of is) (t.to - 1) 0 = below-last k (t.to - 1) (omega arith) (omega arith) in
      omega arith)
      (λ k a b. let c = bound-below k t.to a (omega arith) in omega arith)
    where
      below-last : (k m : ℕ) → k ≤ m → m < length is → get_or (addresses_of is) k 0 ≤ get_or (addresses_of is) m 0
      below-last k m p q = elim (cases_lt k m) [
        | inl a ↦ let n = length-addresses is in let r = (addresses-rise is).each k m a (omega arith) in omega arith
        | inr a ↦ let e : k ≡ m = omega arith in subst (λ (x : ℕ). get_or (addresses_of is) k 0 ≤ get_or (addresses_of is) x 0) e (omega arith)
      ]

  pub tries-spelled : (N : ℕ → Name → Type 0) (list offs : List ℕ) → PacksHandlersOf N (addresses_of is) ts list offs → length_of is ≤ 4294967295 → ((k : ℕ) → k < length offs → get_or offs k 0 < 65536)
      → SpellsTries N (addresses_of is) (length_of is) (length ts) (items_bytes (length_of is) (addresses_of is) ts offs) list ts
  unfolding at
  tries-spelled N list offs h few near =
      let items = items_bytes (length_of is) (addresses_of is) ts offs in
      let low : (k : ℕ) → get_or (addresses_of is) k 0 ≤ 4294967295 = low-at in
      let f : (i : ℕ) → i < length ts → Fields (length_of is) (addresses_of is) ts offs i = λ i l. fields (length_of is) (addresses_of is) ts offs i h.offsets.count l low near in
      record {
        count = refl;
        hold = try-holds items (λ i l. ((f i l).start, (f i l).count));
        handlers = h.handlers;
        spelled = handlers-weaker N (addresses_of is) (length ts) list h.handlers h.spelled;
        each = λ i l.
            let g = f i l in
            let t = try_at ts i in
            let n = length-addresses is in
            let o = formed i l in
            let some = o.some in let within = o.within in
            record {
              from = subst (λ (a : ℕ). position (addresses_of is) a ≡ Some t.from) (sym g.start) (position-own (addresses_of is) t.from (addresses-rise is) (omega arith));
              to = try-to i l ∙ (λ j. count_below (sym g.start j + sym g.count j) (addresses_of is));
              handler = ap (handler_at h.handlers) g.handler ∙ h.offsets.each i l;
            };
      }
    where
      low-at : (k : ℕ) → get_or (addresses_of is) k 0 ≤ 4294967295
      low-at k = elim (cases_lt k (length (addresses_of is))) [
        | inl a ↦ let t = address-low is k a in omega arith
        | inr a ↦ let z : get_or (addresses_of is) k 0 ≡ 0 = get_or_past (addresses_of is) k 0 (omega arith) in omega arith
      ]
