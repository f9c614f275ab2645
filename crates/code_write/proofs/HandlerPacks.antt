-- Handlers, appended piece by piece.
use Rattle.std.proofs.Common.{◌≡◌, ◌≢◌, ℕ, ℤ, pos, ◌<◌, ◌≤◌, ◌++◌, List, [], ◌∷◌, length, get_or, refl, ap, sym, ◌∙◌, arith, zero, suc, subst, Option, Some, None, append-nil}
use Rattle.std.specs.Prelude.{neg_ℤ, ◌-ℤ◌, IfSome, IfNone}
use Rattle.std.proofs.lemmas.Int.{ints}
use mir.Val.{to_z, of_z}
use mir.Syntax.{w32}
use Rattle.dex_base.specs.Grammar.{Appends, Then, Many, Each}
use Rattle.dex_base.specs.Via.{Via}
use Rattle.dex_base.specs.Leb128.{Spells, SpellsSigned, Shortest}
use Rattle.dex_base.proofs.GrammarLaws.{Then-appends}
use Rattle.program_types.specs.Content.{Name, OfDesc, Catch}
use Rattle.code_read.specs.Places.{Rises, position}
use Rattle.code_read.proofs.PlaceLaws.{position-is}
use Rattle.code_read.specs.Handlers.{Handler, HasAll, catches_of, TypeBy, AllBy, PartsBy}
use Rattle.code_write.specs.inner.Packs.{AddressAt, PacksCatch, PacksHandler}

-- an instruction's own address
pub position-own : (ss : List ℕ) (n : ℕ) → Rises ss → n < length ss → position ss (get_or ss n 0) ≡ Some n
position-own ss n r l = position-is ss (get_or ss n 0) n l refl (λ k m f. let q = r.each k n m l in absurd (omega arith))

pub via-appends : {U V : Type 0} (G : List ℕ → U → Type 0) (R : U → V → Type 0) (old new : List ℕ) (u : U) (v : V) → Appends G old new u → R u v → Appends (Via G R) old new v
via-appends G R old new u v p r = record { bytes = p.bytes; joined = p.joined; spelled = record { raw = u; spelled = p.spelled; means = r } }

module _ (N : ℕ → Name → Type 0) (ss : List ℕ) where
  pub catch-appends : (old mid new : List ℕ) (index : ℕ) (c : Catch) → Appends (Shortest Spells) old mid index → N index (OfDesc c.ty) → Appends (AddressAt ss) mid new c.at → Appends (PacksCatch N ss) old new c
  catch-appends old mid new index c p n q =
      let t = via-appends (Shortest Spells) (λ i ty. N i (OfDesc ty)) old mid index c.ty p n in
      let a = Then-appends (TypeBy (Shortest Spells) (Shortest SpellsSigned) N ss) (λ _. AddressAt ss) old mid new c.ty c.at t q in
      record { bytes = a.bytes; joined = a.joined; spelled = a.spelled }

  pub all-none : (z : ℤ) (old : List ℕ) → (HasAll z → ⊥) → Appends (AllBy (Shortest Spells) (Shortest SpellsSigned) N ss z) old old None
  all-none z old lacks = record { bytes = []; joined = sym (append-nil old); spelled = (lacks, refl) }

  pub all-some : (z : ℤ) (old new : List ℕ) (n : ℕ) → HasAll z → Appends (AddressAt ss) old new n → Appends (AllBy (Shortest Spells) (Shortest SpellsSigned) N ss z) old new (Some n)
  all-some z old new n has p = record { bytes = p.bytes; joined = p.joined; spelled = (has, p.spelled) }

  pub handler-appends : (old a b new : List ℕ) (z : ℤ) (h : Handler) → catches_of z ≡ length h.catches → Appends (Shortest SpellsSigned) old a z → Appends (Each (PacksCatch N ss)) a b h.catches
      → Appends (AllBy (Shortest Spells) (Shortest SpellsSigned) N ss z) b new h.all → Appends (PacksHandler N ss) old new h
  handler-appends old a b new z h e p q r =
      let m : Appends (Many (PacksCatch N ss) (catches_of z)) a b h.catches = record { bytes = q.bytes; joined = q.joined; spelled = (sym e, q.spelled) } in
      let parts = Then-appends (Many (PacksCatch N ss) (catches_of z)) (λ _. AllBy (Shortest Spells) (Shortest SpellsSigned) N ss z) a b new h.catches h.all m r in
      let all = Then-appends (Shortest SpellsSigned) (PartsBy (Shortest Spells) (Shortest SpellsSigned) N ss) old a new z (h.catches, h.all) p parts in
      via-appends (Then (Shortest SpellsSigned) (PartsBy (Shortest Spells) (Shortest SpellsSigned) N ss)) (λ x y. x.1 ≡ (y.catches, y.all)) old new (z, (h.catches, h.all)) h all refl

  lacks : (n : ℕ) → 0 < n → HasAll (pos n) → ⊥
  lacks zero l h = omega arith
  lacks (suc n) l h = h

  pub handler-without : (old a b : List ℕ) (n : ℕ) (h : Handler) → h.all ≡ None → h.catches ≢ [] → n ≡ length h.catches → Appends (Shortest SpellsSigned) old a (pos n) → Appends (Each (PacksCatch N ss)) a b h.catches → Appends (PacksHandler N ss) old b h
  handler-without old a b n h none some e p q =
      handler-appends old a b b (pos n) h e p q
      (subst (λ (o : Option ℕ). Appends (AllBy (Shortest Spells) (Shortest SpellsSigned) N ss (pos n)) b b o) (sym none) (all-none (pos n) b (lacks n (let l = long h.catches some in omega arith))))
    where
      long : (cs : List Catch) → cs ≢ [] → 0 < length cs
      long [] f = absurd (f refl)
      long (c ∷ cs) f = omega arith

  has : (n : ℕ) → HasAll (neg_ℤ (pos n))
  has zero = tt
  has (suc n) = tt

  size : (n : ℕ) → catches_of (neg_ℤ (pos n)) ≡ n
  size zero = refl
  size (suc n) = refl

  pub handler-with : (old a b new : List ℕ) (n at : ℕ) (h : Handler) → h.all ≡ Some at → n ≡ length h.catches → Appends (Shortest SpellsSigned) old a (neg_ℤ (pos n)) → Appends (Each (PacksCatch N ss)) a b h.catches
      → Appends (AddressAt ss) b new at → Appends (PacksHandler N ss) old new h
  handler-with old a b new n at h some e p q r =
      handler-appends old a b new (neg_ℤ (pos n)) h (size n ∙ e) p q
      (subst (λ (o : Option ℕ). Appends (AllBy (Shortest Spells) (Shortest SpellsSigned) N ss (neg_ℤ (pos n))) b new o) (sym some) (all-some (neg_ℤ (pos n)) b new at (has n) r))

-- ---- counts as signed numbers

pub small : (n : ℕ) → n ≤ 2147483647 → to_z w32 n ≡ pos n
small n l = omega (arith, ints)

pub minus : (n : ℕ) → n ≤ 2147483647 → to_z w32 (of_z w32 (pos 0 -ℤ to_z w32 n)) ≡ neg_ℤ (pos n)
minus n l = omega (arith, ints)

pub if-some : (P : ℕ → Type 0) (o : Option ℕ) (n : ℕ) → o ≡ Some n → IfSome o P → P n
if-some P None n e h = absurd cc
if-some P (Some m) n e h = let f : m ≡ n = cc in subst P f h

pub if-none : (P : Type 0) (o : Option ℕ) → o ≡ None → IfNone o P → P
if-none P None e h = h
if-none P (Some m) e h = absurd cc

-- what is appended to nothing is all that there is
pub alone : {V : Type 0} (G : List ℕ → V → Type 0) (old new : List ℕ) (v : V) → old ≡ [] → Appends G old new v → G new v
alone {V} G old new v e p = subst (λ (l : List ℕ). G l v) (sym (p.joined ∙ ap (λ (l : List ℕ). l ++ p.bytes) e)) p.spelled
