-- Handlers are spelled in one way: no spelling of one begins another, and it spells one.
use Rattle.std.proofs.Common.{◌≡◌, ℕ, ℤ, ◌++◌, List, length, refl, ap, sym, ◌∙◌, subst, Option, Some, None}
use Rattle.dex_base.specs.Grammar.{IsPrefixUnique, Then, Many, Placed}
use Rattle.dex_base.proofs.GrammarLaws.{Then-unique, Pair-unique, Many-unique, regrouped, rest_same}
use Rattle.dex_base.proofs.ViaLaws.{Via-unique}
use Rattle.dex_base.proofs.PlacedLaws.{Placed-unique}
use Rattle.dex_base.proofs.Numbers.{spells_unique}
use Rattle.dex_base.proofs.Signed.{signed_unique}
use Rattle.program_types.specs.Content.{Catch, Name, OfDesc, Descriptor}
use Rattle.code_read.specs.Places.{position}
use Rattle.code_read.specs.inner.Symbols.{IsFunctional}
use Rattle.dex_insn.specs.declared.opcode.IndexKind.TheVariants as kind
use Rattle.code_read.specs.Handlers.{Handler, catches_of, AddressBy, TypeBy, CatchBy, AllBy, PartsBy, HandlerBy, ListBy, SpellsList}
use Rattle.dex_base.proofs.ListFacts.{some_one}

desc_one : (s t : Descriptor) → OfDesc s ≡ OfDesc t → s ≡ t
desc_one s t e = cc

-- a catch as a pair
abbrev pair : Catch → Descriptor × ℕ
pair c = (c.ty, c.at)

catch_same : (c d : Catch) → pair c ≡ pair d → c ≡ d
catch_same c d e = λ i. record { ty = (e i).0; at = (e i).1 }

-- a handler as a pair
abbrev parts : Handler → List Catch × Option ℕ
parts h = (h.catches, h.all)

handler_same : (p : List Catch × Option ℕ) (h g : Handler) → p ≡ parts h → p ≡ parts g → h ≡ g
handler_same p h g e f = let s : parts h ≡ parts g = sym e ∙ f in λ i. record { catches = (s i).0; all = (s i).1 }

module _ (U : List ℕ → ℕ → Type 0) (S : List ℕ → ℤ → Type 0) (N : ℕ → Name → Type 0) (ss : List ℕ) (u : IsPrefixUnique U) (s : IsPrefixUnique S) (f : IsFunctional N) where
  pub place-unique : IsPrefixUnique (AddressBy U S N ss)
  place-unique = Via-unique U (λ address n. position ss address ≡ Some n) u (λ a m n p q. some_one (position ss a) m n p q)

  pub type-unique : IsPrefixUnique (TypeBy U S N ss)
  type-unique = Via-unique U (λ i ty. N i (OfDesc ty)) u (λ i m n p q. desc_one m n (f kind.Type i (OfDesc m) (OfDesc n) tt tt p q))

  pub catch-unique : IsPrefixUnique (CatchBy U S N ss)
  catch-unique a b x y c d p q e =
      let r = Pair-unique (TypeBy U S N ss) (AddressBy U S N ss) type-unique place-unique a b x y (pair c) (pair d) p q e in
      (r.0, catch_same c d r.1)

  pub all-unique : (z : ℤ) → IsPrefixUnique (AllBy U S N ss z)
  all-unique z a b x y None None p q e = (p.1 ∙ sym q.1, refl)
  all-unique z a b x y None (Some n) p q e = absurd (p.0 q.0)
  all-unique z a b x y (Some m) None p q e = absurd (q.0 p.0)
  all-unique z a b x y (Some m) (Some n) p q e = let r = place-unique a b x y m n p.1 q.1 e in (r.0, ap Some r.1)

  pub parts-unique : (z : ℤ) → IsPrefixUnique (PartsBy U S N ss z)
  parts-unique z = Pair-unique (Many (CatchBy U S N ss) (catches_of z)) (AllBy U S N ss z) (Many-unique (CatchBy U S N ss) (catches_of z) catch-unique) (all-unique z)

  pub handler-unique : IsPrefixUnique (HandlerBy U S N ss)
  handler-unique = Via-unique (Then S (PartsBy U S N ss)) (λ p h. p.1 ≡ parts h) (Then-unique S (PartsBy U S N ss) s parts-unique) (λ p h g a b. handler_same p.1 h g a b)

  pub list-unique : IsPrefixUnique (ListBy U S N ss)
  list-unique a b x y hs gs p q e =
      let r = regrouped a p.front p.back b q.front q.back x y p.joined q.joined e in
      let one = u p.front q.front (p.back ++ x) (q.back ++ y) (length hs) (length gs) p.count q.count r in
      let there : Placed (HandlerBy U S N ss) (length p.front) q.back gs = subst (λ (l : List ℕ). Placed (HandlerBy U S N ss) (length l) q.back gs) (sym one.0) q.each in
      let two = Placed-unique (HandlerBy U S N ss) handler-unique (length p.front) hs gs p.back q.back x y one.1 p.each there (rest_same p.front q.front (p.back ++ x) (q.back ++ y) one.0 r) in
      let i = one.0 in let j = two.0 in let k = p.joined in let l = q.joined in
      (cc, two.1)

pub SpellsList-unique : (N : ℕ → Name → Type 0) (ss : List ℕ) → IsFunctional N → IsPrefixUnique (SpellsList N ss)
SpellsList-unique N ss f = list-unique _ _ N ss spells_unique signed_unique f
