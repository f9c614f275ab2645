-- What is written of a handler is one list of bytes.
use Rattle.std.proofs.Common.{◌≡◌, ℕ, ℤ, pos, negsuc, ◌<◌, ◌++◌, List, [], ◌∷◌, length, ap, sym, ◌∙◌, arith, zero, suc, subst, Option, Some, None}
use Rattle.dex_base.specs.Grammar.{Each, IsPrefixUnique}
use Rattle.dex_base.specs.Leb128.{Spells, SpellsSigned, Shortest}
use Rattle.dex_base.proofs.ShortestLaws.{AllBytes, shortest_one, shortest_signed_one}
use Rattle.program_types.specs.Content.{Name, OfDesc, Catch}
use Rattle.code_read.proofs.PlaceLaws.{position-there}
use Rattle.code_read.specs.Handlers.{Handler, HasAll, catches_of, AllBy}
use Rattle.code_write.specs.inner.Packs.{AddressAt, PacksCatch, PacksHandler}
use Rattle.dex_base.proofs.WeakerLaws.{IsPrefixUnique-weaker, Shortest-weaker}
use Rattle.dex_base.proofs.Numbers.{spells_unique}
use Rattle.dex_base.proofs.Signed.{signed_unique}
use Rattle.tables_names.specs.Closure.{Five, AreRising, NameRanks}
use Rattle.code_read.proofs.HandlerLaws.{handler-unique}
use Rattle.code_write.proofs.RankLaws.{ranks-functional}
use Rattle.dex_base.proofs.ListFacts.{all_front, all_back}
use Rattle.tables_names.proofs.PlaceLemmas.{rank_one}

-- a name has one index
abbrev pub IsInjective : (ℕ → Name → Type 0) → Type 0
IsInjective N = (i j : ℕ) (which : Name) → N i which → N j which → i ≡ j

pub two-parts : (a f b : List ℕ) → a ≡ f ++ b → AllBytes a → AllBytes f × AllBytes b
two-parts a f b e h = let g = subst AllBytes e h in (all_front (λ (x : ℕ). x < 256) f b g, all_back (λ (x : ℕ). x < 256) f b g)

z-one : (y z : ℤ) → catches_of y ≡ catches_of z → (HasAll y → HasAll z) → (HasAll z → HasAll y) → y ≡ z
z-one (pos m) (pos n) e p q = ap (λ (k : ℕ). pos k) e
z-one (negsuc m) (negsuc n) e p q = let l : suc m ≡ suc n = e in ap (λ (k : ℕ). negsuc k) cc
z-one (pos zero) (negsuc n) e p q = absurd (omega arith)
z-one (pos (suc m)) (negsuc n) e p q = absurd (q tt)
z-one (negsuc m) (pos zero) e p q = absurd (omega arith)
z-one (negsuc m) (pos (suc n)) e p q = absurd (p tt)

module _ (N : ℕ → Name → Type 0) (ss : List ℕ) (inj : IsInjective N) where
  place-once : (a b : List ℕ) (n : ℕ) → AllBytes a → AllBytes b → AddressAt ss a n → AddressAt ss b n → a ≡ b
  place-once a b n p q x y =
      let e = (position-there ss x.raw n x.means).1 in let f = (position-there ss y.raw n y.means).1 in
      shortest_one a b x.raw p q x.spelled (subst (λ (k : ℕ). Shortest Spells b k) (sym f ∙ e) y.spelled)

  catch-once : (a b : List ℕ) (c : Catch) → AllBytes a → AllBytes b → PacksCatch N ss a c → PacksCatch N ss b c → a ≡ b
  catch-once a b c p q x y =
      let u = two-parts a x.front x.back x.joined p in let v = two-parts b y.front y.back y.joined q in
      let i = inj x.first.raw y.first.raw (OfDesc c.ty) x.first.means y.first.means in
      let f = shortest_one x.front y.front x.first.raw u.0 v.0 x.first.spelled (subst (λ (k : ℕ). Shortest Spells y.front k) (sym i) y.first.spelled) in
      let g = place-once x.back y.back c.at u.1 v.1 x.second y.second in
      x.joined ∙ (λ k. f k ++ g k) ∙ sym y.joined

  each-once : (cs : List Catch) (a b : List ℕ) → AllBytes a → AllBytes b → Each (PacksCatch N ss) a cs → Each (PacksCatch N ss) b cs → a ≡ b
  each-once [] a b p q x y = x ∙ sym y
  each-once (c ∷ cs) a b p q x y =
      let u = two-parts a x.0 x.1 x.2 p in let v = two-parts b y.0 y.1 y.2 q in
      let f = catch-once x.0 y.0 c u.0 v.0 x.3 y.3 in
      let g = each-once cs x.1 y.1 u.1 v.1 x.4 y.4 in
      x.2 ∙ (λ k. f k ++ g k) ∙ sym y.2

  all-once : (y z : ℤ) (o : Option ℕ) (a b : List ℕ) → AllBytes a → AllBytes b → AllBy (Shortest Spells) (Shortest SpellsSigned) N ss y a o → AllBy (Shortest Spells) (Shortest SpellsSigned) N ss z b o → (a ≡ b) × (HasAll y → HasAll z) × (HasAll z → HasAll y)
  all-once y z None a b p q s t = (s.1 ∙ sym t.1, λ h. absurd (s.0 h), λ h. absurd (t.0 h))
  all-once y z (Some n) a b p q s t = (place-once a b n p q s.1 t.1, λ h. t.0, λ h. s.0)

  pub handler-once : (a b : List ℕ) (h : Handler) → AllBytes a → AllBytes b → PacksHandler N ss a h → PacksHandler N ss b h → a ≡ b
  handler-once a b h p q x y =
      let s = x.spelled in let t = y.spelled in
      let u = two-parts a s.front s.back s.joined p in let v = two-parts b t.front t.back t.joined q in
      let m = two-parts s.back s.second.front s.second.back s.second.joined u.1 in let n = two-parts t.back t.second.front t.second.back t.second.joined v.1 in
      let cs : x.raw.1.0 ≡ h.catches = ap (λ (r : List Catch × Option ℕ). r.0) x.means in
      let ds : y.raw.1.0 ≡ h.catches = ap (λ (r : List Catch × Option ℕ). r.0) y.means in
      let os : x.raw.1.1 ≡ h.all = ap (λ (r : List Catch × Option ℕ). r.1) x.means in
      let ps : y.raw.1.1 ≡ h.all = ap (λ (r : List Catch × Option ℕ). r.1) y.means in
      let f = each-once h.catches s.second.front t.second.front m.0 n.0 (subst (λ (l : List Catch). Each (PacksCatch N ss) s.second.front l) cs s.second.first.1) (subst (λ (l : List Catch). Each (PacksCatch N ss) t.second.front l) ds t.second.first.1) in
      let g = all-once x.raw.0 y.raw.0 h.all s.second.back t.second.back m.1 n.1 (subst (λ (o : Option ℕ). AllBy (Shortest Spells) (Shortest SpellsSigned) N ss x.raw.0 s.second.back o) os s.second.second) (subst (λ (o : Option ℕ). AllBy (Shortest Spells) (Shortest SpellsSigned) N ss y.raw.0 t.second.back o) ps t.second.second) in
      let z = z-one x.raw.0 y.raw.0 (sym s.second.first.0 ∙ ap length cs ∙ sym (ap length ds) ∙ t.second.first.0) g.1 g.2 in
      let e = shortest_signed_one s.front t.front x.raw.0 u.0 v.0 s.first (subst (λ (k : ℤ). Shortest SpellsSigned t.front k) (sym z) t.first) in
      s.joined ∙ (λ k. e k ++ (s.second.joined k)) ∙ (λ k. t.front ++ (f k ++ g.0 k)) ∙ (λ k. t.front ++ sym t.second.joined k) ∙ sym t.joined

-- ---- over ranks

pub ranks-injective : (ranks : Five) → AreRising ranks → IsInjective (NameRanks ranks)
ranks-injective ranks r i j which p q = rank_one ranks i j which r p q

pub packs-unique : (ranks : Five) (ss : List ℕ) → IsPrefixUnique (PacksHandler (NameRanks ranks) ss)
packs-unique ranks ss =
    handler-unique (Shortest Spells) (Shortest SpellsSigned) (NameRanks ranks) ss
    (IsPrefixUnique-weaker (Shortest Spells) Spells (Shortest-weaker Spells) spells_unique)
    (IsPrefixUnique-weaker (Shortest SpellsSigned) SpellsSigned (Shortest-weaker SpellsSigned) signed_unique) (ranks-functional ranks)
