-- For each name in a code that stands an index stands.
use Rattle.std.proofs.Common.{◌≡◌, ℕ, zero, suc, ◌+◌, ◌<◌, List, [], ◌∷◌, Option, Some, None, length, get_or, subst, arith, if◌then◌else◌, ◌==◌, Bool, true, false}
use Rattle.std.specs.List.{AllByRecursion, flat_map}
use Rattle.dex_base.specs.Grammar.{Each, Placed}
use Rattle.dex_insn.specs.Raw.{Raw}
use Rattle.program_types.specs.Content.{Name, OfDesc, Catch, Insn, Try, Code}
use Rattle.program_types.specs.Content as made
use Rattle.program_types.specs.Formed.{insn_at, try_at}
use Rattle.program_types.specs.Mentions.{names_of_insn, names_of_try, names_of_code}
use Rattle.tables_rows.specs.Stands.{NameStands}
use Rattle.tables_rows.specs.Stands.{HasRow}
use Rattle.code_read.specs.Walk.{raw_at}
use Rattle.code_read.specs.Symbols.{name_in}
use Rattle.code_read.specs.Linked.{SpellsInsns}
use Rattle.code_read.specs.Handlers.{Handler, SpellsHandlers, handler_at}
use Rattle.code_read.specs.inner.Handlers.{SpellsCatch, SpellsHandler}
use Rattle.code_read.specs.Tries.{SpellsTries, handler_of}
use Rattle.code_read.specs.Code.{SpellsBody, CodeStands}
use Rattle.code_read.proofs.ResolvedLaws.{names-said}
use Rattle.dex_base.proofs.ListFacts.{all_map, all_append}

-- what holds in each part holds in all of them
all-flat : {A B : Type 0} (P : B → Type 0) (f : A → List B) (xs : List A) (d : A) → ((k : ℕ) → k < length xs → AllByRecursion P (f (get_or xs k d))) → AllByRecursion P (flat_map f xs)
all-flat P f [] d h = tt
all-flat P f (x ∷ xs) d h = all_append P (f x) (flat_map f xs) (h zero (omega arith)) (all-flat P f xs d (λ k l. h (suc k) (omega (arith, l))))

-- ---- handlers

-- what holds of each handler that is spelled holds of the one at an offset
found-case : (P : Handler → Type 0) (t : Bool) (g h : Handler) (rest : Option Handler) → (if t then Some g else rest) ≡ Some h → P g → (rest ≡ Some h → P h) → P h
found-case P true g h rest e p q = let s : g ≡ h = cc in subst P s p
found-case P false g h rest e p q = q e

pub at-offset : (G : List ℕ → Handler → Type 0) (P : Handler → Type 0) → ((front : List ℕ) (h : Handler) → G front h → P h) → (at : ℕ) (bytes : List ℕ) (hs : List (ℕ × Handler)) → Placed G at bytes hs → (off : ℕ) (h : Handler) → handler_at hs off ≡ Some h → P h
unfolding handler_at
at-offset G P f at bytes [] s off h e = absurd cc
at-offset G P f at bytes (p ∷ ps) s off h e = found-case P (p.0 == off) p.1 h (handler_at ps off) e (f s.0 p.1 s.4) (at-offset G P f (at + length s.0) s.1 ps s.5 off h)

module _ (N : ℕ → Name → Type 0) where
  abbrev HasIndex : Name → Type 0
  HasIndex which = (i : ℕ) × N i which

  insns-have : (us : List ℕ) (rs : List Raw) (is : List Insn) → SpellsInsns N us rs is → AllByRecursion HasIndex (flat_map names_of_insn is)
  insns-have us rs is s = all-flat HasIndex names_of_insn is (made.I10x 0)
      (λ k l.
      let n = s.linked.count in
      let x = s.linked.each k (omega (arith, l, n)) in
      subst (λ (i : Insn). AllByRecursion HasIndex (names_of_insn i)) x.resolves.symbol (names-said N _ (name_in (insn_at is k)) (raw_at rs k) x.resolves.named))

  -- the types of catches
  CatchesHave : List Catch → Type 0
  CatchesHave cs = AllByRecursion (λ c. HasIndex (OfDesc c.ty)) cs

  catches-have : (ss bytes : List ℕ) (cs : List Catch) → Each (SpellsCatch N ss) bytes cs → CatchesHave cs
  unfolding CatchesHave
  catches-have ss bytes [] s = tt
  catches-have ss bytes (c ∷ cs) s = ((s.3.first.raw, s.3.first.means), catches-have ss s.1 cs s.4)

  handler-has : (ss front : List ℕ) (h : Handler) → SpellsHandler N ss front h → CatchesHave h.catches
  handler-has ss front h s = subst CatchesHave (λ i. (s.means i).0) (catches-have ss s.spelled.second.front s.raw.1.0 s.spelled.second.first.1)

  handlers-have : (ss list : List ℕ) (n : ℕ) (hs : List (ℕ × Handler)) → SpellsHandlers N ss n list hs → (off : ℕ) (h : Handler) → handler_at hs off ≡ Some h → CatchesHave h.catches
  unfolding handler_at
  handlers-have ss list zero hs s off h e = absurd (let f : handler_at [] off ≡ Some h = subst (λ (l : List (ℕ × Handler)). handler_at l off ≡ Some h) s.1 e in cc)
  handlers-have ss list (suc n) hs s off h e = at-offset (SpellsHandler N ss) (λ g. CatchesHave g.catches) (handler-has ss) (length s.front) s.back hs s.each off h e

  tries-have : (ss : List ℕ) (size n : ℕ) (items list : List ℕ) (ts : List Try) → SpellsTries N ss size n items list ts → AllByRecursion HasIndex (flat_map names_of_try ts)
  unfolding CatchesHave
  tries-have ss size n items list ts s = all-flat HasIndex names_of_try ts (record { from = 0; to = 0; catches = []; catch_all = None })
      (λ k l.
      let c = s.count in
      let x = s.each k (omega (arith, l, c)) in
      all_map HasIndex (λ (c : Catch). OfDesc c.ty) (try_at ts k).catches (handlers-have ss list n s.handlers s.spelled _ (handler_of (try_at ts k)) x.handler))

  code-has : (bytes : List ℕ) (c : Code) → SpellsBody N bytes c → AllByRecursion HasIndex (names_of_code c)
  code-has bytes c s = all_append HasIndex (flat_map names_of_insn c.insns) (flat_map names_of_try c.tries) (insns-have _ s.raws c.insns s.insns) (tries-have _ _ _ _ _ c.tries s.tries)

pub names-have-rows : (b : List ℕ) (off : ℕ) (c : Code) → CodeStands (NameStands b) b off c → AllByRecursion (HasRow b) (names_of_code c)
names-have-rows b off c a = code-has (NameStands b) _ c a.spelled.body
