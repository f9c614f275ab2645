-- Catches and handlers at the front of bytes.
use Rattle.std.proofs.Common.{◌≡◌, ℕ, ℤ, ◌+◌, ◌<◌, ◌≤◌, List, [], ◌∷◌, ◌++◌, length, take, drop, get_or, Option, Some, None, refl, sym, ap, subst, ◌∙◌, arith, append_assoc}
use Rattle.std.proofs.lemmas.List.{take_more, take_all, map-append}
use Rattle.dex_base.specs.Grammar.{Takes, Each, Many}
use Rattle.dex_base.specs.Leb128.{Spells, SpellsSigned}
use Rattle.dex_base.proofs.Signed.{signed_unique}
use Rattle.dex_base.proofs.TakesLaws.{Takes-unique}
use Rattle.dex_insn.specs.declared.opcode.IndexKind.TheVariants as kind
use Rattle.program_types.specs.Content.{Name, OfDesc, Catch}
use Rattle.tables_rows.specs.Stands.{NameStands}
use Rattle.file_renumber.specs.inner.Marked.{Marked, AddsNames, IsRowOf}
use Rattle.file_renumber.proofs.FrontLemmas.{due_start, NextDue}
use Rattle.file_renumber.proofs.MarkLemmas.{adds_none, adds_more}
use Rattle.code_read.specs.Places.{position}
use Rattle.code_read.specs.Handlers.{Handler, catches_of, HasAll}
use Rattle.code_read.specs.inner.Handlers.{SpellsCatch, SpellsHandler}
use Rattle.code_read.proofs.HandlerReading.{SpellsCatchAll}
use Rattle.file_renumber.specs.inner.Fronts.{IsCatch, types_of}
use Rattle.dex_base.proofs.ListFacts.{number_one}

-- ---- a catch

pub record CatchParts (N : ℕ → Name → Type 0) (ss bytes : List ℕ) (c : Catch) (rest : List ℕ) : Type 0 where
  pub ty : ℕ
  pub mid : List ℕ
  pub address : ℕ
  pub first : Takes Spells bytes ty mid
  pub second : Takes Spells mid address rest
  pub type : N ty (OfDesc c.ty)
  pub place : position ss address ≡ Some c.at

module _ (N : ℕ → Name → Type 0) (ss : List ℕ) where
  pub catch_parts : (bytes : List ℕ) (c : Catch) (rest : List ℕ) → Takes (SpellsCatch N ss) bytes c rest → CatchParts N ss bytes c rest
  catch_parts bytes c rest t =
      let s = t.spelled in
      record {
        ty = s.first.raw;
        mid = s.back ++ rest;
        address = s.second.raw;
        first = record { front = s.front; whole = t.whole ∙ ap (λ l. l ++ rest) s.joined ∙ append_assoc s.front s.back rest; spelled = s.first.spelled };
        second = record { front = s.back; whole = refl; spelled = s.second.spelled };
        type = s.first.means;
        place = s.second.means;
      }

  -- the address after the type that was read
  pub address_there : (bytes : List ℕ) (c : Catch) (rest : List ℕ) (ty : ℕ) (mid : List ℕ) → Takes (SpellsCatch N ss) bytes c rest → Takes Spells bytes ty mid → (n : ℕ) × (r : List ℕ) × Takes Spells mid n r
  address_there bytes c rest ty mid t p =
      let x = catch_parts bytes c rest t in
      (x.address, rest, subst (λ (l : List ℕ). Takes Spells l x.address rest) (number_one bytes x.ty ty x.mid mid x.first p).1 x.second)

  pub catch_is : (bytes : List ℕ) (c : Catch) (rest : List ℕ) (ty address : ℕ) (mid after : List ℕ) → Takes Spells bytes ty mid → Takes Spells mid address after → Takes (SpellsCatch N ss) bytes c rest → IsCatch N ss ty address after c rest
  catch_is bytes c rest ty address mid after p q t =
      let x = catch_parts bytes c rest t in
      let one = number_one bytes x.ty ty x.mid mid x.first p in
      let two = number_one mid x.address address rest after (subst (λ (l : List ℕ). Takes Spells l x.address rest) one.1 x.second) q in
      record {
        type = subst (λ (i : ℕ). N i (OfDesc c.ty)) one.0 x.type;
        place = subst (λ (a : ℕ). position ss a ≡ Some c.at) two.0 x.place;
        follows = sym two.1;
      }

-- past the end of a list
abbrev pub no_catch : Catch
no_catch = record { ty = []; at = 0 }

-- ---- a handler

pub record HandlerParts (N : ℕ → Name → Type 0) (ss : List ℕ) (z : ℤ) (n : ℕ) (mid : List ℕ) (h : Handler) (rest : List ℕ) : Type 0 where
  pub left : List ℕ
  pub catches : Takes (Many (SpellsCatch N ss) n) mid h.catches left
  pub last : Takes (SpellsCatchAll N ss z) left h.all rest

module _ (N : ℕ → Name → Type 0) (ss : List ℕ) where
  pub handler_parts : (bytes : List ℕ) (h : Handler) (rest : List ℕ) → Takes (SpellsHandler N ss) bytes h rest → (z : ℤ) × (mid : List ℕ) × Takes SpellsSigned bytes z mid × HandlerParts N ss z (catches_of z) mid h rest
  handler_parts bytes h rest t =
      let v = t.spelled in
      let s = v.spelled in
      let cs : v.raw.1.0 ≡ h.catches = ap (λ (r : List Catch × Option ℕ). r.0) v.means in
      let os : v.raw.1.1 ≡ h.all = ap (λ (r : List Catch × Option ℕ). r.1) v.means in (
        v.raw.0,
        s.back ++ rest,
        record { front = s.front; whole = t.whole ∙ ap (λ l. l ++ rest) s.joined ∙ append_assoc s.front s.back rest; spelled = s.first },
        record {
          left = s.second.back ++ rest;
          catches = record {
            front = s.second.front;
            whole = ap (λ l. l ++ rest) s.second.joined ∙ append_assoc s.second.front s.second.back rest;
            spelled = subst (λ (l : List Catch). Many (SpellsCatch N ss) (catches_of v.raw.0) s.second.front l) cs s.second.first;
          };
          last = record { front = s.second.back; whole = refl; spelled = subst (λ (o : Option ℕ). SpellsCatchAll N ss v.raw.0 s.second.back o) os s.second.second };
        },
      )

  -- after the number that was read, and so many catches
  pub parts_from : (bytes : List ℕ) (h : Handler) (rest : List ℕ) (z : ℤ) (mid : List ℕ) (n : ℕ) → n ≡ catches_of z → Takes SpellsSigned bytes z mid → Takes (SpellsHandler N ss) bytes h rest → HandlerParts N ss z n mid h rest
  parts_from bytes h rest z mid n e p t =
      let x = handler_parts bytes h rest t in
      let one = Takes-unique SpellsSigned bytes x.0 z x.1 mid signed_unique x.2 p in
      subst (λ (k : ℕ). HandlerParts N ss z k mid h rest) (sym e) (subst (λ (y : ℤ). HandlerParts N ss y (catches_of y) mid h rest) one.0 (subst (λ (l : List ℕ). HandlerParts N ss x.0 (catches_of x.0) l h rest) one.1 x.3))

  pub record LastPlace (left : List ℕ) (o : Option ℕ) (rest : List ℕ) : Type 0 where
    pub address : ℕ
    pub number : ℕ
    pub taken : Takes Spells left address rest
    pub place : position ss address ≡ Some number
    pub is : o ≡ Some number

  pub last_place : (z : ℤ) (left : List ℕ) (o : Option ℕ) (rest : List ℕ) → HasAll z → Takes (SpellsCatchAll N ss z) left o rest → LastPlace left o rest
  last_place z left None rest has t = absurd (t.spelled.0 has)
  last_place z left (Some n) rest has t = record { address = t.spelled.1.raw; number = n; taken = record { front = t.front; whole = t.whole; spelled = t.spelled.1.spelled }; place = t.spelled.1.means; is = refl }

  pub no_last : (z : ℤ) (left : List ℕ) (o : Option ℕ) (rest : List ℕ) → (HasAll z → ⊥) → Takes (SpellsCatchAll N ss z) left o rest → (o ≡ None) × (left ≡ rest)
  no_last z left None rest lacks t = (refl, t.whole ∙ ap (λ l. l ++ rest) t.spelled.1)
  no_last z left (Some n) rest lacks t = absurd (lacks t.spelled.0)

  pub counted : (n : ℕ) (bytes : List ℕ) (cs : List Catch) (rest : List ℕ) → Takes (Many (SpellsCatch N ss) n) bytes cs rest → length cs ≡ n
  counted n bytes cs rest t = t.spelled.0

-- ---- catches, marked

pub record MarkedCatches (b : List ℕ) (ss : List ℕ) (old new : Marked) (left : List ℕ) (turn : ℕ) (cs : List Catch) (rest : List ℕ) : Type 0 where
  pub due : Takes (Each (SpellsCatch (NameStands b) ss)) left (drop turn cs) rest
  pub marked : AddsNames b old new (types_of (take turn cs))

pub catches_start : (b ss : List ℕ) (m : Marked) (n : ℕ) (bytes : List ℕ) (cs : List Catch) (rest : List ℕ) → Takes (Many (SpellsCatch (NameStands b) ss) n) bytes cs rest → MarkedCatches b ss m m bytes 0 cs rest
catches_start b ss m n bytes cs rest t = record { due = due_start (SpellsCatch (NameStands b) ss) n bytes cs rest t; marked = adds_none b m }

-- the row of a catch's type
pub type_row_of : (b ss : List ℕ) (ty address : ℕ) (after : List ℕ) (c : Catch) (rest : List ℕ) → IsCatch (NameStands b) ss ty address after c rest → IsRowOf b kind.Type ty (OfDesc c.ty)
type_row_of b ss ty address after c rest i = record { kind = refl; stands = i.type }

types_more : (cs : List Catch) (k : ℕ) → k < length cs → types_of (take (k + 1) cs) ≡ types_of (take k cs) ++ OfDesc (get_or cs k no_catch).ty ∷ []
types_more cs k l = ap types_of (take_more cs k no_catch l) ∙ map-append (λ (c : Catch). OfDesc c.ty) (take k cs) (get_or cs k no_catch ∷ [])

pub catches_more : (b ss : List ℕ) (old mid new : Marked) (left after : List ℕ) (turn ty address : ℕ) (cs : List Catch) (rest : List ℕ) → turn < length cs → MarkedCatches b ss old mid left turn cs rest
    → (d : NextDue (SpellsCatch (NameStands b) ss) left turn cs no_catch rest) → IsCatch (NameStands b) ss ty address after (get_or cs turn no_catch) d.mid → AddsNames b mid new (OfDesc (get_or cs turn no_catch).ty ∷ [])
    → MarkedCatches b ss old new after (turn + 1) cs rest
catches_more b ss old mid new left after turn ty address cs rest lt m d i f = record {
  due = subst (λ (l : List ℕ). Takes (Each (SpellsCatch (NameStands b) ss)) l (drop (turn + 1) cs) rest) (sym i.follows) d.more;
  marked = subst (λ (ns : List Name). AddsNames b old new ns) (sym (types_more cs turn lt)) (adds_more b old mid new (types_of (take turn cs)) (OfDesc (get_or cs turn no_catch).ty ∷ []) m.marked f);
}

pub catches_end : (b ss : List ℕ) (old new : Marked) (n : ℕ) (bytes left : List ℕ) (turn : ℕ) (cs : List Catch) (rest : List ℕ) → n ≤ turn → Takes (Many (SpellsCatch (NameStands b) ss) n) bytes cs rest → MarkedCatches b ss old new left turn cs rest → AddsNames b old new (types_of cs)
catches_end b ss old new n bytes left turn cs rest le t m =
    let count = t.spelled.0 in
    subst (λ (l : List Catch). AddsNames b old new (types_of l)) (take_all turn cs (omega (arith, le, count))) m.marked
