-- Catches and handlers, written.
use Rattle.std.proofs.Common.{◌≡◌, ℕ, ℤ, zero, suc, ◌+◌, ◌<◌, ◌≤◌, List, [], ◌∷◌, length, take, drop, get_or, Option, Some, None, sym, subst, arith}
use Rattle.std.specs.Prelude.{slice_get}
use Rattle.std.specs.List.{AllByRecursion}
use Rattle.std.proofs.lemmas.List.{take_more, take_all}
use Rattle.dex_base.specs.Grammar.{Appends, Takes, Each}
use Rattle.dex_base.specs.Leb128.{Spells, SpellsSigned, Shortest}
use Rattle.dex_insn.specs.declared.opcode.IndexKind.TheVariants as kind
use Rattle.program_types.specs.Content.{Name, OfDesc, Catch}
use Rattle.tables_names.specs.Closure.{Five, NameRanks}
use Rattle.tables_rows.specs.Stands.{NameStands}
use Rattle.file_renumber.specs.inner.Marked.{Columns}
use Rattle.file_renumber.specs.inner.Numbers.{Carries, column_of}
use Rattle.code_read.specs.Places.{position}
use Rattle.code_read.specs.Handlers.{Handler, catches_of, HasAll, AllBy}
use Rattle.code_read.specs.inner.Handlers.{SpellsCatch}
use Rattle.code_write.specs.inner.Packs.{PacksCatch, PacksHandler}
use Rattle.code_write.proofs.HandlerPacks.{via-appends, catch-appends, all-none, all-some, handler-appends, alone}
use Rattle.file_renumber.specs.inner.Fronts.{IsCatch, types_of}
use Rattle.file_renumber.specs.inner.CarriedCodes.{CarriedCatches}
use Rattle.file_renumber.proofs.FrontLemmas.{due_start, NextDue, due_end}
use Rattle.file_renumber.proofs.HandlerLemmas.{no_catch}
use Rattle.dex_base.proofs.GrammarLaws.{Each-appends_none, Each-appends_more}
use Rattle.dex_base.proofs.ListFacts.{some_one}

-- ---- catches, written

pub record WrittenCatches (b : List ℕ) (s : Five) (ss old new left : List ℕ) (turn : ℕ) (cs : List Catch) (rest : List ℕ) : Type 0 where
  pub due : Takes (Each (SpellsCatch (NameStands b) ss)) left (drop turn cs) rest
  pub done : Appends (Each (PacksCatch (NameRanks s) ss)) old new (take turn cs)

pub written_none : (numbers : Columns) (n : ℕ) (bytes out : List ℕ) (x : CarriedCatches numbers n bytes) → WrittenCatches x.file x.names x.starts out out bytes 0 x.catches x.rest
written_none numbers n bytes out x = record { due = due_start (SpellsCatch (NameStands x.file) x.starts) n bytes x.catches x.rest x.taken; done = Each-appends_none (PacksCatch (NameRanks x.names) x.starts) out }

-- the rank of the type of the next catch
pub record RankNext (numbers : Columns) (s : Five) (ty : ℕ) (c : Catch) : Type 0 where
  pub number : ℕ
  pub at : slice_get (column_of numbers kind.Type) ty ≡ Some number
  pub stands : NameRanks s number (OfDesc c.ty)

type_carried : (P : Name → Type 0) (cs : List Catch) (k : ℕ) → AllByRecursion P (types_of cs) → k < length cs → P (OfDesc (get_or cs k no_catch).ty)
type_carried P [] k all l = absurd (omega (arith, l))
type_carried P (c ∷ cs) zero all l = all.0
type_carried P (c ∷ cs) (suc k) all l = type_carried P cs k all.1 (omega (arith, l))

pub rank_next : (numbers : Columns) (n : ℕ) (bytes : List ℕ) (x : CarriedCatches numbers n bytes) (turn ty address : ℕ) (after mid : List ℕ) → turn < n
    → IsCatch (NameStands x.file) x.starts ty address after (get_or x.catches turn no_catch) mid → RankNext numbers x.names ty (get_or x.catches turn no_catch)
rank_next numbers n bytes x turn ty address after mid lt i =
    let count = x.taken.spelled.0 in
    let r = type_carried (Carries (NameStands x.file) (NameRanks x.names) numbers) x.catches turn x.carried (omega (arith, lt, count)) ty i.type in
    record { number = r.0; at = r.1; stands = r.2 }

pub written_next : (b : List ℕ) (s : Five) (numbers : Columns) (ss old a m new left after : List ℕ) (turn ty address index : ℕ) (cs : List Catch) (rest : List ℕ) → turn < length cs → WrittenCatches b s ss old a left turn cs rest
    → (d : NextDue (SpellsCatch (NameStands b) ss) left turn cs no_catch rest) → IsCatch (NameStands b) ss ty address after (get_or cs turn no_catch) d.mid → RankNext numbers s ty (get_or cs turn no_catch)
    → slice_get (column_of numbers kind.Type) ty ≡ Some index → Appends (Shortest Spells) a m index → Appends (Shortest Spells) m new address → WrittenCatches b s ss old new after (turn + 1) cs rest
written_next b s numbers ss old a m new left after turn ty address index cs rest lt w d i r at p q =
    let c = get_or cs turn no_catch in
    let same : r.number ≡ index = some_one (slice_get (column_of numbers kind.Type) ty) r.number index r.at at in
    let place = via-appends (Shortest Spells) (λ address n. position ss address ≡ Some n) m new address c.at q i.place in
    let one = catch-appends (NameRanks s) ss a m new index c p (subst (λ (k : ℕ). NameRanks s k (OfDesc c.ty)) same r.stands) place in
    record {
      due = subst (λ (l : List ℕ). Takes (Each (SpellsCatch (NameStands b) ss)) l (drop (turn + 1) cs) rest) (sym i.follows) d.more;
      done = subst (λ (l : List Catch). Appends (Each (PacksCatch (NameRanks s) ss)) old new l) (sym (take_more cs turn no_catch lt)) (Each-appends_more (PacksCatch (NameRanks s) ss) old a new (take turn cs) c w.done one);
    }

pub written_all : (numbers : Columns) (n : ℕ) (bytes : List ℕ) (x : CarriedCatches numbers n bytes) (old new left : List ℕ) (turn : ℕ) → n ≤ turn → WrittenCatches x.file x.names x.starts old new left turn x.catches x.rest
    → Appends (Each (PacksCatch (NameRanks x.names) x.starts)) old new x.catches × (left ≡ x.rest)
written_all numbers n bytes x old new left turn le w =
    let count = x.taken.spelled.0 in (
      subst (λ (l : List Catch). Appends (Each (PacksCatch (NameRanks x.names) x.starts)) old new l) (take_all turn x.catches (omega (arith, le, count))) w.done,
      due_end (SpellsCatch (NameStands x.file) x.starts) left turn x.catches x.rest (omega (arith, le, count)) w.due,
    )

-- ---- a handler, written

-- the address that was read is the place's
pub place_read : (ss : List ℕ) (a address number : ℕ) → a ≡ address → position ss address ≡ Some number → position ss a ≡ Some number
place_read ss a address number e p = subst (λ (x : ℕ). position ss x ≡ Some number) (sym e) p

module _ (s : Five) (ss old a m : List ℕ) (z : ℤ) (h : Handler) (count : length h.catches ≡ catches_of z) (first : Appends (Shortest SpellsSigned) old a z) (mid : Appends (Each (PacksCatch (NameRanks s) ss)) a m h.catches) where
  -- without a place for all others
  pub written_without : old ≡ [] → (HasAll z → ⊥) → h.all ≡ None → PacksHandler (NameRanks s) ss m h
  written_without none lacks is =
      alone (PacksHandler (NameRanks s) ss) old m h none
      (handler-appends (NameRanks s) ss old a m m z h (sym count) first mid
      (subst (λ (o : Option ℕ). Appends (AllBy (Shortest Spells) (Shortest SpellsSigned) (NameRanks s) ss z) m m o) (sym is) (all-none (NameRanks s) ss z m lacks)))

  -- with one
  pub written_with : (new : List ℕ) (address number : ℕ) → old ≡ [] → HasAll z → h.all ≡ Some number → position ss address ≡ Some number → Appends (Shortest Spells) m new address → PacksHandler (NameRanks s) ss new h
  written_with new address number none has is place p =
      alone (PacksHandler (NameRanks s) ss) old new h none
      (handler-appends (NameRanks s) ss old a m new z h (sym count) first mid
      (subst (λ (o : Option ℕ). Appends (AllBy (Shortest Spells) (Shortest SpellsSigned) (NameRanks s) ss z) m new o) (sym is)
      (all-some (NameRanks s) ss z m new number has (via-appends (Shortest Spells) (λ address n. position ss address ≡ Some n) m new address number p place))))
