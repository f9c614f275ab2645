-- Arrays and their faults carry over to a naming that says the same.
use Rattle.std.proofs.Common.{ℕ, zero, suc, inl, inr, List, ap, arith}
use Rattle.dex_base.specs.declared.fault.Fault.{Fault}
use Rattle.dex_base.specs.Grammar.{IsPrefixUnique, Each}
use Rattle.dex_base.proofs.WeakerLaws.{Implies, Takes-weaker, Each-weaker}
use Rattle.dex_container.specs.Frame.{IsFramed}
use Rattle.program_types.specs.Content.{Name, OfText, OfDesc, OfField, OfMethod, Value}
use Rattle.program_types.specs.Depth.{most_depth}
use Rattle.tables_rows.specs.Names.{Names, AreNamesOf, NameIsAt}
use Rattle.tables_rows.specs.Stands.{NameStands}
use Rattle.tables_rows.proofs.NameLaws.{names_stand, stands_names, field_one, method_one}
use Rattle.tables_rows.proofs.RowReading.{string_one}
use Rattle.tables_rows.proofs.TypeLists.{type_one}
use Rattle.dex_value.specs.Spelling.{SpellsArray}
use Rattle.dex_value.specs.Standing.{Shallow, ArrayStands}
use Rattle.dex_value.specs.Unique.{IsFunctionalByType}
use Rattle.dex_value.specs.Faults.{NamesNothing, OwnBreaks, NextBreaks, ValueBreaks, ArrayBreaks, ArrayBreaksAt}
use Rattle.dex_value.proofs.FrontLaws.{SpellsArray-unique}
use Rattle.dex_value.proofs.Weaker.{SpellsValue-weaker, SpellsArray-weaker}

-- in a file an index stands for one name of a kind
pub NameStands-functional : (b : List ℕ) → IsFramed b → IsFunctionalByType (NameStands b)
NameStands-functional b framed i (OfText m) (OfText n) e p q = ap OfText (string_one b i m n framed p q)
NameStands-functional b framed i (OfDesc m) (OfDesc n) e p q = ap OfDesc (type_one b i m n framed p q)
NameStands-functional b framed i (OfField m) (OfField n) e p q = ap OfField (field_one b framed i m n p q)
NameStands-functional b framed i (OfMethod m) (OfMethod n) e p q = ap OfMethod (method_one b framed i m n p q)
NameStands-functional b framed i _ _ e p q = absurd (omega arith)

pub file_array_unique : (b : List ℕ) → IsFramed b → IsPrefixUnique (SpellsArray (NameStands b))
file_array_unique b framed = SpellsArray-unique (NameStands b) (NameStands-functional b framed)

-- of n values the next one breaks
next_carried : (G H : List ℕ → Value → Type 0) (B C : List ℕ → Fault → Type 0) → Implies G H → ((bytes : List ℕ) (e : Fault) → B bytes e → C bytes e) → (n : ℕ) (bytes : List ℕ) (e : Fault) → NextBreaks G B n bytes e → NextBreaks H C n bytes e
next_carried G H B C f g n bytes e u =
    record { before = u.before; left = u.left; spelled = Takes-weaker (Each G) (Each H) (Each-weaker G H f) bytes u.before u.left u.spelled; more = u.more; breaks = g u.left e u.breaks }

module _ (N M : ℕ → Name → Type 0) (f : (i : ℕ) (which : Name) → N i which → M i which) (g : (i : ℕ) (which : Name) → M i which → N i which) where
  shallow : (limit : ℕ) → Implies (Shallow N limit) (Shallow M limit)
  shallow limit bytes v s = record { spelled = SpellsValue-weaker N M f bytes v s.spelled; deep = s.deep }

  nothing_carried : (bytes : List ℕ) → NamesNothing N bytes → NamesNothing M bytes
  nothing_carried bytes u =
      record { head = u.head; rest = u.rest; first = u.first; sized = u.sized; named = u.named; whole = u.whole; nothing = λ which t m. u.nothing which t (g _ which m) }

  own_carried : (off end limit : ℕ) (bytes : List ℕ) (e : Fault) → OwnBreaks N off end limit bytes e → OwnBreaks M off end limit bytes e
  own_carried off end limit bytes e (inl u) = inl u
  own_carried off end limit bytes e (inr (inl u)) = inr (inl u)
  own_carried off end limit bytes e (inr (inr (inl u))) = inr (inr (inl u))
  own_carried off end limit bytes e (inr (inr (inr u))) = inr (inr (inr (nothing_carried bytes u.0, u.1)))

  value_carried : (off end limit : ℕ) (bytes : List ℕ) (e : Fault) → ValueBreaks N off end limit bytes e → ValueBreaks M off end limit bytes e
  value_carried off end zero bytes e u = own_carried off end 0 bytes e u
  value_carried off end (suc limit) bytes e (inl u) = inl (own_carried off end (suc limit) bytes e u)
  value_carried off end (suc limit) bytes e (inr u) =
      inr (record {
        rest = u.rest;
        first = u.first;
        n = u.n;
        after = u.after;
        counted = u.counted;
        next = next_carried (Shallow N limit) (Shallow M limit) (ValueBreaks N off end limit) (ValueBreaks M off end limit) (shallow limit) (value_carried off end limit) u.n u.after e u.next;
      })

  array_carried : (off end most : ℕ) (bytes : List ℕ) (e : Fault) → ArrayBreaks N off end most bytes e → ArrayBreaks M off end most bytes e
  array_carried off end most bytes e (inl u) = inl u
  array_carried off end most bytes e (inr (inl u)) = inr (inl u)
  array_carried off end most bytes e (inr (inr u)) =
      inr (inr (record {
        n = u.n;
        after = u.after;
        counted = u.counted;
        few = u.few;
        next = next_carried (Shallow N most_depth) (Shallow M most_depth) (ValueBreaks N off end most_depth) (ValueBreaks M off end most_depth) (shallow most_depth) (value_carried off end most_depth) u.n u.after e u.next;
      }))

  pub breaks_carried : (b : List ℕ) (off most : ℕ) (e : Fault) → ArrayBreaksAt N b off most e → ArrayBreaksAt M b off most e
  breaks_carried b off most e (inl u) = inl u
  breaks_carried b off most e (inr u) = inr (u.0, u.1, u.2, array_carried off u.0 most u.1 e u.3)

  pub stands_carried : (b : List ℕ) (off most : ℕ) (vs : List Value) → ArrayStands N b off most vs → ArrayStands M b off most vs
  stands_carried b off most vs a =
      let s = a.stands in
      record {
        stands = record { begin = s.begin; end = s.end; section = s.section; after = s.after; aligned = s.aligned; size = s.size; within = s.within; spelled = SpellsArray-weaker N M f _ vs s.spelled };
        few = a.few;
        deep = a.deep;
      }

-- with the names of a file
module _ (b : List ℕ) (names : Names) (framed : IsFramed b) (are : AreNamesOf b names) where
  there : (i : ℕ) (which : Name) → NameIsAt names i which → NameStands b i which
  there i which at = names_stand b names i which are at

  back : (i : ℕ) (which : Name) → NameStands b i which → NameIsAt names i which
  back i which st = stands_names b names i which framed are st

  pub file_stands : (off most : ℕ) (vs : List Value) → (ArrayStands (NameIsAt names) b off most vs → ArrayStands (NameStands b) b off most vs) × (ArrayStands (NameStands b) b off most vs → ArrayStands (NameIsAt names) b off most vs)
  file_stands off most vs = (stands_carried (NameIsAt names) (NameStands b) there back b off most vs, stands_carried (NameStands b) (NameIsAt names) back there b off most vs)

  pub file_breaks : (off most : ℕ) (e : Fault) → (ArrayBreaksAt (NameIsAt names) b off most e → ArrayBreaksAt (NameStands b) b off most e) × (ArrayBreaksAt (NameStands b) b off most e → ArrayBreaksAt (NameIsAt names) b off most e)
  file_breaks off most e = (breaks_carried (NameIsAt names) (NameStands b) there back b off most e, breaks_carried (NameStands b) (NameIsAt names) back there b off most e)
