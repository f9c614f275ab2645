-- The head of a class that a row spells: its names and its interfaces.
use Rattle.std.proofs.Common.{◌≡◌, ℕ, List, sym, ◌∙◌, subst, arith, Option, Some, None, inl, inr}
use Rattle.std.proofs.lemmas.Bool.{cases_lt}
use Rattle.std.proofs.lemmas.Option.{slice_get_within}
use Rattle.std.specs.Prelude.{IfSome}
use Rattle.dex_base.specs.Descriptor.{IsClass}
use Rattle.file_classes.specs.ClassRows.{IndexOrNone, class_word}
use Rattle.file_classes.specs.Classes.{NoTypeTwice, InterfacesAt, RowIs}
use Rattle.tables_names.specs.Closure.{Five, NameRanks}
use Rattle.program_types.specs.Content.{Class, Descriptor, Name, OfDesc, OfText, Units}
use Rattle.program_rules.specs.Rules as rules
use Rattle.program_rules.specs.Rules.{NamesAreValid}
use Rattle.tables_rows.specs.Stands.{NameStands, StringStands, TypeStands, TypesAt}
use Rattle.file_write.proofs.RowLaws.{ClassRowIs}

-- what an index or none stands for, by what follows
or_none : (S T : ℕ → Units → Type 0) → ((i : ℕ) (t : Units) → S i t → T i t) → (i : ℕ) (name : Option Units) → IndexOrNone S i name → IndexOrNone T i name
or_none S T f i None h = h
or_none S T f i (Some t) h = (h.0, f i t h.1)

of_some : (P : Descriptor → Type 0) (name : Option Descriptor) → IfSome name P → (t : Descriptor) → name ≡ Some t → P t
of_some P None h t e = absurd (cc e)
of_some P (Some u) h t e = let same : u ≡ t = cc e in subst P same h

-- types of which none stands before the same one stand once
pub distinct_of : (ts : List Descriptor) → rules.AreDistinct ts → NoTypeTwice ts
distinct_of ts d j k t at_j at_k = elim (cases_lt j k) [
  | inl before ↦ absurd (d k (slice_get_within ts k t at_k) j before (at_j ∙ sym at_k))
  | inr after ↦ elim (cases_lt k j) [
    | inl before ↦ absurd (d j (slice_get_within ts j t at_j) k before (at_k ∙ sym at_j))
    | inr same ↦ omega (arith, after, same)
  ]
]

module _ (b : List ℕ) (s : Five) (stand : (i : ℕ) (which : Name) → NameRanks s i which → NameStands b i which) (list datum array i : ℕ) (c : Class) (r : ClassRowIs b s list datum array i c) where
  pub row_is : NamesAreValid c → RowIs b i c.ty c.flags c.superclass c.source
  row_is n = record {
    named = stand (class_word b i 0) (OfDesc c.ty) r.class_is;
    class = n.class;
    flagged = sym r.flags;
    above = or_none (λ k t. NameRanks s k (OfDesc t)) (TypeStands b) (λ k t. stand k (OfDesc t)) (class_word b i 2) c.superclass r.above_is;
    above_class = of_some IsClass c.superclass n.superclass;
    written_in = or_none (λ k t. NameRanks s k (OfText t)) (StringStands b) (λ k t. stand k (OfText t)) (class_word b i 4) c.source r.source_is;
  }

  pub interfaces_are : NamesAreValid c → rules.AreDistinct c.interfaces → TypesAt b list c.interfaces → InterfacesAt b (class_word b i 3) c.interfaces
  interfaces_are n d at = record {
    types = subst (λ (k : ℕ). TypesAt b k c.interfaces) (sym r.interfaces) at;
    classes = n.interfaces;
    distinct = distinct_of c.interfaces d;
  }
