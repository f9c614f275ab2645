-- One instruction: what it names, and its units.
use Rattle.std.proofs.Common.{◌≡◌, ℕ, ℤ, List, [], ◌∷◌, Option, Some, None, refl, sym, ap, subst, ◌∙◌, false}
use Rattle.dex_insn.specs.Raw as raw
use Rattle.dex_insn.specs.Raw.{Raw}
use Rattle.dex_insn.specs.Opcodes.{index_kind_of}
use Rattle.dex_insn.specs.declared.opcode.IndexKind.{IndexKind}
use Rattle.dex_insn.specs.declared.opcode.IndexKind.TheVariants as kind
use Rattle.program_types.specs.Content.{Name, OfText, OfDesc, OfField, OfMethod, Insn}
use Rattle.program_types.specs.Content as made
use Rattle.program_types.specs.Kinds.{IsOfKind}
use Rattle.program_types.specs.Operands.{IsOfIndexKind}
use Rattle.program_types.specs.Mentions.{names_of_insn}
use Rattle.tables_rows.specs.Stands.{NameStands}
use Rattle.file_renumber.specs.inner.Marked.{kind_of, IsRowOf}
use Rattle.code_read.specs.Symbols.{Resolves, IndexStandsFor, linked, name_in}
use Rattle.code_read.specs.inner.Symbols.{has_index}
use Rattle.file_renumber.specs.inner.Indices.{IsIndex}

-- ---- its name

pub kind_is : (table : IndexKind) (which : Name) → IsOfKind table which → kind_of which ≡ table
kind_is kind.String (OfText t) h = refl
kind_is kind.Type (OfDesc t) h = refl
kind_is kind.Field (OfField t) h = refl
kind_is kind.Method (OfMethod t) h = refl
kind_is _ _ h = absurd h

pub of_kind : (o : Option IndexKind) (table : IndexKind) (which : Name) → o ≡ Some table → IsOfIndexKind o which → IsOfKind table which
of_kind o table which e h = let k : IsOfIndexKind (Some table) which = subst (λ (p : Option IndexKind). IsOfIndexKind p which) e h in k

-- the row of the name, by the table
pub row_of : (b : List ℕ) (op i : ℕ) (table : IndexKind) (which : Name) → index_kind_of op ≡ Some table → IndexStandsFor (NameStands b) op i which → IsRowOf b table i which
row_of b op i table which e n = record { kind = kind_is table which (of_kind (index_kind_of op) table which e n.kind); stands = n.stands }

-- an opcode with an index has a table
pub some_kind : (N : ℕ → Name → Type 0) (op i : ℕ) (which : Name) → index_kind_of op ≡ None → IndexStandsFor N op i which → ⊥
some_kind N op i which e n = let k : IsOfIndexKind None which = subst (λ (o : Option IndexKind). IsOfIndexKind o which) e n.kind in k

-- the name of an instruction that has an index
pub record Named (N : ℕ → Name → Type 0) (op index : ℕ) (i : Insn) : Type 0 where
  pub which : Name
  pub names : names_of_insn i ≡ which ∷ []
  pub stands : IndexStandsFor N op index which

moved : (N : ℕ → Name → Type 0) (o p x y : ℕ) (i made_of : Insn) (which : Name) → made_of ≡ i → names_of_insn made_of ≡ which ∷ [] → o ≡ p → x ≡ y → IndexStandsFor N o x which → Named N p y i
moved N o p x y i made_of which e names a b n = record {
  which = which;
  names = ap names_of_insn (sym e) ∙ names;
  stands = subst (λ (q : ℕ). IndexStandsFor N p q which) b (subst (λ (q : ℕ). IndexStandsFor N q x which) a n);
}

pub named_of : (N : ℕ → Name → Type 0) (T : ℤ → ℕ) (r : Raw) (i : Insn) (op index : ℕ) → IsIndex r op index → Resolves N T r i → Named N op index i
unfolding linked
named_of N T (raw.I21c o a x) i op index h s = moved N o op x index i (made.I21c o a (name_in i)) (name_in i) s.symbol refl h.0 h.1 s.named
named_of N T (raw.I22c o a b x) i op index h s = moved N o op x index i (made.I22c o a b (name_in i)) (name_in i) s.symbol refl h.0 h.1 s.named
named_of N T (raw.I31c o a x) i op index h s = moved N o op x index i (made.I31c o a (name_in i)) (name_in i) s.symbol refl h.0 h.1 s.named
named_of N T (raw.I35c o n regs x) i op index h s = moved N o op x index i (made.I35c o n regs (name_in i)) (name_in i) s.symbol refl h.0 h.1 s.named
named_of N T (raw.I3rc o n first x) i op index h s = moved N o op x index i (made.I3rc o n first (name_in i)) (name_in i) s.symbol refl h.0 h.1 s.named
named_of N T _ i op index h s = absurd h

names_none : (T : ℤ → ℕ) (w : Name) (r : Raw) → has_index r ≡ false → names_of_insn (linked T w r) ≡ []
unfolding linked has_index
names_none T w (raw.I21c op a index) h = absurd cc
names_none T w (raw.I22c op a b index) h = absurd cc
names_none T w (raw.I31c op a index) h = absurd cc
names_none T w (raw.I35c op n regs index) h = absurd cc
names_none T w (raw.I3rc op n first index) h = absurd cc
names_none T w _ h = refl

pub unnamed : (N : ℕ → Name → Type 0) (T : ℤ → ℕ) (r : Raw) (i : Insn) → has_index r ≡ false → Resolves N T r i → names_of_insn i ≡ []
unnamed N T r i h s = ap names_of_insn (sym s.symbol) ∙ names_none T (name_in i) r h

-- ---- its units
