-- One instruction, with another index.
use Rattle.std.proofs.Common.{◌≡◌, ℕ, ℤ, ◌<◌, List, [], ◌∷◌, Option, Some, None, refl, sym, ap, subst, ◌∙◌}
use Rattle.std.specs.Prelude.{slice_get, IfSome}
use Rattle.std.specs.List.{AllByRecursion}
use Rattle.std.proofs.lemmas.Option.{get_or_from_slice_get, slice_get_within}
use Rattle.dex_insn.specs.Raw as raw
use Rattle.dex_insn.specs.Raw.{Raw, units, is_payload}
use Rattle.dex_insn.specs.Opcodes.{index_kind_of}
use Rattle.dex_insn.specs.declared.opcode.IndexKind.{IndexKind}
use Rattle.program_types.specs.Content.{Name, Insn}
use Rattle.program_types.specs.Content as made
use Rattle.program_types.specs.Kinds.{IsOfKind}
use Rattle.program_types.specs.Operands.{IsOfIndexKind}
use Rattle.program_types.specs.Mentions.{names_of_insn}
use Rattle.file_renumber.specs.inner.Marked.{Columns}
use Rattle.file_renumber.specs.inner.Numbers.{Carries, column_of}
use Rattle.code_read.specs.Symbols.{Resolves, IndexStandsFor, linked, name_in}
use Rattle.code_read.specs.Linked.{payload_of}
use Rattle.code_write.specs.Fits.{short_name, ShortFits}
use Rattle.file_renumber.specs.inner.Renumbered.{number_in, renumbered, HasNumber, HasShortNumber, IsNumbered}
use Rattle.file_renumber.proofs.InsnLemmas.{kind_is, of_kind}

-- the row has a number, by which it stands for the name
record Renamed (M : ℕ → Name → Type 0) (numbers : Columns) (op i : ℕ) (which : Name) : Type 0 where
  has : HasNumber numbers op i
  stands : IndexStandsFor M op (number_in numbers (index_kind_of op) i) which

module _ (N M : ℕ → Name → Type 0) (numbers : Columns) where
  renamed : (op i : ℕ) (which : Name) → IndexStandsFor N op i which → Carries N M numbers which → Renamed M numbers op i which
  renamed op i which n c = by (index_kind_of op) refl n.kind
    where
      by : (index_kind : Option IndexKind) → index_kind_of op ≡ index_kind → IsOfIndexKind index_kind which → Renamed M numbers op i which
      by None e h = absurd h
      by (Some table) e h =
          let x = c i n.stands in
          let same = kind_is table which h in
          let at : slice_get (column_of numbers table) i ≡ Some x.0 = subst (λ (k : IndexKind). slice_get (column_of numbers k) i ≡ Some x.0) same x.1 in
          let is : number_in numbers (index_kind_of op) i ≡ x.0 = ap (λ (k : Option IndexKind). number_in numbers k i) e ∙ get_or_from_slice_get (column_of numbers table) i x.0 0 at in
          record {
            has = record { table = table; index_kind = e; within = slice_get_within (column_of numbers table) i x.0 at };
            stands = record { kind = n.kind; stands = subst (λ (n : ℕ). M n which) (sym is) x.2 };
          }

  -- all that an instruction names has its numbers
  abbrev pub Carried : Insn → Type 0
  Carried i = AllByRecursion (Carries N M numbers) (names_of_insn i)

  of_name : (op x : ℕ) (i made_of : Insn) (which : Name) → made_of ≡ i → names_of_insn made_of ≡ which ∷ [] → IndexStandsFor N op x which → Carried i → Renamed M numbers op x which
  of_name op x i made_of which e names n all =
      renamed op x which n
      (subst (λ (ns : List Name). AllByRecursion (Carries N M numbers) ns) names (subst (λ (y : Insn). AllByRecursion (Carries N M numbers) (names_of_insn y)) (sym e) all)).0

  -- what is renumbered says the same by the other naming
  pub renumbered_says : (T : ℤ → ℕ) (r : Raw) (i : Insn) → Resolves N T r i → Carried i → Resolves M T (renumbered numbers r) i
  unfolding linked
  renumbered_says T (raw.I21c op a x) i s c = record { symbol = s.symbol; named = (of_name op x i (made.I21c op a (name_in i)) (name_in i) s.symbol refl s.named c).stands }
  renumbered_says T (raw.I22c op a b x) i s c = record { symbol = s.symbol; named = (of_name op x i (made.I22c op a b (name_in i)) (name_in i) s.symbol refl s.named c).stands }
  renumbered_says T (raw.I31c op a x) i s c = record { symbol = s.symbol; named = (of_name op x i (made.I31c op a (name_in i)) (name_in i) s.symbol refl s.named c).stands }
  renumbered_says T (raw.I35c op n regs x) i s c = record { symbol = s.symbol; named = (of_name op x i (made.I35c op n regs (name_in i)) (name_in i) s.symbol refl s.named c).stands }
  renumbered_says T (raw.I3rc op n first x) i s c = record { symbol = s.symbol; named = (of_name op x i (made.I3rc op n first (name_in i)) (name_in i) s.symbol refl s.named c).stands }
  renumbered_says T _ i s c = record { symbol = s.symbol; named = tt }

  -- a name's number fits where all of its indices do
  short_of : (op x : ℕ) (i made_of : Insn) (which : Name) → made_of ≡ i → short_name made_of ≡ Some which → Renamed M numbers op x which → ((table : IndexKind) → ShortFits M table i) → HasShortNumber numbers op x
  short_of op x i made_of which e short d fits =
      let some : short_name i ≡ Some which = ap short_name (sym e) ∙ short in
      let h = fits d.has.table in
      let f = subst (λ (o : Option Name). IfSome o (λ w. IsOfKind d.has.table w → (index : ℕ) → M index w → index < 65536)) some h in
      record { has = d.has; short = f (of_kind (index_kind_of op) d.has.table which d.has.index_kind d.stands.kind) (number_in numbers (index_kind_of op) x) d.stands.stands }

  pub can_renumber : (T : ℤ → ℕ) (r : Raw) (i : Insn) → Resolves N T r i → Carried i → ((table : IndexKind) → ShortFits M table i) → IsNumbered numbers r
  unfolding linked
  can_renumber T (raw.I21c op a x) i s c f = short_of op x i (made.I21c op a (name_in i)) (name_in i) s.symbol refl (of_name op x i (made.I21c op a (name_in i)) (name_in i) s.symbol refl s.named c) f
  can_renumber T (raw.I22c op a b x) i s c f = short_of op x i (made.I22c op a b (name_in i)) (name_in i) s.symbol refl (of_name op x i (made.I22c op a b (name_in i)) (name_in i) s.symbol refl s.named c) f
  can_renumber T (raw.I31c op a x) i s c f = (of_name op x i (made.I31c op a (name_in i)) (name_in i) s.symbol refl s.named c).has
  can_renumber T (raw.I35c op n regs x) i s c f = short_of op x i (made.I35c op n regs (name_in i)) (name_in i) s.symbol refl (of_name op x i (made.I35c op n regs (name_in i)) (name_in i) s.symbol refl s.named c) f
  can_renumber T (raw.I3rc op n first x) i s c f = short_of op x i (made.I3rc op n first (name_in i)) (name_in i) s.symbol refl (of_name op x i (made.I3rc op n first (name_in i)) (name_in i) s.symbol refl s.named c) f
  can_renumber T _ i s c f = tt

-- ---- what stays

pub renumbered_units : (numbers : Columns) (r : Raw) → units (renumbered numbers r) ≡ units r
unfolding units
renumbered_units numbers (raw.I21c op a x) = refl
renumbered_units numbers _ = refl

pub renumbered_payload : (numbers : Columns) (r : Raw) → payload_of (renumbered numbers r) ≡ payload_of r
unfolding payload_of
renumbered_payload numbers (raw.I21c op a x) = refl
renumbered_payload numbers _ = refl

pub renumbered_kind : (numbers : Columns) (r : Raw) → is_payload (renumbered numbers r) ≡ is_payload r
unfolding is_payload
renumbered_kind numbers (raw.I21c op a x) = refl
renumbered_kind numbers _ = refl
