-- What holds breaks no rule: static values, code.
use Rattle.std.proofs.Common.{◌≡◌, ℕ, ◌+◌, ◌-◌, ◌≤◌, inl, inr, List, [], length, take, drop, None, sym, ap, ◌∙◌, subst, arith}
use Rattle.std.proofs.lemmas.List.{take-take, take-append-drop}
use Rattle.dex_base.specs.declared.fault.Fault.{Fault}
use Rattle.dex_base.proofs.FirstFaultLaws.{later_clear}
use Rattle.dex_container.specs.Frame.{IsFramed}
use Rattle.dex_container.proofs.Framed.{IsSection-one}
use Rattle.program_types.specs.Content.{Name, Value}
use Rattle.tables_rows.specs.Names.{NameIsAt}
use Rattle.tables_rows.specs.Stands.{NameStands}
use Rattle.dex_container.specs.Where.{slice, IsSectionRest}
use Rattle.tables_rows.proofs.NameLaws.{stands_names}
use Rattle.dex_value.specs.Spelling.{SpellsArray}
use Rattle.dex_value.specs.Standing.{ArrayStands}
use Rattle.dex_value.specs.Unique.{IsFunctionalByType}
use Rattle.dex_value.specs.Faults.{ArrayBreaksAt}
use Rattle.dex_value.proofs.Namings.{NameIsAt-functional}
use Rattle.dex_value.proofs.Places.{outside_none}
use Rattle.dex_value.proofs.Refusing.{array_none}
use Rattle.dex_value.proofs.Weaker.{SpellsArray-weaker}
use Rattle.code_read.proofs.CarryLaws.{body_weaker, code_weaker}
use Rattle.code_read.proofs.CodeLaws.{broken_none, past_none}
use Rattle.code_read.proofs.StandLaws.{NameIsAt-functional as code_names}
use Rattle.file_classes.specs.ClassRows.{class_word}
use Rattle.file_classes.specs.ClassData.{MethodEntry, Entries}
use Rattle.file_classes.specs.Classes.{SomeCodeStands}
use Rattle.file_classes.specs.ClassFaults.{ValuesHold, ValuesBreak, SomeBodyStands, BodyHolds, BodyFails, CodeHolds, RegistersFail, EachCodeHolds, SomeCodeFails, ClassCodesHold, MethodsBreak, BodiesHold, BodiesBreak, RowRegistersHold, RowRegistersBreak}
use Rattle.file_classes.proofs.EntryLaws.{entries_one, at_some}

-- ---- static values

-- what breaks at an offset is no array
breaks_none : (N : ℕ → Name → Type 0) → IsFunctionalByType N → (b : List ℕ) → IsFramed b → (off most : ℕ) (e : Fault) (vs : List Value) → ArrayBreaksAt N b off most e → ArrayStands N b off most vs → ⊥
unfolding slice
breaks_none N one b framed off most e vs (inl out) a = outside_none N b off most vs out.0 a
breaks_none N one b framed off most e vs (inr p) a =
    let end = p.0 in
    let rest = p.1 in
    let is : IsSectionRest 0x2005 b off end rest = p.2 in
    let st = a.stands in
    let same = (IsSection-one b framed 0x2005 st.begin st.end is.begin end st.section is.section).1 in
    let t = takes rest end is.same st.size (let w = st.within in omega (arith, w, same)) in
    array_none N one off end most rest e p.3 vs (drop st.size rest) (record { front = take st.size rest; whole = sym (take-append-drop st.size rest); spelled = subst (λ (l : List ℕ). SpellsArray N l vs) (sym t) st.spelled }) a.few a.deep
  where
    takes : (rest : List ℕ) (end : ℕ) → rest ≡ take (end - off) (drop off b) → (n : ℕ) → off + n ≤ end → take n rest ≡ slice b off n
    takes rest end same n within = ap (λ l. take n l) same ∙ take-take n (end - off) (drop off b) (omega arith)

pub array_weaker : (M N : ℕ → Name → Type 0) → ((i : ℕ) (which : Name) → M i which → N i which) → (b : List ℕ) (off most : ℕ) (vs : List Value) → ArrayStands M b off most vs → ArrayStands N b off most vs
array_weaker M N f b off most vs a =
    let s = a.stands in
    record {
      stands = record { begin = s.begin; end = s.end; section = s.section; after = s.after; aligned = s.aligned; size = s.size; within = s.within; spelled = SpellsArray-weaker M N f _ vs s.spelled };
      few = a.few;
      deep = a.deep;
    }

module _ (b : List ℕ) (framed : IsFramed b) where
  pub values_clear : (i : ℕ) (e : Fault) → ValuesHold b i → ValuesBreak b i e → ⊥
  values_clear i e h m =
      let same = entries_one b framed (class_word b i 6) h.1.entries m.entries h.1.class_data m.class_data in
      let stands = at_some (class_word b i 7) (h.0 ≡ []) (ArrayStands (NameStands b) b (class_word b i 7) (length h.1.entries.statics) h.0) m.some h.1.spelled in
      let here = subst (λ (x : Entries). ArrayStands (NameStands b) b (class_word b i 7) (length x.statics) h.0) same stands in
      breaks_none (NameIsAt m.names) (NameIsAt-functional m.names) b framed (class_word b i 7) (length m.entries.statics) m.own h.0 m.breaks
      (array_weaker (NameStands b) (NameIsAt m.names) (λ k n. stands_names b m.names k n framed m.of_file) b (class_word b i 7) (length m.entries.statics) h.0 here)

  -- what holds at an offset has no fault there
  pub body_clear : (place : ℕ) (e : Fault) → BodyHolds b place → BodyFails b place e → ⊥
  body_clear place e h m =
      let s = at_some place (h.0 ≡ None) (SomeBodyStands b place h.0) m.some h.1 in
      broken_none (NameIsAt m.names) (code_names m.names) b framed place e s.some m.breaks
      (body_weaker (NameStands b) (NameIsAt m.names) (λ k n. stands_names b m.names k n framed m.of_file) b place s.some s.stands)

  pub registers_clear : (place : ℕ) (e : Fault) → CodeHolds b place → RegistersFail b place e → ⊥
  registers_clear place e h m =
      let s = at_some place (h.0 ≡ None) (SomeCodeStands b place h.0) m.some h.1 in
      past_none (NameIsAt m.names) (code_names m.names) b framed place e s.some m.breaks
      (code_weaker (NameStands b) (NameIsAt m.names) (λ k n. stands_names b m.names k n framed m.of_file) b place s.some s.stands)

  -- and so of both passes
  module _ (Holds : List ℕ → ℕ → Type 0) (Fails : List ℕ → ℕ → Fault → Type 0) (clear : (place : ℕ) (e : Fault) → Holds b place → Fails b place e → ⊥) where
    pub codes_clear : (es : List MethodEntry) (e : Fault) → EachCodeHolds Holds b es → SomeCodeFails Holds Fails b es e → ⊥
    codes_clear es e h m = clear m.breaks.entry.1.1 e (h m.number m.breaks.entry m.breaks.there) m.breaks.breaks

    both_clear : (i : ℕ) (e : Fault) → ClassCodesHold Holds b i → MethodsBreak Holds Fails b i e → ⊥
    both_clear i e h m =
        let same = entries_one b framed (class_word b i 6) h.entries m.entries h.class_data m.class_data in
        let directs = subst (λ (x : Entries). EachCodeHolds Holds b x.directs) same h.directs in
        let virtuals = subst (λ (x : Entries). EachCodeHolds Holds b x.virtuals) same h.virtuals in
        later_clear (codes_clear m.entries.directs e) (codes_clear m.entries.virtuals e virtuals) directs m.breaks

  pub bodies_clear : (i : ℕ) (e : Fault) → BodiesHold b i → BodiesBreak b i e → ⊥
  bodies_clear = both_clear BodyHolds BodyFails body_clear

  pub methods_clear : (i : ℕ) (e : Fault) → RowRegistersHold b i → RowRegistersBreak b i e → ⊥
  methods_clear = both_clear CodeHolds RegistersFail registers_clear
