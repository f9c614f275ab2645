-- A row spells one class.
use Rattle.std.proofs.Common.{◌≡◌, ℕ, Bool, true, false, List, [], length, Option, Some, None, refl, sym, ap, ◌∙◌, subst, arith}
use Rattle.std.specs.Prelude.{MatchBool, ◌==◌}
use Rattle.std.proofs.lemmas.Option.{slice_get_within}
use Rattle.dex_container.specs.Frame.{IsFramed}
use Rattle.program_types.specs.Content.{Units, OfText, OfDesc, OfField, OfMethod, Value, Code, Member, Method, Class}
use Rattle.tables_rows.specs.Stands.{StringStands, TypeStands, NameStands}
use Rattle.dex_container.proofs.Standing.{At-one}
use Rattle.tables_rows.proofs.RowReading.{string_one}
use Rattle.tables_rows.proofs.TypeLists.{type_one, types_one}
use Rattle.tables_rows.proofs.NameLaws.{field_one, method_one}
use Rattle.dex_value.specs.Spelling.{SpellsArray}
use Rattle.dex_value.specs.Standing.{ArrayStands}
use Rattle.dex_insn.specs.declared.opcode.IndexKind.TheVariants as kind
use Rattle.code_read.specs.inner.Symbols as code
use Rattle.dex_value.proofs.FrontLaws.{SpellsArray-unique}
use Rattle.code_read.proofs.CodeLaws.{code_one}
use Rattle.file_classes.specs.ClassRows.{class_word, IndexOrNone}
use Rattle.file_classes.specs.ClassData.{FieldEntry, MethodEntry, Entries, steps, index_of, EntriesAre}
use Rattle.file_classes.specs.Classes.{IsField, IsMethod, StaticsAt, CodeAt, SomeCodeStands, CodesAre, SpellsClass}
use Rattle.file_classes.proofs.EntryLaws.{entries_one, entry_at, list_same, run_one}
use Rattle.dex_value.proofs.Carrying.{NameStands-functional}

-- and so it does of the kind that an opcode names
pub one_of_kind : (b : List ℕ) → IsFramed b → code.IsFunctional (NameStands b)
one_of_kind b framed kind.String i (OfText m) (OfText n) k l p q = ap OfText (string_one b i m n framed p q)
one_of_kind b framed kind.Type i (OfDesc m) (OfDesc n) k l p q = ap OfDesc (type_one b i m n framed p q)
one_of_kind b framed kind.Field i (OfField m) (OfField n) k l p q = ap OfField (field_one b framed i m n p q)
one_of_kind b framed kind.Method i (OfMethod m) (OfMethod n) k l p q = ap OfMethod (method_one b framed i m n p q)
one_of_kind b framed kind.String i (OfText m) _ k l p q = absurd l
one_of_kind b framed kind.Type i (OfDesc m) _ k l p q = absurd l
one_of_kind b framed kind.Field i (OfField m) _ k l p q = absurd l
one_of_kind b framed kind.Method i (OfMethod m) _ k l p q = absurd l
one_of_kind b framed _ i _ _ k l p q = absurd k

pub index_one : (S : ℕ → Units → Type 0) → ((i : ℕ) (s t : Units) → S i s → S i t → s ≡ t) → (i : ℕ) (x y : Option Units) → IndexOrNone S i x → IndexOrNone S i y → x ≡ y
index_one S one i None None p q = refl
index_one S one i None (Some t) p q = absurd (q.0 p)
index_one S one i (Some s) None p q = absurd (p.0 q)
index_one S one i (Some s) (Some t) p q = ap (λ (x : Units). Some x) (one i s t p.1 q.1)

module _ (b : List ℕ) (framed : IsFramed b) where
  values_one : (off most : ℕ) (vs ws : List Value) → StaticsAt b off most vs → StaticsAt b off most ws → vs ≡ ws
  values_one off most vs ws x y = by (off == 0) x y
    where
      by : (t : Bool) → MatchBool t (vs ≡ []) (ArrayStands (NameStands b) b off most vs) → MatchBool t (ws ≡ []) (ArrayStands (NameStands b) b off most ws) → vs ≡ ws
      by true p q = p ∙ sym q
      by false p q = At-one (SpellsArray (NameStands b)) (SpellsArray-unique (NameStands b) (NameStands-functional b framed)) b framed 0x2005 1 off vs ws p.stands q.stands

  code_same : (off : ℕ) (c d : Option Code) → CodeAt b off c → CodeAt b off d → c ≡ d
  code_same off c d x y = by (off == 0) x y
    where
      by : (t : Bool) → MatchBool t (c ≡ None) (SomeCodeStands b off c) → MatchBool t (d ≡ None) (SomeCodeStands b off d) → c ≡ d
      by true p q = p ∙ sym q
      by false p q = p.is ∙ ap (λ (z : Code). Some z) (code_one (NameStands b) (one_of_kind b framed) b framed off p.some q.some p.stands q.stands) ∙ sym q.is

  member_one : (class : Units) (k : ℕ) (e : FieldEntry) (v w : Member) → IsField b class k e v → IsField b class k e w → v ≡ w
  member_one class k e v w p q =
      let same = field_one b framed k _ _ p.field q.field in
      let flags = p.flags ∙ sym q.flags in
      λ j. record { name = (same j).name; ty = (same j).ty; flags = flags j }

  method_same : (class : Units) (k : ℕ) (e : MethodEntry) (v w : Method) → IsMethod b class k e v → IsMethod b class k e w → CodeAt b e.1.1 v.code → CodeAt b e.1.1 w.code → v ≡ w
  method_same class k e v w p q x y =
      let same = method_one b framed k _ _ p.method q.method in
      let flags = p.flags ∙ sym q.flags in
      let code = code_same e.1.1 v.code w.code x y in
      λ j. record { name = (same j).name; proto = (same j).proto; flags = flags j; code = code j }

  methods_same : (class : Units) (es : List MethodEntry) (vs ws : List Method) → EntriesAre (IsMethod b class) es vs → EntriesAre (IsMethod b class) es ws → CodesAre b es vs → CodesAre b es ws → vs ≡ ws
  methods_same class es vs ws p q x y =
      list_same vs ws (p.count ∙ sym q.count)
      (λ i v w at_v at_w.
      let e = entry_at es i (let n = p.count in let l = slice_get_within vs i v at_v in omega (arith, n, l)) in
      method_same class (index_of (steps es) i) e.0 v w (p.each i e.0 v e.1 at_v) (q.each i e.0 w e.1 at_w) (x i e.0 v e.1 at_v) (y i e.0 w e.1 at_w))

  pub class_one : (i : ℕ) (c d : Class) → SpellsClass b i c → SpellsClass b i d → c ≡ d
  class_one i c d x y =
      let e = entries_one b framed (class_word b i 6) y.entries x.entries y.head.class_data x.head.class_data in
      let ty = type_one b (class_word b i 0) c.ty d.ty framed x.head.row.named y.head.row.named in
      let flags = x.head.row.flagged ∙ sym y.head.row.flagged in
      let superclass = index_one (TypeStands b) (λ k s t m n. type_one b k s t framed m n) (class_word b i 2) c.superclass d.superclass x.head.row.above y.head.row.above in
      let source = index_one (StringStands b) (λ k s t m n. string_one b k s t framed m n) (class_word b i 4) c.source d.source x.head.row.written_in y.head.row.written_in in
      let interfaces = types_one b (class_word b i 3) c.interfaces d.interfaces framed x.head.interfaces.types y.head.interfaces.types in
      let ms = x.head.members in
      let ns = y.head.members in
      let statics = run_one (IsField b c.ty) x.entries.statics (member_one c.ty) c.statics d.statics ms.statics
      (subst (λ (t : Units). EntriesAre (IsField b t) x.entries.statics d.statics) (sym ty) (subst (λ (z : Entries). EntriesAre (IsField b d.ty) z.statics d.statics) e ns.statics)) in
      let instances = run_one (IsField b c.ty) x.entries.instances (member_one c.ty) c.instances d.instances ms.instances
      (subst (λ (t : Units). EntriesAre (IsField b t) x.entries.instances d.instances) (sym ty) (subst (λ (z : Entries). EntriesAre (IsField b d.ty) z.instances d.instances) e ns.instances)) in
      let directs = methods_same c.ty x.entries.directs c.directs d.directs ms.directs
      (subst (λ (t : Units). EntriesAre (IsMethod b t) x.entries.directs d.directs) (sym ty) (subst (λ (z : Entries). EntriesAre (IsMethod b d.ty) z.directs d.directs) e ns.directs))
      x.directs (subst (λ (z : Entries). CodesAre b z.directs d.directs) e y.directs) in
      let virtuals = methods_same c.ty x.entries.virtuals c.virtuals d.virtuals ms.virtuals
      (subst (λ (t : Units). EntriesAre (IsMethod b t) x.entries.virtuals d.virtuals) (sym ty) (subst (λ (z : Entries). EntriesAre (IsMethod b d.ty) z.virtuals d.virtuals) e ns.virtuals))
      x.virtuals (subst (λ (z : Entries). CodesAre b z.virtuals d.virtuals) e y.virtuals) in
      let values = values_one (class_word b i 7) (length x.entries.statics) c.values d.values x.values (subst (λ (z : Entries). StaticsAt b (class_word b i 7) (length z.statics) d.values) e y.values) in
      λ j. record { ty = ty j; flags = flags j; superclass = superclass j; interfaces = interfaces j; source = source j; statics = statics j; values = values j; instances = instances j; directs = directs j; virtuals = virtuals j }
