-- Class data has one spelling.
use Rattle.std.proofs.Common.{◌≡◌, ℕ, List, sym, ◌∙◌, subst, arith}
use Rattle.std.proofs.lemmas.List.{length-map}
use Rattle.dex_base.specs.Fields.{AreBytes}
use Rattle.dex_base.specs.Leb128.{Spells, Shortest}
use Rattle.program_types.specs.Content.{Name, OfField, OfMethod, Descriptor, Member, Method}
use Rattle.file_classes.specs.ClassData.{FieldEntry, MethodEntry, Entries, EntriesAre, SpellsEntries, code_off}
use Rattle.file_put.specs.Data.{code_offs}
use Rattle.file_put.specs.inner.Data.{PacksData, ClassWithCodes, FieldRanks, MethodRanks}
use Rattle.code_write.proofs.HandlerOnce.{IsInjective}
use Rattle.file_put.proofs.GrammarOnce.{pairs_same}
use Rattle.file_put.proofs.EntryOnce.{entries_once, steps_same, marks_same, seconds_same, split_same}
use Rattle.dex_base.proofs.ListFacts.{all_of}

module _ (N : ℕ → Name → Type 0) (inj : IsInjective N) where
  fields_same : (class : Descriptor) (es fs : List FieldEntry) (ms : List Member) → EntriesAre (FieldRanks N class) es ms → EntriesAre (FieldRanks N class) fs ms → es ≡ fs
  fields_same class es fs ms p q =
      pairs_same es fs
      (steps_same (FieldRanks N class) (λ i j d e m x y. inj i j (OfField (record { class = class; name = m.name; ty = m.ty })) x.field y.field) es fs ms p q)
      (marks_same (FieldRanks N class) (λ (r : ℕ). r) (λ (m : Member). m.flags) (λ i e m x. sym x.flags) es ms p
      ∙ sym (marks_same (FieldRanks N class) (λ (r : ℕ). r) (λ (m : Member). m.flags) (λ i e m x. sym x.flags) fs ms q))

  methods_same : (class : Descriptor) (es fs : List MethodEntry) (ms : List Method) → EntriesAre (MethodRanks N class) es ms → EntriesAre (MethodRanks N class) fs ms → code_offs es ≡ code_offs fs → es ≡ fs
  methods_same class es fs ms p q codes =
      seconds_same es fs
      (steps_same (MethodRanks N class) (λ i j d e m x y. inj i j (OfMethod (record { class = class; name = m.name; proto = m.proto })) x.method y.method) es fs ms p q)
      (marks_same (MethodRanks N class) (λ (r : ℕ × ℕ). r.0) (λ (m : Method). m.flags) (λ i e m x. sym x.flags) es ms p
      ∙ sym (marks_same (MethodRanks N class) (λ (r : ℕ × ℕ). r.0) (λ (m : Method). m.flags) (λ i e m x. sym x.flags) fs ms q))
      codes

  pub data_once : (a b : List ℕ) (v : ClassWithCodes) → AreBytes a → AreBytes b → PacksData N a v → PacksData N b v → a ≡ b
  data_once a b v i j p q =
      let x = p.members in let y = q.members in
      let d = x.directs.count in let f = y.directs.count in
      let n0 = length-map p.entries.directs code_off in let n1 = length-map q.entries.directs code_off in
      let codes = split_same (code_offs p.entries.directs) (code_offs q.entries.directs) (code_offs p.entries.virtuals) (code_offs q.entries.virtuals) (omega (arith, d, f, n0, n1)) (p.codes ∙ sym q.codes) in
      let e0 = fields_same v.class.ty p.entries.statics q.entries.statics v.class.statics x.statics y.statics in
      let e1 = fields_same v.class.ty p.entries.instances q.entries.instances v.class.instances x.instances y.instances in
      let e2 = methods_same v.class.ty p.entries.directs q.entries.directs v.class.directs x.directs y.directs codes.0 in
      let e3 = methods_same v.class.ty p.entries.virtuals q.entries.virtuals v.class.virtuals x.virtuals y.virtuals codes.1 in
      let e : p.entries ≡ q.entries = (λ k. record { statics = e0 k; instances = e1 k; directs = e2 k; virtuals = e3 k }) in
      entries_once a b q.entries (all_of a i) (all_of b j) (subst (λ (es : Entries). SpellsEntries (Shortest Spells) a es) e p.spelled) q.spelled
