-- Entries hold, or the first that doesn't breaks one rule.
use Rattle.std.proofs.Common.{◌≡◌, ℕ, ◌<◌, ◌≤◌, List, length, refl, sym, ap, ◌∙◌, arith}
use Rattle.std.proofs.lemmas.List.{length-map}
use Rattle.dex_container.specs.Frame.{IsFramed}
use Rattle.dex_container.specs.Layout.{size_of}
use Rattle.program_types.specs.Content.{Units, Member, Method}
use Rattle.dex_base.proofs.FirstFaultLaws.{else_clear, else_one, none_one, later_clear, later_one, first_clear, first_one}
use Rattle.tables_rows.proofs.NameLaws.{field_one, method_one}
use Rattle.file_classes.specs.ClassData.{FieldEntry, MethodEntry, Entries, steps, index_of, FirstEntriesAre, EntriesAre}
use Rattle.file_classes.specs.Classes.{IsField, IsMethod}
use Rattle.file_classes.specs.ClassFaults.{FieldOwner, MethodOwner, MemberEntryHolds, EntryBreaks, MemberEntriesHold, EntriesBreak, FieldEntriesHold, MethodEntriesHold, MembersBreak}
use Rattle.file_classes.specs.inner.ClassFaults.{MembersHold}
use Rattle.file_classes.specs.inner.Reading.{IsBare}
use Rattle.file_classes.specs.declared.members.Bare.{Bare}
use Rattle.file_classes.proofs.EntryLaws.{entry_at}

-- ---- entries that stand for members of the class hold

module _ {R V : Type 0} (M : ℕ → ℕ × R → V → Type 0) (IsOwner : ℕ → Units → Type 0) (class : Units) (owns : (i : ℕ) (e : ℕ × R) (v : V) → M i e v → IsOwner i class) (es : List (ℕ × R)) where
  pub run_holds : (n : ℕ) (vs : List V) → n ≤ length es → FirstEntriesAre M es n vs → (k : ℕ) → k < n → MemberEntryHolds IsOwner class (steps es) k
  run_holds n vs le run k lt =
      let at = entry_at es k (omega (arith, le, lt)) in
      let to = entry_at vs k (let count = run.count in omega (arith, count, lt)) in
      record { owned = owns (index_of (steps es) k) at.0 to.0 (run.each k at.0 to.0 at.1 to.1); rises = λ some. run.rises k some lt }

  all_hold : (vs : List V) → EntriesAre M es vs → MemberEntriesHold IsOwner class (steps es)
  all_hold vs run k lt = run_holds (length es) vs (omega arith) run k (let all = length-map es (λ (e : ℕ × R). e.0) in omega (arith, all, lt))

module _ (b : List ℕ) (class : Units) where
  pub field_owned : (i : ℕ) (e : FieldEntry) (v : Member) → IsField b class i e v → FieldOwner b i class
  field_owned i e v f = (record { class = class; name = v.name; ty = v.ty }, f.field, refl)

  pub method_owned : (i : ℕ) (e : MethodEntry) (v : Method) → IsMethod b class i e v → MethodOwner b i class
  method_owned i e v m = (record { class = class; name = v.name; proto = v.proto }, m.method, refl)

  pub bare_owned : (i : ℕ) (e : MethodEntry) (v : Bare) → IsBare b class i e v → MethodOwner b i class
  bare_owned i e v m = method_owned i e _ m.method

  pub fields_hold : (es : List FieldEntry) (vs : List Member) → EntriesAre (IsField b class) es vs → FieldEntriesHold b class es
  fields_hold es vs = all_hold (IsField b class) (FieldOwner b) class field_owned es vs

  pub methods_hold : (es : List MethodEntry) (vs : List Method) → EntriesAre (IsMethod b class) es vs → MethodEntriesHold b class es
  methods_hold es vs = all_hold (IsMethod b class) (MethodOwner b) class method_owned es vs

  pub bares_hold : (es : List MethodEntry) (vs : List Bare) → EntriesAre (IsBare b class) es vs → MethodEntriesHold b class es
  bares_hold es vs = all_hold (IsBare b class) (MethodOwner b) class bare_owned es vs

-- ---- an entry holds, or breaks one rule

module _ (IsOwner : ℕ → Units → Type 0) (size : ℕ) (row : (k : ℕ) (t : Units) → IsOwner k t → k < size) (class : Units) (differences : List ℕ) where
  entry_clear : (k code : ℕ) → MemberEntryHolds IsOwner class differences k → EntryBreaks IsOwner size class differences k code → ⊥
  entry_clear k code h = else_clear (row (index_of differences k) class h.owned) (else_clear h.owned (else_clear h.rises (λ none. none)))

  entry_number : (k m n : ℕ) → EntryBreaks IsOwner size class differences k m → EntryBreaks IsOwner size class differences k n → m ≡ n
  entry_number k m n = else_one (else_one (else_one none_one))

  entries_clear : (code : ℕ) → MemberEntriesHold IsOwner class differences → EntriesBreak IsOwner size class differences code → ⊥
  entries_clear code = first_clear entry_clear

  -- and of a list the first
  entries_number : (m n : ℕ) → EntriesBreak IsOwner size class differences m → EntriesBreak IsOwner size class differences n → m ≡ n
  entries_number m n = first_one entry_clear entry_number

-- ---- a member is of one class

module _ (b : List ℕ) (framed : IsFramed b) where
  pub field_owner_one : (k : ℕ) (s t : Units) → FieldOwner b k s → FieldOwner b k t → s ≡ t
  field_owner_one k s t p q = sym p.2 ∙ ap (λ f. f.class) (field_one b framed k p.0 q.0 p.1 q.1) ∙ q.2

  pub method_owner_one : (k : ℕ) (s t : Units) → MethodOwner b k s → MethodOwner b k t → s ≡ t
  method_owner_one k s t p q = sym p.2 ∙ ap (λ m. m.class) (method_one b framed k p.0 q.0 p.1 q.1) ∙ q.2

-- ---- of the four lists the first

module _ (b : List ℕ) where
  field_row : (k : ℕ) (t : Units) → FieldOwner b k t → k < size_of b 3
  field_row k t o = o.1.row

  method_row : (k : ℕ) (t : Units) → MethodOwner b k t → k < size_of b 4
  method_row k t o = o.1.row

  module _ (class : Units) (e : Entries) where
    abbrev Fields : List FieldEntry → ℕ → Type 0
    Fields es code = EntriesBreak (FieldOwner b) (size_of b 3) class (steps es) code

    abbrev Methods : List MethodEntry → ℕ → Type 0
    Methods es code = EntriesBreak (MethodOwner b) (size_of b 4) class (steps es) code

    fields_clear : (es : List FieldEntry) (code : ℕ) → FieldEntriesHold b class es → Fields es code → ⊥
    fields_clear es code = entries_clear (FieldOwner b) (size_of b 3) field_row class (steps es) code

    methods_clear : (es : List MethodEntry) (code : ℕ) → MethodEntriesHold b class es → Methods es code → ⊥
    methods_clear es code = entries_clear (MethodOwner b) (size_of b 4) method_row class (steps es) code

    fields_number : (es : List FieldEntry) (m n : ℕ) → Fields es m → Fields es n → m ≡ n
    fields_number es m n = entries_number (FieldOwner b) (size_of b 3) field_row class (steps es) m n

    methods_number : (es : List MethodEntry) (m n : ℕ) → Methods es m → Methods es n → m ≡ n
    methods_number es m n = entries_number (MethodOwner b) (size_of b 4) method_row class (steps es) m n

    pub members_clear : (code : ℕ) → MembersHold b class e → MembersBreak b class e code → ⊥
    members_clear code h =
        later_clear (fields_clear e.statics code) (
        later_clear (fields_clear e.instances code) (
        later_clear (methods_clear e.directs code) (methods_clear e.virtuals code h.virtuals) h.directs) h.instances) h.statics

    pub members_number : (m n : ℕ) → MembersBreak b class e m → MembersBreak b class e n → m ≡ n
    members_number m n =
        later_one (fields_clear e.statics m) (fields_clear e.statics n) (fields_number e.statics m n) (
        later_one (fields_clear e.instances m) (fields_clear e.instances n) (fields_number e.instances m n) (
        later_one (methods_clear e.directs m) (methods_clear e.directs n) (methods_number e.directs m n) (methods_number e.virtuals m n)))
