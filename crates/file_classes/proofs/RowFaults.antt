-- A class row holds, or it breaks one rule.
use Rattle.std.proofs.Common.{◌≡◌, ◌≢◌, ℕ, ◌≤◌, ◌⊎◌, inl, inr, List, Option, Some, None, refl, subst, arith}
use Rattle.std.specs.Prelude.{IfSome}
use Rattle.dex_base.specs.Descriptor.{IsClass}
use Rattle.dex_container.specs.Frame.{IsFramed}
use Rattle.dex_container.specs.Layout.{size_of}
use Rattle.program_types.specs.Content.{Units}
use Rattle.tables_rows.specs.Stands.{StringStands, TypeStands}
use Rattle.dex_base.proofs.FirstFaultLaws.{else_clear, else_one}
use Rattle.tables_rows.proofs.TypeLists.{type_one}
use Rattle.file_classes.specs.ClassRows.{class_word, no_index, IndexOrNone, InOrder}
use Rattle.file_classes.specs.ClassData.{Entries, EntriesAt}
use Rattle.file_classes.specs.Classes.{RowIs, InterfacesAt}
use Rattle.file_classes.specs.ClassFaults.{NamesAreIn, HasNames, MembersBreak, MemberBreaks, ClassRowBreaks, ClassRowHolds}
use Rattle.file_classes.specs.inner.ClassFaults.{MembersHold, ClassRowKeeps}
use Rattle.file_classes.proofs.EntryLaws.{entries_one}
use Rattle.file_classes.proofs.EntryFaults.{fields_hold, methods_hold, members_clear, members_number}
use Rattle.file_classes.proofs.OnceLaws.{index_one}

index_some : (S : ℕ → Units → Type 0) (i : ℕ) (name : Option Units) → i ≢ no_index → IndexOrNone S i name → (n : Units) × (name ≡ Some n) × S i n
index_some S i None not is = absurd (not is)
index_some S i (Some n) not is = (n, refl, is.1)

-- a superclass that is a class type, where there is one
if_class : (above : Option Units) → ((t : Units) → above ≡ Some t → IsClass t) → IfSome above IsClass
if_class None each = tt
if_class (Some t) each = each t refl

-- ---- the rule that a row breaks

module _ (b : List ℕ) (i : ℕ) where
  module _ (class : Units) (superclass source : Option Units) (named : TypeStands b (class_word b i 0) class) (above : IndexOrNone (TypeStands b) (class_word b i 2) superclass) (written : IndexOrNone (StringStands b) (class_word b i 4) source) where
    names_in : NamesAreIn b i
    names_in = record {
      class = named.row;
      superclass = λ some. (index_some (TypeStands b) (class_word b i 2) superclass some above).2.row;
      source = λ some. (index_some (StringStands b) (class_word b i 4) source some written).2.row;
    }

    pub class_kind : IsFramed b → (IsClass class → ⊥) ⊎ (IfSome superclass IsClass → ⊥) → ClassRowBreaks b i 41
    unfolding ClassRowBreaks
    class_kind framed other = inr (names_in, inl ((λ x. by x.0 x.2 x.4 other), refl))
      where
        by : (c : Units) (s : Option Units) {flags : ℕ} {w : Option Units} → RowIs b i c flags s w → (IsClass class → ⊥) ⊎ (IfSome superclass IsClass → ⊥) → ⊥
        by c s row (inl not) = not (subst (λ (t : Units). IsClass t) (type_one b (class_word b i 0) c class framed row.named named) row.class)
        by c s row (inr not) = not (subst (λ (o : Option Units). IfSome o IsClass) (index_one (TypeStands b) (λ k x y m n. type_one b k x y framed m n) (class_word b i 2) s superclass row.above above) (if_class s row.above_class))

  pub class_index : (size_of b 1 ≤ class_word b i 0) ⊎ ((class_word b i 2 ≢ no_index) × (size_of b 1 ≤ class_word b i 2)) ⊎ ((class_word b i 4 ≢ no_index) × (size_of b 0 ≤ class_word b i 4)) → ClassRowBreaks b i 40
  unfolding ClassRowBreaks
  class_index past = inl ((λ x. by past x), refl)
    where
      by : (size_of b 1 ≤ class_word b i 0) ⊎ ((class_word b i 2 ≢ no_index) × (size_of b 1 ≤ class_word b i 2)) ⊎ ((class_word b i 4 ≢ no_index) × (size_of b 0 ≤ class_word b i 4)) → NamesAreIn b i → ⊥
      by (inl ge) x = let lt = x.class in omega (arith, lt, ge)
      by (inr (inl p)) x = let lt = x.superclass p.0 in let ge = p.1 in omega (arith, lt, ge)
      by (inr (inr p)) x = let lt = x.source p.0 in let ge = p.1 in omega (arith, lt, ge)

  module _ {class : Units} {flags : ℕ} {superclass source : Option Units} (row : RowIs b i class flags superclass source) where
    row_in : NamesAreIn b i
    row_in = names_in class superclass source row.named row.above row.written_in

    has_names : HasNames b i
    has_names = (class, flags, superclass, source, row)

    pub interface_list : ((ts : List Units) → InterfacesAt b (class_word b i 3) ts → ⊥) → ClassRowBreaks b i 43
    unfolding ClassRowBreaks
    interface_list none = inr (row_in, inr (has_names, inl ((λ x. none x.0 x.1), refl)))

    module _ {ts : List Units} (list : InterfacesAt b (class_word b i 3) ts) where
      pub class_order : (InOrder b i → ⊥) → ClassRowBreaks b i 42
      unfolding ClassRowBreaks
      class_order late = inr (row_in, inr (has_names, inr ((ts, list), inl (late, refl))))

      module _ (order : InOrder b i) where
        pub class_data : ((e : Entries) → EntriesAt b (class_word b i 6) e → ⊥) → ClassRowBreaks b i 44
        unfolding ClassRowBreaks
        class_data none = inr (row_in, inr (has_names, inr ((ts, list), inr (order, inl ((λ x. none x.0 x.1), refl)))))

        pub member : {code : ℕ} (e : Entries) → EntriesAt b (class_word b i 6) e → MembersBreak b class e code → ClassRowBreaks b i code
        unfolding ClassRowBreaks
        member e at breaks = inr (row_in, inr (has_names, inr ((ts, list), inr (order, inr ((e, at), record { class = class; named = row.named; entries = e; class_data = at; breaks = breaks })))))

-- ---- a row that holds

module _ (b : List ℕ) (framed : IsFramed b) (i : ℕ) where
  holds_members : (h : ClassRowHolds b i) → MembersHold b h.class.ty h.entries
  holds_members h =
      let ms = h.head.members in
      let class = h.class.ty in
      record {
        statics = fields_hold b class h.entries.statics h.class.statics ms.statics;
        instances = fields_hold b class h.entries.instances h.class.instances ms.instances;
        directs = methods_hold b class h.entries.directs h.class.directs ms.directs;
        virtuals = methods_hold b class h.entries.virtuals h.class.virtuals ms.virtuals;
      }

  pub row_keeps : ClassRowHolds b i → ClassRowKeeps b i
  row_keeps h =
      let row = h.head.row in
      record {
        names = row_in b i row;
        class = λ t s. subst (λ (u : Units). IsClass u) (type_one b (class_word b i 0) h.class.ty t framed row.named s) row.class;
        superclass = λ some t s.
            let above = index_some (TypeStands b) (class_word b i 2) h.class.superclass some row.above in
            subst (λ (u : Units). IsClass u) (type_one b (class_word b i 2) above.0 t framed above.2 s) (row.above_class above.0 above.1);
        interfaces = (h.class.interfaces, h.head.interfaces);
        order = h.order;
        class_data = (h.entries, h.head.class_data);
        members = λ class e s at.
            subst (λ (t : Units). MembersHold b t e) (type_one b (class_word b i 0) h.class.ty class framed row.named s)
            (subst (λ (x : Entries). MembersHold b h.class.ty x) (entries_one b framed (class_word b i 6) h.entries e h.head.class_data at) (holds_members h));
      }

  pub class_clear : (code : ℕ) → ClassRowHolds b i → ClassRowBreaks b i code → ⊥
  unfolding ClassRowBreaks
  class_clear code h =
      let row = h.head.row in
      else_clear (row_in b i row) (else_clear (has_names b i row) (else_clear (h.class.interfaces, h.head.interfaces) (else_clear h.order (else_clear (h.entries, h.head.class_data)
      (λ x. members_clear b x.class x.entries code ((row_keeps h).members x.class x.entries x.named x.class_data) x.breaks)))))

  -- ---- a row that breaks a rule

  member_number : (m n : ℕ) → MemberBreaks b i m → MemberBreaks b i n → m ≡ n
  member_number m n p q =
      let class = type_one b (class_word b i 0) p.class q.class framed p.named q.named in
      let same = entries_one b framed (class_word b i 6) p.entries q.entries p.class_data q.class_data in
      members_number b q.class q.entries m n
      (subst (λ (t : Units). MembersBreak b t q.entries m) class (subst (λ (x : Entries). MembersBreak b p.class x m) same p.breaks)) q.breaks

  pub class_number : (m n : ℕ) → ClassRowBreaks b i m → ClassRowBreaks b i n → m ≡ n
  unfolding ClassRowBreaks
  class_number m n = else_one (else_one (else_one (else_one (else_one (member_number m n)))))
