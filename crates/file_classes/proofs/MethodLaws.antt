-- Methods with their code, and the class that they complete.
use Rattle.std.proofs.Common.{◌≡◌, ◌≢◌, ℕ, ◌+◌, ◌<◌, inl, inr, Bool, true, false, List, [], ◌∷◌, ◌++◌, length, map, Option, Some, None, option_map, refl, sym, ap, ◌∙◌, subst, arith, slice_get, get_or}
use Rattle.std.specs.Prelude.{MatchBool, ◌==◌, IfSome, IfNone}
use Rattle.std.specs.Option.{option_or}
use Rattle.file_classes.proofs.StaticsLaws.{at_none, at_other, first_class}
use Rattle.std.proofs.lemmas.Bool.{cases_lt}
use Rattle.std.proofs.lemmas.List.{length-map, length_push}
use Rattle.std.proofs.lemmas.Option.{slice_get_within, slice_get-map, slice_get-get_or, same_Some}
use Rattle.dex_base.specs.declared.fault.Fault.{Fault}
use Rattle.dex_container.specs.Frame.{IsFramed}
use Rattle.program_types.specs.Content.{Units, Proto, Method, Class, Value, Code}
use Rattle.program_types.specs.Formed.{RegistersHold as Named}
use Rattle.program_types.specs.declared.names.Str.{Str}
use Rattle.program_types.specs.declared.names.Desc.{Desc}
use Rattle.dex_container.specs.Layout.{size_of}
use Rattle.tables_rows.specs.Names.{Names, AreNamesOf, NameIsAt, AreRows}
use Rattle.tables_rows.specs.inner.Reading.{AreFirst}
use Rattle.tables_rows.specs.Sorted.{RowsHold}
use Rattle.tables_rows.specs.Stands.{MethodStands, NameStands}
use Rattle.tables_rows.proofs.NameLaws.{names_stand}
use Rattle.code_read.specs.Code.{BodyStands, CodeStands}
use Rattle.code_read.specs.Faults.{RegistersBreak as Overrun}
use Rattle.code_read.proofs.CarryLaws.{body_weaker}
use Rattle.code_read.proofs.CodeLaws.{body_one}
use Rattle.code_read.proofs.StandLaws.{code_body, body_code}
use Rattle.file_classes.specs.ClassData.{MethodEntry, Entries, steps, index_of, EntriesAre}
use Rattle.file_classes.specs.ClassRows.{class_word}
use Rattle.file_classes.specs.Classes.{IsMethod, StaticsAt, CodeAt, SomeCodeStands, SpellsClass}
use Rattle.file_classes.specs.ClassFaults.{ValuesStand, SomeBodyStands, BodyAt, BodyHolds, CodeHolds, RegistersFail, EachCodeHolds, SomeCodeFails, ClassCodesHold, MethodsBreak, BodiesHold, RowRegistersHold, RowRegistersBreak}
use Rattle.file_classes.specs.inner.ClassFaults.{IsFirstClass}
use Rattle.file_classes.specs.inner.Reading.{bare, with_code, head, HaveCodes, IsHead, IsFound, IsDone, AreDone, CodesHoldUpTo, FirstCodeBreaks, CodesUpTo, BodiesAre, SpellsBodies}
use Rattle.file_classes.specs.declared.members.Bare.{Bare}
use Rattle.file_classes.specs.declared.heads.Head.{Head}
use Rattle.file_classes.specs.declared.keeping.FoundCode.{FoundCode}
use Rattle.file_classes.proofs.EntryLaws.{entry_at, entries_one}
use Rattle.file_classes.proofs.OnceLaws.{one_of_kind}
use Rattle.dex_base.proofs.ListFacts.{slice_split}

module _ (b : List ℕ) (ms : List Bare) where
  pub done_more : (n : ℕ) (vs : List Method) (m : Bare) (v : Method) → AreDone b ms n vs → slice_get ms n ≡ Some m → IsDone b m v → AreDone b ms (n + 1) (vs ++ v ∷ [])
  done_more n vs m v done there is = record {
    count = length_push vs v ∙ ap (λ k. k + 1) done.count;
    each = λ k x w p q. elim (slice_split vs v w k q) [
      | inl at ↦ done.each k x w p at
      | inr e ↦
          let same : n ≡ k = sym (e.0 ∙ done.count) in
          let x_is : m ≡ x = same_Some m x (sym there ∙ ap (slice_get ms) same ∙ p) in
          subst (λ (y : Method). IsDone b x y) e.1 (subst (λ (y : Bare). IsDone b y v) x_is is)
    ];
    hold = λ k x lt p. elim (cases_lt k n) [
      | inl before ↦ done.hold k x before p
      | inr ge ↦
          let same : n ≡ k = omega arith in
          let x_is : m ≡ x = same_Some m x (sym there ∙ ap (slice_get ms) same ∙ p) in
          (v.code, subst (λ (y : Bare). BodyAt b y.code v.code) x_is is.code)
    ];
  }

  module _ (es : List MethodEntry) (codes : HaveCodes es ms) (size : length ms ≡ length es) where
    other : (k : ℕ) (e : MethodEntry) → slice_get es k ≡ Some e → (m : Bare) × (slice_get ms k ≡ Some m)
    other k e at = entry_at ms k (let w = slice_get_within es k e at in omega (arith, w, size))

    same : (k : ℕ) (m : Bare) → slice_get ms k ≡ Some m → (e : MethodEntry) × (slice_get es k ≡ Some e)
    same k m at = entry_at es k (let w = slice_get_within ms k m at in omega (arith, w, size))

    pub done_codes : (vs : List Method) → AreDone b ms (length ms) vs → BodiesAre b es vs
    done_codes vs done k e v at_e at_v =
        let m = other k e at_e in
        subst (λ (n : ℕ). BodyAt b n v.code) (codes k e m.0 at_e m.1) (done.each k m.0 v m.1 at_v).code

    module _ (Holds : List ℕ → ℕ → Type 0) where
      pub bares_hold : ((k : ℕ) (m : Bare) → k < length ms → slice_get ms k ≡ Some m → Holds b m.code) → EachCodeHolds Holds b es
      bares_hold all k e at_e =
          let m = other k e at_e in
          subst (λ (n : ℕ). Holds b n) (codes k e m.0 at_e m.1) (all k m.0 (slice_get_within ms k m.0 m.1) m.1)

      pub codes_break : (Fails : List ℕ → ℕ → Fault → Type 0) (e : Fault) → FirstCodeBreaks Holds Fails b ms e → SomeCodeFails Holds Fails b es e
      codes_break Fails e f =
          let one = f.breaks in
          let x = same f.number one.entry one.there in
          record {
            number = f.number;
            within = slice_get_within es f.number x.0 x.1;
            breaks = record { entry = x.0; there = x.1; breaks = subst (λ (n : ℕ). Fails b n e) (codes f.number x.0 one.entry x.1 one.there) one.breaks };
            before = λ k lt y at. let m = other k y at in subst (λ (n : ℕ). Holds b n) (codes k y m.0 at m.1) (f.before k lt m.0 m.1);
          }

    pub done_run : (class : Units) (vs : List Method) → EntriesAre (IsMethod b class) es (map bare ms) → AreDone b ms (length ms) vs → EntriesAre (IsMethod b class) es vs
    done_run class vs run done = record {
      count = done.count ∙ size;
      each = λ k e v at_e at_v.
          let m = other k e at_e in
          let d = done.each k m.0 v m.1 at_v in
          let is = run.each k e (bare m.0) at_e (slice_get-map bare ms k ∙ ap (option_map bare) m.1) in
          record {
            method = subst (λ (x : Units). MethodStands b (index_of (steps es) k) (record { class = class; name = x; proto = v.proto })) d.name
                (subst (λ (x : Proto). MethodStands b (index_of (steps es) k) (record { class = class; name = (bare m.0).name; proto = x })) d.proto is.method);
            flags = sym d.flags ∙ is.flags;
          };
      rises = run.rises;
    }

module _ (b : List ℕ) (framed : IsFramed b) (i : ℕ) (h : Head) (is : IsHead b i h) where
  direct_count : length h.directs.now ≡ length is.entries.directs
  direct_count = sym (length-map h.directs.now bare) ∙ is.head.members.directs.count

  virtual_count : length h.virtuals.now ≡ length is.entries.virtuals
  virtual_count = sym (length-map h.virtuals.now bare) ∙ is.head.members.virtuals.count

  module _ (Holds : List ℕ → ℕ → Type 0) (Fails : List ℕ → ℕ → Fault → Type 0) where
    pub directs_break : (e : Fault) → FirstCodeBreaks Holds Fails b h.directs.now e → MethodsBreak Holds Fails b i e
    directs_break e f = record {
      entries = is.entries;
      class_data = is.head.class_data;
      breaks = inl (codes_break b h.directs.now is.entries.directs is.directs direct_count Holds Fails e f);
    }

    pub virtuals_break : (e : Fault) → ((k : ℕ) (m : Bare) → k < length h.directs.now → slice_get h.directs.now k ≡ Some m → Holds b m.code) → FirstCodeBreaks Holds Fails b h.virtuals.now e → MethodsBreak Holds Fails b i e
    virtuals_break e all f = record {
      entries = is.entries;
      class_data = is.head.class_data;
      breaks = inr (bares_hold b h.directs.now is.entries.directs is.directs direct_count Holds all, codes_break b h.virtuals.now is.entries.virtuals is.virtuals virtual_count Holds Fails e f);
    }

  pub all_hold : (Holds : List ℕ → ℕ → Type 0) → ((k : ℕ) (m : Bare) → k < length h.directs.now → slice_get h.directs.now k ≡ Some m → Holds b m.code)
      → ((k : ℕ) (m : Bare) → k < length h.virtuals.now → slice_get h.virtuals.now k ≡ Some m → Holds b m.code) → ClassCodesHold Holds b i
  all_hold Holds d v = record {
    entries = is.entries;
    class_data = is.head.class_data;
    directs = bares_hold b h.directs.now is.entries.directs is.directs direct_count Holds d;
    virtuals = bares_hold b h.virtuals.now is.entries.virtuals is.virtuals virtual_count Holds v;
  }

  module _ (ds : List Method) (direct : AreDone b h.directs.now (length h.directs.now) ds) where
    pub class_spelled : (values : List Value) (vs : List Method) → ValuesStand b i values → AreDone b h.virtuals.now (length h.virtuals.now) vs → SpellsBodies b i (record (head h) { values = values; directs = ds; virtuals = vs })
    class_spelled values vs stand virtual =
        let hd = is.head in
        let ms = hd.members in
        let same = entries_one b framed (class_word b i 6) stand.entries is.entries stand.class_data hd.class_data in
        record {
          entries = is.entries;
          head = record {
            row = hd.row;
            interfaces = hd.interfaces;
            class_data = hd.class_data;
            members = record {
              statics = ms.statics;
              instances = ms.instances;
              directs = done_run b h.directs.now is.entries.directs is.directs direct_count (head h).ty ds ms.directs direct;
              virtuals = done_run b h.virtuals.now is.entries.virtuals is.virtuals virtual_count (head h).ty vs ms.virtuals virtual;
            };
          };
          values = subst (λ (x : Entries). StaticsAt b (class_word b i 7) (length x.statics) values) same stand.spelled;
          directs = done_codes b h.directs.now is.entries.directs is.directs direct_count ds direct;
          virtuals = done_codes b h.virtuals.now is.entries.virtuals is.virtuals virtual_count vs virtual;
        }

-- what the class keeps of the first fault of its registers: that of its direct methods, else that of its virtual ones
module _ (b : List ℕ) (framed : IsFramed b) (i : ℕ) (h : Head) (is : IsHead b i h) where
  pub class_kept : (d v r : Option Fault) → CodesUpTo CodeHolds RegistersFail b h.directs.now (length h.directs.now) d → CodesUpTo CodeHolds RegistersFail b h.virtuals.now (length h.virtuals.now) v
      → r ≡ option_or d v → IfNone r (RowRegistersHold b i) × IfSome r (RowRegistersBreak b i)
  class_kept None v r direct virtual first = subst (λ (o : Option Fault). IfNone o (RowRegistersHold b i) × IfSome o (RowRegistersBreak b i)) (sym first) (last v virtual.none virtual.some)
    where
      last : (o : Option Fault) → IfNone o ((k : ℕ) (m : Bare) → k < length h.virtuals.now → slice_get h.virtuals.now k ≡ Some m → CodeHolds b m.code) → IfSome o (FirstCodeBreaks CodeHolds RegistersFail b h.virtuals.now) → IfNone o (RowRegistersHold b i) × IfSome o (RowRegistersBreak b i)
      last None n s = (all_hold b framed i h is CodeHolds direct.none n, tt)
      last (Some e) n s = (tt, virtuals_break b framed i h is CodeHolds RegistersFail e direct.none s)
  class_kept (Some e) v r direct virtual first = subst (λ (o : Option Fault). IfNone o (RowRegistersHold b i) × IfSome o (RowRegistersBreak b i)) (sym first) (tt, directs_break b framed i h is CodeHolds RegistersFail e direct.some)

-- The registers of all code of the first n rows hold, or this is the first fault.
pub record RowsUpTo (b : List ℕ) (n : ℕ) (past : Option Fault) : Type 0 where
  pub none : IfNone past (RowsHold RowRegistersHold b n)
  pub some : IfSome past (IsFirstClass RowRegistersBreak RowRegistersHold b)

-- one row more, whose registers hold or are the first that don't
module _ (b : List ℕ) where
  pub rows_none : RowsUpTo b 0 None
  rows_none = record { none = λ i lt. absurd (omega (arith, lt)); some = tt }

  rows_more : (n : ℕ) (o : Option Fault) → n < size_of b 5 → RowsUpTo b n None → IfNone o (RowRegistersHold b n) → IfSome o (RowRegistersBreak b n) → RowsUpTo b (n + 1) o
  rows_more n None lt u h f = record {
    none = λ i l. elim (cases_lt i n) [
      | inl before ↦ u.none i before
      | inr ge ↦ let same : n ≡ i = omega (arith, l, ge) in subst (λ (j : ℕ). RowRegistersHold b j) same h
    ];
    some = tt;
  }
  rows_more n (Some e) lt u h f = record { none = tt; some = first_class RowRegistersBreak RowRegistersHold b n e lt u.none f }

  pub rows_turn : (n : ℕ) (o next r : Option Fault) → r ≡ option_or o next → n < size_of b 5 → RowsUpTo b n o → IfNone next (RowRegistersHold b n) → IfSome next (RowRegistersBreak b n) → RowsUpTo b (n + 1) r
  rows_turn n None next r first lt u h f = subst (λ (x : Option Fault). RowsUpTo b (n + 1) x) (sym first) (rows_more n next lt u h f)
  rows_turn n (Some e) next r first lt u h f = subst (λ (x : Option Fault). RowsUpTo b (n + 1) x) (sym first) (record { none = tt; some = u.some })

-- the bare method that a read past the end of a slice gives
abbrev no_str : Str
no_str = record { units = record { ref_ptr = (0, 0); now = [] } }

abbrev no_desc : Desc
no_desc = record { text = no_str }

abbrev pub no_bare : Bare
no_bare = record {
  method = record { ref_ptr = (0, 0); now = record { class = no_desc; name = no_str; proto = record { ref_ptr = (0, 0); now = record { ret = no_desc; params = record { ref_ptr = (0, 0); now = [] } } } } };
  flags = 0;
  code = 0;
}

-- a method of the list, with its body
pub done_at : (b : List ℕ) (ms : List Bare) (n : ℕ) (vs : List Method) (m : Bare) (code : Option Code) → AreDone b ms n vs → n < length ms → m ≡ get_or ms n no_bare → BodyAt b m.code code
    → AreDone b ms (n + 1) (vs ++ with_code m code ∷ [])
done_at b ms n vs m code done lt is at =
    done_more b ms n vs m _ done (slice_get-get_or ms n no_bare lt ∙ ap (λ (x : Bare). Some x) (sym is)) (record { name = refl; proto = refl; flags = refl; code = at })

-- one more method, whose registers hold or are the first that don't
module _ (b : List ℕ) (ms : List Bare) where
  -- where there is a fault already, it stays
  pub up_same : (n : ℕ) (e : Fault) → CodesUpTo CodeHolds RegistersFail b ms n (Some e) → CodesUpTo CodeHolds RegistersFail b ms (n + 1) (Some e)
  up_same n e u = record { none = tt; some = u.some }

  bare_there : (n : ℕ) (m : Bare) → n < length ms → m ≡ get_or ms n no_bare → slice_get ms n ≡ Some m
  bare_there n m lt is = slice_get-get_or ms n no_bare lt ∙ ap (λ (x : Bare). Some x) (sym is)

  pub bares_more : (Holds : List ℕ → ℕ → Type 0) (n : ℕ) (m : Bare) → n < length ms → m ≡ get_or ms n no_bare → CodesHoldUpTo Holds b ms n → Holds b m.code → CodesHoldUpTo Holds b ms (n + 1)
  bares_more Holds n m lt is all h k x l at = elim (cases_lt k n) [
    | inl before ↦ all k x before at
    | inr ge ↦
        let same : n ≡ k = omega (arith, l, ge) in
        let x_is : m ≡ x = same_Some m x (sym (bare_there n m lt is) ∙ ap (slice_get ms) same ∙ at) in
        subst (λ (y : Bare). Holds b y.code) x_is h
  ]

  pub bares_break : (Holds : List ℕ → ℕ → Type 0) (Fails : List ℕ → ℕ → Fault → Type 0) (n : ℕ) (m : Bare) (e : Fault) → n < length ms → m ≡ get_or ms n no_bare → CodesHoldUpTo Holds b ms n → Fails b m.code e → FirstCodeBreaks Holds Fails b ms e
  bares_break Holds Fails n m e lt is all fails = record { number = n; within = lt; breaks = record { entry = m; there = bare_there n m lt is; breaks = fails }; before = λ k l x at. all k x l at }

  pub up_more : (n : ℕ) (m : Bare) (o : Option Fault) → n < length ms → m ≡ get_or ms n no_bare → CodesUpTo CodeHolds RegistersFail b ms n None → IfNone o (CodeHolds b m.code) → IfSome o (RegistersFail b m.code) → CodesUpTo CodeHolds RegistersFail b ms (n + 1) o
  up_more n m None lt is u h f = record { none = bares_more CodeHolds n m lt is u.none h; some = tt }
  up_more n m (Some e) lt is u h f = record { none = tt; some = bares_break CodeHolds RegistersFail n m e lt is u.none f }

  -- the first of both is kept
  pub up_turn : (n : ℕ) (m : Bare) (o next r : Option Fault) → r ≡ option_or o next → n < length ms → m ≡ get_or ms n no_bare → CodesUpTo CodeHolds RegistersFail b ms n o
      → IfNone next (CodeHolds b m.code) → IfSome next (RegistersFail b m.code) → CodesUpTo CodeHolds RegistersFail b ms (n + 1) r
  up_turn n m None next r first lt at u h f = subst (λ (x : Option Fault). CodesUpTo CodeHolds RegistersFail b ms (n + 1) x) (sym first) (up_more n m next lt at u h f)
  up_turn n m (Some e) next r first lt at u h f = subst (λ (x : Option Fault). CodesUpTo CodeHolds RegistersFail b ms (n + 1) x) (sym first) (up_same n e u)

-- the body at an offset stands by the names that the file has
module _ (b : List ℕ) (names : Names) (are : AreNamesOf b names) (off : ℕ) (code : Code) (some : off ≢ 0) (stands : BodyStands (NameIsAt names) b off code) where
  by_file : BodyStands (NameStands b) b off code
  by_file = body_weaker (NameIsAt names) (NameStands b) (λ i n. names_stand b names i n are) b off code stands

  body_stands_at : BodyAt b off (Some code)
  body_stands_at = at_other off _ _ some record { some = code; is = refl; stands = by_file }

  -- and so does the code, if its registers hold
  code_holds_at : (o : Option Fault) → IfNone o (Named code) → IfNone o (CodeHolds b off)
  code_holds_at None h = (Some code, at_other off _ _ some record { some = code; is = refl; stands = body_code (NameStands b) b off code h by_file })
  code_holds_at (Some e) h = tt

  registers_fail_at : (o : Option Fault) → IfSome o (Overrun off code) → IfSome o (RegistersFail b off)
  registers_fail_at None h = tt
  registers_fail_at (Some e) h = record { some = some; names = names; of_file = are; breaks = record { code = code; body = stands; breaks = h } }

  pub found_some : {C : Type 0} (Is : C → Option Code → Type 0) (x : FoundCode C) → Is x.code (Some code) → IfNone x.past (Named code) → IfSome x.past (Overrun off code) → IsFound Is b off x
  found_some Is x is named past = record { some = Some code; body = body_stands_at; is = is; hold = code_holds_at x.past named; past = registers_fail_at x.past past }

-- there is no code at 0
pub found_none : {C : Type 0} (b : List ℕ) (off : ℕ) (Is : C → Option Code → Type 0) (c : C) → off ≡ 0 → Is c None → IsFound Is b off (record { code = c; past = None })
found_none b off Is c zero is = record { some = None; body = at_none off _ _ zero refl; is = is; hold = (None, at_none off _ _ zero refl); past = tt }

-- each method of a list has its code
each_code : (At : ℕ → Option Code → Type 0) (es : List MethodEntry) (ms : List Method) → length ms ≡ length es → ((k : ℕ) (e : MethodEntry) (m : Method) → slice_get es k ≡ Some e → slice_get ms k ≡ Some m → At e.1.1 m.code)
    → (k : ℕ) (e : MethodEntry) → slice_get es k ≡ Some e → (code : Option Code) × At e.1.1 code
each_code At es ms count each k e at = let m = entry_at ms k (let l = slice_get_within es k e at in omega (arith, count, l)) in (m.0.code, each k e m.0 at m.1)

-- a class that a row spells keeps the rules of code
pub methods_hold : (b : List ℕ) (i : ℕ) (c : Class) → SpellsClass b i c → RowRegistersHold b i
methods_hold b i c s = record {
  entries = s.entries;
  class_data = s.head.class_data;
  directs = each_code (CodeAt b) s.entries.directs c.directs s.head.members.directs.count s.directs;
  virtuals = each_code (CodeAt b) s.entries.virtuals c.virtuals s.head.members.virtuals.count s.virtuals;
}

-- the same of one whose registers aren't looked at
pub bodies_hold : (b : List ℕ) (i : ℕ) (c : Class) → SpellsBodies b i c → BodiesHold b i
bodies_hold b i c s = record {
  entries = s.entries;
  class_data = s.head.class_data;
  directs = each_code (BodyAt b) s.entries.directs c.directs s.head.members.directs.count s.directs;
  virtuals = each_code (BodyAt b) s.entries.virtuals c.virtuals s.head.members.virtuals.count s.virtuals;
}

-- where code stands, its body does
pub code_body_holds : (b : List ℕ) (place : ℕ) → CodeHolds b place → BodyHolds b place
code_body_holds b place h = (h.0, by (place == 0) h.1)
  where
    by : (t : Bool) → MatchBool t (h.0 ≡ None) (SomeCodeStands b place h.0) → MatchBool t (h.0 ≡ None) (SomeBodyStands b place h.0)
    by true e = e
    by false s = record { some = s.some; is = s.is; stands = code_body (NameStands b) b place s.some s.stands }

pub registers_bodies : (b : List ℕ) (i : ℕ) → RowRegistersHold b i → BodiesHold b i
registers_bodies b i h = record {
  entries = h.entries;
  class_data = h.class_data;
  directs = λ k e at. code_body_holds b e.1.1 (h.directs k e at);
  virtuals = λ k e at. code_body_holds b e.1.1 (h.virtuals k e at);
}

-- a body that is there is the code that is there
module _ (b : List ℕ) (framed : IsFramed b) where
  body_is : (place : ℕ) (code : Option Code) → BodyAt b place code → CodeHolds b place → CodeAt b place code
  body_is place code x h = by (place == 0) x h.1
    where
      by : (t : Bool) → MatchBool t (code ≡ None) (SomeBodyStands b place code) → MatchBool t (h.0 ≡ None) (SomeCodeStands b place h.0) → MatchBool t (code ≡ None) (SomeCodeStands b place code)
      by true e g = e
      by false s g =
          let same = body_one (NameStands b) (one_of_kind b framed) b framed place g.some s.some (code_body (NameStands b) b place g.some g.stands) s.stands in
          record { some = s.some; is = s.is; stands = subst (λ (c : Code). CodeStands (NameStands b) b place c) same g.stands }

  pub spelled_full : (i : ℕ) (c : Class) → SpellsBodies b i c → RowRegistersHold b i → SpellsClass b i c
  spelled_full i c s h =
      let same = entries_one b framed (class_word b i 6) h.entries s.entries h.class_data s.head.class_data in
      let directs = subst (λ (x : Entries). EachCodeHolds CodeHolds b x.directs) same h.directs in
      let virtuals = subst (λ (x : Entries). EachCodeHolds CodeHolds b x.virtuals) same h.virtuals in
      record {
        entries = s.entries;
        head = s.head;
        values = s.values;
        directs = λ k e m at_e at_m. body_is e.1.1 m.code (s.directs k e m at_e at_m) (directs k e at_e);
        virtuals = λ k e m at_e at_m. body_is e.1.1 m.code (s.virtuals k e m at_e at_m) (virtuals k e at_e);
      }

  -- where the registers of all rows hold, the rows spell the classes
  pub all_spelled : (n : ℕ) (cs : List Class) → n ≡ size_of b 5 → AreFirst SpellsBodies BodiesHold b n cs → RowsHold RowRegistersHold b n → AreRows SpellsClass b 5 cs
  all_spelled n cs e first hold = record {
    count = first.count ∙ e;
    each = λ i c at. spelled_full i c (first.each i c at) (hold i (let w = slice_get_within cs i c at in let k = first.count in omega (arith, w, k)));
  }
