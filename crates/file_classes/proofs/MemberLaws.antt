-- Entries in memory, read one by one by their indices.
use Rattle.std.proofs.Common.{◌≡◌, ℕ, zero, suc, ◌+◌, ◌<◌, ◌≤◌, List, [], ◌∷◌, length, map, take, get_or, Option, Some, option_map, inl, inr, refl, sym, ap, ◌∙◌, subst, arith, slice_get}
use Rattle.std.specs.Prelude.{slice_index, sum}
use Rattle.std.proofs.lemmas.Grind.{common_steps}
use Rattle.std.proofs.lemmas.List.{length-map}
use Rattle.std.proofs.lemmas.Option.{slice_get-get_or, slice_get-map, slice_get_within, same_Some}
use Rattle.dex_base.specs.declared.fault.Fault.{Fault}
use Rattle.program_types.specs.Content.{Units, FieldRef, Method}
use Rattle.tables_rows.specs.Stands.{FieldStands, MethodStands}
use Rattle.file_classes.specs.ClassData.{FieldEntry, MethodEntry, Entries, EntriesAt, steps, index_of, FirstEntriesAre, EntriesAre}
use Rattle.tables_rows.specs.RowFields.{row_place}
use Rattle.dex_base.specs.FirstFault.{or_else}
use Rattle.tables_rows.specs.TableFaults.{BreaksAt}
use Rattle.file_classes.specs.ClassRows.{class_word, InOrder}
use Rattle.file_classes.specs.ClassFaults.{MemberEntryHolds, EntryBreaks, ClassRowBreaks, ClassRowHolds}
use Rattle.file_classes.proofs.EntryLaws.{entry_at}
use Rattle.file_classes.proofs.EntryFaults.{run_holds}
use Rattle.file_classes.proofs.RowFaults.{member as member_entry}
use Rattle.file_classes.specs.inner.Reading.{bare, HaveCodes, IsBare, IndexBreaks, IndexFails, EntriesFail, MembersFail, head, IsHead}
use Rattle.file_classes.specs.declared.members.Bare.{Bare}
use Rattle.file_classes.specs.Classes.{IsField, IsMethod, RowIs, InterfacesAt, HeadIs}
use Rattle.file_classes.specs.declared.heads.Head.{Head}
use Rattle.program_types.specs.View.{desc, str, member, method_ref}

-- what the row at the index of an entry breaks, the entry breaks
entry_breaks : (IsOwner : ℕ → Units → Type 0) (size : ℕ) (class : Units) (differences : List ℕ) (k index code : ℕ) → index ≡ index_of differences k → IndexBreaks IsOwner size class index code → EntryBreaks IsOwner size class differences k code
unfolding IndexBreaks
entry_breaks IsOwner size class differences k index code is x = by (subst (λ (i : ℕ). or_else 45 code (i < size) (or_else 46 code (IsOwner i class) ⊥)) is x)
  where
    by : or_else 45 code (index_of differences k < size) (or_else 46 code (IsOwner (index_of differences k) class) ⊥) → EntryBreaks IsOwner size class differences k code
    by (inl y) = inl y
    by (inr (lt, inl y)) = inr (lt, inl y)
    by (inr (lt, inr (_, none))) = absurd none

module _ (IsOwner : ℕ → Units → Type 0) (size : ℕ) (class : Units) (index : ℕ) where
  pub index_out : size ≤ index → IndexBreaks IsOwner size class index 45
  unfolding IndexBreaks
  index_out past = inl ((λ lt. omega (arith, lt, past)), refl)

  pub index_foreign : index < size → (IsOwner index class → ⊥) → IndexBreaks IsOwner size class index 46
  unfolding IndexBreaks
  index_foreign lt other = inr (lt, inl (other, refl))

module _ {E R : Type 0} (view : E → ℕ × R) where
  pub step_at : (es : List E) (k : ℕ) (d : E) → k < length es → get_or (steps (map view es)) k 0 ≡ (view (get_or es k d)).0
  step_at [] k d lt = absurd (omega arith)
  step_at (e ∷ es) zero d lt = refl
  step_at (e ∷ es) (suc k) d lt = step_at es k d (omega arith)

  module _ (es : List E) (k : ℕ) (d : E) (lt : k < length es) where
    pub there : slice_get (map view es) k ≡ Some (view (get_or es k d))
    there = slice_get-map view es k ∙ ap (option_map view) (slice_get-get_or es k d lt)

    all : length (steps (map view es)) ≡ length es
    all = length-map (map view es) (λ (e : ℕ × R). e.0) ∙ length-map es view

    -- the next index is the last one and the difference
    pub next_index : (index step : ℕ) → index ≡ sum (take k (steps (map view es))) → step ≡ (view (get_or es k d)).0 → index + step ≡ index_of (steps (map view es)) k
    next_index index step is at =
        let s = steps (map view es) in
        let n = all in
        let here = step_at es k d lt in
        let more : sum (take (k + 1) s) ≡ sum (take k s) + get_or s k 0 = grind (arith, common_steps) in
        omega (arith, is, at, here, more)

    inside : k < length (steps (map view es))
    inside = let n = all in omega (arith, n, lt)

    module _ {V : Type 0} (M : ℕ → ℕ × R → V → Type 0) (IsOwner : ℕ → Units → Type 0) (class : Units) (owns : (i : ℕ) (e : ℕ × R) (v : V) → M i e v → IsOwner i class) (vs : List V) (runs : FirstEntriesAre M (map view es) k vs)
        (size index step place : ℕ) (last : index ≡ sum (take k (steps (map view es)))) (at : step ≡ (view (get_or es k d)).0) where
      before : (j : ℕ) → j < k → MemberEntryHolds IsOwner class (steps (map view es)) j
      before = run_holds M IsOwner class owns (map view es) k vs (let n = length-map es view in omega (arith, n, lt)) runs

      -- a fault of the row at the next index is one of the list
      pub index_fails : (e : Fault) → IndexFails IsOwner size class (index + step) place e → EntriesFail IsOwner size class (steps (map view es)) place e
      index_fails e f = record {
        breaks = record { number = k; within = inside; breaks = entry_breaks IsOwner size class (steps (map view es)) k (index + step) e.code (next_index index step last at) f.breaks; before = before };
        there = f.there;
      }

      -- a difference of 0 after another entry is one
      pub step_fails : index + step < size → IsOwner (index + step) class → 0 < k → (view (get_or es k d)).0 ≡ 0 → EntriesFail IsOwner size class (steps (map view es)) place (record { code = 47; place = place })
      step_fails row owned some zero_step = record {
        breaks = record {
          number = k;
          within = inside;
          breaks = inr (
            subst (λ (i : ℕ). i < size) (next_index index step last at) row,
            inr (subst (λ (i : ℕ). IsOwner i class) (next_index index step last at) owned, inl ((λ rises. let up = rises some in let here = step_at es k d lt in omega (arith, up, here, zero_step)), refl)),
          );
          before = before;
        };
        there = refl;
      }

    pub step_rises : (0 < k → 0 < (view (get_or es k d)).0) → 0 < k → 0 < slice_index (steps (map view es)) k
    step_rises up some = let a = up some in let e = step_at es k d lt in omega (arith, a, e)

-- the field, and the method, at an index
pub field_stands : (b : List ℕ) (index i : ℕ) (f : FieldRef) (class : Units) (e : FieldEntry) → index ≡ i → f.class ≡ class → FieldStands b index f → IsField b class i e (record { name = f.name; ty = f.ty; flags = e.1 })
field_stands b index i f class e is of s = record {
  field = subst (λ (j : ℕ). FieldStands b j (record { class = class; name = f.name; ty = f.ty })) is (subst (λ (t : Units). FieldStands b index (record { class = t; name = f.name; ty = f.ty })) of s);
  flags = refl;
}

pub bare_stands : (b : List ℕ) (index i : ℕ) (m : Bare) (class : Units) (e : MethodEntry) → index ≡ i → desc m.method.now.class ≡ class → m.flags ≡ e.1.0 → m.code ≡ e.1.1 → MethodStands b index (method_ref m.method.now) → IsBare b class i e m
bare_stands b index i m class e is of flags code s = record {
  method = record {
    method = subst (λ (j : ℕ). MethodStands b j (record { class = class; name = (bare m).name; proto = (bare m).proto })) is (subst (λ (t : Units). MethodStands b index (record { class = t; name = (bare m).name; proto = (bare m).proto })) of s);
    flags = flags;
  };
  code = code;
}

-- all entries are read
pub all_run : {R V : Type 0} (M : ℕ → ℕ × R → V → Type 0) (es : List (ℕ × R)) (n : ℕ) (vs : List V) → n ≡ length es → FirstEntriesAre M es n vs → FirstEntriesAre M es (length es) vs
all_run M es n vs e r = subst (λ (k : ℕ). FirstEntriesAre M es k vs) e r

-- ---- the members of a row

-- what an entry breaks breaks in the row
pub member_breaks : (b : List ℕ) (i : ℕ) (e : Entries) (fault : Fault) (ts : List Units) {class : Units} {flags : ℕ} {superclass source : Option Units} → RowIs b i class flags superclass source → InterfacesAt b (class_word b i 3) ts → InOrder b i → EntriesAt b (class_word b i 6) e
    → MembersFail b class e (row_place b 5 i) fault → BreaksAt ClassRowBreaks b 5 i fault
member_breaks b i e fault ts row list order at fails = record { breaks = member_entry b i row list order e at fails.breaks; place = fails.there }

-- methods before their code: as methods, and where the code stands
pub bares_run : (b : List ℕ) (class : Units) (es : List MethodEntry) (ms : List Bare) → EntriesAre (IsBare b class) es ms → EntriesAre (IsMethod b class) es (map bare ms)
bares_run b class es ms run = record {
  count = length-map ms bare ∙ run.count;
  each = λ k e v at_e at_v.
      let lt : k < length ms = let w = slice_get_within (map bare ms) k v at_v in let n = length-map ms bare in omega (arith, w, n) in
      let m = entry_at ms k lt in
      let is : bare m.0 ≡ v = same_Some (bare m.0) v (sym (slice_get-map bare ms k ∙ ap (option_map bare) m.1) ∙ at_v) in
      subst (λ (x : Method). IsMethod b class (index_of (steps es) k) e x) is (run.each k e m.0 at_e m.1).method;
  rises = run.rises;
}

pub bares_codes : (b : List ℕ) (class : Units) (es : List MethodEntry) (ms : List Bare) → EntriesAre (IsBare b class) es ms → HaveCodes es ms
bares_codes b class es ms run = λ k e m at_e at_m. (run.each k e m at_e at_m).code

-- ---- the head of a row

-- the members of a head in memory
pub record HeadMembers (b : List ℕ) (e : Entries) (h : Head) : Type 0 where
  pub statics : EntriesAre (IsField b (desc h.ty)) e.statics (map member h.statics.now)
  pub instances : EntriesAre (IsField b (desc h.ty)) e.instances (map member h.instances.now)
  pub directs : EntriesAre (IsBare b (desc h.ty)) e.directs h.directs.now
  pub virtuals : EntriesAre (IsBare b (desc h.ty)) e.virtuals h.virtuals.now

module _ (b : List ℕ) (i : ℕ) (e : Entries) (h : Head) (row : RowIs b i (desc h.ty) h.flags (option_map desc h.superclass) (option_map str h.source)) (interfaces : InterfacesAt b (class_word b i 3) (map desc h.interfaces.now))
    (class_data : EntriesAt b (class_word b i 6) e) (members : HeadMembers b e h) where
  is_head : HeadIs b i e (head h)
  is_head = record {
    row = row;
    interfaces = interfaces;
    class_data = class_data;
    members = record {
      statics = members.statics;
      instances = members.instances;
      directs = bares_run b (desc h.ty) e.directs h.directs.now members.directs;
      virtuals = bares_run b (desc h.ty) e.virtuals h.virtuals.now members.virtuals;
    };
  }

  pub head_stands : IsHead b i h
  head_stands = record {
    entries = e;
    head = is_head;
    directs = bares_codes b (desc h.ty) e.directs h.directs.now members.directs;
    virtuals = bares_codes b (desc h.ty) e.virtuals h.virtuals.now members.virtuals;
  }

  pub head_holds : InOrder b i → ClassRowHolds b i
  head_holds order = record { entries = e; class = head h; head = is_head; order = order }
