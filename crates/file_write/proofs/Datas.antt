-- Class data that is laid stands at its places.
use Rattle.std.proofs.Common.{◌≡◌, ℕ, ◌<◌, Bool, true, false, List, [], ◌∷◌, ◌++◌, length, refl, ap, arith}
use Rattle.std.specs.Prelude.{MatchBool, ◌&&◌}
use Rattle.dex_base.specs.Leb128.{Spells}
use Rattle.file_classes.specs.ClassData.{Entries, EntriesAt, SpellsEntries, no_entries}
use Rattle.file_classes.specs.Classes.{IsField, IsMethod, MembersAre}
use Rattle.file_classes.proofs.StaticsLaws.{at_none, at_other}
use Rattle.dex_container.specs.Where.{At}
use Rattle.file_layout.specs.declared.plan.Part.{Part}
use Rattle.file_layout.specs.inner.Parts.{HasPart}
use Rattle.file_layout.specs.inner.Sections.{is_empty_list}
use Rattle.file_layout.specs.Tiles.{Among}
use Rattle.file_layout.specs.inner.Tiles.{Lays, Refers}
use Rattle.file_layout.proofs.StandLaws.{at_item, even_one}
use Rattle.tables_names.specs.Closure.{Five, NameRanks}
use Rattle.program_types.specs.Content.{Name}
use Rattle.file_put.specs.Data.{code_offs}
use Rattle.file_put.specs.inner.Data.{PacksData, ClassWithCodes, has_no_members, method_count}
use Rattle.tables_rows.specs.Stands.{NameStands}
use Rattle.file_write.proofs.Members.{empty_run, entries_spelled, members_stand}
use Rattle.std.proofs.lemmas.Bool.{and_parts}

-- At this place stands the class data of a class, none at 0: its members, and its bodies by their places.
pub record DataStands (b : List ℕ) (place : ℕ) (v : ClassWithCodes) : Type 0 where
  pub entries : Entries
  pub there : EntriesAt b place entries
  pub members : MembersAre b entries v.class
  pub codes : code_offs entries.directs ++ code_offs entries.virtuals ≡ v.codes

empty_is : {A : Type 0} (xs : List A) → is_empty_list xs ≡ true → xs ≡ []
empty_is [] e = refl
empty_is (x ∷ xs) e = absurd cc

none_long : (xs : List ℕ) → length xs ≡ 0 → [] ≡ xs
none_long [] e = refl
none_long (x ∷ xs) e = absurd (omega (arith, e))

module _ (b : List ℕ) (s : Five) (stand : (i : ℕ) (which : Name) → NameRanks s i which → NameStands b i which) (part : Part) (vs : List ClassWithCodes) (places : List ℕ)
    (has : HasPart b 0x2000 part) (l : Lays has_no_members (PacksData (NameRanks s)) 1 part.begin part.end b vs places part.items) where
  no_data : (place : ℕ) (v : ClassWithCodes) → length v.codes ≡ method_count v.class → place ≡ 0 → has_no_members v ≡ true → DataStands b place v
  no_data place v n z e =
      let abc = (and_parts (is_empty_list v.class.statics && is_empty_list v.class.instances && is_empty_list v.class.directs) (is_empty_list v.class.virtuals) e).0 in
      let ab = (and_parts (is_empty_list v.class.statics && is_empty_list v.class.instances) (is_empty_list v.class.directs) abc).0 in
      let ds = empty_is v.class.directs (and_parts (is_empty_list v.class.statics && is_empty_list v.class.instances) (is_empty_list v.class.directs) abc).1 in
      let ws = empty_is v.class.virtuals (and_parts (is_empty_list v.class.statics && is_empty_list v.class.instances && is_empty_list v.class.directs) (is_empty_list v.class.virtuals) e).1 in
      let dn = ap length ds in
      let wn = ap length ws in
      record {
        entries = no_entries;
        there = at_none place (◌≡◌ {A = Entries} no_entries no_entries) (At (SpellsEntries Spells) b 0x2000 1 place no_entries) z refl;
        members = record {
          statics = empty_run (IsField b v.class.ty) v.class.statics (empty_is v.class.statics (and_parts (is_empty_list v.class.statics) (is_empty_list v.class.instances) ab).0);
          instances = empty_run (IsField b v.class.ty) v.class.instances (empty_is v.class.instances (and_parts (is_empty_list v.class.statics) (is_empty_list v.class.instances) ab).1);
          directs = empty_run (IsMethod b v.class.ty) v.class.directs ds;
          virtuals = empty_run (IsMethod b v.class.ty) v.class.virtuals ws;
        };
        codes = none_long v.codes (omega (arith, n, dn, wn));
      }

  some_data : (place : ℕ) (v : ClassWithCodes) → 0 < place → At (PacksData (NameRanks s)) b 0x2000 1 place v → DataStands b place v
  some_data place v some a =
      let q = a.spelled in
      record {
        entries = q.entries;
        there = at_other place (q.entries ≡ no_entries) (At (SpellsEntries Spells) b 0x2000 1 place q.entries) (λ z. omega (arith, z, some))
            (record { begin = a.begin; end = a.end; section = a.section; after = a.after; aligned = a.aligned; size = a.size; within = a.within; spelled = entries_spelled _ q.entries q.spelled });
        members = members_stand b (NameRanks s) stand q.entries v.class q.members;
        codes = q.codes;
      }

  -- a place that refers to a class's data has it
  pub data_at : (place : ℕ) (v : ClassWithCodes) → length v.codes ≡ method_count v.class → Refers has_no_members l.items place v → DataStands b place v
  data_at place v n r = by (has_no_members v) refl r
    where
      by : (z : Bool) → has_no_members v ≡ z → MatchBool z (place ≡ 0) ((0 < place) × Among l.items place v) → DataStands b place v
      by true e z = no_data place v n z e
      by false e q =
          some_data place v q.0
          (at_item has_no_members (PacksData (NameRanks s)) (PacksData (NameRanks s)) 1 b 0x2000 part.begin part.begin part.end vs places part.items place v l has.stands (omega arith) even_one (λ bytes d. d) q.1)
