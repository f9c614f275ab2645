-- Where a row keeps the rules of all passes, it spells a class.
use Rattle.std.proofs.Common.{◌≡◌, ◌∙◌, ℕ, zero, suc, ◌<◌, List, [], ◌∷◌, length, Option, Some, refl, sym, ap, subst, arith, slice_get}
use Rattle.dex_container.specs.Frame.{IsFramed}
use Rattle.program_types.specs.Content.{Units, Code, Method, Class}
use Rattle.file_classes.specs.ClassRows.{class_word}
use Rattle.file_classes.specs.ClassData.{MethodEntry, Entries, steps, index_of, EntriesAre}
use Rattle.file_classes.specs.Classes.{IsMethod, StaticsAt, CodeAt, CodesAre, SpellsClass}
use Rattle.file_classes.specs.ClassFaults.{ClassRowHolds, ValuesHold, CodeHolds, EachCodeHolds, RowRegistersHold}
use Rattle.file_classes.proofs.EntryLaws.{entry_at, entries_one}

-- a list of n values, each with what it must have
pub build : {V : Type 0} (P : ℕ → V → Type 0) (n : ℕ) → ((k : ℕ) → k < n → (v : V) × P k v) → (vs : List V) × (length vs ≡ n) × ((k : ℕ) (v : V) → slice_get vs k ≡ Some v → P k v)
build {V} P zero f = ([], refl, λ k v at. absurd cc)
build {V} P (suc n) f =
    let first = f 0 (omega arith) in
    let rest = build (λ k. P (suc k)) n (λ k lt. f (suc k) (omega (arith, lt))) in
    (first.0 ∷ rest.0, ap suc rest.1, each first.0 first.1 rest.0 rest.2)
  where
    each : (v : V) → P 0 v → (vs : List V) → ((k : ℕ) (w : V) → slice_get vs k ≡ Some w → P (suc k) w) → (k : ℕ) (w : V) → slice_get (v ∷ vs) k ≡ Some w → P k w
    each v p vs q zero w at = let is : v ≡ w = cc in subst (P 0) is p
    each v p vs q (suc k) w at = q k w at

module _ (b : List ℕ) (framed : IsFramed b) where
  abbrev IsWhole : Units → List MethodEntry → ℕ → Method → Type 0
  IsWhole class es k v = (e : MethodEntry) → slice_get es k ≡ Some e → IsMethod b class (index_of (steps es) k) e v × CodeAt b e.1.1 v.code

  with_codes : (class : Units) (es : List MethodEntry) (ms : List Method) → EntriesAre (IsMethod b class) es ms → EachCodeHolds CodeHolds b es → (vs : List Method) × EntriesAre (IsMethod b class) es vs × CodesAre b es vs
  with_codes class es ms run hold =
      let built = build (IsWhole class es) (length es) one in
      (built.0, record { count = built.1; each = (λ k e v at_e at_v. (built.2 k v at_v e at_e).0); rises = run.rises }, λ k e v at_e at_v. (built.2 k v at_v e at_e).1)
    where
      whole : (k : ℕ) (e : MethodEntry) (m : Method) (code : Option Code) → slice_get es k ≡ Some e → IsMethod b class (index_of (steps es) k) e m → CodeAt b e.1.1 code → IsWhole class es k (record { name = m.name; proto = m.proto; flags = m.flags; code = code })
      whole k e m code at is stands d there =
          let both : ◌≡◌ {A = Option MethodEntry} (Some e) (Some d) = sym at ∙ there in
          let same : e ≡ d = cc in
          subst (λ (x : MethodEntry). IsMethod b class (index_of (steps es) k) x (record { name = m.name; proto = m.proto; flags = m.flags; code = code }) × CodeAt b x.1.1 code) same
          (record { method = is.method; flags = is.flags }, stands)

      one : (k : ℕ) → k < length es → (v : Method) × IsWhole class es k v
      one k lt =
          let e = entry_at es k lt in
          let m = entry_at ms k (let n = run.count in omega (arith, n, lt)) in
          let c = hold k e.0 e.1 in
          (record { name = m.0.name; proto = m.0.proto; flags = m.0.flags; code = c.0 }, whole k e.0 m.0 c.0 e.1 (run.each k e.0 m.0 e.1 m.1) c.1)

  pub class_meant : (i : ℕ) → ClassRowHolds b i → ValuesHold b i → RowRegistersHold b i → (c : Class) × SpellsClass b i c
  class_meant i h v m =
      let same = entries_one b framed (class_word b i 6) v.1.entries h.entries v.1.class_data h.head.class_data in
      let other = entries_one b framed (class_word b i 6) m.entries h.entries m.class_data h.head.class_data in
      let ms = h.head.members in
      let c = h.class in
      let directs = with_codes c.ty h.entries.directs c.directs ms.directs (subst (λ (x : Entries). EachCodeHolds CodeHolds b x.directs) other m.directs) in
      let virtuals = with_codes c.ty h.entries.virtuals c.virtuals ms.virtuals (subst (λ (x : Entries). EachCodeHolds CodeHolds b x.virtuals) other m.virtuals) in (
        record { ty = c.ty; flags = c.flags; superclass = c.superclass; interfaces = c.interfaces; source = c.source; statics = c.statics; values = v.0; instances = c.instances; directs = directs.0; virtuals = virtuals.0 },
        record {
          entries = h.entries;
          head = record { row = h.head.row; interfaces = h.head.interfaces; class_data = h.head.class_data; members = record { statics = ms.statics; instances = ms.instances; directs = directs.1; virtuals = virtuals.1 } };
          values = subst (λ (x : Entries). StaticsAt b (class_word b i 7) (length x.statics) v.0) same v.1.spelled;
          directs = directs.2;
          virtuals = virtuals.2;
        },
      )
