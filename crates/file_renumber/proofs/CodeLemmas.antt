-- A code item, taken apart and put together.
use Rattle.std.proofs.Common.{◌≡◌, ℕ, zero, suc, ◌+◌, ◌*◌, ◌<◌, ◌≤◌, List, [], ◌∷◌, ◌++◌, length, map, refl, sym, ap, subst, ◌∙◌, arith}
use Rattle.std.specs.List.{AllByRecursion, flat_map}
use Rattle.dex_base.specs.Fields.{AreBytes}
use Rattle.dex_container.specs.Frame.{IsFramed}
use Rattle.dex_insn.specs.Written.{IsRaw}
use Rattle.program_types.specs.Content.{Try, Code}
use Rattle.program_types.specs.Mentions.{names_of_insn, names_of_try}
use Rattle.program_types.specs.Sizes.{addresses_of}
use Rattle.tables_names.specs.Closure.{Five, NameRanks}
use Rattle.tables_rows.specs.Stands.{NameStands}
use Rattle.file_renumber.specs.inner.Marked.{Columns}
use Rattle.file_renumber.specs.inner.Numbers.{Carries}
use Rattle.code_read.specs.Places.{Rises}
use Rattle.code_read.specs.Walk.{starts}
use Rattle.code_read.proofs.LinkLaws.{addresses-same}
use Rattle.code_read.specs.inner.ItemReading.{ReadTries}
use Rattle.code_read.specs.declared.item.Item.{Item}
use Rattle.code_write.specs.Fits.{catches_in}
use Rattle.code_write.specs.Packs.{PacksHandlersOf, PacksCode, joined, padding, items_bytes}
use Rattle.code_write.specs.inner.Packs.{PutInsns}
use Rattle.code_write.proofs.PackLaws.{packed}
use Rattle.file_renumber.specs.inner.Renumbered.{renumbered, CanBeRenumbered}
use Rattle.file_renumber.specs.inner.CarriedCodes.{IsCarriedCode, CarriedTries, head_of}
use Rattle.file_renumber.specs.inner.Fronts.{SpellsItem}
use Rattle.file_renumber.specs.inner.TryWalks.{CoverTries}
use Rattle.file_renumber.proofs.LoweredLemmas.{can-all, lowered}
use Rattle.file_renumber.proofs.WideLemmas.{size_same, count_same, head_same}
use Rattle.dex_base.proofs.ListFacts.{all_front, all_back}

-- ---- without tries, where instructions begin isn't asked

pub none_rise : (ss : List ℕ) → ss ≡ [] → Rises ss
none_rise ss e = record { each = λ i j p q. let l = ap length e in absurd (omega (arith, l, q)) }

pub cover_with : (n : ℕ) (items ss begins : List ℕ) (ts : List Try) → (0 < n → begins ≡ ss) → CoverTries ss items n ts → CoverTries begins items n ts
cover_with zero items ss begins ts h c = record { count = c.count; each = λ i l. absurd (omega (arith, l)) }
cover_with (suc n) items ss begins ts h c = subst (λ (z : List ℕ). CoverTries z items (suc n) ts) (sym (h (omega arith))) c

pub items_with : (size n : ℕ) (ss begins : List ℕ) (ts : List Try) (offs : List ℕ) → (0 < n → begins ≡ ss) → length ts ≡ n → items_bytes size begins ts offs ≡ items_bytes size ss ts offs
items_with size n ss begins [] offs h e = refl
items_with size n ss begins (t ∷ ts) offs h e = ap (λ (z : List ℕ). items_bytes size z (t ∷ ts) offs) (h (omega (arith, e)))

-- ---- all of it

module _ (b : List ℕ) (off : ℕ) (numbers : Columns) (s : Five) (i : Item) (c : Code) (x : IsCarriedCode b off numbers s c) (y : SpellsItem (NameStands b) i c) (are : AreBytes b) (framed : IsFramed b) (units-are : AreBytes i.units.now) (units : length i.units.now ≡ 2 * i.size) where
  carried_insns : AllByRecursion (Carries (NameStands b) (NameRanks s) numbers) (flat_map names_of_insn c.insns)
  carried_insns = all_front (Carries (NameStands b) (NameRanks s) numbers) (flat_map names_of_insn c.insns) (flat_map names_of_try c.tries) x.carried

  pub can_renumber_all : AllByRecursion (CanBeRenumbered numbers) y.raws
  can_renumber_all = can-all (NameStands b) (NameRanks s) numbers i.units.now y.raws c.insns y.insns units-are carried_insns (λ table k l. x.fits table k l)

  pub addresses_are : starts y.raws ≡ addresses_of c.insns
  addresses_are = addresses-same (NameStands b) y.raws c.insns y.insns.linked

  pub tries_read : ReadTries (NameStands b) (addresses_of c.insns) i.size i.tries i.items.now i.list.now c.tries
  tries_read = subst (λ (ss : List ℕ). ReadTries (NameStands b) ss i.size i.tries i.items.now i.list.now c.tries) addresses_are y.tries

  pub tries_carried : AllByRecursion (Carries (NameStands b) (NameRanks s) numbers) (flat_map names_of_try c.tries)
  tries_carried = all_back (Carries (NameStands b) (NameRanks s) numbers) (flat_map names_of_insn c.insns) (flat_map names_of_try c.tries) x.carried

  pub tries_short : 26 + 18 * i.tries + 10 * catches_in c.tries ≤ 4294967295
  tries_short = let w = x.short in let n = y.tries.tries.count in omega (arith, w, n)

  abbrev pub carried_tries : CarriedTries numbers i
  carried_tries = record { file = b; names = s; starts = addresses_of c.insns; tries = c.tries; read = tries_read; rise = x.rise; carried = tries_carried; short = tries_short }

  pub cover_tries : CoverTries (addresses_of c.insns) i.items.now i.tries c.tries
  cover_tries =
      let r = tries_read.tries in
      record { count = r.count; each = λ k l. let t = r.each k l in record { from = t.from; to = t.to } }

  pub put_insns_of : (old new : List ℕ) → new ≡ old ++ joined (map (renumbered numbers) y.raws) → AllByRecursion IsRaw (map (renumbered numbers) y.raws) → PutInsns (NameRanks s) c.insns (addresses_of c.insns) old new
  put_insns_of old new e fit = record {
    raws = map (renumbered numbers) y.raws;
    lowered = lowered (NameStands b) (NameRanks s) numbers i.units.now y.raws c.insns y.insns units-are carried_insns fit;
    is_new = e;
  }

  pub packed_code : (i0 i1 i2 i3 i4 i5 list offs : List ℕ) → i0 ≡ [] → i1 ≡ i0 ++ head_of i → i2 ≡ i1 ++ joined (map (renumbered numbers) y.raws) → AllByRecursion IsRaw (map (renumbered numbers) y.raws)
      → i3 ≡ i2 ++ padding i.size i.tries → i4 ≡ i3 ++ items_bytes i.size (addresses_of c.insns) c.tries offs → i5 ≡ i4 ++ list → PacksHandlersOf (NameRanks s) (addresses_of c.insns) c.tries list offs
      → AllByRecursion (λ off. off < 65536) offs → i.tries < 65536 → PacksCode (NameRanks s) i5 c
  packed_code i0 i1 i2 i3 i4 i5 list offs e0 e1 e2 fit e3 e4 e5 hs near few =
      let size = size_same (NameStands b) i c y units in
      let count = count_same (NameStands b) i c y units in
      let w = x.short in
      packed (NameRanks s) c (addresses_of c.insns) i0 i1 i2 i3 i4 i5 list offs i.size i.tries refl (sym size) (sym count) e0 (e1 ∙ ap (λ z. i0 ++ z) (head_same (NameStands b) i c y units)) (put_insns_of i1 i2 e2 fit) e3 e4 e5 hs
      (omega (arith, count, few)) near (omega (arith, w))
