-- A code that stands in a file fits the fields of every file in which no name stands further after.
use Rattle.std.proofs.Common.{◌≡◌, ◌≢◌, ℕ, ℤ, zero, suc, ◌+◌, ◌-◌, ◌*◌, ◌/◌, ◌<◌, ◌≤◌, inl, inr, None, true, List, length, map, drop, get_or, refl, sym, ap, ◌∙◌, subst, arith, length-drop, length-take}
use Rattle.std.specs.Prelude.{IfSome, FitsSigned, ◌⊎◌}
use Rattle.std.specs.List.{AllByRecursion}
use Rattle.std.specs.Int.{w8, w16, w32}
use Rattle.std.proofs.lemmas.Bool.{cases_lt}
use Rattle.std.proofs.lemmas.Int.{ints as signs}
use Rattle.dex_base.specs.Fields.{AreBytes}
use Rattle.dex_base.proofs.FieldBounds.{u32_at-fits, drop-AreBytes}
use Rattle.dex_container.specs.Frame.{IsFramed}
use Rattle.dex_container.specs.Where.{slice}
use Rattle.dex_insn.specs.Fields.{number, int_at}
use Rattle.dex_insn.specs.Raw as raw
use Rattle.dex_insn.specs.Raw.{Raw, is_payload}
use Rattle.dex_insn.specs.RawInsns.{SpellsInsn}
use Rattle.dex_insn.specs.Written.{IsRaw}
use Rattle.dex_insn.specs.declared.opcode.IndexKind.{IndexKind}
use Rattle.dex_insn.proofs.Fits.{number-2, signed-32, stands_fits}
use Rattle.dex_insn.proofs.StandingLaws.{even-of}
use Rattle.program_types.specs.Content.{Name, Insn, Try, Code}
use Rattle.program_types.specs.Content as made
use Rattle.program_types.specs.Formed.{IsSwitch, insn_at, try_at, insn_payload, insn_targets, insn_leads, RefersToPayload}
use Rattle.program_types.specs.Kinds.{IsOfKind}
use Rattle.program_types.specs.Sizes.{addresses_of}
use Rattle.tables_rows.specs.Stands.{NameStands}
use Rattle.code_read.specs.Places.{count_below, Rises}
use Rattle.code_read.specs.Walk.{starts, raw_at, address}
use Rattle.code_read.specs.Symbols.{linked, ints, ints_from, InsnNames, name_in}
use Rattle.code_read.specs.Linked.{target_number, payload_of, IsLinked, SpellsInsns}
use Rattle.code_rules.specs.Branches.{IsOrigin}
use Rattle.code_read.proofs.PlaceLaws.{target-there}
use Rattle.code_read.proofs.Runs.{table-of, length-of_starts, stands-at}
use Rattle.code_read.proofs.LinkLaws.{addresses-same, kind-linked}
use Rattle.code_read.specs.Item.{insns_size, tries_of, insns_bytes, items_of, units_end, tries_begin, list_begin, try_start, try_count}
use Rattle.code_read.specs.Tries.{SpellsTries}
use Rattle.code_read.specs.Code.{SpellsBody, CodeStands}
use Rattle.code_read.proofs.FaultLaws.{units-even}
use Rattle.code_read.proofs.ItemLaws.{begins_late}
use Rattle.code_write.specs.Fits.{short_name, ShortFits, distance_of, BranchFits, TargetsFit, OffsetsFit, IsEven, TryFits}
use Rattle.file_strip.specs.inner.AtLeast.{AreNoFurther, CodesFit, FitsButHandlers}
use Rattle.tables_names.specs.Closure.{Five, NameRanks}
use Rattle.code_read.proofs.ResolvedLaws.{slice-bytes}
use Rattle.code_read.proofs.CodesFormed.{leads-inside, count-most, not-below, from-at, u16-fits}
use Rattle.code_write.proofs.DistanceLaws.{target_number-there}
use Rattle.dex_base.proofs.ListFacts.{take_bytes}
use Rattle.std.proofs.lemmas.Option.{IfSome_then}

-- ---- indices

-- the name has an index of 16 bits
abbrev HasShort : (ℕ → Name → Type 0) → Name → Type 0
HasShort M which = (j : ℕ) × (j < 65536) × M j which

short-index : (M : ℕ → Name → Type 0) (T : ℤ → ℕ) (w : Name) (r : Raw) → IsRaw r → InsnNames M r w → IfSome (short_name (linked T w r)) (HasShort M)
unfolding linked
short-index M T w (raw.I21c op a index) f n = (index, f.1, n.stands)
short-index M T w (raw.I22c op a b index) f n = (index, f.3, n.stands)
short-index M T w (raw.I35c op m regs index) f n = (index, f.2, n.stands)
short-index M T w (raw.I3rc op m first index) f n = (index, f.1, n.stands)
short-index M T w _ f n = tt

-- ---- offsets

-- the distance of where an offset leads is the offset
distance-is : (ss : List ℕ) (base : ℕ) (z : ℤ) → target_number ss base z < length ss → distance_of ss base (target_number ss base z) ≡ z
distance-is ss base z l = let p = (target-there ss base z (target_number ss base z) (target_number-there ss base (target_number ss base z) z refl l)).1 in omega (arith, signs, p)

offset-fits : (ss : List ℕ) (base : ℕ) (w : Name) (r : Raw) → IsRaw r → AllByRecursion (λ to. to < length ss) (insn_leads (linked (target_number ss base) w r)) → BranchFits ss base (linked (target_number ss base) w r)
unfolding linked
offset-fits ss base w (raw.I10t op z) f t = subst (FitsSigned w8) (sym (distance-is ss base z t.0)) f.1
offset-fits ss base w (raw.I20t op z) f t = subst (FitsSigned w16) (sym (distance-is ss base z t.0)) f.1
offset-fits ss base w (raw.I21t op a z) f t = subst (FitsSigned w16) (sym (distance-is ss base z t.0)) f.1
offset-fits ss base w (raw.I22t op a b z) f t = subst (FitsSigned w16) (sym (distance-is ss base z t.0)) f.3
offset-fits ss base w (raw.I30t op z) f t = subst (FitsSigned w32) (sym (distance-is ss base z t.0)) f.1
offset-fits ss base w (raw.I31t op a z) f t = subst (FitsSigned w32) (sym (distance-is ss base z t.0)) f.2
offset-fits ss base w _ f t = tt

-- numbers of 32 bits, as they lead
ints-fit : (ss : List ℕ) (base : ℕ) (b : List ℕ) (i n : ℕ) → AreBytes b → AllByRecursion (λ to. to < length ss) (map (target_number ss base) (ints_from b i n)) → AllByRecursion (λ to. FitsSigned w32 (distance_of ss base to)) (map (target_number ss base) (ints_from b i n))
ints-fit ss base b i zero are t = tt
ints-fit ss base b i (suc n) are t = (subst (FitsSigned w32) (sym (distance-is ss base (int_at b i) t.0)) (signed-32 (int_at b i) (number b (2 * i) 2) refl (number-2 b (2 * i) are)), ints-fit ss base b (i + 1) n are t.1)

-- the offsets of a switch are bytes
targets-fit : (ss : List ℕ) (base : ℕ) (w : Name) (us : List ℕ) (r : Raw) → AreBytes us → SpellsInsn us r → AllByRecursion (λ to. to < length ss) (insn_targets (linked (target_number ss base) w r)) → TargetsFit ss base (linked (target_number ss base) w r)
unfolding linked insn_targets ints
targets-fit ss base w us (raw.Packed first offsets) are h t = ints-fit ss base offsets 0 (length offsets / 4) (subst AreBytes (sym h.3) (slice-bytes us 8 (8 + 4 * number us 1 1) are)) t
targets-fit ss base w us (raw.Sparse keys offsets) are h t = ints-fit ss base offsets 0 (length offsets / 4) (subst AreBytes (sym h.3) (slice-bytes us (4 + 4 * number us 1 1) (4 + 8 * number us 1 1) are)) t
targets-fit ss base w us _ are h t = tt

module _ (M : ℕ → Name → Type 0) (us : List ℕ) (rs : List Raw) (is : List Insn) (s : SpellsInsns M us rs is) (are : AreBytes us) where
  raw-fits : (k : ℕ) → k < length rs → IsRaw (raw_at rs k)
  raw-fits k l = stands_fits us (address rs k) (raw_at rs k) are (stands-at us rs s.walk k l)

  -- what an instruction leads to is one
  targeted-inside : (k : ℕ) → k < length is → AllByRecursion (λ to. to < length (starts rs)) (insn_leads (insn_at is k))
  targeted-inside k l =
      let e : length is ≡ length (starts rs) = s.linked.count ∙ sym (length-of_starts rs) in
      subst (λ (n : ℕ). AllByRecursion (λ to. to < n) (insn_leads (insn_at is k))) e (leads-inside is k (s.keep.targets k l) (s.keep.payloads k l) (insn_at is k) refl)

  short-at : (N : ℕ → Name → Type 0) → ((which : Name) (j n : ℕ) → M j which → N n which → n ≤ j) → (kind : IndexKind) (k : ℕ) → k < length rs → ShortFits N kind (insn_at is k)
  short-at N low kind k l =
      let x = s.linked.each k l in
      IfSome_then (short_name (insn_at is k)) {P = HasShort M} {Q = λ which. IsOfKind kind which → (n : ℕ) → N n which → n < 65536}
      (subst (λ (i : Insn). IfSome (short_name i) (HasShort M)) x.resolves.symbol (short-index M _ (name_in (insn_at is k)) (raw_at rs k) (raw-fits k l) x.resolves.named))
      (λ which h _ n r. let a = low which h.0 n h.2 r in let b = h.1 in omega (arith, a, b))

  branch-at : (k : ℕ) → k < length rs → BranchFits (starts rs) (address rs k) (insn_at is k)
  unfolding insn_payload
  branch-at k l = by x.origin x.counts (subst (BranchFits (starts rs) (address rs x.origin)) x.resolves.symbol
      (offset-fits (starts rs) (address rs x.origin) (name_in (insn_at is k)) (raw_at rs k) (raw-fits k l) (subst (λ (i : Insn). AllByRecursion (λ to. to < length (starts rs)) (insn_leads i)) (sym x.resolves.symbol) (targeted-inside k (let n = s.linked.count in omega (arith, l, n))))))
    where
      x : IsLinked M rs is k
      x = s.linked.each k l

      no-branch : (i : Insn) (ss : List ℕ) (at : ℕ) → IsSwitch (insn_payload i) → BranchFits ss at i
      no-branch (made.Packed first to) ss at w = tt
      no-branch (made.Sparse keys to) ss at w = tt
      no-branch (made.Data width bytes) ss at w = tt
      no-branch _ ss at w = absurd w

      by : (o : ℕ) → IsOrigin is k o → BranchFits (starts rs) (address rs o) (insn_at is k) → BranchFits (starts rs) (address rs k) (insn_at is k)
      by o (inl b) f = no-branch (insn_at is k) (starts rs) (address rs k) b.0
      by o (inr b) f = subst (λ (j : ℕ). BranchFits (starts rs) (address rs j) (insn_at is k)) b.1 f

  targets-at : (j k : ℕ) → k < length rs → RefersToPayload is j k → TargetsFit (starts rs) (address rs j) (insn_at is k)
  unfolding insn_payload insn_targets
  targets-at j k l f = by (s.linked.each k l).origin (s.linked.each k l).counts (subst (TargetsFit (starts rs) (address rs (s.linked.each k l).origin)) (s.linked.each k l).resolves.symbol
      (targets-fit (starts rs) (address rs (s.linked.each k l).origin) (name_in (insn_at is k)) (drop (2 * address rs k) us) (raw_at rs k) (drop-AreBytes us (2 * address rs k) are) (stands-at us rs s.walk k l).spelled
      (subst (λ (i : Insn). AllByRecursion (λ to. to < length (starts rs)) (insn_targets i)) (sym (s.linked.each k l).resolves.symbol) (targets-inside _ (insn_at is k) (targeted-inside k m)))))
    where
      m : k < length is
      m = let n = s.linked.count in omega (arith, l, n)

      targets-inside : (P : ℕ → Type 0) (i : Insn) → AllByRecursion P (insn_leads i) → AllByRecursion P (insn_targets i)
      targets-inside P (made.Packed first to) h = h
      targets-inside P (made.Sparse keys to) h = h
      targets-inside P _ h = tt

      fit-or : (ss : List ℕ) (at : ℕ) (i : Insn) → IsSwitch (insn_payload i) ⊎ TargetsFit ss at i
      fit-or ss at (made.Packed first to) = inl tt
      fit-or ss at (made.Sparse keys to) = inl tt
      fit-or ss at _ = inr tt

      by : (o : ℕ) → IsOrigin is k o → TargetsFit (starts rs) (address rs o) (insn_at is k) → TargetsFit (starts rs) (address rs j) (insn_at is k)
      by o c t = elim (fit-or (starts rs) (address rs j) (insn_at is k)) [
        | inr fit ↦ fit
        | inl switch ↦
            let u = (s.keep.payloads k m).used switch in
            elim c [
              | inl b ↦ subst (λ (n : ℕ). TargetsFit (starts rs) (address rs n) (insn_at is k)) (u.2 o b.1 ∙ sym (u.2 j f)) t
              | inr b ↦ absurd (b.0 u.0 (switch, u.1, λ i r. let e = u.2 i r in omega (arith, e)))
            ]
      ]

  payload-is : (r : Raw) → payload_of r ≢ None → is_payload r ≡ true
  unfolding payload_of is_payload
  payload-is (raw.Packed first offsets) h = refl
  payload-is (raw.Sparse keys offsets) h = refl
  payload-is (raw.Data width bytes) h = refl
  payload-is _ h = absurd (h refl)

  even-at : (k : ℕ) → k < length rs → IsEven is (starts rs) k
  even-at k l h = even-of us (address rs k) (raw_at rs k) (stands-at us rs s.walk k l) (payload-is (raw_at rs k) (λ e. h (ap insn_payload (sym (s.linked.each k l).resolves.symbol) ∙ kind-linked _ _ (raw_at rs k) ∙ e)))

-- ---- tries

below-at : (ss : List ℕ) (x k : ℕ) → Rises ss → k < count_below x ss → k < length ss → get_or ss k 0 < x
below-at ss x k r l m = elim (cases_lt (get_or ss k 0) x) [
  | inl a ↦ a
  | inr a ↦ let c = count-most ss x k (λ n p q. not-below ss k n x r p q a) in absurd (omega (arith, c, l))
]

try-fits : (M : ℕ → Name → Type 0) (ss : List ℕ) → Rises ss → (size n : ℕ) (items list : List ℕ) (ts : List Try) → AreBytes items → SpellsTries M ss size n items list ts → (i : ℕ) → i < n → TryFits ss ts i
try-fits M ss rises size n items list ts are s i l =
    let x = s.each i l in
    let t = s.hold i l in
    let f = from-at M ss rises size n items list ts s i l in
    let begins = f.1 in let inside = f.0 in
    let to = x.to in
    let small = u16-fits items (8 * i + 4) are in
    let most : count_below (try_start items i + try_count items i) ss ≤ length ss = count-most ss (try_start items i + try_count items i) (length ss) (λ k a b. absurd (omega (arith, a, b))) in
    elim (cases_lt 0 (try_at ts i).to) [
      | inl some ↦ let b = below-at ss (try_start items i + try_count items i) ((try_at ts i).to - 1) rises (omega (arith, to, some)) (omega (arith, to, some, most)) in omega (arith, b, begins, small)
      | inr none ↦
          let z : (try_at ts i).to - 1 ≡ 0 = omega (arith, none) in
          let low : get_or ss 0 0 ≤ get_or ss (try_at ts i).from 0 = first (try_at ts i).from inside in
          subst (λ (q : ℕ). get_or ss q 0 + 1 ≤ get_or ss (try_at ts i).from 0 + 65535) (sym z) (omega (arith, low))
    ]
  where
    first : (k : ℕ) → k < length ss → get_or ss 0 0 ≤ get_or ss k 0
    first zero m = omega arith
    first (suc k) m = let q = rises.each 0 (suc k) (omega arith) m in omega (arith, q)

-- ---- a code

module _ (M N : ℕ → Name → Type 0) (low : (which : Name) (i j : ℕ) → M i which → N j which → j ≤ i) (bytes : List ℕ) (c : Code) (are : AreBytes bytes) (short : length bytes ≤ 4294967295) (s : SpellsBody M bytes c) where
  units-are : AreBytes (insns_bytes bytes)
  units-are = take_bytes (units_end bytes - 16) (drop 16 bytes) (drop-AreBytes bytes 16 are)

  items-are : AreBytes (items_of bytes)
  items-are = take_bytes (list_begin bytes - tries_begin bytes) (drop (tries_begin bytes) bytes) (drop-AreBytes bytes (tries_begin bytes) are)

  rise : Rises (starts s.raws)
  rise =
      let even = units-even bytes s.whole in let late = begins_late bytes in let fixed = s.whole.fixed in
      (table-of (insns_bytes bytes) (starts s.raws) s.raws (omega (arith, even, late, fixed, short)) s.insns.walk.run refl).rises

  same : starts s.raws ≡ addresses_of c.insns
  same = addresses-same M s.raws c.insns s.insns.linked

  inside : (k : ℕ) → k < length c.insns → k < length s.raws
  inside k l = let n = s.insns.linked.count in omega (arith, l, n)

  short-of : (kind : IndexKind) (k : ℕ) → k < length c.insns → ShortFits N kind (insn_at c.insns k)
  short-of kind k l = short-at M (insns_bytes bytes) s.raws c.insns s.insns units-are N (λ which j n a b. low which j n a b) kind k (inside k l)

  pub spelled-fits : FitsButHandlers N c
  spelled-fits = record {
    names = short-of;
    offsets = λ k l. subst (λ (ss : List ℕ). OffsetsFit c.insns ss k) same (record {
      branch = branch-at M (insns_bytes bytes) s.raws c.insns s.insns units-are k (inside k l);
      targets = λ j f. targets-at M (insns_bytes bytes) s.raws c.insns s.insns units-are j k (inside k l) f;
    });
    even = λ k l. subst (λ (ss : List ℕ). IsEven c.insns ss k) same (even-at M (insns_bytes bytes) s.raws c.insns s.insns units-are k (inside k l));
    tries = λ i l. subst (λ (ss : List ℕ). TryFits ss c.tries i) same
        (try-fits M (starts s.raws) rise (insns_size bytes) (tries_of bytes) (items_of bytes) (drop (list_begin bytes) bytes) c.tries items-are s.tries i (let n = s.tries.count in omega (arith, l, n)));
    few = let n = s.tries.count in let f = u16-fits bytes 6 are in omega (arith, n, f);
  }

-- ---- a file

module _ (b : List ℕ) (are : AreBytes b) (framed : IsFramed b) (off : ℕ) (c : Code) (a : CodeStands (NameStands b) b off c) where
  slice-short : length (slice b off a.size) ≤ 4294967295
  unfolding slice
  slice-short =
      let whole = framed.header.file_size in
      let fits = u32_at-fits b 32 are in
      omega (arith, whole, fits, length-take a.size (drop off b), length-drop off b)

  slice-are : AreBytes (slice b off a.size)
  unfolding slice
  slice-are = take_bytes a.size (drop off b) (drop-AreBytes b off are)

  pub standing-fits : (s : Five) → AreNoFurther s b → FitsButHandlers (NameRanks s) c
  standing-fits s low = spelled-fits (NameStands b) (NameRanks s) low (slice b off a.size) c slice-are slice-short a.spelled.body

pub codes-fit : CodesFit
codes-fit b s off c are framed stands low = standing-fits b are framed off c stands s low
