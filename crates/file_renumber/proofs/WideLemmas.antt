-- How many bytes a code takes at most, by its item.
use Rattle.std.proofs.Common.{◌≡◌, ℕ, ◌+◌, ◌*◌, List, [], ◌++◌, length, sym, ap, ◌∙◌, arith, append-nil}
use Rattle.std.specs.List.{flat_map}
use Rattle.dex_base.specs.Fields.{u16_bytes, u32_bytes}
use Rattle.program_types.specs.Content.{Name, Try, Code}
use Rattle.program_types.specs.Mentions.{names_of_insn, names_of_try, names_of_code}
use Rattle.program_types.specs.Sizes.{length_of}
use Rattle.code_read.specs.declared.item.Item.{Item}
use Rattle.code_write.specs.Fits.{catches_in, wide_code}
use Rattle.code_write.specs.Packs.{head_bytes}
use Rattle.file_renumber.specs.inner.CarriedCodes.{head_of}
use Rattle.file_renumber.specs.inner.Fronts.{SpellsItem}
use Rattle.file_renumber.proofs.UnitLemmas.{length-is}
use Rattle.std.proofs.lemmas.List.{nil_from_length}

module _ (N : ℕ → Name → Type 0) (i : Item) (c : Code) (x : SpellsItem N i c) (units : length i.units.now ≡ 2 * i.size) where
  pub size_same : length_of c.insns ≡ i.size
  size_same = let e = length-is N i.units.now x.raws c.insns x.insns in omega (arith, e, units)

  pub count_same : length c.tries ≡ i.tries
  count_same = x.tries.tries.count

  -- without tries
  pub plain_names : i.tries ≡ 0 → flat_map names_of_insn c.insns ≡ names_of_code c
  plain_names none =
      let e : c.tries ≡ [] = nil_from_length c.tries (count_same ∙ none) in
      sym (append-nil (flat_map names_of_insn c.insns)) ∙ ap (λ (ts : List Try). flat_map names_of_insn c.insns ++ flat_map names_of_try ts) (sym e)

  pub plain_wide : i.tries ≡ 0 → 26 + 2 * i.size ≡ wide_code c
  plain_wide none =
      let e : c.tries ≡ [] = nil_from_length c.tries (count_same ∙ none) in
      let k : catches_in c.tries ≡ 0 = ap catches_in e in
      let s = size_same in
      let n = count_same in
      omega (arith, k, s, n, none)

  pub tried_wide : (catches : ℕ) → catches ≡ catches_in c.tries → 26 + 2 * i.size + 18 * i.tries + 10 * catches ≡ wide_code c
  tried_wide catches k = let s = size_same in let n = count_same in omega (arith, k, s, n)

  pub head_same : head_of i ≡ head_bytes c i.size
  head_same =
      let a = sym x.registers in let b = sym x.ins in let o = sym x.outs in let n = sym count_same in
      λ k. u16_bytes (a k) ++ u16_bytes (b k) ++ u16_bytes (o k) ++ u16_bytes (n k) ++ u32_bytes 0 ++ u32_bytes i.size
