-- Payloads as raw instructions.
use Rattle.std.proofs.Common.{◌≡◌, ℕ, ℤ, ◌+◌, ◌*◌, ◌/◌, ◌<◌, ◌≤◌, ◌++◌, List, length, map, refl, ap, sym, ◌∙◌, arith, zero, suc, subst, Some, inl, inr}
use Rattle.std.specs.Prelude.{slice_get}
use Rattle.dex_insn.specs.Raw as raw
use Rattle.dex_insn.specs.Raw.{units}
use Rattle.dex_insn.specs.Fields.{int_at, SwitchKeysRise}
use Rattle.dex_insn.specs.RawInsns.{IsElementWidth}
use Rattle.dex_insn.specs.Written.{written}
use Rattle.program_types.specs.Content.{Name}
use Rattle.program_types.specs.Content as made
use Rattle.program_types.specs.Operands.{IsOperand}
use Rattle.program_types.specs.Formed.{insn_payload}
use Rattle.program_types.specs.Sizes.{insn_units}
use Rattle.code_read.specs.Linked.{target_number, payload_of}
use Rattle.code_read.specs.Symbols.{linked, ints, ints_from}
use Rattle.code_write.specs.Packs.{Lowers}
use Rattle.code_write.specs.inner.Writing.{PutInsn}

from-at : (b : List ℕ) (j n i : ℕ) → i < n → slice_get (ints_from b j n) i ≡ Some (int_at b (j + i))
from-at b j zero i l = absurd (omega arith)
from-at b j (suc n) zero l = let e : j ≡ j + 0 = omega arith in ap (λ (m : ℕ). Some (int_at b m)) e
from-at b j (suc n) (suc i) l = let e : (j + 1) + i ≡ j + suc i = omega arith in from-at b (j + 1) n i (omega arith) ∙ ap (λ (m : ℕ). Some (int_at b m)) e

ints-at : (b : List ℕ) (keys : List ℤ) (i : ℕ) → ints b ≡ keys → i < length b / 4 → slice_get keys i ≡ Some (int_at b i)
unfolding ints
ints-at b keys i e l = let z : 0 + i ≡ i = omega arith in ap (λ (zs : List ℤ). slice_get zs i) (sym e) ∙ from-at b 0 (length b / 4) i l ∙ ap (λ (m : ℕ). Some (int_at b m)) z

module _ (N : ℕ → Name → Type 0) (ss : List ℕ) (at count : ℕ) where
  pub packed-lowers : (first : ℤ) (targets : List ℕ) (offsets : List ℕ) (zs : List ℤ) → IsOperand count (made.Packed first targets) → ints offsets ≡ zs → length offsets ≡ 4 * length zs → length zs ≡ length targets → map (target_number ss at) zs ≡ targets
      → Lowers N ss at (made.Packed first targets) (raw.Packed first offsets)
  unfolding linked units insn_units payload_of insn_payload
  packed-lowers first targets offsets zs o e l m p =
      let few = o.1 in
      let n : length offsets / 4 ≡ length targets = omega arith in
      record {
        resolves = record { symbol = ap (λ (to : List ℕ). made.Packed first to) (ap (map (target_number ss at)) e ∙ p); named = tt };
        fits = (o.0, omega arith, omega arith);
        size = omega arith;
        kind = refl;
      }

  pub sparse-lowers : (keys : List ℤ) (targets : List ℕ) (bytes offsets : List ℕ) (zs : List ℤ) → IsOperand count (made.Sparse keys targets) → ints bytes ≡ keys → length bytes ≡ 4 * length keys
      → ints offsets ≡ zs → length offsets ≡ 4 * length zs → length zs ≡ length targets → map (target_number ss at) zs ≡ targets → Lowers N ss at (made.Sparse keys targets) (raw.Sparse bytes offsets)
  unfolding linked units insn_units payload_of insn_payload
  sparse-lowers keys targets bytes offsets zs o k kl e l m p =
      let same = o.0 in let few = o.1 in
      let n : length bytes / 4 ≡ length keys = omega arith in
      let rise : SwitchKeysRise bytes (length bytes / 4) = λ i j. o.3 i _ _ (ints-at bytes keys i k (omega arith)) (ints-at bytes keys (i + 1) k j) in
      record {
        resolves = record { symbol = ap (λ (to : List ℕ). made.Sparse (ints bytes) to) (ap (map (target_number ss at)) e ∙ p) ∙ ap (λ (ks : List ℤ). made.Sparse ks targets) k; named = tt };
        fits = (omega arith, omega arith, omega arith, rise);
        size = omega arith;
        kind = refl;
      }

  width-fits : (n width : ℕ) → IsElementWidth width → n ≤ 4294967295 → n / width < 4294967296
  width-fits n width (inl e) l = subst (λ (w : ℕ). n / w < 4294967296) (sym e) (omega arith)
  width-fits n width (inr (inl e)) l = subst (λ (w : ℕ). n / w < 4294967296) (sym e) (omega arith)
  width-fits n width (inr (inr (inl e))) l = subst (λ (w : ℕ). n / w < 4294967296) (sym e) (omega arith)
  width-fits n width (inr (inr (inr e))) l = subst (λ (w : ℕ). n / w < 4294967296) (sym e) (omega arith)

  pub array-lowers : (width : ℕ) (bytes : List ℕ) → IsOperand count (made.Data width bytes) → Lowers N ss at (made.Data width bytes) (raw.Data width bytes)
  unfolding linked units insn_units payload_of insn_payload
  array-lowers width bytes o = record {
    resolves = record { symbol = refl; named = tt };
    fits = (o.0, o.1, width-fits (length bytes) width o.0 o.2);
    size = refl;
    kind = refl;
  }

  -- ---- what is appended

  pub put-packed : (first : ℤ) (targets : List ℕ) (old new o p : List ℕ) (zs ys : List ℤ) → IsOperand count (made.Packed first targets) → p ≡ o → ints o ≡ ys → ys ≡ zs → length o ≡ 4 * length ys → length zs ≡ length targets → map (target_number ss at) zs ≡ targets
      → new ≡ old ++ written (raw.Packed first p) → PutInsn N ss at (made.Packed first targets) old new
  put-packed first targets old new o p zs ys h q e f l m t n =
      let k : length o ≡ 4 * length zs = l ∙ ap (λ (x : List ℤ). 4 * length x) f in
      record {
        raw = raw.Packed first o;
        lowers = packed-lowers first targets o zs h (e ∙ f) k m t;
        is_new = n ∙ ap (λ (x : List ℕ). old ++ written (raw.Packed first x)) q;
      }

  pub put-sparse : (keys : List ℤ) (targets : List ℕ) (old new b c o p : List ℕ) (zs ys : List ℤ) → IsOperand count (made.Sparse keys targets) → c ≡ b → ints b ≡ keys → length b ≡ 4 * length keys
      → p ≡ o → ints o ≡ ys → ys ≡ zs → length o ≡ 4 * length ys → length zs ≡ length targets → map (target_number ss at) zs ≡ targets
      → new ≡ old ++ written (raw.Sparse c p) → PutInsn N ss at (made.Sparse keys targets) old new
  put-sparse keys targets old new b c o p zs ys h r g kl q e f l m t n =
      let k : length o ≡ 4 * length zs = l ∙ ap (λ (x : List ℤ). 4 * length x) f in
      record {
        raw = raw.Sparse b o;
        lowers = sparse-lowers keys targets b o zs h g kl (e ∙ f) k m t;
        is_new = n ∙ (λ i. old ++ written (raw.Sparse (r i) (q i)));
      }

  pub put-array : (width : ℕ) (bytes old new : List ℕ) → IsOperand count (made.Data width bytes) → new ≡ old ++ written (raw.Data width bytes) → PutInsn N ss at (made.Data width bytes) old new
  put-array width bytes old new h n = record { raw = raw.Data width bytes; lowers = array-lowers width bytes h; is_new = n }
