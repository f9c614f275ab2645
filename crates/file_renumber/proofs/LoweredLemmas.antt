-- The instructions of a code, renumbered, are those that are written of it.
use Rattle.std.proofs.Common.{◌≡◌, ℕ, ◌<◌, List, length, map, sym, ap, subst, ◌∙◌, arith}
use Rattle.std.specs.List.{AllByRecursion, flat_map}
use Rattle.std.proofs.lemmas.List.{length-map, get_or-map}
use Rattle.dex_base.specs.Fields.{AreBytes}
use Rattle.dex_insn.specs.Raw as raw
use Rattle.dex_insn.specs.Raw.{Raw}
use Rattle.dex_insn.specs.Written.{IsRaw}
use Rattle.dex_insn.specs.declared.opcode.IndexKind.{IndexKind}
use Rattle.dex_insn.proofs.Fits.{stands_fits}
use Rattle.dex_insn.proofs.StandingLaws.{even-of}
use Rattle.program_types.specs.Content.{Name, Insn}
use Rattle.program_types.specs.Content as made
use Rattle.program_types.specs.Formed.{insn_at, insn_payload}
use Rattle.program_types.specs.Mentions.{names_of_insn}
use Rattle.program_types.specs.Sizes.{addresses_of}
use Rattle.file_renumber.specs.inner.Marked.{Columns}
use Rattle.file_renumber.specs.inner.Numbers.{Carries}
use Rattle.code_read.specs.Walk.{starts, raw_at, address}
use Rattle.code_read.specs.Linked.{target_number, SpellsInsns}
use Rattle.code_read.proofs.Runs.{stands-at}
use Rattle.code_read.proofs.LinkLaws.{addresses-same, kind-linked}
use Rattle.code_write.specs.Fits.{ShortFits}
use Rattle.code_write.specs.Packs.{IsLowered, AreLowered}
use Rattle.code_write.proofs.ListLaws.{all-at, all-from}
use Rattle.file_renumber.specs.inner.Renumbered.{renumbered, CanBeRenumbered}
use Rattle.file_renumber.proofs.ListLemmas.{all-part}
use Rattle.file_renumber.proofs.UnitLemmas.{units-at}
use Rattle.file_renumber.proofs.NumberLemmas.{Carried, renumbered_says, can_renumber, renumbered_units, renumbered_payload, renumbered_kind}

module _ (N M : ℕ → Name → Type 0) (numbers : Columns) (us : List ℕ) (rs : List Raw) (is : List Insn) (s : SpellsInsns N us rs is) (are : AreBytes us)
    (carried : AllByRecursion (Carries N M numbers) (flat_map names_of_insn is)) where
  carried-at : (k : ℕ) → k < length rs → Carried N M numbers (insn_at is k)
  carried-at k l = let n = s.linked.count in all-part (Carries N M numbers) names_of_insn is k (made.I10x 0) carried (omega (arith, l, n))

  -- each of them can be renumbered
  pub can-all : ((table : IndexKind) (k : ℕ) → k < length is → ShortFits M table (insn_at is k)) → AllByRecursion (CanBeRenumbered numbers) rs
  unfolding raw_at
  can-all fits = all-from (CanBeRenumbered numbers) rs (raw.I10x 0)
      (λ k l.
      let x = s.linked.each k l in
      let n = s.linked.count in
      record {
        fits = stands_fits us (address rs k) (raw_at rs k) are (stands-at us rs s.walk k l);
        numbered = can_renumber N M numbers (target_number (starts rs) (address rs x.origin)) (raw_at rs k) (insn_at is k) x.resolves (carried-at k l) (λ table. fits table k (omega (arith, l, n)));
      })

  renumbered-at : (k : ℕ) → k < length rs → raw_at (map (renumbered numbers) rs) k ≡ renumbered numbers (raw_at rs k)
  unfolding raw_at
  renumbered-at k l = get_or-map (renumbered numbers) rs k (raw.I10x 0) (raw.I10x 0) l

  module _ (fit : AllByRecursion IsRaw (map (renumbered numbers) rs)) where
    lowered-at : (k : ℕ) → k < length rs → IsLowered M is (starts rs) k (renumbered numbers (raw_at rs k))
    unfolding raw_at
    lowered-at k l =
        let x = s.linked.each k l in
        record {
          origin = x.origin;
          counts = x.counts;
          lowers = record {
            resolves = renumbered_says N M numbers (target_number (starts rs) (address rs x.origin)) (raw_at rs k) (insn_at is k) x.resolves (carried-at k l);
            fits = subst IsRaw (renumbered-at k l) (all-at IsRaw (map (renumbered numbers) rs) k (raw.I10x 0) fit (let m = length-map rs (renumbered numbers) in omega (arith, l, m)));
            size = renumbered_units numbers (raw_at rs k) ∙ units-at N us rs is s k l;
            kind = renumbered_payload numbers (raw_at rs k) ∙ sym (kind-linked _ _ (raw_at rs k)) ∙ ap insn_payload x.resolves.symbol;
          };
          even = λ p. even-of us (address rs k) (raw_at rs k) (stands-at us rs s.walk k l) (sym (renumbered_kind numbers (raw_at rs k)) ∙ p);
        }

    pub lowered : AreLowered M is (addresses_of is) (map (renumbered numbers) rs)
    lowered = subst (λ (ss : List ℕ). AreLowered M is ss (map (renumbered numbers) rs)) (addresses-same N rs is s.linked) (record {
      count = let n = s.linked.count in let m = length-map rs (renumbered numbers) in omega (arith, n, m);
      each = λ k l.
          let m = length-map rs (renumbered numbers) in
          let inside : k < length rs = omega (arith, l, m) in
          subst (IsLowered M is (starts rs) k) (sym (renumbered-at k inside)) (lowered-at k inside);
    })
