-- What is written of well formed instructions is linked to them.
use Rattle.std.proofs.Common.{ℕ, ◌<◌, List, length, get_or, sym, subst}
use Rattle.dex_insn.specs.Raw.{Raw}
use Rattle.program_types.specs.Content.{Name, Insn}
use Rattle.program_types.specs.Sizes.{addresses_of}
use Rattle.program_types.specs.Formed.{insn_at, TargetHolds, PayloadHolds}
use Rattle.code_read.specs.Walk.{raw_at}
use Rattle.code_read.specs.Symbols.{Resolves}
use Rattle.code_read.specs.Linked.{target_number, SpellsInsns}
use Rattle.code_write.specs.Packs.{AreLowered, joined}
use Rattle.code_write.proofs.WrittenLaws.{lowered-walks, lowered-starts}

pub lowered-spells : (N : ℕ → Name → Type 0) (is : List Insn) (rs : List Raw) → AreLowered N is (addresses_of is) rs → ((k : ℕ) → k < length is → TargetHolds is k) → ((k : ℕ) → k < length is → PayloadHolds is k) → SpellsInsns N (joined rs) rs is
lowered-spells N is rs low targets payloads = record {
  walk = lowered-walks N is rs low;
  linked = record {
    count = sym low.count;
    each = λ k l.
        let x = low.each k l in
        record {
          origin = x.origin;
          counts = x.counts;
          resolves = subst (λ (ss : List ℕ). Resolves N (target_number ss (get_or ss x.origin 0)) (raw_at rs k) (insn_at is k)) (sym (lowered-starts N is rs low)) x.lowers.resolves;
        };
  };
  keep = record { targets = targets; payloads = payloads };
}
