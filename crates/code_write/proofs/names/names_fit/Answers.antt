use Rattle.std.proofs.Common.{sym, subst, rules, below_more}
use Rattle.program_types.specs.Content.{Insn}
use Rattle.std.specs.List.{AllByRecursion}
use Rattle.program_types.specs.Mentions.{names_of_insn}
use Rattle.program_types.specs.Kinds.{HasIndex}
use Rattle.tables_names.specs.Closure.{NameRanks}
use Rattle.code_write.specs.Fits.{ShortFits}
use Rattle.code_write.proofs.SizeLaws.{insn-at}
use Rattle.code_write.proofs.names.names_fit.Goals as goal

pub name_fits-requires : goal.name_fits-requires
name_fits-requires c =
    let e = insn-at c.args.insns.now c.loop-k.k c.index-insns-k.result c.loop-k-test.true c.index-insns-k.is in
    record { ranked = subst (λ (i : Insn). AllByRecursion (HasIndex (NameRanks c.args.ranks.now)) (names_of_insn i)) (sym e) (c.requires.ranked c.loop-k.k c.loop-k-test.true) }

pub returns-then-not-name_fits : goal.returns-then-not-name_fits
returns-then-not-name_fits c =
    let e = insn-at c.args.insns.now c.loop-k.k c.index-insns-k.result c.loop-k-test.true c.index-insns-k.is in (
      λ t. absurd cc,
      λ h. let s = c.name_fits.ensures.1 (subst (λ (i : Insn). ShortFits (NameRanks c.args.ranks.now) c.args.kind i) (sym e) (h c.loop-k.k c.loop-k-test.true)) in search rules,
    )

pub loop-k-preserved : goal.loop-k-preserved
loop-k-preserved c =
    let e = insn-at c.args.insns.now c.loop-k.k c.index-insns-k.result c.loop-k-test.true c.index-insns-k.is in
    below_more _ _ c.loop-k.invariant (subst (λ (i : Insn). ShortFits (NameRanks c.args.ranks.now) c.args.kind i) e (c.name_fits.ensures.0 (search rules)))
