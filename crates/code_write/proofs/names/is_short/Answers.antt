use Rattle.std.proofs.Common.{◌<◌, arith, rules}
use Rattle.program_types.specs.View.{name}
use Rattle.code_write.proofs.names.is_short.Goals as goal
use Rattle.tables_names.proofs.PlaceLemmas.{rank_one}

pub returns-in-None : goal.returns-in-None
returns-in-None c =
    let h = c.requires.ranked in (
      λ t. absurd cc,
      λ f. let few = f h.0 h.1 in absurd (c.in-None.ensures.none h.0 (omega (arith, few)) h.1),
    )

pub returns-in-Some : goal.returns-in-Some
returns-in-Some c = (
  λ t i n. let e = rank_one c.args.ranks.now i c.in-Some.index (name c.args.name) c.rise.ensures n c.in-Some.ensures.some in let l : c.in-Some.index < 65536 = search rules in omega arith,
  λ h. let l = h c.in-Some.index c.in-Some.ensures.some in search rules,
)
