use Rattle.std.proofs.Common.{ℕ, List, sym, subst}
use Rattle.dex_base.specs.Grammar.{Takes}
use Rattle.dex_base.specs.Leb128.{Spells}
use Rattle.dex_base.proofs.TakesLaws.{Takes-from_begins, Takes-none}
use Rattle.file_renumber.proofs.FrontLemmas.{taken_short}
use Rattle.file_renumber.proofs.array_fronts.take_number.Goals as goal

pub unreachable-requires : goal.unreachable-requires
unreachable-requires c = Takes-none Spells c.args.bytes.now c.requires.0 c.requires.1 c.in-None.ensures.none c.requires.2

pub returns-clause-taken : goal.returns-clause-taken
returns-clause-taken c =
    subst (λ (l : List ℕ). Takes Spells c.args.bytes.now c.in-Some.n l) (sym c.split_at.ensures.back) (Takes-from_begins Spells c.args.bytes.now c.in-Some.n c.in-Some.length c.in-Some.ensures.found)

pub returns-clause-short : goal.returns-clause-short
returns-clause-short c =
    taken_short Spells c.args.bytes.now c.in-Some.n c.split_at.result.1.now (subst (λ (l : List ℕ). Takes Spells c.args.bytes.now c.in-Some.n l) (sym c.split_at.ensures.back) (Takes-from_begins Spells c.args.bytes.now c.in-Some.n c.in-Some.length c.in-Some.ensures.found))
