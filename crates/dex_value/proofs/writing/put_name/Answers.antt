use Rattle.std.proofs.Common.{ℕ, subst}
use Rattle.std.proofs.lemmas.Result.{on_ok_weaker}
use Rattle.dex_base.specs.Grammar.{Appends}
use Rattle.dex_base.specs.Leb128.{Shortest}
use Rattle.program_types.specs.View as view
use Rattle.dex_value.specs.Writing.{UnsignedAs}
use Rattle.dex_value.proofs.Appending.{index_appends}
use Rattle.dex_value.proofs.writing.put_name.Goals as goal

pub unreachable-requires : goal.unreachable-requires
unreachable-requires c = c.in-None.ensures.none c.requires.ranked.rank c.requires.ranked.small c.requires.ranked.stands

pub returns-clause-ok : goal.returns-clause-ok
returns-clause-ok c =
    on_ok_weaker c.put_unsigned.result
    (λ a. index_appends c.args.ranks.now c.args.code c.in-Some.index (view.name c.args.name) c.args.out.now.items c.put_unsigned.new.out.items c.rise.ensures c.in-Some.ensures.some
    (subst (λ (n : ℕ). Appends (Shortest (UnsignedAs c.args.code 4)) c.args.out.now.items c.put_unsigned.new.out.items n) c.from.ensures a))
    c.put_unsigned.ensures.ok
