use Rattle.std.proofs.Common.{ℕ, subst}
use Rattle.std.proofs.lemmas.Result.{on_ok_weaker}
use Rattle.dex_base.specs.Grammar.{Appends}
use Rattle.dex_base.specs.Leb128.{Shortest}
use Rattle.program_types.proofs.ValueViews.{value_float}
use Rattle.tables_names.specs.Closure.{NameRanks}
use Rattle.dex_value.specs.inner.Writing.{HighAs}
use Rattle.dex_value.proofs.Appending.{float_appends}
use Rattle.dex_value.proofs.writing.put_plain.Goals as goal

pub returns-in-Float-clause-ok : goal.returns-in-Float-clause-ok
returns-in-Float-clause-ok c =
    rw (c.in-Float.is, value_float c.in-Float.bits)
    (on_ok_weaker c.put_high.result
    (λ a s. float_appends (NameRanks s) c.in-Float.bits c.args.out.now.items c.put_high.new.out.items
    (subst (λ (n : ℕ). Appends (Shortest (HighAs 16 4)) c.args.out.now.items c.put_high.new.out.items n) c.from-in-Float.ensures a))
    c.put_high.ensures.ok)
