use Rattle.std.proofs.lemmas.Result.{on_ok_weaker}
use Rattle.program_types.specs.View.{field_ref}
use Rattle.program_types.proofs.ValueViews.{value_enum}
use Rattle.tables_names.specs.Closure.{NameRanks}
use Rattle.dex_value.proofs.Appending.{enum_appends}
use Rattle.dex_value.proofs.writing.put_leaf.Goals as goal

pub returns-in-Enum-clause-ok : goal.returns-in-Enum-clause-ok
returns-in-Enum-clause-ok c =
    rw (c.in-Enum.is, value_enum c.in-Enum.constant)
    (on_ok_weaker c.put_name-in-Enum.result
    (λ a. enum_appends (NameRanks c.args.ranks.now) (field_ref c.in-Enum.constant.now) c.args.out.now.items c.put_name-in-Enum.new.out.items a)
    c.put_name-in-Enum.ensures.ok)
