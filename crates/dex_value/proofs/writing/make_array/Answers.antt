use Rattle.std.proofs.Common.{ℕ, List, ◌++◌, length, map, sym, ap, subst, ◌∙◌, arith}
use Rattle.std.proofs.lemmas.List.{length-map}
use Rattle.dex_base.specs.Leb128.{Shortest}
use Rattle.program_types.specs.View.{value}
use Rattle.tables_names.specs.Closure.{NameRanks}
use Rattle.dex_value.specs.Spelling.{SpellsArray}
use Rattle.dex_value.proofs.Appending.{array_appends}
use Rattle.dex_value.proofs.writing.make_array.Goals as goal

pub overflow_cast-values : goal.overflow_cast-values
overflow_cast-values c =
    let n = c.requires.counts.own in
    let l = length-map c.args.values.now value in
    omega (arith, n, l)

pub returns-clause-ok : goal.returns-clause-ok
returns-clause-ok c =
    let N = NameRanks c.args.ranks.now in
    let a = array_appends N c.new-array.result.items c.put_uleb.new.out.items c.put_values.new.out.items (length c.args.values.now) (map value c.args.values.now) (length-map c.args.values.now value) c.in_ok-put_uleb.ensures.ok c.in_ok-put_values.ensures.ok in
    subst (λ (bytes : List ℕ). Shortest (SpellsArray N) bytes (map value c.args.values.now)) (sym (a.joined ∙ ap (λ (bytes : List ℕ). bytes ++ a.bytes) c.new-array.ensures.items)) a.spelled
