use Rattle.std.proofs.Common.{refl, arith, map}
use Rattle.tables_names.specs.Rank.{IsAt}
use Rattle.std.proofs.lemmas.List.Elements.{All-nil}
use Rattle.tables_names.proofs.SortingLemmas.{names_pushed, row_pushed, name_at}
use Rattle.tables_names.proofs.sorting.with_numbers.Goals as goal

pub loop-i-init : goal.loop-i-init
loop-i-init g c = rw c.in_ok-rows.ensures.items (record { names = refl; numbers = All-nil _ })

pub loop-i-preserved : goal.loop-i-preserved
loop-i-preserved g c =
    let at = c.loop-i in
    let pushed = c.in_ok-push.ensures.items in
    record {
      names = names_pushed c.args.names.now at.rows.items c.push.new.self.items at.i c.index-names-i.result tt at.i (omega arith) c.index-names-i.is pushed at.invariant.names;
      numbers = row_pushed (λ r. IsAt (map g.N.Row.key c.args.names.now) r.2 (g.N.Row.key r.1)) at.rows.items c.push.new.self.items (tt, c.index-names-i.result, at.i) pushed at.invariant.numbers (name_at g.N.Row.key c.args.names.now at.i c.index-names-i.result (omega arith) c.index-names-i.is);
    }
