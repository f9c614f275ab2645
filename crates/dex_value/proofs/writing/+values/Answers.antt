use Rattle.std.proofs.Common.{◌≡◌, ◌≤◌, length, map, sym, subst, arith, get_or}
use Rattle.std.proofs.lemmas.Result.{on_ok_weaker}
use Rattle.std.proofs.lemmas.List.{length-map}
use Rattle.dex_base.specs.Grammar.{Appends}
use Rattle.dex_base.specs.Leb128.{Shortest}
use Rattle.program_types.specs.Content.{values}
use Rattle.program_types.specs.View.{value}
use Rattle.program_types.specs.declared.value.Value as made
use Rattle.program_types.proofs.ValueViews.{value_array}
use Rattle.tables_names.specs.Closure.{NameRanks}
use Rattle.dex_value.specs.Spelling.{SpellsValue}
use Rattle.program_types.specs.Mentions.{NamesHold}
use Rattle.dex_value.specs.Named.{IsRanked}
use Rattle.dex_value.specs.Counts.{CountsFit}
use Rattle.dex_value.specs.Wide.{wide_value, wide_values}
use Rattle.dex_value.proofs.Appending.{counted, array_value_appends, next_named, next_counts, one_wide, writing_next}
use Rattle.dex_value.proofs.writing.+values.Goals as goal

pub put_value-overflow_cast-all : goal.put_value-overflow_cast-all
put_value-overflow_cast-all t c =
    let w = rw (c.in-Array.is, value_array c.in-Array.all) at c.requires.counts in
    let n = counted c.in-Array.all.now w.0 in
    omega (arith, n)

pub put_value-returns-in_ok-put_uleb-in-Array-clause-ok : goal.put_value-returns-in_ok-put_uleb-in-Array-clause-ok
put_value-returns-in_ok-put_uleb-in-Array-clause-ok t c =
    rw (c.in-Array.is, value_array c.in-Array.all)
    (on_ok_weaker c.put_values.result
    (λ a. array_value_appends (NameRanks c.args.ranks.now) c.push.new.self.items c.put_uleb.new.out.items c.put_values.new.out.items (length c.in-Array.all.now) (map value c.in-Array.all.now) c.args.out.now.items
    (length-map c.in-Array.all.now value) c.in_ok-push-in-Array.ensures.items c.in_ok-put_uleb-in-Array.ensures.ok a)
    c.put_values.ensures.ok)

pub put_values-put_value-requires : goal.put_values-put_value-requires
put_values-put_value-requires t c =
    let w = one_wide c.args.ranks.now c.args.out.now.items c.loop-one.out.items c.args.all.now c.loop-one.one-index c.one-item.result c.loop-one-test.true c.loop-one.invariant in
    let n = (next_named (IsRanked c.args.ranks.now) c.args.all.now c.loop-one.one-index c.one-item.result c.loop-one-test.true c.loop-one.invariant.named).0 in
    let is : get_or c.args.all.now c.loop-one.one-index c.one-item.result ≡ c.one-item.result = sym c.one-item.is in
    let few : wide_value (value c.one-item.result) ≤ wide_values (values (map value c.args.all.now)) = subst (λ (v : made.Value). wide_value (value v) ≤ wide_values (values (map value c.args.all.now))) is w in
    let fits = (next_counts c.args.all.now c.loop-one.one-index c.one-item.result c.loop-one-test.true c.loop-one.invariant.counts).0 in
    let most = c.decreases in
    (omega (arith, few, most), (subst (λ (v : made.Value). NamesHold (IsRanked c.args.ranks.now) (value v)) is n, subst (λ (v : made.Value). CountsFit (value v)) is fits))

pub put_values-loop-one-preserved : goal.put_values-loop-one-preserved
put_values-loop-one-preserved t c =
    writing_next c.args.ranks.now c.args.out.now.items c.loop-one.out.items c.put_value.new.out.items c.args.all.now c.loop-one.one-index c.one-item.result c.loop-one-test.true c.loop-one.invariant
    (subst (λ (v : made.Value). Appends (Shortest (SpellsValue (NameRanks c.args.ranks.now))) c.loop-one.out.items c.put_value.new.out.items (value v)) c.one-item.is c.in_ok-put_value.ensures.ok)
