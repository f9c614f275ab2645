use Rattle.std.proofs.Common.{rules, ◌∷◌, ◌++◌, ap, ◌∙◌, arith, []}
use Rattle.std.proofs.lemmas.List.{length-append}
use Rattle.std.proofs.lemmas.Result.{IfErr-weaker}
use Rattle.dex_base.proofs.ListFacts.{passed}
use Rattle.dex_base.proofs.TakesLaws.{Takes-each_push}
use Rattle.program_types.specs.Content.{Array, values}
use Rattle.tables_rows.specs.Names.{NameIsAt}
use Rattle.dex_value.specs.Standing.{Shallow}
use Rattle.dex_value.proofs.Taking.{takes_array, own_breaks}
use Rattle.dex_value.proofs.reading.+values.Goals as goal

pub read_value-returns-in_default-head-clause-err : goal.read_value-returns-in_default-head-clause-err
read_value-returns-in_default-head-clause-err g t c =
    IfErr-weaker c.leaf.result _ _ (λ e own other. own_breaks (NameIsAt (g.K.Keep.names c.args.keep)) c.args.span.off c.args.span.end c.args.limit c.args.bytes.now e (own c.args.limit)) c.leaf.ensures.err

pub read_value-returns-in_err-many-in-28-clause-err : goal.read_value-returns-in_err-many-in-28-clause-err
read_value-returns-in_err-many-in-28-clause-err g t c =
    passed _ _ _ c.from_residual.ensures.1 (λ other. let inside = c.in_err-many-in-28.ensures.err other in search rules)

pub read_value-returns-in_ok-array-in-28-clause-ok : goal.read_value-returns-in_ok-array-in-28-clause-ok
read_value-returns-in_ok-array-in-28-clause-ok g t c =
    let some = c.if-limit-eq0.false in
    let all = c.in_ok-many-in-28.ensures.ok in (
      Array (values all.0),
      takes_array (NameIsAt (g.K.Keep.names c.args.keep)) c.args.limit c.in-Some-read_uleb.count c.in-Some-read_uleb.length c.args.bytes.now c.in-Some.rest.now c.split_at.result.1.now c.in_ok-many-in-28.after.now all.0
          (omega (arith, some)) (c.in-Some.ensures.cases.0 ∙ ap (λ h. h ∷ c.in-Some.rest.now) c.in-28.is) c.in-Some-read_uleb.ensures.found c.split_at.ensures.back all.1,
      c.in_ok-array-in-28.ensures.ok all.0 all.2,
    )

pub read_values-loop-turn-preserved : goal.read_values-loop-turn-preserved
read_values-loop-turn-preserved g t c =
    let all = c.loop-turn.invariant in
    let one = c.in_ok-one.ensures.ok in
    let size = length-append all.0 (one.0 ∷ []) in
    let count = all.3 in (
      all.0 ++ one.0 ∷ [],
      Takes-each_push (Shallow (NameIsAt (g.K.Keep.names c.args.keep)) c.args.limit) c.args.bytes.now c.loop-turn.left.now c.in_ok-one.after.now all.0 one.0 all.1 one.1,
      c.in_ok-add.ensures.ok all.0 one.0 all.2 one.2,
      omega (arith, size, count),
    )
