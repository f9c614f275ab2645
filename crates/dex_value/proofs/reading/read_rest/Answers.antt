use Rattle.std.proofs.Common.{arith, ap, ◌∙◌, inl, inr, drop}
use Rattle.dex_base.specs.Leb128.{Spells}
use Rattle.dex_base.proofs.TakesLaws.{Takes-from_begins}
use Rattle.tables_rows.specs.Names.{NameIsAt}
use Rattle.dex_value.proofs.Taking.{takes_static, takes_count, takes_deep}
use Rattle.dex_value.proofs.reading.read_rest.Goals as goal
use Rattle.program_types.specs.Depth.{most_depth}

pub returns-then-count-most-clause-err : goal.returns-then-count-most-clause-err
returns-then-count-most-clause-err g c = λ other.
    inr (inl (
      record { n = c.in-Some.count; after = drop c.in-Some.length c.args.bytes.now; counted = Takes-from_begins Spells c.args.bytes.now c.in-Some.count c.in-Some.length c.in-Some.ensures.found; above = c.if-count-most.true },
      c.at.ensures ∙ ap (λ p. record { code = 49; place = p }) c.from.ensures,
    ))

pub returns-clause-ok : goal.returns-clause-ok
returns-clause-ok g c =
    let all = c.in_ok-many.ensures.ok in
    let N = NameIsAt (g.K.Keep.names c.args.keep) in
    let count = takes_count N c.in-Some.count most_depth c.split_at.result.1.now _ all.0 all.1 in (
      all.0,
      record {
        rest = _;
        spelled = takes_static N c.in-Some.count c.in-Some.length most_depth c.args.bytes.now c.split_at.result.1.now _ all.0 c.in-Some.ensures.found c.split_at.ensures.back all.1;
        few = omega (arith, count, c.if-count-most.false);
        deep = takes_deep N c.in-Some.count most_depth c.split_at.result.1.now _ all.0 all.1;
      },
      count,
      all.2,
    )
