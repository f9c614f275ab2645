use Rattle.std.proofs.Common.{false, ap, ◌∙◌, sym, codes, Option}
use Rattle.std.specs.Option.{option_map_or}
use Rattle.std.specs.Str.{bytes_eq}
use Rattle.clap.specs.Words.{Text, found_of}
use Rattle.clap.proofs.WalkLemmas.{first_value-rows}
use Rattle.dexasm_plan.specs.Plans.{job_named, texts_of}
use Rattle.dexasm_plan.proofs.Shapes.{met_is, no_other}
use Rattle.dexasm_plan.proofs.reading.plan.Goals as goal

pub unreachable-requires-in_default-job_of : goal.unreachable-requires-in_default-job_of
unreachable-requires-in_default-job_of c =
    let here = c.in-Some.ensures in
    let met = sym c.in-Ok.ensures.rows ∙ met_is c.in-Ok.matches _ _ here.name here.rows in
    no_other (texts_of c.args.words.now) _ _ _ c.job_of.result met c.job_of.ensures c.in_default-job_of.is

pub returns-clause-ok : goal.returns-clause-ok
returns-clause-ok c =
    let here = c.in-Some.ensures in
    let f = found_of c.in-Some.entries.now in
    let met = sym c.in-Ok.ensures.rows ∙ met_is c.in-Ok.matches _ _ here.name here.rows in
    let flag = c.is_given.ensures ∙ ap (λ (o : Option Text). option_map_or (λ t. bytes_eq t (codes "true")) o false) (first_value-rows f (codes "align")) in (
      _,
      _,
      met,
      record {
        job = ap (job_named c.in-Some.name.now) (sym flag) ∙ sym c.job_of.ensures ∙ c.in-Some-job_of.is;
        file = c.get_str.ensures ∙ first_value-rows f (codes "FILE");
        output = c.get_str-2.ensures ∙ first_value-rows f (codes "output");
      },
    )
