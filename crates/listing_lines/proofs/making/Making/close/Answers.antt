use Rattle.std.proofs.Common.{◌∙◌, ◌++◌, ◌∷◌, [], ap, map, min, take, drop, sym, arith}
use Rattle.std.proofs.lemmas.List.{length-map, map-append}
use Rattle.program_types.specs.View.{value}
use Rattle.listing_lines.specs.inner.MakingView.{making}
use Rattle.listing_lines.proofs.MakingLaws.{close_empty, close_one, values_cut}
use Rattle.listing_lines.proofs.making.Making.close.Goals as goal

pub returns-in_default-clause-put : goal.returns-in_default-clause-put
unfolding making
returns-in_default-clause-put c = close_empty (map value c.args.self.now.values.items) c.args.self.now.begins.items c.pop.new.self.items c.in_default.ensures.items (omega (arith, c.args.self.now.begins.ok.0, c.in_default.ensures.cases.0))

pub returns-clause-put : goal.returns-clause-put
unfolding making
returns-clause-put c =
    let vs = c.args.self.now.values in
    close_one (map value vs.items) _ c.args.self.now.begins.items c.pop.new.self.items c.in-Some.begin c.min-cut.result c.in-Some.ensures.items
    (c.min-cut.ensures ∙ ap (λ n. min c.in-Some.begin n) (c.len.ensures ∙ vs.ok.0 ∙ sym (length-map vs.items value)))
    (ap (map value) (c.in_ok-push.ensures.items ∙ ap (λ xs. xs ++ c.in_ok-whole.whole ∷ []) c.truncate.ensures.items) ∙ map-append value _ _ ∙ ap (λ v. map value (take c.min-cut.result vs.items) ++ v ∷ []) c.in_ok-whole.ensures.ok ∙ values_cut vs.items c.min-cut.result c.split_at.result.1.now (c.split_at.ensures.back ∙ ap (drop c.min-cut.result) c.as_slice.ensures.value))
