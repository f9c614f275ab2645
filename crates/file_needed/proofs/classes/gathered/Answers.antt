use Rattle.std.proofs.Common.{◌≡◌, ◌++◌, [], ap, ◌∙◌, map}
use Rattle.dex_base.proofs.ListFacts.{passed}
use Rattle.dex_base.specs.Fault.{memory}
use Rattle.std.proofs.lemmas.Result.{IfOk-weaker}
use Rattle.tables_names.specs.Closure.{HasShorty, with_names}
use Rattle.tables_names.specs.Needed.{needed}
use Rattle.tables_names.specs.Numbers.{sets}
use Rattle.program_types.specs.Mentions.{mentions}
use Rattle.program_types.specs.View as view
use Rattle.file_needed.specs.inner.Bodies.{defined_in, named_in_code}
use Rattle.file_needed.proofs.ClassNames.{all_names, all_own, code_named}
use Rattle.file_needed.proofs.Steps.{nothing_noted}
use Rattle.file_needed.proofs.classes.gathered.Goals as goal

pub note_classes-requires : goal.note_classes-requires
note_classes-requires c = code_named HasShorty (map view.class c.args.program.now.classes.now) c.requires

pub note_members-requires : goal.note_members-requires
note_members-requires c = all_own HasShorty (map view.class c.args.program.now.classes.now) c.requires

pub returns-clause-ok : goal.returns-clause-ok
unfolding needed
returns-clause-ok c =
    let cs = map view.class c.args.program.now.classes.now in
    let others = c.noting-noted.ensures.names ∙ c.in_ok-add_classes.ensures.added in
    let all = all_names c.seeded-names.result cs (sets c.noting-noted.result.names) (sets c.note_classes.new.noted.names) (sets c.note_members.new.noted.names) c.holds_parts.ensures.closed c.holds_parts.ensures.rise others c.in_ok-note_classes.ensures.added.added c.in_ok-note_members.ensures.added in
    IfOk-weaker c.freeze.result _ _ (λ r same. same ∙ all ∙ ap (λ s. with_names s (mentions cs)) c.seeded-names.ensures) c.freeze.ensures.same

pub returns-clause-ranks : goal.returns-clause-ranks
returns-clause-ranks c =
    let cs = map view.class c.args.program.now.classes.now in
    let coded = c.in_ok-note_classes.ensures.added.noted [] (nothing_noted c.noting-noted.result c.noting-noted.ensures.numbers) in
    let noted = c.in_ok-note_members.ensures.noted (named_in_code cs) coded in
    IfOk-weaker c.freeze.result _ _ (λ r ranks. ranks (named_in_code cs ++ defined_in cs) noted) c.freeze.ensures.ranks

pub returns-in_err-note_classes-clause-memory : goal.returns-in_err-note_classes-clause-memory
returns-in_err-note_classes-clause-memory c = passed _ _ (λ x. x ≡ memory) c.from_residual-in_err-note_classes.ensures.1 c.in_err-note_classes.ensures.memory
