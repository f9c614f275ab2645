use Rattle.std.proofs.Common.{ap, ◌∙◌, ◌++◌, ◌∷◌, []}
use Rattle.tables_names.proofs.name_set.NamesWithParts.add.Goals as goal

pub returns-clause-names : goal.returns-clause-names
returns-clause-names g c = rw c.requires at c.in_ok-number.ensures.added

pub returns-clause-parts : goal.returns-clause-parts
returns-clause-parts g c = c.in_ok-push.ensures.items ∙ ap (λ l. l ++ c.args.parts ∷ []) c.reserve.ensures.items
