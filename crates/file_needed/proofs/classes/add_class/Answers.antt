use Rattle.std.proofs.lemmas.Result.{on_ok_weaker}
use Rattle.tables_names.specs.Closure.{HasShorty}
use Rattle.program_types.specs.View as view
use Rattle.file_needed.proofs.ClassNames.{class_names, values_kept}
use Rattle.file_needed.proofs.classes.add_class.Goals as goal

pub add_values-requires : goal.add_values-requires
add_values-requires c = values_kept HasShorty (view.class c.args.class.now) c.requires

pub returns-clause-added : goal.returns-clause-added
returns-clause-added c =
    on_ok_weaker c.add_all_caught-2.result
    (λ a. class_names _ _ _ _ _ _ _ (view.class c.args.class.now) c.in_ok-add_superclass.ensures.added c.in_ok-add_types.ensures.added c.in_ok-add_source.ensures.added
    c.in_ok-add_values.ensures.added c.in_ok-add_all_caught.ensures.added a)
    c.add_all_caught-2.ensures.added
