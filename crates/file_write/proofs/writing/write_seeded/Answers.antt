use Rattle.program_types.specs.View as view
use Rattle.tables_rows.proofs.ClearRows.{only_memory}
use Rattle.file_write.proofs.FileLaws.{file_of, none_broken, vain}
use Rattle.file_write.proofs.writing.write_seeded.Goals as goal
use Rattle.dex_base.proofs.ListFacts.{passed}

pub returns-clause-file : goal.returns-clause-file
returns-clause-file c = file_of c.in_ok-assemble.field-0.items (view.program c.args.program.now) c.requires.formed c.in_ok-assemble.ensures.fits c.in_ok-assemble.ensures.assembled

pub returns-in_err-assemble-clause-only : goal.returns-in_err-assemble-clause-only
returns-in_err-assemble-clause-only c = λ fits.
    passed _ _ _ c.from_residual.ensures.1 (only_memory _ (λ ne. none_broken (view.program c.args.program.now) _ fits (c.in_err-assemble.ensures.refused ne)))

pub returns-in_err-assemble-clause-vain : goal.returns-in_err-assemble-clause-vain
returns-in_err-assemble-clause-vain c = passed _ _ _ c.from_residual.ensures.1 (vain (view.program c.args.program.now) _ c.in_err-assemble.ensures.refused)
