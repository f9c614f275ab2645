use Rattle.std.proofs.Common.{map}
use Rattle.code_align.proofs.WellLaws.{program_formed, aligned_well}
use Rattle.program_types.specs.View.{class}
use Rattle.code_align.proofs.programs.align_all.Goals as goal

pub aligned_classes-requires : goal.aligned_classes-requires
aligned_classes-requires c = record { formed = program_formed (map class c.args.program.now.classes.now) c.requires.formed }

pub returns-clause-formed : goal.returns-clause-formed
returns-clause-formed c = aligned_well (map class c.args.program.now.classes.now) (map class c.in_ok-classes.classes.now) c.requires.formed c.in_ok-classes.ensures.ok c.in_ok-classes.ensures.formed
