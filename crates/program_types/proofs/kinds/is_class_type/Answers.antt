use Rattle.program_types.proofs.kinds.is_class_type.Goals as goal

pub returns : goal.returns
returns c = c.is_class.ensures
