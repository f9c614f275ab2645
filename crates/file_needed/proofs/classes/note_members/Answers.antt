use Rattle.std.proofs.Common.{◌++◌, List, arith, map, refl, subst, take_all}
use Rattle.program_types.specs.View as view
use Rattle.program_types.specs.declared.class.Class.{Class}
use Rattle.tables_names.specs.Closure.{HasShorty}
use Rattle.tables_names.specs.Noted.{AreNoted, members_of}
use Rattle.tables_names.specs.Numbers.{sets}
use Rattle.file_needed.specs.inner.Bodies.{defined_in, own_names}
use Rattle.file_needed.proofs.Steps.{flat_kept, flat_more, no_notes, noted_next}
use Rattle.file_needed.proofs.classes.note_members.Goals as goal

pub loop-class-init : goal.loop-class-init
loop-class-init c = record { added = refl; noted = no_notes c.args.noted.now }

pub add_members_of-requires : goal.add_members_of-requires
add_members_of-requires c = (flat_kept HasShorty own_names view.class c.args.classes.now c.loop-class.class-index _ c.loop-class-test.true c.requires).1

pub loop-class-preserved : goal.loop-class-preserved
loop-class-preserved c =
    record {
      added = flat_more own_names view.class (sets c.args.noted.now.names) (sets c.loop-class.noted.names) (sets c.add_members_of.new.self.names) c.args.classes.now c.loop-class.class-index _ c.loop-class-test.true c.loop-class.invariant.added c.in_ok-add_members_of.ensures.added;
      noted = noted_next members_of view.class c.args.noted.now c.loop-class.noted c.add_members_of.new.self c.args.classes.now c.loop-class.class-index _ c.loop-class-test.true c.loop-class.invariant.noted c.in_ok-add_members_of.ensures.noted;
    }

pub returns-clause-noted : goal.returns-clause-noted
returns-clause-noted c before h =
    subst (λ (xs : List Class). AreNoted c.loop-class.noted (before ++ defined_in (map view.class xs))) (take_all c.loop-class.class-index c.args.classes.now (omega arith)) (c.loop-class.invariant.noted before h)
