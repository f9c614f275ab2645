use Rattle.std.proofs.Common.{List, arith, map, subst, take_all}
use Rattle.program_types.specs.Mentions.{field_of_class}
use Rattle.program_types.specs.View as view
use Rattle.program_types.specs.declared.class.Member.{Member}
use Rattle.tables_names.specs.Keys.{key_of_desc}
use Rattle.tables_names.specs.Noted.{AddsNoted}
use Rattle.tables_names.specs.Numbers.{sets}
use Rattle.tables_names.proofs.FiveLemmas.{refused}
use Rattle.tables_names.proofs.NotedLemmas.{goes_on, goes_on_both, member_refused, next_member, notes_none}
use Rattle.tables_names.proofs.noted.Noted.note_fields.Goals as goal

pub loop-field-init : goal.loop-field-init
loop-field-init c = record { added = notes_none c.args.self.now; continues = goes_on c.args.self.now }

pub note_field-requires : goal.note_field-requires
note_field-requires c = c.loop-field.invariant.continues.grows.types.each c.args.number (key_of_desc c.args.class) c.requires

pub loop-field-preserved : goal.loop-field-preserved
loop-field-preserved c =
    record {
      added = next_member (field_of_class (view.desc c.args.class)) view.member c.args.self.now c.loop-field.self c.note_field.new.self c.args.fields.now c.loop-field.field-index _ (omega arith) c.loop-field.invariant.added c.in_ok-note_field.ensures.added;
      continues = goes_on_both c.args.self.now c.loop-field.self c.note_field.new.self c.loop-field.invariant.continues c.note_field.ensures.continues;
    }

pub returns-in_err-note_field-clause-partly : goal.returns-in_err-note_field-clause-partly
returns-in_err-note_field-clause-partly c =
    refused c.from_residual.result (member_refused (field_of_class (view.desc c.args.class)) view.member (sets c.args.self.now.names) (sets c.loop-field.self.names) (sets c.note_field.new.self.names) c.args.fields.now c.loop-field.field-index _ (omega arith) c.loop-field.invariant.added.added c.in_err-note_field.ensures.partly)

pub returns-in_err-note_field-clause-continues : goal.returns-in_err-note_field-clause-continues
returns-in_err-note_field-clause-continues c = goes_on_both c.args.self.now c.loop-field.self c.note_field.new.self c.loop-field.invariant.continues c.note_field.ensures.continues

pub returns-clause-added : goal.returns-clause-added
returns-clause-added c =
    subst (λ (xs : List Member). AddsNoted c.args.self.now c.loop-field.self (map (field_of_class (view.desc c.args.class)) (map view.member xs))) (take_all c.loop-field.field-index c.args.fields.now (omega arith)) c.loop-field.invariant.added
