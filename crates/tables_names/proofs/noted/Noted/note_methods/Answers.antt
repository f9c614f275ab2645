use Rattle.std.proofs.Common.{List, arith, map, subst, take_all}
use Rattle.tables_names.specs.Closure.{HasShorty, method_of_class}
use Rattle.program_types.specs.View as view
use Rattle.program_types.specs.declared.class.Method.{Method}
use Rattle.tables_names.specs.Keys.{key_of_desc}
use Rattle.tables_names.specs.Noted.{AddsNoted}
use Rattle.tables_names.specs.Numbers.{sets}
use Rattle.tables_names.proofs.FiveLemmas.{refused}
use Rattle.tables_names.proofs.NeededLemmas.{member_kept}
use Rattle.tables_names.proofs.NotedLemmas.{goes_on, goes_on_both, member_refused, next_member, notes_none}
use Rattle.tables_names.proofs.noted.Noted.note_methods.Goals as goal

pub loop-one-init : goal.loop-one-init
loop-one-init c = record { added = notes_none c.args.self.now; continues = goes_on c.args.self.now }

pub note_method-requires : goal.note_method-requires
note_method-requires c =
    let shorty = member_kept (method_of_class (view.desc c.args.class)) view.method HasShorty c.args.methods.now c.loop-one.one-index _ (omega arith) c.requires.shorties in
    record { class = c.loop-one.invariant.continues.grows.types.each c.args.number (key_of_desc c.args.class) c.requires.class; ret = shorty.0; params = shorty.1 }

pub loop-one-preserved : goal.loop-one-preserved
loop-one-preserved c =
    record {
      added = next_member (method_of_class (view.desc c.args.class)) view.method c.args.self.now c.loop-one.self c.note_method.new.self c.args.methods.now c.loop-one.one-index _ (omega arith) c.loop-one.invariant.added c.in_ok-note_method.ensures.added;
      continues = goes_on_both c.args.self.now c.loop-one.self c.note_method.new.self c.loop-one.invariant.continues c.note_method.ensures.continues;
    }

pub returns-in_err-note_method-clause-partly : goal.returns-in_err-note_method-clause-partly
returns-in_err-note_method-clause-partly c =
    refused c.from_residual.result (member_refused (method_of_class (view.desc c.args.class)) view.method (sets c.args.self.now.names) (sets c.loop-one.self.names) (sets c.note_method.new.self.names) c.args.methods.now c.loop-one.one-index _ (omega arith) c.loop-one.invariant.added.added c.in_err-note_method.ensures.partly)

pub returns-in_err-note_method-clause-continues : goal.returns-in_err-note_method-clause-continues
returns-in_err-note_method-clause-continues c = goes_on_both c.args.self.now c.loop-one.self c.note_method.new.self c.loop-one.invariant.continues c.note_method.ensures.continues

pub returns-clause-added : goal.returns-clause-added
returns-clause-added c =
    subst (λ (xs : List Method). AddsNoted c.args.self.now c.loop-one.self (map (method_of_class (view.desc c.args.class)) (map view.method xs))) (take_all c.loop-one.one-index c.args.methods.now (omega arith)) c.loop-one.invariant.added
