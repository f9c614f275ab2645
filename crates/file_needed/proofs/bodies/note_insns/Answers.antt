use Rattle.std.proofs.Common.{sym, subst, get_or, ◌≡◌, map, take_all, arith, List}
use Rattle.std.specs.List.{AllByRecursion, flat_map}
use Rattle.tables_names.specs.Closure.{HasShorty}
use Rattle.program_types.specs.Mentions.{names_of_insn}
use Rattle.program_types.specs.View as view
use Rattle.program_types.specs.declared.insn.Insn.{Insn}
use Rattle.tables_names.specs.Noted.{AddsNoted}
use Rattle.tables_names.proofs.NotedLemmas.{notes_none}
use Rattle.file_needed.proofs.Steps.{notes_more, flat_kept}
use Rattle.file_needed.proofs.bodies.note_insns.Goals as goal

pub loop-insn-init : goal.loop-insn-init
loop-insn-init c = notes_none c.args.noted.now

pub note_insn-requires : goal.note_insn-requires
note_insn-requires c =
    let is : get_or c.args.insns.now c.loop-insn.insn-index c.insn-item.result ≡ c.insn-item.result = sym c.insn-item.is in
    subst (λ (v : Insn). AllByRecursion HasShorty (names_of_insn (view.insn v))) is (flat_kept HasShorty names_of_insn view.insn c.args.insns.now c.loop-insn.insn-index c.insn-item.result c.loop-insn-test.true c.requires)

pub loop-insn-preserved : goal.loop-insn-preserved
loop-insn-preserved c =
    notes_more names_of_insn view.insn _ _ _ c.args.insns.now c.loop-insn.insn-index c.insn-item.result c.loop-insn-test.true c.loop-insn.invariant
    (subst (λ (v : Insn). AddsNoted c.loop-insn.noted c.note_insn.new.noted (names_of_insn (view.insn v))) c.insn-item.is c.in_ok-note_insn.ensures.added)

pub returns-clause-added : goal.returns-clause-added
returns-clause-added c =
    subst (λ (xs : List Insn). AddsNoted c.args.noted.now c.loop-insn.noted (flat_map names_of_insn (map view.insn xs))) (take_all c.loop-insn.insn-index c.args.insns.now (omega arith)) c.loop-insn.invariant
