use Rattle.std.proofs.Common.{◌≡◌, ◌∙◌, true, map, rules}
use Rattle.program_types.specs.View as view
use Rattle.program_types.specs.View.{insn, try}
use Rattle.program_types.specs.Kinds.{HasIndex}
use Rattle.tables_names.specs.Closure.{NameRanks}
use Rattle.code_write.proofs.BreakLaws.{unfit82, unfit83, unfit84, unfit85, unfit86}
use Rattle.code_write.proofs.FitLaws.{held, told, count-of, insns-ranked}
use Rattle.code_write.proofs.fitting.fits.Goals as goal

pub names_fit-requires : goal.names_fit-requires
names_fit-requires c = record { ranked = insns-ranked (HasIndex (NameRanks c.args.ranks.now)) c.args.code.now.insns.now (map try c.args.code.now.tries.now) c.requires.ranked }

pub names_fit-requires-2 : goal.names_fit-requires-2
names_fit-requires-2 c = record { ranked = insns-ranked (HasIndex (NameRanks c.args.ranks.now)) c.args.code.now.insns.now (map try c.args.code.now.tries.now) c.requires.ranked }

pub names_fit-requires-3 : goal.names_fit-requires-3
names_fit-requires-3 c = record { ranked = insns-ranked (HasIndex (NameRanks c.args.ranks.now)) c.args.code.now.insns.now (map try c.args.code.now.tries.now) c.requires.ranked }

pub offsets_fit-requires-clause-count : goal.offsets_fit-requires-clause-count
offsets_fit-requires-clause-count c = count-of c.args.code.now.insns.now c.deref.result.now (c.deref.ensures.value ∙ c.in_ok-all.ensures.ok)

pub are_even-requires : goal.are_even-requires
are_even-requires c = record { count = count-of c.args.code.now.insns.now c.deref-3.result.now (c.deref-3.ensures.value ∙ c.in_ok-all.ensures.ok) }

pub returns-then-not-names_fit-clause-err : goal.returns-then-not-names_fit-clause-err
returns-then-not-names_fit-clause-err c = λ ne.
    let insns = c.args.code.now.insns.now in
    rw c.at.ensures (unfit82 (NameRanks c.args.ranks.now) (view.code c.args.code.now) (λ h. let t : c.names_fit.result ≡ true = told insn insns _ _ c.names_fit.ensures h in search rules))

pub returns-then-not-names_fit-2-clause-err : goal.returns-then-not-names_fit-2-clause-err
returns-then-not-names_fit-2-clause-err c = λ ne.
    let insns = c.args.code.now.insns.now in
    rw c.at-then-not-names_fit-2.ensures (unfit83 (NameRanks c.args.ranks.now) (view.code c.args.code.now) (held insn insns _ _ c.names_fit.ensures (search rules))
    (λ h. let t : c.names_fit-2.result ≡ true = told insn insns _ _ c.names_fit-2.ensures h in search rules))

pub returns-then-not-names_fit-3-clause-err : goal.returns-then-not-names_fit-3-clause-err
returns-then-not-names_fit-3-clause-err c = λ ne.
    let insns = c.args.code.now.insns.now in
    rw c.at-then-not-names_fit-3.ensures (unfit84 (NameRanks c.args.ranks.now) (view.code c.args.code.now) (held insn insns _ _ c.names_fit.ensures (search rules)) (held insn insns _ _ c.names_fit-2.ensures (search rules))
    (λ h. let t : c.names_fit-3.result ≡ true = told insn insns _ _ c.names_fit-3.ensures h in search rules))

pub returns-then-not-offsets_fit-clause-err : goal.returns-then-not-offsets_fit-clause-err
returns-then-not-offsets_fit-clause-err c = λ ne.
    let insns = c.args.code.now.insns.now in
    rw c.at-then-not-offsets_fit.ensures (unfit85 (NameRanks c.args.ranks.now) (view.code c.args.code.now) (held insn insns _ _ c.names_fit.ensures (search rules)) (held insn insns _ _ c.names_fit-2.ensures (search rules)) (held insn insns _ _ c.names_fit-3.ensures (search rules))
    (λ h. let t : c.offsets_fit.result ≡ true = told insn insns _ _ (rw (c.deref.ensures.value ∙ c.in_ok-all.ensures.ok) at c.offsets_fit.ensures) h in search rules))

pub returns-then-not-are_even-clause-err : goal.returns-then-not-are_even-clause-err
returns-then-not-are_even-clause-err c = λ ne.
    let insns = c.args.code.now.insns.now in
    rw c.at-then-not-are_even.ensures (unfit86 (NameRanks c.args.ranks.now) (view.code c.args.code.now) (held insn insns _ _ c.names_fit.ensures (search rules)) (held insn insns _ _ c.names_fit-2.ensures (search rules)) (held insn insns _ _ c.names_fit-3.ensures (search rules)) (held insn insns _ _ (rw (c.deref.ensures.value ∙ c.in_ok-all.ensures.ok) at c.offsets_fit.ensures) (search rules))
    (λ h. let t : c.are_even.result ≡ true = told insn insns _ _ (rw (c.deref-3.ensures.value ∙ c.in_ok-all.ensures.ok) at c.are_even.ensures) h in search rules))

pub check_tries-requires-clause-strings : goal.check_tries-requires-clause-strings
check_tries-requires-clause-strings c = held insn c.args.code.now.insns.now _ _ c.names_fit.ensures (search rules)

pub check_tries-requires-clause-fields : goal.check_tries-requires-clause-fields
check_tries-requires-clause-fields c = held insn c.args.code.now.insns.now _ _ c.names_fit-2.ensures (search rules)

pub check_tries-requires-clause-methods : goal.check_tries-requires-clause-methods
check_tries-requires-clause-methods c = held insn c.args.code.now.insns.now _ _ c.names_fit-3.ensures (search rules)

pub check_tries-requires-clause-offsets : goal.check_tries-requires-clause-offsets
check_tries-requires-clause-offsets c = held insn c.args.code.now.insns.now _ _ (rw (c.deref.ensures.value ∙ c.in_ok-all.ensures.ok) at c.offsets_fit.ensures) (search rules)

pub check_tries-requires-clause-even : goal.check_tries-requires-clause-even
check_tries-requires-clause-even c = held insn c.args.code.now.insns.now _ _ (rw (c.deref-3.ensures.value ∙ c.in_ok-all.ensures.ok) at c.are_even.ensures) (search rules)
