use Rattle.std.proofs.Common.{◌≡◌, ◌<◌, ◌≤◌, ◌∙◌, true, ℕ, List, map, length, get_or, arith, sym, subst, rules}
use Rattle.std.proofs.lemmas.List.{length-map}
use Rattle.program_types.specs.View as view
use Rattle.program_types.specs.View.{insn, try}
use Rattle.tables_names.specs.Closure.{NameRanks}
use Rattle.code_write.specs.Fits.{HandlersAreNear, SomeHandlerIsFar}
use Rattle.code_write.proofs.FormLaws.{good}
use Rattle.code_write.proofs.BreakLaws.{unfit87, unfit88, unfit89}
use Rattle.code_write.proofs.FitLaws.{held, told, tries-there, addresses-small}
use Rattle.code_write.proofs.fitting.check_tries.Goals as goal

pub tries_fit-requires-clause-low : goal.tries_fit-requires-clause-low
tries_fit-requires-clause-low c =
    subst (λ (ss : List ℕ). (k : ℕ) → k < length ss → get_or ss k 0 ≤ 9223372036854775808) (sym (c.deref.ensures.value ∙ c.requires.starts))
    (addresses-small (map insn c.args.code.now.insns.now) c.requires.formed.few c.requires.formed.operands)

pub tries_fit-requires-clause-formed : goal.tries_fit-requires-clause-formed
tries_fit-requires-clause-formed c = tries-there c.args.code.now.insns.now c.args.code.now.tries.now c.deref.result.now (c.deref.ensures.value ∙ c.requires.starts) c.requires.formed.tries

pub invariant_of-starts : goal.invariant_of-starts
invariant_of-starts c =
    let e = c.requires.end in
    let w = c.is_short.ensures.0 (search rules) in
    let g = good c.args.code.now.insns.now c.deref-2.result.now (c.deref-2.ensures.value ∙ c.requires.starts) (omega arith) in (g.rises, g.low)

pub handlers_fit-requires-clause-formed : goal.handlers_fit-requires-clause-formed
handlers_fit-requires-clause-formed c = tries-there c.args.code.now.insns.now c.args.code.now.tries.now c.deref-2.result.now (c.deref-2.ensures.value ∙ c.requires.starts) c.requires.formed.tries

pub handlers_fit-requires-clause-ranked : goal.handlers_fit-requires-clause-ranked
handlers_fit-requires-clause-ranked c = c.requires.caught

pub returns-then-not-tries_fit-clause-err : goal.returns-then-not-tries_fit-clause-err
returns-then-not-tries_fit-clause-err c = λ ne.
    rw c.at.ensures (unfit87 (NameRanks c.args.ranks.now) (view.code c.args.code.now) c.requires.strings c.requires.fields c.requires.methods c.requires.offsets c.requires.even
    (λ h. let t : c.tries_fit.result ≡ true = told try c.args.code.now.tries.now _ _ (rw (c.deref.ensures.value ∙ c.requires.starts) at c.tries_fit.ensures) h in search rules))

pub returns-then-code-gt65535-clause-err : goal.returns-then-code-gt65535-clause-err
returns-then-code-gt65535-clause-err c = λ ne.
    let m = length-map c.args.code.now.tries.now try in
    let tries = held try c.args.code.now.tries.now _ _ (rw (c.deref.ensures.value ∙ c.requires.starts) at c.tries_fit.ensures) (search rules) in
    let many : 65535 < length c.args.code.now.tries.now = search rules in
    rw c.at-then-code-gt65535.ensures (unfit88 (NameRanks c.args.ranks.now) (view.code c.args.code.now) c.requires.strings c.requires.fields c.requires.methods c.requires.offsets c.requires.even tries (omega (arith, many, m)))

pub returns-then-not-branch-clause-err : goal.returns-then-not-branch-clause-err
returns-then-not-branch-clause-err c = λ ne.
    let m = length-map c.args.code.now.tries.now try in
    let tries = held try c.args.code.now.tries.now _ _ (rw (c.deref.ensures.value ∙ c.requires.starts) at c.tries_fit.ensures) (search rules) in
    let few : length c.args.code.now.tries.now ≤ 65535 = search rules in
    let e = c.requires.end in
    let w = c.is_short.ensures.0 (search rules) in
    let same = c.deref-2.ensures.value ∙ c.requires.starts in
    rw c.at-then-not-branch.ensures (unfit89 (NameRanks c.args.ranks.now) (view.code c.args.code.now) c.requires.strings c.requires.fields c.requires.methods c.requires.offsets c.requires.even tries (omega arith) (omega arith)
    (subst (λ (ss : List ℕ). SomeHandlerIsFar (NameRanks c.args.ranks.now) ss (map try c.args.code.now.tries.now)) same (c.in_ok-handlers_fit.ensures.far (search rules))))

pub returns-clause-ok : goal.returns-clause-ok
returns-clause-ok c =
    let m = length-map c.args.code.now.tries.now try in
    let few : length c.args.code.now.tries.now ≤ 65535 = search rules in
    let same = c.deref-2.ensures.value ∙ c.requires.starts in
    record {
      strings = c.requires.strings;
      fields = c.requires.fields;
      methods = c.requires.methods;
      offsets = c.requires.offsets;
      even = c.requires.even;
      tries = held try c.args.code.now.tries.now _ _ (rw (c.deref.ensures.value ∙ c.requires.starts) at c.tries_fit.ensures) (search rules);
      few = omega (arith, few, m);
      handlers = λ short. subst (λ (ss : List ℕ). HandlersAreNear (NameRanks c.args.ranks.now) ss (map try c.args.code.now.tries.now)) same (c.in_ok-handlers_fit.ensures.ok.0 (search rules));
    }
