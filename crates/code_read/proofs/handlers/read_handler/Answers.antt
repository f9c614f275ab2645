use Rattle.std.proofs.Common.{◌≡◌, ◌<ℤ◌, pos, ℕ, map, arith, subst, rules}
use Rattle.std.proofs.lemmas.Int.{ints, to_z-of_z}
use mir.Val.{SFits}
use mir.Syntax.{w32}
use Rattle.program_types.specs.View.{catch}
use Rattle.tables_rows.specs.Names.{NameIsAt}
use Rattle.dex_base.specs.Grammar.{Takes, NoneBegins, Many}
use Rattle.code_read.specs.Handlers.{catches_of}
use Rattle.code_read.specs.inner.Handlers.{SpellsCatch}
use Rattle.code_read.proofs.StandLaws.{NameIsAt-functional}
use Rattle.code_read.proofs.HandlerReading.{handler-none-number, handler-none-catches, handler-none-all, handler-takes, all-none, all-some, has-all, lacks-all}
use Rattle.code_read.proofs.handlers.read_handler.Goals as goal
use Rattle.dex_base.proofs.ListFacts.{passed}

pub returns-in_default-clause-err : goal.returns-in_default-clause-err
returns-in_default-clause-err c = λ other. handler-none-number (NameIsAt c.args.tables.now) c.args.starts.now c.args.bytes.now c.in_default.ensures.none

pub returns-in_err-catches-clause-err : goal.returns-in_err-catches-clause-err
returns-in_err-catches-clause-err c =
    let fits : SFits w32 c.in-Some.n = search rules in
    let count : c.unsigned_abs.result ≡ catches_of c.in-Some.n = simp to_z-of_z at c.unsigned_abs.ensures.value in
    passed _ _ _ c.from_residual.ensures.1 (λ other. handler-none-catches (NameIsAt c.args.tables.now) c.args.starts.now c.in-Some.n c.args.bytes.now c.in-Some.pairs.now c.in-Some.ensures.some
    (subst (λ (k : ℕ). NoneBegins (Many (SpellsCatch (NameIsAt c.args.tables.now) c.args.starts.now) k) c.in-Some.pairs.now) count (c.in_err-catches.ensures.err other)))

pub returns-then-n-gt0-clause-ok : goal.returns-then-n-gt0-clause-ok
returns-then-n-gt0-clause-ok c =
    let fits : SFits w32 c.in-Some.n = search rules in
    let count : c.unsigned_abs.result ≡ catches_of c.in-Some.n = simp to_z-of_z at c.unsigned_abs.ensures.value in
    let N = NameIsAt c.args.tables.now in let ss = c.args.starts.now in
    let above : pos 0 <ℤ c.in-Some.n = omega (arith, ints, c.if-n-gt0.true) in
    let cs = map catch c.in_ok-catches.catches.now in
    handler-takes N ss c.in-Some.n c.args.bytes.now c.in-Some.pairs.now c.in_ok-catches.rest.now c.in_ok-catches.rest.now _ c.in-Some.ensures.some
    (subst (λ (k : ℕ). Takes (Many (SpellsCatch N ss) k) c.in-Some.pairs.now cs c.in_ok-catches.rest.now) count c.in_ok-catches.ensures.ok)
    (all-none N ss c.in-Some.n c.in_ok-catches.rest.now (lacks-all c.in-Some.n above))

pub returns-in_default-read_address-clause-err : goal.returns-in_default-read_address-clause-err
returns-in_default-read_address-clause-err c = λ other.
    let fits : SFits w32 c.in-Some.n = search rules in
    let count : c.unsigned_abs.result ≡ catches_of c.in-Some.n = simp to_z-of_z at c.unsigned_abs.ensures.value in
    let N = NameIsAt c.args.tables.now in let ss = c.args.starts.now in
    let cs = map catch c.in_ok-catches.catches.now in
    handler-none-all N ss (NameIsAt-functional c.args.tables.now) c.in-Some.n c.args.bytes.now c.in-Some.pairs.now c.in_ok-catches.rest.now cs c.in-Some.ensures.some
    (subst (λ (k : ℕ). Takes (Many (SpellsCatch N ss) k) c.in-Some.pairs.now cs c.in_ok-catches.rest.now) count c.in_ok-catches.ensures.ok)
    (has-all c.in-Some.n (λ h. omega (arith, ints, c.if-n-gt0.false))) c.in_default-read_address.ensures.none

pub returns-clause-ok : goal.returns-clause-ok
returns-clause-ok c =
    let fits : SFits w32 c.in-Some.n = search rules in
    let count : c.unsigned_abs.result ≡ catches_of c.in-Some.n = simp to_z-of_z at c.unsigned_abs.ensures.value in
    let N = NameIsAt c.args.tables.now in let ss = c.args.starts.now in
    let cs = map catch c.in_ok-catches.catches.now in
    handler-takes N ss c.in-Some.n c.args.bytes.now c.in-Some.pairs.now c.in_ok-catches.rest.now c.in-Some-read_address.after.now _ c.in-Some.ensures.some
    (subst (λ (k : ℕ). Takes (Many (SpellsCatch N ss) k) c.in-Some.pairs.now cs c.in_ok-catches.rest.now) count c.in_ok-catches.ensures.ok)
    (all-some N ss c.in-Some.n c.in_ok-catches.rest.now c.in-Some-read_address.after.now c.in-Some-read_address.at (has-all c.in-Some.n (λ h. omega (arith, ints, c.if-n-gt0.false))) c.in-Some-read_address.ensures.some)
