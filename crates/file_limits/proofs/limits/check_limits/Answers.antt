use Rattle.std.proofs.Common.{◌<◌, length, ap, arith, subst, Option, rules}
use Rattle.std.proofs.lemmas.List.{length-map}
use Rattle.dex_base.specs.declared.fault.Fault.{Fault}
use Rattle.file_limits.proofs.LimitLaws.{big_lowest, protos_lowest, small_lowest, small_of, types_lowest}
use Rattle.file_limits.specs.inner.Lowest.{IsLowestOf}
use Rattle.file_limits.specs.Wide.{wide_of}
use Rattle.tables_names.specs.Closure.{Five, NameRanks}
use Rattle.tables_names.specs.Keys.{key_of_desc, key_of_proto}
use Rattle.tables_names.specs.Needed.{needed}
use Rattle.program_types.specs.View as view
use Rattle.file_limits.proofs.limits.check_limits.Goals as goal

pub returns-then-types-gt65535-clause-err : goal.returns-then-types-gt65535-clause-err
returns-then-types-gt65535-clause-err c = λ ne.
    let m1 = length-map c.types-types.result.now key_of_desc in
    let e1 = ap length c.types-types.ensures in
    let n1 = ap (λ (s : Five). length s.types) c.requires.needed in
    rw c.at.ensures (types_lowest (view.program c.args.program.now) (length c.types-types.result.now) (omega (arith, m1, e1, n1)) (search rules))

pub returns-then-protos-gt65535-clause-err : goal.returns-then-protos-gt65535-clause-err
returns-then-protos-gt65535-clause-err c = λ ne.
    let n = c.requires.needed in
    let m1 = length-map c.types-types.result.now key_of_desc in
    let m2 = length-map c.protos-protos.result.now key_of_proto in
    let e1 = ap length c.types-types.ensures in
    let e2 = ap length c.protos-protos.ensures in
    let n1 = ap (λ (s : Five). length s.types) n in
    let n2 = ap (λ (s : Five). length s.protos) n in
    rw c.at-then-protos-gt65535.ensures (protos_lowest (view.program c.args.program.now) (length c.protos-protos.result.now) (omega (arith, m2, e2, n2)) (omega (arith, m1, e1, n1)) (search rules))

pub returns-then-is_too_big-clause-err : goal.returns-then-is_too_big-clause-err
returns-then-is_too_big-clause-err c = λ ne.
    let p = view.program c.args.program.now in
    let n = c.requires.needed in
    let m1 = length-map c.types-types.result.now key_of_desc in
    let m2 = length-map c.protos-protos.result.now key_of_proto in
    let e1 = ap length c.types-types.ensures in
    let e2 = ap length c.protos-protos.ensures in
    let n1 = ap (λ (s : Five). length s.types) n in
    let n2 = ap (λ (s : Five). length s.protos) n in
    let x = subst (λ (s : Five). IsLowestOf (NameRanks s) p c.in_ok-broken.broken) n c.in_ok-broken.ensures.ok in
    let w = ap (λ (s : Five). wide_of s p) n in
    let big : 4294967295 < wide_of c.args.ranks.now p = c.is_too_big.ensures.0 (search rules) in
    big_lowest p (omega (arith, m1, e1, n1)) (omega (arith, m2, e2, n2)) c.in_ok-broken.broken c.too_big_or.result c.too_big_or.ensures x (omega (arith, w, big))

pub returns-in-Some-clause-err : goal.returns-in-Some-clause-err
returns-in-Some-clause-err c = λ ne.
    let p = view.program c.args.program.now in
    let n = c.requires.needed in
    let m1 = length-map c.types-types.result.now key_of_desc in
    let m2 = length-map c.protos-protos.result.now key_of_proto in
    let e1 = ap length c.types-types.ensures in
    let e2 = ap length c.protos-protos.ensures in
    let n1 = ap (λ (s : Five). length s.types) n in
    let n2 = ap (λ (s : Five). length s.protos) n in
    let x = subst (λ (s : Five). IsLowestOf (NameRanks s) p c.in_ok-broken.broken) n c.in_ok-broken.ensures.ok in
    let y = subst (λ (b : Option Fault). IsLowestOf (NameRanks (needed p)) p b) c.in-Some.is x in
    let w = ap (λ (s : Five). wide_of s p) n in
    let small = small_of c.is_too_big.result (wide_of c.args.ranks.now p) c.if-is_too_big.false c.is_too_big.ensures.1 in
    small_lowest p (omega (arith, m1, e1, n1)) (omega (arith, m2, e2, n2)) c.in-Some.limit y (omega (arith, w, small))
