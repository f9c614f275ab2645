use Rattle.std.proofs.Common.{◌≡◌, ◌+◌, ◌%◌, ℕ, take, drop, ap, sym, subst, ◌∙◌, arith}
use Rattle.program_types.specs.View.{value}
use Rattle.tables_rows.specs.Names.{NameIsAt}
use Rattle.dex_value.specs.Faults.{widest_of}
use Rattle.dex_value.specs.Reading.{sized_code, IsNumber}
use Rattle.dex_value.specs.inner.Reading.{ValueStands}
use Rattle.dex_value.proofs.Namings.{number_stands}
use Rattle.dex_value.proofs.Taking.{takes_sized}
use Rattle.dex_value.proofs.reading.read_sized.Goals as goal

pub returns-in-Number-clause-ok : goal.returns-in-Number-clause-ok
returns-in-Number-clause-ok c = λ limit.
    let w = c.from-width.ensures in
    let wide = c.if-width-widest.false in
    let least = c.if-rest-width.false in
    let widest : c.widest.result ≡ widest_of (c.args.head % 32) = c.widest.ensures ∙ ap widest_of c.in-Some.ensures.some in
    let type : sized_code c.in-Some.ty ≡ c.args.head % 32 = c.in-Some.ensures.some in
    let same = sym (ap sized_code c.in-Number.is) ∙ type in
    takes_sized (NameIsAt c.args.tables.now) limit c.args.head c.args.bytes.now c.args.rest.now c.split_at.result.0.now c.split_at.result.1.now (value c.number.result) c.requires.first
    (c.split_at.ensures.front ∙ ap (λ (n : ℕ). take (n + 1) c.args.rest.now) w)
    (c.split_at.ensures.back ∙ ap (λ (n : ℕ). drop (n + 1) c.args.rest.now) w)
    (omega (arith, w, least)) (λ i. (c.type_inv.rest i).fits)
    (omega (arith, w, wide, widest))
    (number_stands (NameIsAt c.args.tables.now) (c.args.head % 32) c.split_at.result.0.now (value c.number.result) (subst (λ (t : ℕ). IsNumber t c.split_at.result.0.now (value c.number.result)) same c.number.ensures))

pub returns-in-Some-named-clause-ok : goal.returns-in-Some-named-clause-ok
returns-in-Some-named-clause-ok c = λ limit.
    let w = c.from-width.ensures in
    let wide = c.if-width-widest.false in
    let least = c.if-rest-width.false in
    let widest : c.widest.result ≡ widest_of (c.args.head % 32) = c.widest.ensures ∙ ap widest_of c.in-Some.ensures.some in
    let type : sized_code c.in-Some.ty ≡ c.args.head % 32 = c.in-Some.ensures.some in
    let same = sym (ap sized_code c.in-Name.is) ∙ type in
    takes_sized (NameIsAt c.args.tables.now) limit c.args.head c.args.bytes.now c.args.rest.now c.split_at.result.0.now c.split_at.result.1.now (value c.in-Some-named.value) c.requires.first
    (c.split_at.ensures.front ∙ ap (λ (n : ℕ). take (n + 1) c.args.rest.now) w)
    (c.split_at.ensures.back ∙ ap (λ (n : ℕ). drop (n + 1) c.args.rest.now) w)
    (omega (arith, w, least)) (λ i. (c.type_inv.rest i).fits)
    (omega (arith, w, wide, widest))
    (subst (λ (t : ℕ). ValueStands (NameIsAt c.args.tables.now) t c.split_at.result.0.now (value c.in-Some-named.value)) same c.in-Some-named.ensures.some)
