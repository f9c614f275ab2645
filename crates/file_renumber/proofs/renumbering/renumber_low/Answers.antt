use Rattle.std.proofs.Common.{ℕ, ◌%◌, ◌≤◌, length, ap, sym, subst, ◌∙◌, arith}
use Rattle.std.proofs.lemmas.Result.{on_ok_weaker}
use Rattle.dex_base.specs.Grammar.{Appends}
use Rattle.dex_base.specs.Leb128.{Shortest}
use Rattle.program_types.specs.Content.{Value}
use Rattle.program_types.specs.View.{value}
use Rattle.tables_names.specs.Closure.{NameRanks}
use Rattle.dex_value.specs.Faults.{widest_of}
use Rattle.dex_value.specs.Reading.{number_code, sized_code, table_of_type, IsNumber}
use Rattle.dex_value.specs.Spelling.{unsigned_of, SpellsValue}
use Rattle.dex_value.specs.Writing.{UnsignedAs}
use Rattle.file_renumber.proofs.CarryLemmas.{number_plain, number_is, carried_name, number_at, index_within}
use Rattle.file_renumber.proofs.NameLemmas.{named_four}
use Rattle.file_renumber.proofs.renumbering.renumber_low.Goals as goal

pub number-one-requires-clause-few : goal.number-one-requires-clause-few
number-one-requires-clause-few c = subst (λ (k : ℕ). length c.args.low.now ≤ widest_of k) (sym (sym (ap sized_code c.in-Number.is) ∙ c.in-Some.ensures.some)) c.requires.low.few

pub number-one-requires-clause-some : goal.number-one-requires-clause-some
number-one-requires-clause-some c = c.requires.low.some

pub put_plain-requires : goal.put_plain-requires
put_plain-requires c = number_plain (number_code c.in-Number.ty) c.args.low.now (value c.number-one.result) c.number-one.ensures

pub returns-in-Number-clause-ok : goal.returns-in-Number-clause-ok
returns-in-Number-clause-ok c =
    let low = c.args.low.now in
    let one = value c.number-one.result in
    let is : IsNumber _ low one = subst (λ (k : ℕ). IsNumber k low one) (sym (ap sized_code c.in-Number.is) ∙ c.in-Some.ensures.some) c.number-one.ensures in
    on_ok_weaker c.put_plain.result
    (λ f x. subst (λ (w : Value). Appends (Shortest (SpellsValue (NameRanks x.names))) c.args.out.now.items c.put_plain.new.out.items w) (number_is x.file _ low x.value one x.low is) (f x.names))
    c.put_plain.ensures.ok

pub unsigned-index-requires-clause-some : goal.unsigned-index-requires-clause-some
unsigned-index-requires-clause-some c = c.requires.low.some

pub unsigned-index-requires-clause-few : goal.unsigned-index-requires-clause-few
unsigned-index-requires-clause-few c =
    let four = named_four c.in-Name.ty in
    let is = ap widest_of (sym (ap sized_code c.in-Name.is) ∙ c.in-Some.ensures.some) in
    let few = c.requires.low.few in
    omega (arith, four, is, few)

pub overflow_cast-index : goal.overflow_cast-index
overflow_cast-index c =
    let four = named_four c.in-Name.ty in
    let is = ap widest_of (sym (ap sized_code c.in-Name.is) ∙ c.in-Some.ensures.some) in
    let few = c.requires.low.few in
    let fits = c.unsigned-index.ensures.index (omega (arith, four, is, few)) in
    omega (arith, fits)

pub of-row-requires : goal.of-row-requires
of-row-requires c =
    let ty = c.in-Name.ty in
    let x = c.requires in
    let n = carried_name x.file c.args.numbers.now x.names ty _ c.args.low.now (sym (ap sized_code c.in-Name.is) ∙ c.in-Some.ensures.some) x.value x.low x.rise x.carried in
    index_within c.args.numbers.now (table_of_type ty) c.name_kind.result (unsigned_of c.args.low.now) c.unsigned-index.result n.number c.name_kind.ensures c.unsigned-index.ensures.value n.at

pub returns-in-Name-clause-ok : goal.returns-in-Name-clause-ok
returns-in-Name-clause-ok c =
    let ty = c.in-Name.ty in
    let low = c.args.low.now in
    let old = c.args.out.now.items in
    let new = c.put_unsigned.new.out.items in
    on_ok_weaker c.put_unsigned.result
    (λ a x.
    let n = carried_name x.file c.args.numbers.now x.names ty _ low (sym (ap sized_code c.in-Name.is) ∙ c.in-Some.ensures.some) x.value x.low x.rise x.carried in
    n.appends old new
    (subst (λ (m : ℕ). Appends (Shortest (UnsignedAs (c.args.head % 32) 4)) old new m)
    (c.from.ensures ∙ number_at c.args.numbers.now (table_of_type ty) c.name_kind.result (unsigned_of low) c.unsigned-index.result n.number c.of-row.result c.name_kind.ensures c.unsigned-index.ensures.value c.of-row.ensures n.at) a))
    c.put_unsigned.ensures.ok

pub unreachable-requires : goal.unreachable-requires
unreachable-requires c =
    let none = c.in_default.ensures.none in
    let some = c.requires.low.some in
    let few = c.requires.low.few in
    omega (arith, none, some, few)
