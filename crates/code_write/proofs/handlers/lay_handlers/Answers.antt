use Rattle.std.proofs.Common.{◌≡◌, ◌<◌, ◌∙◌, ℕ, map, length, arith, sym, subst, rules}
use Rattle.std.proofs.lemmas.List.{length-map}
use Rattle.std.proofs.lemmas.Result.{IfOk-weaker}
use Rattle.program_types.specs.View.{try}
use Rattle.tables_names.specs.Closure.{NameRanks}
use Rattle.code_write.specs.inner.Writing.{IsDistinct, IsDistinctOf}
use Rattle.code_write.proofs.ListedLaws.{seen}
use Rattle.code_write.proofs.LaidLaws.{laid-none}
use Rattle.code_write.proofs.handlers.lay_handlers.Goals as goal

pub returns-then-is_empty-clause-ok : goal.returns-then-is_empty-clause-ok
returns-then-is_empty-clause-ok c =
    let m = length-map c.args.tries.now try in
    let e : length c.args.tries.now ≡ 0 = search rules in
    laid-none (NameRanks c.args.ranks.now) c.args.starts.now (map try c.args.tries.now) _ _ (m ∙ e) c.new.ensures.items c.new-then-is_empty.ensures.items

pub lay_distinct-requires : goal.lay_distinct-requires
lay_distinct-requires c =
    let m = length-map c.args.tries.now try in
    let pos : 0 < length c.args.tries.now = search rules in
    let few = c.requires.few in
    let short = c.requires.short in (
      c.args.ranks.now,
      c.args.starts.now,
      map try c.args.tries.now,
      record {
        some = omega (arith, m, pos);
        few = omega (arith, m, few);
        short = omega (arith, m, short);
        distinct = subst (λ (n : ℕ). IsDistinct (NameRanks c.args.ranks.now) c.args.starts.now (map try c.args.tries.now) n (seen c.in_ok-distinct.distinct.handlers.keys) c.in_ok-distinct.distinct.numbers.items) (sym m) c.in_ok-distinct.ensures.ok;
      },
    )

pub returns-clause-ok : goal.returns-clause-ok
returns-clause-ok c =
    let m = length-map c.args.tries.now try in
    let pos : 0 < length c.args.tries.now = search rules in
    let few = c.requires.few in
    let short = c.requires.short in
    let d : IsDistinctOf (NameRanks c.args.ranks.now) c.args.starts.now (map try c.args.tries.now) (seen c.in_ok-distinct.distinct.handlers.keys) c.in_ok-distinct.distinct.numbers.items = record {
      some = omega (arith, m, pos);
      few = omega (arith, m, few);
      short = omega (arith, m, short);
      distinct = subst (λ (n : ℕ). IsDistinct (NameRanks c.args.ranks.now) c.args.starts.now (map try c.args.tries.now) n (seen c.in_ok-distinct.distinct.handlers.keys) c.in_ok-distinct.distinct.numbers.items) (sym m) c.in_ok-distinct.ensures.ok;
    } in
    IfOk-weaker c.lay_distinct.result _ _ (λ l f. f c.args.ranks.now c.args.starts.now (map try c.args.tries.now) d) c.lay_distinct.ensures.ok
