use Rattle.std.proofs.Common.{rules, arith, ap, length, get_or, ◌∙◌, List, ℕ, refl}
use Rattle.listing_words.proofs.NameLaws.{member_rest, member_none, member_found}
use Rattle.listing_words.proofs.names.split_member.Goals as goal

pub returns-then-after-lt2-clause-none : goal.returns-then-after-lt2-clause-none
returns-then-after-lt2-clause-none c class name tail m =
    let x = member_rest c.args.stop c.requires c.args.units.now c.split_at.result.1.now c.in_ok-n.n c.in_ok-n.ensures.found c.split_at.ensures.back class name tail m in
    let e = ap length x.1 in omega (arith, c.if-after-lt2.true)

pub returns-then-after-ne-HYPHEN-clause-none : goal.returns-then-after-ne-HYPHEN-clause-none
returns-then-after-ne-HYPHEN-clause-none c class name tail m =
    let x = member_rest c.args.stop c.requires c.args.units.now c.split_at.result.1.now c.in_ok-n.n c.in_ok-n.ensures.found c.split_at.ensures.back class name tail m in
    c.if-after-ne-HYPHEN.true (ap (λ (l : List ℕ). get_or l 0 0) x.1)

pub returns-then-after-ne-GREATER-clause-none : goal.returns-then-after-ne-GREATER-clause-none
returns-then-after-ne-GREATER-clause-none c class name tail m =
    let x = member_rest c.args.stop c.requires c.args.units.now c.split_at.result.1.now c.in_ok-n.n c.in_ok-n.ensures.found c.split_at.ensures.back class name tail m in
    c.if-after-ne-GREATER.true (ap (λ (l : List ℕ). get_or l 1 0) x.1)

pub returns-in_default-clause-none : goal.returns-in_default-clause-none
returns-in_default-clause-none c =
    member_none c.args.stop c.requires c.args.units.now c.split_at.result.1.now c.split_at-2.result.1.now c.in_ok-n.n c.in_ok-n.ensures.found c.split_at.ensures.back c.split_at-2.ensures.back
    (λ name tail e f m. let k = ap length (c.split_stop.ensures.back ∙ f) in omega (arith, c.in_default.ensures.cases))

pub returns-then-not-is_member_name-clause-none : goal.returns-then-not-is_member_name-clause-none
returns-then-not-is_member_name-clause-none c =
    member_none c.args.stop c.requires c.args.units.now c.split_at.result.1.now c.split_at-2.result.1.now c.in_ok-n.n c.in_ok-n.ensures.found c.split_at.ensures.back c.split_at-2.ensures.back
    (λ name tail e f m. let k = c.is_member_name.ensures.1 (rw (c.split_stop.ensures.front ∙ e) m) in let l = c.if-not-is_member_name.true in absurd cc)

pub returns-clause-found : goal.returns-clause-found
returns-clause-found c =
    member_found c.args.stop c.args.units.now c.split_at.result.0.now c.split_at.result.1.now c.split_at-2.result.1.now c.split_stop.result.0.now c.split_stop.result.1.now c.in-Some.tail.now c.in_ok-n.n _
    c.in_ok-n.ensures.found c.split_at.ensures.front c.split_at.ensures.back c.if-after-lt2.false (search rules) (search rules) c.split_at-2.ensures.back c.split_stop.ensures.front c.split_stop.ensures.back c.in-Some.ensures.cases.0
    (c.if-not-is_member_name.ensures.0 refl)
