use Rattle.std.proofs.Common.{map, refl, sym, true≢false, ◌∙◌}
use Rattle.program_types.specs.View.{desc}
use Rattle.tables_rows.proofs.NameLaws.{list_stands, stands_list}
use Rattle.file_classes.proofs.HeadLaws.{no_classes, not_distinct}
use Rattle.file_classes.proofs.interfaces.read_interfaces.Goals as goal

pub returns-in_default-clause-none : goal.returns-in_default-clause-none
returns-in_default-clause-none c =
    λ ts at. (rw c.in_default.is at c.in_ok-types.ensures.none) ts (stands_list _ _ c.args.off ts c.framed.ensures c.requires.names.types at.types)

pub returns-then-not-are_classes-clause-none : goal.returns-then-not-are_classes-clause-none
returns-then-not-are_classes-clause-none c =
    let here = list_stands _ _ c.args.off (map desc c.in-Some.types.now) c.requires.names.types (rw c.in-Some.is at c.in_ok-types.ensures.found) in
    no_classes c.args.sections.now c.framed.ensures c.args.off (map desc c.in-Some.types.now) here (λ all. true≢false (sym (c.if-not-are_classes.ensures.1 all)))

pub returns-then-not-branch-clause-none : goal.returns-then-not-branch-clause-none
returns-then-not-branch-clause-none c =
    let here = list_stands _ _ c.args.off (map desc c.in-Some.types.now) c.requires.names.types (rw c.in-Some.is at c.in_ok-types.ensures.found) in
    not_distinct c.args.sections.now c.framed.ensures c.args.off (map desc c.in-Some.types.now) here (λ all. true≢false (sym (c.in_ok-are_distinct.ensures.ok.1 all) ∙ c.if-not-branch.true))

pub returns-clause-found : goal.returns-clause-found
returns-clause-found c = record {
  types = list_stands _ _ c.args.off (map desc c.in-Some.types.now) c.requires.names.types (rw c.in-Some.is at c.in_ok-types.ensures.found);
  classes = c.if-not-are_classes.ensures.0 refl;
  distinct = c.in_ok-are_distinct.ensures.ok.0 c.if-not-branch.false;
}
