use Rattle.std.proofs.Common.{ℤ, Option, Some, None, rules, subst, sym, SFits}
use Rattle.std.specs.Int.{w32}
use Rattle.std.proofs.lemmas.Int.{to_z-of_z}
use Rattle.code_read.specs.inner.Visiting.{AreMarked}
use Rattle.code_read.proofs.VisitLaws.{marks_begun, marks_targeted}
use Rattle.code_read.proofs.visiting.pass.Goals as goal
use Rattle.code_read.proofs.visiting.pass.Goals.{After-mark}

-- the marks after the instruction, if it is no branch
begun : (c : After-mark) → AreMarked c.args.at None c.args.marks.now c.mark.new.marks
begun c = subst (AreMarked c.args.at None c.args.marks.now) (sym c.mark.ensures) (marks_begun c.args.marks.now c.args.at c.requires)

pub returns-in_default : goal.returns-in_default
returns-in_default c =
    let seen = c.in_ok-visited.ensures in
    record {
      insn = seen.0;
      offset = c.in_ok-visited.visited.branch;
      stands = seen.1;
      visited = seen.2;
      marked = subst (λ (o : Option ℤ). AreMarked c.args.at o c.args.marks.now c.mark.new.marks) (sym c.in_default.is) (begun (goal.at.returns-in_default c).After-mark);
    }

pub returns-in_ok-unit : goal.returns-in_ok-unit
returns-in_ok-unit c =
    let seen = c.in_ok-visited.ensures in
    let unit = c.in_ok-unit.ensures in
    let fits : SFits w32 c.in-Some.offset = search rules in
    record {
      insn = seen.0;
      offset = c.in_ok-visited.visited.branch;
      stands = seen.1;
      visited = seen.2;
      marked = subst (λ (o : Option ℤ). AreMarked c.args.at o c.args.marks.now c.mark-in-Some.new.marks) (sym c.in-Some.is)
          (subst (AreMarked c.args.at (Some c.in-Some.offset) c.args.marks.now) (sym c.mark-in-Some.ensures) (marks_targeted c.args.marks.now c.mark.new.marks c.args.at c.in_ok-unit.unit c.in-Some.offset (begun (goal.at.returns-in_ok-unit c).After-mark) unit.1 (simp to_z-of_z at unit.0) unit.2));
    }
