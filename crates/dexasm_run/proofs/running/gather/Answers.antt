use Rattle.std.proofs.Common.{rules, ◌≡◌, subst, sym, ◌∙◌}
use Rattle.std.specs.Io.KnownBytes.{Consumes}
use Rattle.dexasm_run.proofs.Moves.{Consumes-end, is_end}
use Rattle.dexasm_run.proofs.running.gather.Goals as goal
use Rattle.std.proofs.KnownBytes.{Consumes-trans}

pub returns-then-n-eq0 : goal.returns-then-n-eq0
returns-then-n-eq0 g c =
    let read = c.in-Ok.ensures in
    record {
      given = (record { gave = Consumes-end _ _ _ _ _ _ c.if-n-eq0.true c.loop-n.invariant.gave read.bytes.0; end = read.bytes.1 c.if-n-eq0.true (search rules) }, read.ended ∙ is_end _ _ _ c.if-n-eq0.true (search rules));
      blames = tt;
    }

pub loop-n-preserved : goal.loop-n-preserved
loop-n-preserved g c =
    let all : c.extend_from_slice.new.self.items ≡ _ = search rules in
    record {
      gave = subst (Consumes _ _) (sym all) (Consumes-trans _ _ _ _ _ c.loop-n.invariant.gave c.in-Ok.ensures.bytes.0);
      blames = λ later said. c.loop-n.invariant.blames later (c.in-Ok.ensures.passes later said);
    }
