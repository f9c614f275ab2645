use Rattle.std.proofs.Common.{rules}
use Rattle.program_rules.proofs.WalkLaws.{code-parts, code-whole}
use Rattle.program_rules.proofs.bodies.code_is_valid.Goals as goal

pub returns-then-not-are_named : goal.returns-then-not-are_named
returns-then-not-are_named c = (
  λ t. absurd cc,
  λ h. let x = c.are_named.ensures.1 (code-parts c.args.one.now h).0 in search rules,
)

pub returns : goal.returns
returns c = (
  λ t. code-whole c.args.one.now (c.are_named.ensures.0 (search rules)) (c.tries_are_valid.ensures.0 t),
  λ h. c.tries_are_valid.ensures.1 (code-parts c.args.one.now h).1,
)
