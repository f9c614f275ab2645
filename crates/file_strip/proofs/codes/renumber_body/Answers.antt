use Rattle.std.proofs.Common.{arith, ap, ◌∙◌}
use Rattle.code_write.specs.Fits.{HandlerTooFar}
use Rattle.file_strip.proofs.BodyLaws.{body_item, body_far}
use Rattle.file_strip.proofs.codes.renumber_body.Goals as goal

pub returns-then-fault-eq-HANDLER_TOO_FAR-clause-far : goal.returns-then-fault-eq-HANDLER_TOO_FAR-clause-far
returns-then-fault-eq-HANDLER_TOO_FAR-clause-far c = λ ne. (
  c.at.ensures ∙ (λ i. record { code = 89; place = c.from.ensures i }),
  λ s v x.
      let far = c.in-Err.ensures.far (λ e. let n = ap (λ f. f.code) e in let t = c.if-fault-eq-HANDLER_TOO_FAR.true in omega (arith, n, t)) in
      body_far c.args.sections.now c.args.numbers.now s c.args.body.code v x (λ code y. HandlerTooFar y.short (far.1 s code y)),
)

pub returns-in-Ok-clause-ok : goal.returns-in-Ok-clause-ok
returns-in-Ok-clause-ok c = λ s v x.
    body_item c.args.sections.now c.args.numbers.now s c.args.body.code v c.in-Ok.bytes.items (rw c.deref.ensures.value at c.are_bytes.ensures.each) x (λ code y. c.in-Ok.ensures.ok s code y)
