-- Bodies that keep the rules, and whose numbers are in range, are well formed.
use Rattle.std.proofs.Common.{List, [], ◌∷◌, Option, None, Some}
use Rattle.std.specs.Prelude.{IfSome}
use Rattle.std.specs.List.{AllByRecursion}
use Rattle.code_rules.proofs.OperandLaws.{operands_of}
use Rattle.code_rules.specs.CodeRules.{OperandsHold, TargetsHold, PayloadsHold, TriesHold}
use Rattle.program_types.specs.Content.{Code, Method, Class}
use Rattle.program_types.specs.Formed.{IsFormed, RegistersHold}
use Rattle.program_rules.specs.Ranges.{CodeInRange, DefinedInRange, ClassInRange}
use Rattle.program_rules.specs.Rules.{CodesHold}

formed_of : (c : Code) → OperandsHold c → TargetsHold c → PayloadsHold c → TriesHold c → RegistersHold c → CodeInRange c → IsFormed c
formed_of c o t p r g n = record {
  some = o.some;
  few = o.few;
  operands = operands_of c o t p;
  targets = t;
  payloads = p;
  tries = r;
  registers = n.registers;
  ins = n.ins;
  outs = n.outs;
  named = g;
}

body_formed : (o : Option Code) → IfSome o OperandsHold → IfSome o TargetsHold → IfSome o PayloadsHold → IfSome o TriesHold → IfSome o RegistersHold → IfSome o CodeInRange → IfSome o IsFormed
body_formed None a b c d g e = tt
body_formed (Some code) a b c d g e = formed_of code a b c d g e

-- all bodies of methods
abbrev Bodies : (Code → Type 0) → List Method → Type 0
Bodies P ms = AllByRecursion (λ (m : Method). IfSome m.code P) ms

methods_formed : (ms : List Method) → Bodies OperandsHold ms → Bodies TargetsHold ms → Bodies PayloadsHold ms → Bodies TriesHold ms → Bodies RegistersHold ms → AllByRecursion DefinedInRange ms → Bodies IsFormed ms
methods_formed [] a b c d g e = tt
methods_formed (m ∷ ms) a b c d g e = (body_formed m.code a.0 b.0 c.0 d.0 g.0 e.0.code, methods_formed ms a.1 b.1 c.1 d.1 g.1 e.1)

pub class_formed : (c : Class) → CodesHold OperandsHold c → CodesHold TargetsHold c → CodesHold PayloadsHold c → CodesHold TriesHold c → CodesHold RegistersHold c → ClassInRange c → CodesHold IsFormed c
class_formed c o t p h g r = record {
  directs = methods_formed c.directs o.directs t.directs p.directs h.directs g.directs r.directs;
  virtuals = methods_formed c.virtuals o.virtuals t.virtuals p.virtuals h.virtuals g.virtuals r.virtuals;
}
