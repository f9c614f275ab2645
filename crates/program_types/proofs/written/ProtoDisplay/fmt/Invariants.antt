use Rattle.std.proofs.Common.{take, map}
use Rattle.std.specs.List.{flat_map}
use Rattle.std.specs.Fmt.{HasWritten, IsPlainFormatter}
use Rattle.program_types.specs.View.{desc}
use Rattle.program_types.specs.Written.{name_text}
use Rattle.program_types.proofs.written.ProtoDisplay.fmt.Given as goal

abbrev pub invariant-loop-param : goal.invariant-loop-param
invariant-loop-param g l =
    IsPlainFormatter l.initial.f → HasWritten g.W.Write.write_str_gives l.initial.f (name_text (flat_map (λ t. t) (map desc (take l.param-index l.param-items)))) l.f
