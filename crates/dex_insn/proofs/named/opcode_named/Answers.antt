use Rattle.std.proofs.Common.{◌≡◌, ap, ◌∙◌, rules}
use Rattle.dex_insn.specs.Mnemonics.{mnemonic_of}
use Rattle.dex_insn.proofs.Mnemonics.{named_slot}
use Rattle.dex_insn.proofs.named.opcode_named.Goals as goal

pub returns-else-eq-clause-none : goal.returns-else-eq-clause-none
returns-else-eq-clause-none c = λ op h.
    let f : mnemonic_of c.candidate-op.result ≡ c.args.mnemonic.now =
    ap mnemonic_of (c.candidate-op.ensures ∙ named_slot op c.args.mnemonic.now h) ∙ h.is in
    let g = c.mnemonic_of.ensures in let v = c.as_bytes.ensures.value in let q = c.eq.ensures in let w = c.if-eq.false in
    search rules
