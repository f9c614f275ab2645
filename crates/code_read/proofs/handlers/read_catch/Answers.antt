use Rattle.dex_base.proofs.OptionLaws.{IfNone-always}
use Rattle.program_types.specs.View.{desc}
use Rattle.tables_rows.specs.Names.{NameIsAt}
use Rattle.dex_base.proofs.GrammarLaws.{Then-none_first}
use Rattle.dex_base.proofs.Numbers.{spells_unique}
use Rattle.dex_base.proofs.Signed.{signed_unique}
use Rattle.code_read.specs.inner.Handlers.{SpellsCatchType, SpellsAddress}
use Rattle.dex_base.specs.Leb128.{Spells, SpellsSigned}
use Rattle.code_read.proofs.StandLaws.{NameIsAt-functional}
use Rattle.code_read.proofs.HandlerLaws.{type-unique}
use Rattle.code_read.proofs.HandlerReading.{catch-takes, catch-none}
use Rattle.dex_base.proofs.ViaLaws.{second-none}
use Rattle.code_read.proofs.handlers.read_catch.Goals as goal

pub returns-in_err-ty-clause-none : goal.returns-in_err-ty-clause-none
returns-in_err-ty-clause-none c =
    let N = NameIsAt c.args.tables.now in let ss = c.args.starts.now in
    IfNone-always _ (catch-none N ss c.args.bytes.now (Then-none_first (SpellsCatchType N ss) (λ _. SpellsAddress N ss) c.args.bytes.now c.in_err-ty.ensures.none))

pub returns-in_err-at-clause-none : goal.returns-in_err-at-clause-none
returns-in_err-at-clause-none c =
    let N = NameIsAt c.args.tables.now in let ss = c.args.starts.now in
    IfNone-always _ (catch-none N ss c.args.bytes.now
    (second-none (SpellsCatchType N ss) (λ _. SpellsAddress N ss) c.args.bytes.now c.in_ok-ty.mid.now (desc c.in_ok-ty.ty)
    (type-unique Spells SpellsSigned N ss spells_unique signed_unique (NameIsAt-functional c.args.tables.now)) c.in_ok-ty.ensures.some c.in_err-at.ensures.none))

pub returns-clause-some : goal.returns-clause-some
returns-clause-some c =
    catch-takes (NameIsAt c.args.tables.now) c.args.starts.now c.args.bytes.now c.in_ok-ty.mid.now c.in_ok-at.rest.now _ c.in_ok-ty.ensures.some c.in_ok-at.ensures.some
