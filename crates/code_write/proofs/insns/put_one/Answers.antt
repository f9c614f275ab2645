use Rattle.std.proofs.Common.{sym, subst, rules}
use mir.Val.{SFits}
use mir.Syntax.{w32}
use Rattle.std.proofs.lemmas.Int.{to_z-of_z}
use Rattle.std.proofs.lemmas.Result.{on_ok_weaker}
use Rattle.std.specs.Prelude.{OnOk}
use Rattle.program_types.specs.Content as content
use Rattle.program_types.specs.View.{insn}
use Rattle.program_types.specs.declared.insn.Insn.{Insn}
use Rattle.tables_names.specs.Closure.{NameRanks}
use Rattle.code_write.specs.inner.Writing.{PutInsn, PutPayload}
use Rattle.code_write.proofs.insns.put_one.Goals as goal

pub returns-in-Packed-clause-ok : goal.returns-in-Packed-clause-ok
returns-in-Packed-clause-ok c =
    let fits : SFits w32 c.in-Packed.first = search rules in
    let p : OnOk c.put_packed.result (PutPayload c.args.starts.now c.args.at (content.Packed c.in-Packed.first c.in-Packed.targets.now) c.args.out.now.items c.put_packed.new.out.items) = simp to_z-of_z at c.put_packed.ensures.ok in
    on_ok_weaker c.put_packed.result
    (λ q. subst (λ (i : Insn). PutInsn (NameRanks c.args.ranks.now) c.args.starts.now c.args.at (insn i) c.args.out.now.items c.put_packed.new.out.items) (sym c.in-Packed.is) (q c.args.ranks.now)) p
