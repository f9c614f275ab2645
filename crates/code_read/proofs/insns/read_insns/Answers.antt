use Rattle.std.proofs.Common.{ℕ, List, length, map, subst, ◌∙◌, inr}
use Rattle.std.specs.Prelude.{IfNone, IfSome}
use Rattle.code_rules.specs.First.{AllHold}
use Rattle.code_read.specs.Registers.{AmongAt, IsPast}
use Rattle.code_read.specs.Walk.{starts}
use Rattle.dex_insn.specs.Raw.{raw}
use Rattle.dex_insn.specs.declared.raw.RawInsn.{RawInsn}
use Rattle.program_types.specs.View.{insn}
use Rattle.program_types.specs.declared.insn.Insn.{Insn}
use Rattle.tables_rows.specs.Names.{NameIsAt}
use Rattle.code_read.specs.InsnFaults.{LinkedBreak}
use Rattle.code_read.specs.Linked.{AreLinked, KeepRules}
use Rattle.code_read.proofs.LinkLaws.{addresses-same}
use Rattle.code_read.proofs.insns.read_insns.Goals as goal
use Rattle.dex_base.proofs.ListFacts.{passed}

pub returns-in_err-check_linked-clause-err : goal.returns-in_err-check_linked-clause-err
returns-in_err-check_linked-clause-err g c =
    let N = NameIsAt c.args.tables.now in
    let rs = map raw c.in_ok-walked.walked.insns.items in
    passed _ _ _ c.from_residual-in_err-check_linked.ensures.1 (λ ne. inr (
      rs,
      c.in_ok-walked.ensures.ok,
      inr (
        map insn c.in_ok-insns.insns.items,
        subst (λ (xs : List RawInsn). AreLinked N (map raw xs) (map insn c.in_ok-insns.insns.items)) c.deref.ensures.value c.in_ok-insns.ensures.ok,
        subst (λ (xs : List Insn). LinkedBreak (starts rs) (map insn xs) c.args.base c.in_err-check_linked.field-0.0) c.deref-3.ensures.value
            (subst (λ (ss : List ℕ). LinkedBreak ss (map insn c.deref-3.result.now) c.args.base c.in_err-check_linked.field-0.0) (c.deref-4.ensures.value ∙ c.in_ok-walked.ensures.table.is) (c.in_err-check_linked.ensures.err ne)),
      ),
    ))

pub past_registers-past-requires-clause-starts : goal.past_registers-past-requires-clause-starts
past_registers-past-requires-clause-starts g c =
    let N = NameIsAt c.args.tables.now in
    let a = subst (λ (xs : List RawInsn). AreLinked N (map raw xs) (map insn c.in_ok-insns.insns.items)) c.deref.ensures.value c.in_ok-insns.ensures.ok in
    rw c.deref-5.ensures.value (c.deref-6.ensures.value ∙ c.in_ok-walked.ensures.table.is ∙ addresses-same N (map raw c.in_ok-walked.walked.insns.items) (map insn c.in_ok-insns.insns.items) a)

pub returns-clause-ok : goal.returns-clause-ok
returns-clause-ok g c =
    let N = NameIsAt c.args.tables.now in
    let is = map insn c.in_ok-insns.insns.items in
    record {
      insns = is;
      are = c.keep_insns.ensures;
      read = record {
        raws = map raw c.in_ok-walked.walked.insns.items;
        table = c.in_ok-walked.ensures.table;
        insns = record {
          walk = c.in_ok-walked.ensures.ok;
          linked = subst (λ (xs : List RawInsn). AreLinked N (map raw xs) is) c.deref.ensures.value c.in_ok-insns.ensures.ok;
          keep = subst (λ (xs : List Insn). KeepRules (map insn xs)) c.deref-3.ensures.value c.in_ok-check_linked.ensures.ok;
        };
      };
      among = subst (λ (xs : List Insn). IfNone c.past_registers-past.result (AllHold (AmongAt c.args.registers (map insn xs)) (length (map insn xs)))) c.deref-5.ensures.value c.past_registers-past.ensures.among;
      first = subst (λ (xs : List Insn). IfSome c.past_registers-past.result (IsPast c.args.registers (map insn xs))) c.deref-5.ensures.value c.past_registers-past.ensures.past;
    }
