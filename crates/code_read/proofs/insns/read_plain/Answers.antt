use Rattle.std.proofs.Common.{ℕ, List, subst}
use Rattle.tables_rows.specs.Names.{NameIsAt}
use Rattle.code_read.specs.inner.InsnReading.{ReadInsns}
use Rattle.code_read.proofs.insns.read_plain.Goals as goal

pub returns-in-Some-2 : goal.returns-in-Some-2
returns-in-Some-2 g c =
    let all = rw c.in-Some-2.is at c.in_ok-insns.ensures.ok in
    record {
      ok = record {
        insns = all.0;
        are = all.2;
        read = subst (λ (z : List ℕ). ReadInsns (NameIsAt c.args.tables.now) c.args.units.now z all.0) c.deref.ensures.value all.1.read;
        among = all.1.among;
        first = tt;
      };
    }
