use Rattle.std.proofs.Common.{◌≡◌, ℕ, false, rules}
use Rattle.dex_insn.specs.Raw as raw
use Rattle.dex_insn.specs.Raw.{Raw}
use Rattle.program_types.specs.Content.{Name}
use Rattle.program_types.specs.View.{insn}
use Rattle.tables_rows.specs.Names.{NameIsAt}
use Rattle.code_read.specs.Linked.{target_number}
use Rattle.code_read.specs.Symbols.{InsnNames, name_in}
use Rattle.code_read.specs.inner.Symbols.{has_index}
use Rattle.code_read.proofs.symbols.link.Goals as goal

nameless : (N : ℕ → Name → Type 0) (r : Raw) (which : Name) → has_index r ≡ false → InsnNames N r which
unfolding has_index
nameless N (raw.I21c op a index) which e = absurd cc
nameless N (raw.I22c op a b index) which e = absurd cc
nameless N (raw.I31c op a index) which e = absurd cc
nameless N (raw.I35c op n regs index) which e = absurd cc
nameless N (raw.I3rc op n first index) which e = absurd cc
nameless N _ which e = tt

pub returns-in_default : goal.returns-in_default
unfolding has_index raw.raw
returns-in_default c = record {
  some = record {
    symbol = c.plain.ensures (target_number c.args.starts.now c.args.base) (name_in (insn c.plain.result));
    named = nameless (NameIsAt c.args.tables.now) (raw.raw c.args.one.now) (name_in (insn c.plain.result)) (search rules);
  };
  none = tt;
}
