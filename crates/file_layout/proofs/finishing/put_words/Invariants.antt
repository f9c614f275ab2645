use Rattle.std.proofs.Common.{◌≡◌, ◌*◌, ◌++◌, take, drop}
use Rattle.dex_base.specs.Words.{words_bytes}
use Rattle.file_layout.proofs.finishing.put_words.Given as goal

abbrev pub invariant-loop-i : goal.invariant-loop-i
invariant-loop-i l = l.bytes ≡ words_bytes (take l.i l.words) ++ drop (4 * l.i) l.fn.bytes
