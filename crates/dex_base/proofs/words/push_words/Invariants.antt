use Rattle.std.proofs.Common.{◌≡◌, ◌≤◌, ◌+◌, ◌*◌, ◌-◌, ◌++◌, take, length, vec_len, vec_capacity}
use Rattle.dex_base.specs.Words.{words_bytes}
use Rattle.dex_base.proofs.words.push_words.Given as goal

abbrev pub invariant-loop-word : goal.invariant-loop-word
invariant-loop-word l = record {
  joined : l.out.items ≡ l.fn.out.items ++ words_bytes (take l.word-index l.words);
  room : vec_len l.out + 4 * (length l.words - l.word-index) ≤ vec_capacity l.out;
}
