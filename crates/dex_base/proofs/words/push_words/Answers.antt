use Rattle.std.proofs.Common.{rules, ◌≡◌, ◌++◌, take, length, get_or, sym, ap, ◌∙◌, append-nil, append_assoc, arith}
use Rattle.std.proofs.lemmas.Slice.{pushed}
use Rattle.dex_base.specs.Fields.{u32_bytes}
use Rattle.dex_base.specs.Words.{words_bytes}
use Rattle.dex_base.proofs.FieldBounds.{length-u32_bytes}
use Rattle.dex_base.proofs.WordsBytes.{words_bytes-more}
use Rattle.dex_base.proofs.words.push_words.Goals as goal

pub loop-word-init : goal.loop-word-init
unfolding words_bytes
loop-word-init c = record { joined = search (rules, append-nil); room = search rules }

pub loop-word-preserved : goal.loop-word-preserved
unfolding u32_bytes
loop-word-preserved c =
    let i = c.loop-word.word-index in
    let xs = c.args.words.now in
    let old = c.args.out.now.items in
    let bytes : c.to_le_bytes.result ≡ u32_bytes (get_or xs i 0) = c.to_le_bytes.ensures in
    record {
      joined =
          pushed c.to_le_bytes.result c.loop-word.invariant.joined c.in_ok-extend_from_slice.was c.extend_from_slice.ensures.items
          ∙ ap (λ t. (old ++ words_bytes (take i xs)) ++ t) bytes
          ∙ append_assoc old (words_bytes (take i xs)) (u32_bytes (get_or xs i 0))
          ∙ ap (λ t. old ++ t) (sym (words_bytes-more xs i c.loop-word-test.true));
      room =
          let four : length c.to_le_bytes.result ≡ 4 = ap length bytes ∙ length-u32_bytes (get_or xs i 0) in
          omega (arith, four, c.in_ok-extend_from_slice.ensures.len, c.extend_from_slice.ensures.capacity, c.loop-word.invariant.room, c.loop-word-test.true);
    }
