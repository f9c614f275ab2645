use Rattle.std.proofs.Common.{◌≡◌, ◌++◌, take}
use Rattle.listing_words.specs.Written.{elements_text}
use Rattle.listing_words.proofs.print_hex.put_elements.Given as goal

abbrev pub invariant-loop-byte : goal.invariant-loop-byte
invariant-loop-byte l = l.out.items ≡ l.fn.out.items ++ elements_text (take l.byte-index l.bytes)
