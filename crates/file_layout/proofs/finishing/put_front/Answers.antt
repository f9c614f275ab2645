use Rattle.std.proofs.Common.{◌<◌, ◌^◌, sym, refl, subst, get_or, ℕ, List}
use Rattle.file_layout.proofs.FinishLaws.{front_of}
use Rattle.file_layout.proofs.finishing.put_front.Goals as goal

pub returns : goal.returns
returns c =
    let head = c.header_words-header.ensures in
    record {
      front = c.put_rows.new.bytes;
      whole = front_of c.args.bytes.now c.put_words.new.bytes c.put_rows.new.bytes _ c.args.rows.now _ refl (sym c.requires.rows) (rw head at c.put_words.ensures) c.put_rows.ensures;
      header_fits = λ j. subst (λ (ws : List ℕ). get_or ws j 0 < 2 ^ 32) head (c.are_words.ensures j);
      closed = c.close.ensures;
      bytes = c.are_bytes.ensures.each;
    }
