use Rattle.listing_parse.proofs.ExactLaws.{listing_one, listing_none}
use Rattle.listing_print.specs.Canon.{text_in}
use Rattle.listing_laws.proofs.ClassRuns.{printed_again}
use Rattle.listing_laws.proofs.laws.what_is_printed_is_read_again.Goals as goal

pub returns : goal.returns
returns c = record {
  read = printed_again;
  alone = λ form p q h l. listing_one (text_in form p) p q (printed_again form p h) l;
  accepted = λ form p code place h b. listing_none (text_in form p) p code place b (printed_again form p h);
}
