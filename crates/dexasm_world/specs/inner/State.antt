-- Beside State.antt: what no promise reaches.
use Rattle.std.specs.Prelude.{true, false, [], None}
use Rattle.dexasm_world.specs.State.{Files}

-- files of which nothing is known
abbrev pub unknown_files : Files
unknown_files = record {
  paths = record { place = λ p. p; is_plain = λ p. true; is_closed = λ p. false; is_device = λ p. false; is_fixed = λ p. false; is_barred = λ p. false };
  now = record { stands = λ p. None; file = λ n. record { bytes = []; mode = 0; kept = false } };
  past = [];
  faults = 0;
  leftovers = 0;
}
