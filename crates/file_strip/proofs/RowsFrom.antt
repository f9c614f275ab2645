-- Each file of a program has rows for the names that the program needs, none before its rank.
use Rattle.std.proofs.Common.{ℕ, ◌≤◌, List, arith}
use Rattle.tables_names.specs.Closure.{Five, NameRanks}
use Rattle.tables_names.specs.inner.Closure.{Holds}
use Rattle.tables_names.specs.Needed.{needed}
use Rattle.tables_names.specs.Rank.{IsAt, Rising, rank_of}
use Rattle.tables_names.proofs.NeededLemmas.{needed_is_least}
use Rattle.tables_names.proofs.PlaceLemmas.{member_at, rank_at}
use Rattle.program_types.specs.Content.{Name, OfDesc, OfField, OfMethod, OfText, Program}
use Rattle.program_types.specs.Key.{Key, field_ref_key, method_ref_key, proto_key, text_key}
use Rattle.tables_laws.specs.inner.FileNames.{AreNoShorter, HaveRowsIn}
use Rattle.tables_laws.proofs.FileLemmas.{files_are_no_shorter, needed_has_rows}
use Rattle.file_read.specs.Means.{Means}
use Rattle.file_read.proofs.WellLaws.{program_rows}
use Rattle.file_strip.specs.AtLeast.{HoldsAtLeast}
use Rattle.file_strip.specs.inner.AtLeast.{AreNoFurther}

-- the index of a key is its rank
after_rank : (set : List Key) (i j : ℕ) (k : Key) → Rising set → IsAt set i k → rank_of set k ≤ j → i ≤ j
after_rank set i j k up at h = let e = rank_at set i k up at in omega (arith, e, h)

-- a name that has an index is held
pub ranked_holds : (s : Five) (i : ℕ) (name : Name) → NameRanks s i name → Holds s name
ranked_holds s i (OfText t) at = member_at s.strings i (text_key t) at
ranked_holds s i (OfDesc t) at = member_at s.types i (text_key t) at
ranked_holds s i (OfField f) at = member_at s.fields i (field_ref_key f) at
ranked_holds s i (OfMethod m) at = member_at s.methods i (method_ref_key m) at

module _ (b : List ℕ) (p : Program) (m : Means b p) where
  rows : HaveRowsIn b (needed p)
  rows = needed_has_rows b p m.framed m.tables (program_rows b p m)

  short : AreNoShorter b (needed p)
  short = files_are_no_shorter b p m.framed m.tables (program_rows b p m)

  -- no name stands before its rank
  pub no_further : AreNoFurther (needed p) b
  no_further (OfText t) i j stands at = after_rank (needed p).strings j i (text_key t) (needed_is_least p).0.strings at (short.string_rank i t stands)
  no_further (OfDesc t) i j stands at = after_rank (needed p).types j i (text_key t) (needed_is_least p).0.types at (short.type_rank i t stands)
  no_further (OfField f) i j stands at = after_rank (needed p).fields j i (field_ref_key f) (needed_is_least p).0.fields at (short.field_rank i f stands)
  no_further (OfMethod n) i j stands at = after_rank (needed p).methods j i (method_ref_key n) (needed_is_least p).0.methods at (short.method_rank i n stands)

  pub holds_at_least : HoldsAtLeast b (needed p)
  holds_at_least = record {
    strings = short.strings;
    types = short.types;
    protos = short.protos;
    fields = short.fields;
    methods = short.methods;
    names = λ i name at. let r = rows.names name (ranked_holds (needed p) i name at) in record {
      row = r.0;
      stands = r.1;
      after = no_further name r.0 i r.1 at;
    };
    proto_names = λ i q at. let r = rows.protos q (member_at (needed p).protos i (proto_key q) at) in record {
      row = r.0;
      stands = r.1;
      after = after_rank (needed p).protos i r.0 (proto_key q) (needed_is_least p).0.protos at (short.proto_rank r.0 q r.1);
    };
  }
