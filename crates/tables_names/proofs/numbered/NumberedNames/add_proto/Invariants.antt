use Rattle.std.proofs.Common.{◌≡◌, ◌∷◌, map, take}
use Rattle.tables_names.specs.Keys.{key_of_proto, key_of_desc}
use Rattle.tables_names.specs.Rank.{IsAt}
use Rattle.program_types.specs.View.{desc}
use Rattle.tables_names.specs.Closure.{shorty_of_texts, join, proto_parts}
use Rattle.tables_names.specs.Numbers.{sets, AllGrow}
use Rattle.tables_names.proofs.numbered.NumberedNames.add_proto.Given as goal

-- the shorty, the return type and the parameters so far
abbrev pub invariant-loop-param : goal.invariant-loop-param
invariant-loop-param l =
    record {
      added : sets l.self.names ≡ join (sets l.fn.self.names) (proto_parts (shorty_of_texts (key_of_proto l.name)) (desc l.name.ret ∷ map desc (take l.param-index l.param-items)));
      ret : IsAt l.self.names.types l.ret (key_of_desc l.name.ret);
      grows : AllGrow l.fn.self.names l.self.names;
    }
