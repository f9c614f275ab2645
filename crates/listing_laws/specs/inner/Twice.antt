-- What a class may be given once.
-- Page: docs/LISTING.md, "Faults" (104).
use Rattle.std.specs.Prelude.{Bool, false, is_some}
use Rattle.program_rules.specs.Rules.{member_key, method_key}
use Rattle.listing_lines.specs.Lines.{Line, super_line, implements_line, source_line, static_line, instance_line, direct_line, virtual_line}
use Rattle.listing_parse.specs.Members.{given_key, is_held}
use Rattle.listing_parse.specs.States.{Open, Block, in_class, is_among}

-- The class has it: a superclass, this interface, a source file, or a member of this key.
abbrev pub has_already : Open → Line → Bool
has_already o (super_line d) = is_some o.superclass
has_already o (implements_line d) = is_among o.interfaces d
has_already o (source_line us) = is_some o.source
has_already o (static_line m v) = is_held given_key (member_key m) o.statics
has_already o (instance_line m) = is_held member_key (member_key m) o.instances
has_already o (direct_line m) = is_held method_key (method_key m) o.directs
has_already o (virtual_line m) = is_held method_key (method_key m) o.virtuals
has_already o _ = false

-- The class that is open has it.
abbrev pub is_twice : Block → Line → Bool
is_twice (in_class o p) line = has_already o line
is_twice _ line = false
