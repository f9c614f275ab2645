-- A line that may stand is refused exactly if it gives again what the open class has.
use Rattle.std.proofs.Common.{◌≡◌, ℕ, Bool, true, false, not, List, Option, Some, None, is_some, option_map, drop, refl, sym, ap, ◌∙◌}
use Rattle.listing_slots.specs.declared.kind.Kind.{Kind}
use Rattle.listing_slots.specs.declared.kind.Kind.TheVariants as kind
use Rattle.listing_slots.specs.Data.{Datum, at, type_of, word_of}
use Rattle.program_types.specs.Content.{Descriptor}
use Rattle.program_rules.specs.Rules.{member_key, method_key}
use Rattle.program_types.specs.Key.{Key}
use Rattle.listing_lines.specs.Lines.{Line, first_line, end_class, implements_line, end_code, catch_line, catch_all_line, member_of, method_of, value_of, line_of}
use Rattle.listing_lines.specs.declared.stage.Stage.{Stage}
use Rattle.listing_lines.specs.declared.stage.Stage.TheVariants.{Heads, Insns, Caught}
use Rattle.listing_lines.specs.Places.{is_start, is_top, is_heads, is_in_class, is_after, is_insns, is_in_code, is_caught, may_stand}
use Rattle.listing_parse.specs.Members.{Given, given_key, is_held, with_member}
use Rattle.listing_parse.specs.States.{Open, ClassPart, OpenBody, at_heads, after_method, CodePart, at_insns, in_try, Block, at_start, at_top, in_class, in_code, State, stage_of, code_stage, is_among, with_superclass, with_source, with_interface, with_static, with_instance, with_direct, with_virtual, class_line, noted, code_line, inside, class_of, owner_of, code_ended, add}
use Rattle.listing_laws.specs.inner.Twice.{has_already, is_twice}

some_map : {X Y : Type 0} (f : X → Y) (o : Option X) → is_some (option_map f o) ≡ is_some o
some_map f None = refl
some_map f (Some x) = refl

-- ---- where lines stand

class_stands : (st : Stage) → is_heads st ≡ true → is_in_class st ≡ true
class_stands Heads e = refl
class_stands _ e = absurd cc

insns_stand : (st : Stage) → is_insns st ≡ true → is_in_code st ≡ true
insns_stand Insns e = refl
insns_stand _ e = absurd cc

catches_stand : (st : Stage) → is_caught st ≡ true → is_in_code st ≡ true
catches_stand Caught e = refl
catches_stand _ e = absurd cc

-- where a line of a class may stand, a class is open
in_a_class : (P : Block → Type 0) → ((o : Open) (p : ClassPart) → P (in_class o p)) → (b : Block) → is_in_class (stage_of b) ≡ true → P b
in_a_class P f (in_class o p) e = f o p
in_a_class P f (in_code o b at_insns) e = absurd cc
in_a_class P f _ e = absurd cc

-- where a line of a code may stand, a code is open
in_a_code : (P : Block → Type 0) → ((o : Open) (c : OpenBody) (p : CodePart) → P (in_code o c p)) → (b : Block) → is_in_code (stage_of b) ≡ true → P b
in_a_code P f (in_code o c p) e = f o c p
in_a_code P f (in_class o at_heads) e = absurd cc
in_a_code P f _ e = absurd cc

-- after a method its code may follow
method_is_after : (b : Block) → is_after (stage_of b) ≡ true → is_some (owner_of b) ≡ true
method_is_after (in_class o (after_method m)) e = refl
method_is_after (in_code o b at_insns) e = absurd cc
method_is_after _ e = absurd cc

-- ---- a line of the open block alone

never : (b : Block) (line : Line) → ((o : Open) → has_already o line ≡ false) → true ≡ not (is_twice b line)
never at_start line f = refl
never at_top line f = refl
never (in_class o p) line f = sym (ap not (f o))
never (in_code o b p) line f = refl

class_reads : (b : Block) (n : ℕ) (line : Line) → is_in_class (stage_of b) ≡ true → ((o : Open) → is_some (class_line o line) ≡ not (has_already o line)) → is_some (inside b n line) ≡ not (is_twice b line)
unfolding inside
class_reads b n line e f = in_a_class (λ c. is_some (inside c n line) ≡ not (is_twice c line)) (λ o p. rw some_map (f o)) b e

code_reads : (b : Block) (n : ℕ) (line : Line) → is_in_code (stage_of b) ≡ true → ((c : OpenBody) (p : CodePart) → code_stage p ≡ stage_of b → is_some (code_line c p line) ≡ true) → is_some (inside b n line) ≡ not (is_twice b line)
unfolding inside
code_reads b n line e f =
    let P = λ (d : Block). stage_of d ≡ stage_of b → is_some (inside d n line) ≡ not (is_twice d line) in
    in_a_code P (λ o c p q. rw some_map (f (noted c n line) p q)) b e refl

-- ---- what a class has

-- what is given once
once : {X Y : Type 0} (x : Option X) (y : Y) → is_some (elim x as (λ (o : Option X). Option Y) [ None ↦ Some y | Some e ↦ None ]) ≡ not (is_some x)
once None y = refl
once (Some x) y = refl

interface_given : (o : Open) (d : Descriptor) (b : Bool) → is_among o.interfaces d ≡ b → is_some (class_line o (implements_line d)) ≡ not (has_already o (implements_line d))
unfolding with_interface
interface_given o d true e = rw e refl
interface_given o d false e = rw e refl

member_by : {X : Type 0} (key : X → Key) (x : X) (ys : List X) (b : Bool) → is_held key (key x) ys ≡ b → is_some (with_member key x ys) ≡ not (is_held key (key x) ys)
member_by key x ys true e = rw e refl
member_by key x ys false e = rw e refl

member_given : {X : Type 0} (key : X → Key) (x : X) (ys : List X) → is_some (with_member key x ys) ≡ not (is_held key (key x) ys)
member_given key x ys = member_by key x ys (is_held key (key x) ys) refl

-- ---- a line of a code is given as often as one likes

catch_reads : (b : Block) (c : OpenBody) (p : CodePart) (d : Descriptor) (k : ℕ) → is_caught (stage_of b) ≡ true → code_stage p ≡ stage_of b → is_some (code_line c p (catch_line d k)) ≡ true
catch_reads b c (in_try t) d k e q = refl
catch_reads b c _ d k e q = absurd cc

catch_all_reads : (b : Block) (c : OpenBody) (p : CodePart) (k : ℕ) → is_caught (stage_of b) ≡ true → code_stage p ≡ stage_of b → is_some (code_line c p (catch_all_line k)) ≡ true
catch_all_reads b c (in_try t) k e q = refl
catch_all_reads b c _ k e q = absurd cc

-- ---- all kinds of lines

pub refused_if_twice : (s : State) (k : Kind) (ds : List Datum) → may_stand (stage_of s.block) k ≡ true → is_some (add s (line_of k ds)) ≡ not (is_twice s.block (line_of k ds))
unfolding add may_stand line_of with_superclass with_source with_static with_instance with_direct with_virtual
refused_if_twice s kind.First ds e = let h : is_start (stage_of s.block) ≡ true = e in rw h (never s.block first_line (λ o. refl))
refused_if_twice s kind.OpenClass ds e = let h : is_top (stage_of s.block) ≡ true = e in rw h (never s.block (line_of kind.OpenClass ds) (λ o. refl))
refused_if_twice s kind.EndClass ds e = rw some_map (in_a_class (λ b. is_some (class_of b) ≡ not (is_twice b end_class)) (λ o p. refl) s.block e)
refused_if_twice s kind.OpenCode ds e = rw some_map (method_is_after s.block e ∙ never s.block (line_of kind.OpenCode ds) (λ o. refl))
refused_if_twice s kind.EndCode ds e = rw some_map (in_a_code (λ b. is_some (code_ended b) ≡ not (is_twice b end_code)) (λ o c p. refl) s.block e)
refused_if_twice s kind.Super ds e = rw some_map (class_reads s.block s.lines (line_of kind.Super ds) (class_stands (stage_of s.block) e) (λ o. rw some_map (once o.superclass _)))
refused_if_twice s kind.Implements ds e = rw some_map (class_reads s.block s.lines (line_of kind.Implements ds) (class_stands (stage_of s.block) e) (λ o. interface_given o (type_of (at ds 0)) (is_among o.interfaces (type_of (at ds 0))) refl))
refused_if_twice s kind.Source ds e = rw some_map (class_reads s.block s.lines (line_of kind.Source ds) (class_stands (stage_of s.block) e) (λ o. rw some_map (once o.source _)))
refused_if_twice s kind.Static ds e = rw some_map (class_reads s.block s.lines (line_of kind.Static ds) e (λ o. rw (some_map, some_map) (member_given given_key (record { field = member_of ds; value = None }) o.statics)))
refused_if_twice s kind.Given ds e = rw some_map (class_reads s.block s.lines (line_of kind.Given ds) e (λ o. rw (some_map, some_map) (member_given given_key (record { field = member_of ds; value = Some (value_of (drop 4 ds)) }) o.statics)))
refused_if_twice s kind.Instance ds e = rw some_map (class_reads s.block s.lines (line_of kind.Instance ds) e (λ o. rw (some_map, some_map) (member_given member_key (member_of ds) o.instances)))
refused_if_twice s kind.Direct ds e = rw some_map (class_reads s.block s.lines (line_of kind.Direct ds) e (λ o. rw (some_map, some_map) (member_given method_key (method_of ds) o.directs)))
refused_if_twice s kind.Virtual ds e = rw some_map (class_reads s.block s.lines (line_of kind.Virtual ds) e (λ o. rw (some_map, some_map) (member_given method_key (method_of ds) o.virtuals)))
refused_if_twice s kind.Try ds e = rw some_map (code_reads s.block s.lines (line_of kind.Try ds) e (λ c p q. refl))
refused_if_twice s kind.Catch ds e = rw some_map (code_reads s.block s.lines (line_of kind.Catch ds) (catches_stand (stage_of s.block) e) (λ c p q. catch_reads s.block c p (type_of (at ds 0)) (word_of (at ds 1)) e q))
refused_if_twice s kind.CatchAll ds e = rw some_map (code_reads s.block s.lines (line_of kind.CatchAll ds) (catches_stand (stage_of s.block) e) (λ c p q. catch_all_reads s.block c p (word_of (at ds 0)) e q))
refused_if_twice s _ ds e = rw some_map (code_reads s.block s.lines _ (insns_stand (stage_of s.block) e) (λ c p q. refl))
