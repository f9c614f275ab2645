-- What is known of `dexasm`'s command line, whatever the words.
use Rattle.std.proofs.Common.{◌≡◌, Bool, true, false, List, [], ◌∷◌, Option, Some, None, IsSome, IfSome, refl, sym, ◌∙◌, ap₂, subst, is_some}
use Rattle.std.specs.Prelude.{Box, ⊤, find, option_map}
use Rattle.std.specs.Box.{box_value}
use Rattle.dexasm_world.specs.declared.job.Job.{Job}
use Rattle.clap.specs.Words.{subcommand_name_of, subcommand_rows, subcommand_rows_of, subcommand_of, is_simple_and_free}
use Rattle.clap.specs.declared.parser.matches.ArgMatches.{ArgMatches}
use Rattle.clap.specs.declared.parser.matches.ArgMatches.TheViews.{out-ArgMatches, out-SubCommand}
use Rattle.clap.specs.declared.parser.matches.SubCommand.{SubCommand}
use Rattle.clap.specs.Simple.{Shape, App, entered, is_simple, label_of, built, names_of, rows_at, argument_words}
use Rattle.clap.specs.Walk.{answers_to, Text, Row, stop_after}
use Rattle.clap.proofs.OnLiterals.{clap_on_literals}
use Rattle.dexasm_plan.specs.Commands.{dexasm}
use Rattle.dexasm_plan.specs.Plans.{job_named}

pub is_simple_command : is_simple dexasm ≡ true
unfolding dexasm clap_on_literals
is_simple_command = refl

pub is_free_command : is_simple_and_free dexasm ≡ true
unfolding dexasm clap_on_literals
is_free_command = refl

pub requests_subcommand : dexasm.top.subcommand_required ≡ true
unfolding dexasm
requests_subcommand = refl

-- each name among the shapes has the property
abbrev Named : (Text → Type 0) → List Shape → Type 0
Named P [] = ⊤
Named P (s ∷ ss) = P s.name × Named P ss

found_named : (P : Text → Type 0) (p : Shape → Bool) (ss : List Shape) → Named P ss
    → IfSome (find p ss) (λ s. P s.name)
found_named P p [] h = tt
found_named P p (s ∷ ss) h = go (p s) refl (found_named P p ss h.1)
  where
    go : (b : Bool) → p s ≡ b → IfSome (find p ss) (λ s. P s.name) → IfSome (find p (s ∷ ss)) (λ s. P s.name)
    go true e rest = rw e h.0
    go false e rest = rw e rest

entered_named : (P : Text → Type 0) (a : App) (stop : Option (Text × List Text)) → Named P a.subs
    → IfSome (entered a stop) (λ r. P r.0)
entered_named P a None h = tt
entered_named P a (Some p) h = go (find (λ s. answers_to p.0 (label_of s)) a.subs)
    (found_named P (λ s. answers_to p.0 (label_of s)) a.subs h)
  where
    go : (o : Option Shape) → IfSome o (λ s. P s.name) → IfSome (option_map (λ s. rows_at s p.1) o) (λ r. P r.0)
    go None h = tt
    go (Some s) h = h

abbrev IsJob : Text → Type 0
IsJob n = (align : Bool) → IsSome (job_named n align)

-- each subcommand has a job
pub met_has_job : (words : List Text) → IfSome (subcommand_of dexasm words) (λ r. IsJob r.0)
unfolding dexasm clap_on_literals
met_has_job words = entered_named IsJob (built dexasm) (stop_after (built dexasm).top.rules (names_of (built dexasm)) (argument_words dexasm words)) ((λ a. refl), ((λ a. refl), ((λ a. refl), ((λ a. refl), tt))))

name_of_rows : {Z : Type 0} (o : Option (Box SubCommand Z))
    → option_map (λ b. (out-SubCommand (box_value b)).name.now) o ≡ option_map (λ p. p.0) (subcommand_rows o)
name_of_rows None = refl
name_of_rows (Some b) = refl

pair_of : (o : Option (Text × List Row)) (n : Text) (rows : List Row) → Some n ≡ option_map (λ p. p.0) o
    → Some rows ≡ option_map (λ p. p.1) o → o ≡ Some (n, rows)
pair_of None n rows e f = cc
pair_of (Some p) n rows e f = let a : p.0 ≡ n = cc in let b : p.1 ≡ rows = cc in
    let pair : Text → List Row → Option (Text × List Row) = λ x y. Some (x, y) in ap₂ pair a b

-- the subcommand by its name and its rows
pub met_is : (m : ArgMatches) (n : Text) (rows : List Row) → Some n ≡ subcommand_name_of m
    → Some rows ≡ option_map (λ p. p.1) (subcommand_rows_of m) → subcommand_rows_of m ≡ Some (n, rows)
met_is m n rows e f = pair_of (subcommand_rows_of m) n rows (e ∙ name_of_rows (out-ArgMatches m).subcommand) f

-- a subcommand that was met has a job
pub no_other : (words : List Text) (n : Text) (rows : List Row) (align : Bool) (r : Option Job)
    → subcommand_of dexasm words ≡ Some (n, rows) → r ≡ job_named n align → r ≡ None → ⊥
no_other words n rows align r met is none =
    let P : Option (Text × List Row) → Type 0 = λ o. IfSome o (λ q. IsJob q.0) in
    let job : IsJob n = subst P met (met_has_job words) in
    let bad : is_some {T = Job} None ≡ true = subst (λ (o : Option Job). is_some o ≡ true) (sym is ∙ none) (job align) in
    cc
