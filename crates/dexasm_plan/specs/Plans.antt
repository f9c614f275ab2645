-- What a subcommand and its entries plan.
use Rattle.std.specs.Prelude.{◌≡◌, Bool, false, List, Option, Some, None, codes, map, option_map, if◌then◌else◌}
use Rattle.std.specs.Option.{option_map_or}
use Rattle.std.specs.Str.{bytes_eq}
use Rattle.std.specs.Borrow.{Bor}
use Rattle.clap.specs.Words.{Row, Text, first_of}
use Rattle.dexasm_world.specs.declared.job.Job.{Job}
use Rattle.dexasm_world.specs.declared.job.Job.TheVariants.{Check, List as ListJob, Assemble, Strip}
use Rattle.dexasm_plan.specs.declared.planned.Plan.{Plan}

-- the texts after the words
abbrev pub texts_of : List (Bor Text) → List Text
texts_of = map (λ s. s.now)

-- the job of a subcommand's name
abbrev pub job_named : Text → Bool → Option Job
job_named name align = if bytes_eq name (codes "check") then Some Check
    else (if bytes_eq name (codes "list") then Some ListJob
    else (if bytes_eq name (codes "assemble") then Some (Assemble align)
    else (if bytes_eq name (codes "strip") then Some Strip else None)))

-- the flag is set
abbrev pub is_set : Text → List Row → Bool
is_set id rows = option_map_or (λ t. bytes_eq t (codes "true")) (first_of id rows) false

-- the plan has the job of that name, with the flag, and the words that are FILE and OUT
pub record IsPlanOf (name : Text) (rows : List Row) (p : Plan) : Type 0 where
  pub job : job_named name (is_set (codes "align") rows) ≡ Some p.job
  pub file : option_map (λ s. s.now) p.file ≡ first_of (codes "FILE") rows
  pub output : option_map (λ s. s.now) p.output ≡ first_of (codes "output") rows

-- the plan is that of the subcommand that was met, with its entries
abbrev pub Plans : Option (Text × List Row) → Plan → Type 0
Plans met p = (name : Text) × (rows : List Row) × (met ≡ Some (name, rows)) × IsPlanOf name rows p
