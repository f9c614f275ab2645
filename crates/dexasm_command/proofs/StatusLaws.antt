-- What the exit status says.
use Rattle.std.specs.Prelude.{MatchOption}
use Rattle.std.specs.Borrow.{Bor}
use Rattle.std.specs.Prelude.{Result}
use Rattle.std.proofs.Common.{◌≡◌, ◌≢◌, ◌⊎◌, inl, inr, ℕ, Bool, true, false, List, [], append-nil, Option, Some, None, Ok, Err, refl, sym, ◌∙◌, subst}
use Rattle.dex_base.specs.declared.fault.Fault.{Fault}
use Rattle.clap.specs.Words.{subcommand_of}
use Rattle.dexasm_world.specs.declared.job.Job.{Job}
use Rattle.dexasm_run.specs.Answers.{Answer, Refusal}
use Rattle.dexasm_plan.specs.Commands.{dexasm}
use Rattle.dexasm_plan.specs.Plans.{Plans}
use Rattle.dexasm_plan.specs.declared.planned.Plan.{Plan}
use Rattle.dexasm_run.specs.Runs.{IsAllGiven}
use Rattle.dexasm_run.specs.Status.{exit_status}
use Rattle.dexasm_run.specs.declared.error.RunFault.{RunFault}
use Rattle.dexasm_run.specs.declared.error.RunFault.TheVariants.{Refused, Input, Output, Memory}
use Rattle.dexasm_world.specs.State.{Path, Files, Passes}
use Rattle.dexasm_world.specs.Safe.{IsSafe, IsAbandoned}
use Rattle.dexasm_world.specs.FileKinds.{IsHeld, CantBeRead}
use Rattle.dexasm_command.specs.Streams.{path_of}
use Rattle.dexasm_command.specs.Carried.{CarriesOut, AnswersFrom, IsUnreadable}
use Rattle.dexasm_command.specs.Reported.{EndsReported}
use Rattle.dexasm_command.specs.Served.{CommandRun, DoesNothing}
use Rattle.dexasm_command.specs.Statuses.{IsInput, HasCome, HasBegun, ReportsIn, IsAnswered, IsJobRefused, CantRead, CantWrite, IsKeptSafe, ZeroMeans, OneMeans, ThreeMeans, FourMeans, OutIsNeverLost}

-- all that known bytes give is they
all_of : (bytes given : List ℕ) → IsAllGiven (Some bytes) (Some []) given → given ≡ bytes
all_of bytes given h = sym (h.gave ∙ append-nil given)

held : (f : Files) (path : Path) (bytes given : List ℕ) → IsHeld f path bytes → IsAllGiven (Some bytes) (Some []) given → IsHeld f path given
held f path bytes given is all = subst (IsHeld f path) (sym (all_of bytes given all)) is

-- the ways that an answer goes
came : (r : CommandRun) (job : Job) (out : Option (Bor Path)) (had left : Option (List ℕ)) (failed : Bool) (x : Unit {0}) → AnswersFrom {T = Unit {0}} job out had left failed r.before r.after (Ok x)
    → (given : List ℕ) × (answer : List ℕ) × IsAllGiven had left given × Answer job given answer × HasCome r out answer
came r job None had left failed x h = (h.1.0, h.1.1, h.1.2, h.1.3, (h.0, h.1.4))
came r job (Some path) had left failed x h =
    let way = h.0 in
    (way.1.given, way.0, way.1.whole, way.1.answered, (h.1, λ k. record { moments = way.1.moments k; delivered = (way.2 k).0; tidy = (way.2 k).1 }))

refused : (r : CommandRun) (job : Job) (out : Option (Bor Path)) (had left : Option (List ℕ)) (failed : Bool) (fault : Fault) → AnswersFrom {T = Unit {0}} job out had left failed r.before r.after (Err (Refused fault))
    → (given : List ℕ) × IsAllGiven had left given × Refusal job given fault × DoesNothing r
refused r job None had left failed fault h = (h.1.0.0, h.1.0.1, h.1.0.2, record { files = h.0; output = h.1.1 })
refused r job (Some path) had left failed fault h = (h.0.0.0, h.0.0.1, h.0.0.2, record { files = h.0.1; output = h.1 })

unread : (r : CommandRun) (job : Job) (out : Option (Bor Path)) (had left : Option (List ℕ)) (failed : Bool) → AnswersFrom {T = Unit {0}} job out had left failed r.before r.after (Err Input)
    → (failed ≡ true) × DoesNothing r
unread r job None had left failed h = (h.1.0, record { files = h.0; output = h.1.1 })
unread r job (Some path) had left failed h = (h.0.0, record { files = h.0.1; output = h.1 })

begun : (r : CommandRun) (job : Job) (out : Option (Bor Path)) (had left : Option (List ℕ)) (failed : Bool) → AnswersFrom {T = Unit {0}} job out had left failed r.before r.after (Err Output)
    → (given : List ℕ) × (answer : List ℕ) × IsAllGiven had left given × Answer job given answer × HasBegun r out answer
begun r job None had left failed h =
    let a = h.1.1 in
    (a.0, a.1, a.3, a.4, (h.0, h.1.0, a.2, a.6))
begun r job (Some path) had left failed h =
    let way = h.0 in
    (way.1.given, way.0, way.1.whole, way.1.answered, (h.1, λ k. record { moments = way.1.moments k; cause = (way.2 k).0; given_up = (way.2 k).1 }))

-- the moments of OUT, however it ended
record IsSafeFrom (r : CommandRun) (job : Job) (out : Option (Bor Path)) (had left : Option (List ℕ)) : Type 0 where
  given : List ℕ
  answer : List ℕ
  path : Bor Path
  all : IsAllGiven had left given
  answered : Answer job given answer
  is : out ≡ Some path
  moments : Passes r.before.files r.after.files (IsSafe r.before.files path.now answer)
  ended : IsAbandoned r.before.files path.now answer r.after.files

safe_from : (r : CommandRun) (job : Job) (out : Option (Bor Path)) (had left : Option (List ℕ)) (failed : Bool) (res : Result (Unit {0}) RunFault)
    → AnswersFrom {T = Unit {0}} job out had left failed r.before r.after res → r.before.known ≡ true → (r.after.files ≡ r.before.files) ⊎ IsSafeFrom r job out had left
safe_from r job None had left failed res h k = inl h.0
safe_from r job (Some path) had left failed (Ok x) h k =
    let way = h.0 in
    inr (record { given = way.1.given; answer = way.0; path = path; all = way.1.whole; answered = way.1.answered; is = refl; moments = way.1.moments k; ended = inl (way.2 k).1 })
safe_from r job (Some path) had left failed (Err (Refused fault)) h k = inl h.0.1
safe_from r job (Some path) had left failed (Err Input) h k = inl h.0.1
safe_from r job (Some path) had left failed (Err Output) h k =
    let way = h.0 in
    inr (record { given = way.1.given; answer = way.0; path = path; all = way.1.whole; answered = way.1.answered; is = refl; moments = way.1.moments k; ended = (way.2 k).1 })
safe_from r job (Some path) had left failed (Err Memory) h k = elim h.0 [
  | inl same ↦ inl same
  | inr way ↦ inr (record { given = way.1.given; answer = way.0; path = path; all = way.1.whole; answered = way.1.answered; is = refl; moments = way.1.moments k; ended = way.2 k })
]

-- what can't be opened ends so
opened : (path : Path) (r : CommandRun) (res : Result (Unit {0}) RunFault) → res ≢ Err Input → res ≢ Err Memory → IsUnreadable path r.before r.after res → ⊥
opened path r res no_input no_memory c = elim c.reported [ inl t ↦ no_input t.0 | inr t ↦ no_memory t ]

-- a job on FILE or on standard input, by how it ended
answered_by : (r : CommandRun) (job : Job) (file out : Option (Bor Path)) (x : Unit {0}) → CarriesOut {T = Unit {0}} job file out r.before r.after (Ok x)
    → (given : List ℕ) × (answer : List ℕ) × IsInput r file given × Answer job given answer × HasCome r out answer
answered_by r job None out x h = came r job out r.before.left r.after.left r.after.input_failed x h
answered_by r job (Some path) out x h = elim h [
  | inl c ↦ absurd (opened path.now r (Ok x) (λ e. cc) (λ e. cc) c)
  | inr w ↦
      let g = came r job out (Some w.1) (Some []) false x w.3 in
      (g.0, g.1, (λ k. held r.before.files path.now w.1 g.0 (w.2 k) g.2), g.3, g.4)
]

refused_by : (r : CommandRun) (job : Job) (file out : Option (Bor Path)) (fault : Fault) → CarriesOut {T = Unit {0}} job file out r.before r.after (Err (Refused fault))
    → (given : List ℕ) × IsInput r file given × Refusal job given fault × DoesNothing r
refused_by r job None out fault h = refused r job out r.before.left r.after.left r.after.input_failed fault h
refused_by r job (Some path) out fault h = elim h [
  | inl c ↦ absurd (opened path.now r (Err (Refused fault)) (λ e. cc) (λ e. cc) c)
  | inr w ↦
      let g = refused r job out (Some w.1) (Some []) false fault w.3 in
      (g.0, (λ k. held r.before.files path.now w.1 g.0 (w.2 k) g.1), g.2, g.3)
]

unread_by : (r : CommandRun) (job : Job) (file out : Option (Bor Path)) → CarriesOut {T = Unit {0}} job file out r.before r.after (Err Input)
    → MatchOption file (r.after.input_failed ≡ true) (λ path. r.before.known ≡ true → CantBeRead r.before.files path.now) × DoesNothing r
unread_by r job None out h = unread r job out r.before.left r.after.left r.after.input_failed h
unread_by r job (Some path) out h = elim h [
  | inl c ↦ (elim c.reported [ inl t ↦ t.1 | inr t ↦ absurd (let e = t in cc) ], record { files = c.untouched; output = c.kept })
  | inr w ↦ absurd (let e = (unread r job out (Some w.1) (Some []) false w.3).0 in cc)
]

begun_by : (r : CommandRun) (job : Job) (file out : Option (Bor Path)) → CarriesOut {T = Unit {0}} job file out r.before r.after (Err Output)
    → (given : List ℕ) × (answer : List ℕ) × IsInput r file given × Answer job given answer × HasBegun r out answer
begun_by r job None out h = begun r job out r.before.left r.after.left r.after.input_failed h
begun_by r job (Some path) out h = elim h [
  | inl c ↦ absurd (opened path.now r (Err Output) (λ e. cc) (λ e. cc) c)
  | inr w ↦
      let g = begun r job out (Some w.1) (Some []) false w.3 in
      (g.0, g.1, (λ k. held r.before.files path.now w.1 g.0 (w.2 k) g.2), g.3, g.4)
]

kept_safe : (r : CommandRun) (plan : Plan) → Plans (subcommand_of dexasm r.words) plan → (file : Option (Bor Path)) → path_of plan.file ≡ file → (res : Result (Unit {0}) RunFault)
    → CarriesOut {T = Unit {0}} plan.job file (path_of plan.output) r.before r.after res → r.before.known ≡ true → (r.after.files ≡ r.before.files) ⊎ IsKeptSafe r
kept_safe r plan planned None is res h k = elim (safe_from r plan.job (path_of plan.output) r.before.left r.after.left r.after.input_failed res h k) [
  | inl same ↦ inl same
  | inr s ↦ inr (record {
    plan = plan;
    planned = planned;
    given = s.given;
    answer = s.answer;
    out = s.path;
    input = subst (λ (o : Option (Bor Path)). IsInput r o s.given) (sym is) s.all;
    answered = s.answered;
    is = s.is;
    moments = s.moments;
    left = s.ended;
  })
]
kept_safe r plan planned (Some path) is res h k = elim h [
  | inl c ↦ inl c.untouched
  | inr w ↦ elim (safe_from r plan.job (path_of plan.output) (Some w.1) (Some []) false res w.3 k) [
    | inl same ↦ inl same
    | inr s ↦ inr (record {
      plan = plan;
      planned = planned;
      given = s.given;
      answer = s.answer;
      out = s.path;
      input = subst (λ (o : Option (Bor Path)). IsInput r o s.given) (sym is) (λ known. held r.before.files path.now w.1 s.given (w.2 known) s.all);
      answered = s.answered;
      is = s.is;
      moments = s.moments;
      left = s.ended;
    })
  ]
]

-- a failure has its own status, or that of want of memory
other_status : (r : CommandRun) (fault : RunFault) (n : ℕ) → exit_status fault ≢ n → 4 ≢ n → EndsReported {T = Unit {0}} r.terminals.errors (Err fault) r.errors_before r.errors_after r.errors_failed r.status → r.status ≡ n → ⊥
other_status r fault n a b ended is = elim ended [ inl t ↦ a (sym t.0 ∙ is) | inr t ↦ b (sym t.0 ∙ is) ]

zero_of : (r : CommandRun) (plan : Plan) → Plans (subcommand_of dexasm r.words) plan → (res : Result (Unit {0}) RunFault) → CarriesOut plan.job (path_of plan.file) (path_of plan.output) r.before r.after res
    → EndsReported r.terminals.errors res r.errors_before r.errors_after r.errors_failed r.status → r.status ≡ 0 → IsAnswered r
zero_of r plan planned (Ok x) h ended is =
    let a = answered_by r plan.job (path_of plan.file) (path_of plan.output) x h in
    record { plan = plan; planned = planned; given = a.0; answer = a.1; input = a.2; answered = a.3; come = a.4; silent = ended.1 }
zero_of r plan planned (Err (Refused fault)) h ended is = absurd (other_status r (Refused fault) 0 (λ e. cc) (λ e. cc) ended is)
zero_of r plan planned (Err Input) h ended is = absurd (other_status r Input 0 (λ e. cc) (λ e. cc) ended is)
zero_of r plan planned (Err Output) h ended is = absurd (other_status r Output 0 (λ e. cc) (λ e. cc) ended is)
zero_of r plan planned (Err Memory) h ended is = absurd (other_status r Memory 0 (λ e. cc) (λ e. cc) ended is)

one_of : (r : CommandRun) (plan : Plan) → Plans (subcommand_of dexasm r.words) plan → (res : Result (Unit {0}) RunFault) → CarriesOut plan.job (path_of plan.file) (path_of plan.output) r.before r.after res
    → EndsReported r.terminals.errors res r.errors_before r.errors_after r.errors_failed r.status → r.status ≡ 1 → IsJobRefused r
one_of r plan planned (Ok x) h ended is = absurd (let e = sym ended.0 ∙ is in cc)
one_of r plan planned (Err (Refused fault)) h ended is =
    let a = refused_by r plan.job (path_of plan.file) (path_of plan.output) fault h in
    record {
      plan = plan;
      planned = planned;
      given = a.0;
      fault = fault;
      input = a.1;
      refused = a.2;
      nothing = a.3;
      reported = elim ended [ inl t ↦ t.1 | inr t ↦ absurd (let e = sym t.0 ∙ is in cc) ];
    }
one_of r plan planned (Err Input) h ended is = absurd (other_status r Input 1 (λ e. cc) (λ e. cc) ended is)
one_of r plan planned (Err Output) h ended is = absurd (other_status r Output 1 (λ e. cc) (λ e. cc) ended is)
one_of r plan planned (Err Memory) h ended is = absurd (other_status r Memory 1 (λ e. cc) (λ e. cc) ended is)

three_of : (r : CommandRun) (plan : Plan) → Plans (subcommand_of dexasm r.words) plan → (res : Result (Unit {0}) RunFault) → CarriesOut plan.job (path_of plan.file) (path_of plan.output) r.before r.after res
    → EndsReported r.terminals.errors res r.errors_before r.errors_after r.errors_failed r.status → r.status ≡ 3 → CantRead r ⊎ CantWrite r
three_of r plan planned (Ok x) h ended is = absurd (let e = sym ended.0 ∙ is in cc)
three_of r plan planned (Err (Refused fault)) h ended is = absurd (other_status r (Refused fault) 3 (λ e. cc) (λ e. cc) ended is)
three_of r plan planned (Err Input) h ended is =
    let a = unread_by r plan.job (path_of plan.file) (path_of plan.output) h in
    inl (record { plan = plan; planned = planned; failed = a.0; nothing = a.1; reported = elim ended [ inl t ↦ t.1 | inr t ↦ absurd (let e = sym t.0 ∙ is in cc) ] })
three_of r plan planned (Err Output) h ended is =
    let a = begun_by r plan.job (path_of plan.file) (path_of plan.output) h in
    inr (record {
      plan = plan;
      planned = planned;
      given = a.0;
      answer = a.1;
      input = a.2;
      answered = a.3;
      begun = a.4;
      reported = elim ended [ inl t ↦ t.1 | inr t ↦ absurd (let e = sym t.0 ∙ is in cc) ];
    })
three_of r plan planned (Err Memory) h ended is = absurd (other_status r Memory 3 (λ e. cc) (λ e. cc) ended is)

four_of : (r : CommandRun) (res : Result (Unit {0}) RunFault) → EndsReported r.terminals.errors res r.errors_before r.errors_after r.errors_failed r.status → r.status ≡ 4 → ReportsIn r Memory
four_of r (Ok x) ended is = absurd (let e = sym ended.0 ∙ is in cc)
four_of r (Err (Refused fault)) ended is = elim ended [ inl t ↦ absurd (let e = sym t.0 ∙ is in cc) | inr t ↦ t.1 ]
four_of r (Err Input) ended is = elim ended [ inl t ↦ absurd (let e = sym t.0 ∙ is in cc) | inr t ↦ t.1 ]
four_of r (Err Output) ended is = elim ended [ inl t ↦ absurd (let e = sym t.0 ∙ is in cc) | inr t ↦ t.1 ]
four_of r (Err Memory) ended is = elim ended [ inl t ↦ t.1 | inr t ↦ t.1 ]

pub zero : ZeroMeans
zero r s is = elim s [
  | inl c ↦ inl (zero_of r c.plan c.planned c.result c.carried c.ended is)
  | inr o ↦ elim o [
    | inl shown ↦ inr shown
    | inr p ↦ absurd (elim p [ inl m ↦ (let e = sym m.status ∙ is in cc) | inr q ↦ elim q [ inl u ↦ (let e = sym u.reported.0 ∙ is in cc) | inr b ↦ (let e = sym b.status ∙ is in cc) ] ])
  ]
]

pub one : OneMeans
one r s is = elim s [
  | inl c ↦ one_of r c.plan c.planned c.result c.carried c.ended is
  | inr o ↦ absurd (elim o [
    | inl shown ↦ elim shown.shown [ inl put ↦ (let e = sym put.1 ∙ is in cc) | inr lost ↦ other_status r Output 1 (λ e. cc) (λ e. cc) lost.3 is ]
    | inr p ↦ elim p [ inl m ↦ (let e = sym m.status ∙ is in cc) | inr q ↦ elim q [ inl u ↦ (let e = sym u.reported.0 ∙ is in cc) | inr b ↦ (let e = sym b.status ∙ is in cc) ] ]
  ])
]

pub three : ThreeMeans
three r s is = elim s [
  | inl c ↦ elim (three_of r c.plan c.planned c.result c.carried c.ended is) [ inl reading ↦ inl reading | inr writing ↦ inr (inl writing) ]
  | inr o ↦ elim o [
    | inl shown ↦ elim shown.shown [
      | inl put ↦ absurd (let e = sym put.1 ∙ is in cc)
      | inr lost ↦ inr (inr (record { files = shown.files; failed = lost.0; reported = elim lost.3 [ inl t ↦ t.1 | inr t ↦ absurd (let e = sym t.0 ∙ is in cc) ] }))
    ]
    | inr p ↦ absurd (elim p [ inl m ↦ (let e = sym m.status ∙ is in cc) | inr q ↦ elim q [ inl u ↦ (let e = sym u.reported.0 ∙ is in cc) | inr b ↦ (let e = sym b.status ∙ is in cc) ] ])
  ]
]

pub four : FourMeans
four r s is = elim s [
  | inl c ↦ four_of r c.result c.ended is
  | inr o ↦ elim o [
    | inl shown ↦ elim shown.shown [
      | inl put ↦ absurd (let e = sym put.1 ∙ is in cc)
      | inr lost ↦ elim lost.3 [ inl t ↦ absurd (let e = sym t.0 ∙ is in cc) | inr t ↦ t.1 ]
    ]
    | inr p ↦ elim p [
      | inl m ↦ absurd (let e = sym m.status ∙ is in cc)
      | inr q ↦ elim q [ inl u ↦ u.reported.1 | inr b ↦ absurd (let e = sym b.status ∙ is in cc) ]
    ]
  ]
]

pub never_lost : OutIsNeverLost
never_lost r s known = elim s [
  | inl c ↦ kept_safe r c.plan c.planned (path_of c.plan.file) refl c.result c.carried known
  | inr o ↦ inl (elim o [ inl shown ↦ shown.files | inr p ↦ elim p [ inl m ↦ m.nothing.files | inr q ↦ elim q [ inl u ↦ u.nothing.files | inr b ↦ b.nothing.files ] ] ])
]
