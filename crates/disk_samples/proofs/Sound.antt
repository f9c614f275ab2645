-- What holds of each disk's log.
use Rattle.std.proofs.Common.{◌≡◌, ◌⊎◌, inl, inr, ℕ, ◌+◌, ◌<◌, ◌≤◌, Bool, true, false, List, [], ◌∷◌, ◌++◌, length, length-append, Option, Some, None, refl, sym, ◌∙◌, ap, subst, arith}
use Rattle.std.specs.Prelude.{if◌then◌else◌, bytes_eq, is_some}
use Rattle.std.specs.Borrow.{Bor}
use Rattle.std.proofs.lemmas.Slice.Eq.{bytes_eq-Decides}
use Rattle.dexasm_world.specs.State.{Path, FileState}
use Rattle.disk_samples.specs.Logs.{stands_at, step, state_of, is_a_name, standing, IsFit, AreAtNames, AreMadeBefore}
use Rattle.disk_samples.specs.declared.change.Change.{Change}
use Rattle.disk_samples.specs.declared.change.Change.TheVariants.{Nothing, Make, Link, Write, Empty, Dress, Keep, Move, Remove}
use Rattle.disk_samples.specs.declared.change.Entry.{Entry}
use Rattle.disk_samples.proofs.Among.{none_stand, standing_within, taken_away}
use Rattle.disk_samples.proofs.Stepping.{state_more}

-- the change puts this file at this place
abbrev Puts : Change → Path → ℕ → Type 0
Puts (Make at m bytes mode) p n = (p ≡ at.now) × (m ≡ n)
Puts (Link at m) p n = (p ≡ at.now) × (m ≡ n)
Puts (Move from to m) p n = (p ≡ to.now) × (m ≡ n)
Puts Nothing p n = ⊥
Puts (Write m piece) p n = ⊥
Puts (Empty m) p n = ⊥
Puts (Dress m mode) p n = ⊥
Puts (Keep m) p n = ⊥
Puts (Remove at) p n = ⊥

put_by : (b : Bool) (P : Type 0) → (b ≡ true → P) → (m n : ℕ) (o : Option ℕ) → (if b then Some m else o) ≡ Some n → (o ≡ Some n) ⊎ (P × (m ≡ n))
put_by true P here m n o is = inr (here refl, cc)
put_by false P here m n o is = inl is

put_at : (place : Path) (m n : ℕ) (stands : Path → Option ℕ) (p : Path) → stands_at place (Some m) stands p ≡ Some n → (stands p ≡ Some n) ⊎ ((p ≡ place) × (m ≡ n))
put_at place m n stands p is = put_by (bytes_eq p place) (p ≡ place) (bytes_eq-Decides p place).0 m n (stands p) is

kept_by : (b : Bool) (n : ℕ) (o : Option ℕ) → (if b then None else o) ≡ Some n → o ≡ Some n
kept_by true n o is = cc
kept_by false n o is = is

-- what stands somewhere after a change stood there, or the change put it there
stood : (c : Change) (s : FileState) (p : Path) (n : ℕ) → (step c s).stands p ≡ Some n → (s.stands p ≡ Some n) ⊎ Puts c p n
stood Nothing s p n is = inl is
stood (Make at m bytes mode) s p n is = put_at at.now m n s.stands p is
stood (Link at m) s p n is = put_at at.now m n s.stands p is
stood (Write m piece) s p n is = inl is
stood (Empty m) s p n is = inl is
stood (Dress m mode) s p n is = inl is
stood (Keep m) s p n is = inl is
stood (Move from to m) s p n is = put_at to.now m n s.stands p (kept_by (bytes_eq p from.now) n (stands_at to.now (Some m) s.stands p) is)
stood (Remove at) s p n is = inl (kept_by (bytes_eq p at.now) n (s.stands p) is)

is_named : (names : List (Bor Path)) (at : Path) (p : Path) → p ≡ at → is_a_name at names ≡ true → is_a_name p names ≡ true
is_named names at p same among = ap (λ q. is_a_name q names) same ∙ among

-- a change that is fit puts files at names alone, and those that were made
fits : (names : List (Bor Path)) (log : List Entry) (c : Change) (p : Path) (n : ℕ) → IsFit names log c → Puts c p n → (is_a_name p names ≡ true) × (n ≤ length log)
fits names log (Make at m bytes mode) p n fit puts = (is_named names at.now p puts.0 fit.0, omega (arith, puts.1, fit.1))
fits names log (Link at m) p n fit puts = (is_named names at.now p puts.0 fit.0, omega (arith, puts.1, fit.1))
fits names log (Move from to m) p n fit puts = (is_named names to.now p puts.0 fit.0, omega (arith, puts.1, fit.1))
fits names log Nothing p n fit puts = absurd puts
fits names log (Write m piece) p n fit puts = absurd puts
fits names log (Empty m) p n fit puts = absurd puts
fits names log (Dress m mode) p n fit puts = absurd puts
fits names log (Keep m) p n fit puts = absurd puts
fits names log (Remove at) p n fit puts = absurd puts

pub numbered_more : (names : List (Bor Path)) (log more : List Entry) (e : Entry) → more ≡ log ++ e ∷ [] → IsFit names log e.change → AreMadeBefore log → AreMadeBefore more
numbered_more names log more e is fit numbered = λ p n there.
    let now : (step e.change (state_of log)).stands p ≡ Some n = ap (λ (s : FileState). s.stands p) (sym (ap state_of is ∙ state_more log e)) ∙ there in
    let longer : length more ≡ length log + 1 = ap length is ∙ length-append log (e ∷ []) in
    elim (stood e.change (state_of log) p n now) [
      | inl was ↦ omega (arith, longer, numbered p n was)
      | inr puts ↦ omega (arith, longer, (fits names log e.change p n fit puts).1)
    ]

pub named_more : (names : List (Bor Path)) (log more : List Entry) (e : Entry) → more ≡ log ++ e ∷ [] → IsFit names log e.change → AreAtNames names log → AreAtNames names more
named_more names log more e is fit named = λ p n there.
    let now : (step e.change (state_of log)).stands p ≡ Some n = ap (λ (s : FileState). s.stands p) (sym (ap state_of is ∙ state_more log e)) ∙ there in
    elim (stood e.change (state_of log) p n now) [
      | inl was ↦ named p n was
      | inr puts ↦ (fits names log e.change p n fit puts).0
    ]

-- a change that was made, or nothing, is fit where that change is
pub fit_made : (names : List (Bor Path)) (log : List Entry) (made change : Change) → (made ≡ Nothing) ⊎ (made ≡ change) → IsFit names log change → IsFit names log made
fit_made names log made change which fit = elim which [
  | inl is ↦ subst (IsFit names log) (sym is) tt
  | inr is ↦ subst (IsFit names log) (sym is) fit
]

-- where there is more room than names, each name can be taken away
pub room_more : (names : List (Bor Path)) (more : List Entry) (capacity : ℕ) → length more + length names ≤ capacity
    → standing (state_of more).stands names + length more ≤ capacity
room_more names more capacity room = omega (arith, room, standing_within (state_of more).stands names)

-- and so it is where one was taken away
pub room_less : (names : List (Bor Path)) (log more : List Entry) (at : Bor Path) (e : Entry) (capacity : ℕ) → more ≡ log ++ e ∷ [] → e.change ≡ Remove at
    → is_a_name at.now names ≡ true → is_some ((state_of log).stands at.now) ≡ true
    → standing (state_of log).stands names + length log ≤ capacity → standing (state_of more).stands names + length more ≤ capacity
room_less names log more at e capacity is removed among there room =
    let now : state_of more ≡ step (Remove at) (state_of log) = ap state_of is ∙ state_more log e ∙ ap (λ c. step c (state_of log)) removed in
    let left : standing (state_of more).stands names ≡ standing (stands_at at.now None (state_of log).stands) names = ap (λ (s : FileState). standing s.stands names) now in
    let longer : length more ≡ length log + 1 = ap length is ∙ length-append log (e ∷ []) in
    omega (arith, room, left, longer, taken_away at.now (state_of log).stands names among there)

-- an empty log
pub numbered_none : (log : List Entry) → log ≡ [] → AreMadeBefore log
numbered_none log is = λ p n there. let e : None ≡ Some n = ap (λ l. (state_of l).stands p) (sym is) ∙ there in cc

pub named_none : (names : List (Bor Path)) (log : List Entry) → log ≡ [] → AreAtNames names log
named_none names log is = λ p n there. let e : None ≡ Some n = ap (λ l. (state_of l).stands p) (sym is) ∙ there in cc

pub room_none : (names : List (Bor Path)) (log : List Entry) (capacity : ℕ) → log ≡ [] → standing (state_of log).stands names + length log ≤ capacity
room_none names log capacity is =
    let none : standing (state_of log).stands names ≡ 0 = ap (λ l. standing (state_of l).stands names) is ∙ none_stand names in
    omega (arith, none, ap length is)

-- a name at which a file stands is one of the names
pub named_some : (names : List (Bor Path)) (log : List Entry) (p : Path) → AreAtNames names log → is_some ((state_of log).stands p) ≡ true → is_a_name p names ≡ true
named_some names log p named there = let at = number_of ((state_of log).stands p) there in named p at.0 at.1
  where
    number_of : (o : Option ℕ) → is_some o ≡ true → (n : ℕ) × (o ≡ Some n)
    number_of None h = cc
    number_of (Some n) h = (n, refl)

-- so there is room to take it away
pub room_there : (names : List (Bor Path)) (log : List Entry) (at : Path) (capacity : ℕ) → AreAtNames names log → is_some ((state_of log).stands at) ≡ true
    → standing (state_of log).stands names + length log ≤ capacity → length log < capacity
room_there names log at capacity named there room =
    omega (arith, room, taken_away at (state_of log).stands names (named_some names log at named there) there)
