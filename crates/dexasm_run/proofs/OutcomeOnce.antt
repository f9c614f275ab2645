-- A job has one outcome on the bytes that it is given.
use Rattle.std.proofs.Common.{◌≡◌, ℕ, List, Bool, true, false, inl, inr, sym, ap, subst, ◌∙◌, Result, Ok, Err}
use Rattle.dex_base.specs.declared.fault.Fault.{Fault}
use Rattle.dexasm_world.specs.declared.job.Job.{Job}
use Rattle.dexasm_world.specs.declared.job.Job.TheVariants.{Check, List as Listing, Assemble, Strip}
use Rattle.dexasm_run.specs.Answers.{Answer, IsAligned, IsAssembled, IsUnassembled, Outcome, Refusal}
use Rattle.dexasm_run.proofs.AnswerOnce.{answer_once, listed_one}
use Rattle.dexasm_run.proofs.ListedLaws.{is_read}
use Rattle.code_align.specs.Programs.{AlignedProgram}
use Rattle.code_align.proofs.OneAligned.{program_aligned_one, too_long_unformed}
use Rattle.file_limits.specs.Limits.{Fits, IsLowestLimit}
use Rattle.file_limits.proofs.LimitLaws.{fits_breaks_none}
use Rattle.file_limits.proofs.OneLimit.{limit_one}
use Rattle.file_read.proofs.OneRefusal.{none_meant, one_refusal}
use Rattle.file_read.proofs.PassLaws.{program_one}
use Rattle.listing_parse.proofs.ExactLaws.{listing_none}
use Rattle.listing_parse.proofs.OneFault.{fault_one}
use Rattle.listing_parse.specs.Text.{ListingBreaks}
use Rattle.program_types.specs.Content.{Program}

-- a program that fits breaks no limit
not_limited : (p q : Program) (f : Fault) → p ≡ q → Fits p → IsLowestLimit q f → ⊥
not_limited p q f same fits limit = fits_breaks_none q (subst Fits same fits) f.code f.place limit.breaks

limits_one : (p q : Program) (e f : Fault) → p ≡ q → IsLowestLimit p e → IsLowestLimit q f → e ≡ f
limits_one p q e f same a b = limit_one q e f (subst (λ (r : Program). IsLowestLimit r e) same a) b

aligned_one : (p q r s : Program) → p ≡ q → IsAligned p r → IsAligned q s → r ≡ s
aligned_one p q r s same a b = program_aligned_one q r s (subst (λ (x : Program). AlignedProgram x r) same a.aligned) b.aligned

-- ---- an answer or a refusal

written_not_unwritten : (align : Bool) (p q : Program) (made : List ℕ) (f : Fault) → p ≡ q → IsAssembled align p made → IsUnassembled align q f → ⊥
written_not_unwritten false p q made f same x limit = not_limited p q f same x.0 limit
written_not_unwritten true p q made f same x (inl long) = too_long_unformed q x.0 f long (subst (λ (r : Program). AlignedProgram r x.0) same x.1.aligned) x.1.formed
written_not_unwritten true p q made f same x (inr limit) = not_limited x.0 limit.0 f (aligned_one p q x.0 limit.0 same x.1 limit.1) x.2 limit.2

answered_not_refused : (job : Job) (given made : List ℕ) (f : Fault) → Answer job given made → Refusal job given f → ⊥
answered_not_refused Check given made f x r = none_meant given f x.0 r x.1
answered_not_refused Listing given made f x r = none_meant given f x.0 r x.1
answered_not_refused (Assemble align) given made f x (inl r) = listing_none given x.0 f.code f.place r (is_read given x.0 x.1)
answered_not_refused (Assemble align) given made f x (inr r) = written_not_unwritten align x.0 r.0 made f (listed_one given x.0 r.0 x.1 r.1) x.2 r.2
answered_not_refused Strip given made f x (inl r) = none_meant given f x.program r x.meant
answered_not_refused Strip given made f x (inr r) = not_limited x.program r.program f (program_one given x.program r.program x.meant r.meant) x.fits r.limit

-- ---- two refusals

listing_refused_one : (given : List ℕ) (e f : Fault) → ListingBreaks given e.code e.place → ListingBreaks given f.code f.place → e ≡ f
listing_refused_one given e f a b =
    let same = fault_one given e.code f.code e.place f.place a b in
    let code = same.0 in let place = same.1 in
    (λ k. record { code = code k; place = place k })

unwritten_once : (align : Bool) (p q : Program) (e f : Fault) → p ≡ q → IsUnassembled align p e → IsUnassembled align q f → e ≡ f
unwritten_once false p q e f same x y = limits_one p q e f same x y
unwritten_once true p q e f same (inl x) (inl y) = x.is ∙ sym y.is
unwritten_once true p q e f same (inl x) (inr y) = absurd (too_long_unformed p y.0 e x (subst (λ (r : Program). AlignedProgram r y.0) (sym same) y.1.aligned) y.1.formed)
unwritten_once true p q e f same (inr x) (inl y) = absurd (too_long_unformed q x.0 f y (subst (λ (r : Program). AlignedProgram r x.0) same x.1.aligned) x.1.formed)
unwritten_once true p q e f same (inr x) (inr y) = limits_one x.0 y.0 e f (aligned_one p q x.0 y.0 same x.1 y.1) x.2 y.2

refusal_once : (job : Job) (given : List ℕ) (e f : Fault) → Refusal job given e → Refusal job given f → e ≡ f
refusal_once Check given e f a b = one_refusal given e f a b
refusal_once Listing given e f a b = one_refusal given e f a b
refusal_once (Assemble align) given e f (inl a) (inl b) = listing_refused_one given e f a b
refusal_once (Assemble align) given e f (inl a) (inr b) = absurd (listing_none given b.0 e.code e.place a (is_read given b.0 b.1))
refusal_once (Assemble align) given e f (inr a) (inl b) = absurd (listing_none given a.0 f.code f.place b (is_read given a.0 a.1))
refusal_once (Assemble align) given e f (inr a) (inr b) = unwritten_once align a.0 b.0 e f (listed_one given a.0 b.0 a.1 b.1) a.2 b.2
refusal_once Strip given e f (inl a) (inl b) = one_refusal given e f a b
refusal_once Strip given e f (inl a) (inr b) = absurd (none_meant given e b.program a b.meant)
refusal_once Strip given e f (inr a) (inl b) = absurd (none_meant given f a.program b a.meant)
refusal_once Strip given e f (inr a) (inr b) = limits_one a.program b.program e f (program_one given a.program b.program a.meant b.meant) a.limit b.limit

-- ---- an outcome

pub outcome_once : (job : Job) (given : List ℕ) (x y : Result (List ℕ) Fault) → Outcome job given x → Outcome job given y → x ≡ y
outcome_once job given (Ok a) (Ok b) p q = ap (λ (made : List ℕ). Ok made) (answer_once job given a b p q)
outcome_once job given (Ok a) (Err f) p q = absurd (answered_not_refused job given a f p q)
outcome_once job given (Err e) (Ok b) p q = absurd (answered_not_refused job given b e q p)
outcome_once job given (Err e) (Err f) p q = ap (λ (fault : Fault). Err fault) (refusal_once job given e f p q)
