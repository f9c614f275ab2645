-- A job has one answer to the bytes that it is given.
use Rattle.std.proofs.Common.{◌≡◌, ℕ, List, Bool, true, false, sym, ap, ◌∙◌, subst}
use Rattle.dexasm_world.specs.declared.job.Job.{Job}
use Rattle.dexasm_world.specs.declared.job.Job.TheVariants.{Check, List as Listing, Assemble, Strip}
use Rattle.dexasm_run.specs.Answers.{Answer, IsAssembled, Lists}
use Rattle.code_align.specs.Programs.{AlignedProgram}
use Rattle.file_read.proofs.RangeLaws.{well_formed}
use Rattle.file_read.proofs.PassLaws.{program_one}
use Rattle.file_write.proofs.OneFile.{file_one, stripped_same}
use Rattle.file_write.specs.Written.{IsFileOf}
use Rattle.dexasm_run.proofs.ListedLaws.{is_read}
use Rattle.listing_parse.proofs.ExactLaws.{listing_one}
use Rattle.listing_parse.specs.Text.{IsListing}
use Rattle.listing_print.specs.Canon.{canon}
use Rattle.program_rules.specs.WellFormed.{WellFormed}
use Rattle.program_types.specs.Content.{Program}
use Rattle.listing_laws.proofs.ClassRuns.{printed_again}
use Rattle.listing_lines.specs.declared.form.Form.TheVariants.{Two}
use Rattle.code_align.proofs.OneAligned.{program_aligned_one}

-- a program has one file, and one aligned
written_once : (align : Bool) (p q : Program) (a b : List ℕ) → p ≡ q → IsAssembled align p a → IsAssembled align q b → a ≡ b
written_once false p q a b same x y = file_one p a b x.1 (subst (λ (r : Program). IsFileOf r b) (sym same) y.1)
written_once true p q a b same x y =
    let one = program_aligned_one p x.0 y.0 x.1.aligned (subst (λ (r : Program). AlignedProgram r y.0) (sym same) y.1.aligned) in
    file_one x.0 a b x.3 (subst (λ (r : Program). IsFileOf r b) (sym one) y.3)

pub listed_one : (given : List ℕ) (p q : Program) → Lists given p → Lists given q → p ≡ q
listed_one given p q x y = listing_one given p q (is_read given p x) (is_read given q y)

pub answer_once : (job : Job) (given a b : List ℕ) → Answer job given a → Answer job given b → a ≡ b
answer_once Check given a b x y = x.2 ∙ sym y.2
answer_once Listing given a b x y = x.2 ∙ ap canon (program_one given x.0 y.0 x.1 y.1) ∙ sym y.2
answer_once (Assemble align) given a b x y = written_once align x.0 y.0 a b (listed_one given x.0 y.0 x.1 y.1) x.2 y.2
answer_once Strip given a b x y = stripped_same given given a b x y (program_one given x.program y.program x.meant y.meant)

pub listed_once : (file text made small : List ℕ) → Answer Listing file text → Answer (Assemble false) text made → Answer Strip file small → made ≡ small
listed_once file text made small x y z =
    let meant = program_one file x.0 z.program x.1 z.meant in
    let formed = subst WellFormed (sym meant) (well_formed small z.file.packed.bytes z.program z.file.means) in
    let listed = subst (λ (t : List ℕ). IsListing t x.0) (sym x.2) (printed_again Two x.0 formed) in
    let same = listing_one text x.0 y.0 listed (is_read text y.0 y.1) in
    file_one y.0 made small y.2.1 (subst (λ (p : Program). IsFileOf p small) (sym meant ∙ same) z.file)
