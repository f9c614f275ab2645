-- Codes that have nothing to do with payloads: the rules of payloads and switches hold in them, and so do those of branches.
use Rattle.std.proofs.Common.{◌≡◌, ℕ, ℤ, ◌+◌, ◌<◌, ◌≤◌, ◌/◌, List, [], ◌∷◌, ◌++◌, length, take, get_or, refl, ap, sym, ◌∙◌, arith, Option, None, subst, false, true, inl, inr}
use Rattle.std.proofs.lemmas.Bool.{cases_lt}
use Rattle.std.proofs.lemmas.List.{get_or_append_left, take_more, take_all, length_push}
use Rattle.std.proofs.Math.Seq.{get_or-append_seam}
use Rattle.dex_insn.specs.Raw as raw
use Rattle.dex_insn.specs.Raw.{Raw, units, is_payload}
use Rattle.dex_insn.specs.RawInsns.{InsnStands}
use Rattle.program_types.specs.Content as content
use Rattle.program_types.specs.Content.{Name, Insn}
use Rattle.program_types.specs.Formed.{AreAlike, IsSwitch, insn_at, insn_payload, insn_wants, insn_branch, insn_targets, IsTarget}
use Rattle.program_types.specs.declared.payload.Payload.{Payload}
use Rattle.code_rules.specs.inner.Branches.{BranchStays}
use Rattle.code_rules.specs.First.{AllHold}
use Rattle.code_read.specs.Walk.{Run, raw_at, address, starts}
use Rattle.code_read.specs.Symbols.{linked, Resolves}
use Rattle.code_read.specs.Linked.{target_number, AreLinked, KeepRules}
use Rattle.code_read.specs.inner.Plain.{is_plain, ResolvesAtOnce, ArePlain}
use Rattle.code_read.proofs.Runs.{run-more, starts-more, length-of_starts, table-of}
use Rattle.std.proofs.lemmas.Option.{IfSome_then}

-- it is no payload, and refers to none
plain-kind : (T : ℤ → ℕ) (w : Name) (r : Raw) → is_plain r ≡ true → (insn_payload (linked T w r) ≡ None) × (insn_wants (linked T w r) ≡ None)
unfolding is_plain linked insn_payload insn_wants
plain-kind T w (raw.I31t op a offset) e = absurd cc
plain-kind T w (raw.Packed first offsets) e = absurd cc
plain-kind T w (raw.Sparse keys offsets) e = absurd cc
plain-kind T w (raw.Data width bytes) e = absurd cc
plain-kind T w _ e = (refl, refl)

pub plain_body : (r : Raw) → is_plain r ≡ true → is_payload r ≡ false
unfolding is_plain is_payload
plain_body (raw.Packed first offsets) e = absurd cc
plain_body (raw.Sparse keys offsets) e = absurd cc
plain_body (raw.Data width bytes) e = absurd cc
plain_body _ e = refl

no-targets : (i : Insn) → insn_payload i ≡ None → insn_targets i ≡ []
unfolding insn_payload insn_targets
no-targets (content.Packed first to) e = absurd cc
no-targets (content.Sparse keys to) e = absurd cc
no-targets _ e = refl

-- what is said of each raw instruction of a code
pub record ResolvesPlainly (N : ℕ → Name → Type 0) (rs : List Raw) (is : List Insn) : Type 0 where
  pub count : length is ≡ length rs
  pub plain : (k : ℕ) → k < length rs → is_plain (raw_at rs k) ≡ true
  pub leads : (k : ℕ) → k < length rs → BranchStays (length rs) k (insn_at is k)
  pub resolves : (k : ℕ) → k < length rs → Resolves N (target_number (starts rs) (address rs k)) (raw_at rs k) (insn_at is k)

module _ (N : ℕ → Name → Type 0) (rs : List Raw) (is : List Insn) (s : ResolvesPlainly N rs is) where
  no-payload : (k : ℕ) → k < length rs → insn_payload (insn_at is k) ≡ None
  no-payload k l = ap insn_payload (sym (s.resolves k l).symbol) ∙ (plain-kind _ _ (raw_at rs k) (s.plain k l)).0

  no-wants : (k : ℕ) → k < length rs → insn_wants (insn_at is k) ≡ None
  no-wants k l = ap insn_wants (sym (s.resolves k l).symbol) ∙ (plain-kind _ _ (raw_at rs k) (s.plain k l)).1

  pub are-linked : AreLinked N rs is
  are-linked = record { count = s.count; each = λ k l. record { origin = k; counts = inr (λ i x. subst IsSwitch (no-payload k l) x.0, refl); resolves = s.resolves k l } }

  pub keep : KeepRules is
  keep = record {
    targets = λ k l.
        let n = s.count in
        let m : k < length rs = omega (arith, l, n) in
        record {
          lands = IfSome_then (insn_branch (insn_at is k)) {P = λ to. to < length rs} {Q = IsTarget is} (s.leads k m).inside (λ to h. record { inside = omega (arith, h, n); plain = no-payload to h });
          moves = (s.leads k m).moves;
          all = rw (no-targets (insn_at is k) (no-payload k m)) tt;
        };
    payloads = λ k l.
        let n = s.count in
        let m : k < length rs = omega (arith, l, n) in
        record {
          refers = λ h. absurd (subst (λ (p : Option Payload). AreAlike p p) (no-wants k m) h);
          used = λ h. absurd (subst IsSwitch (no-payload k m) h);
        };
  }

-- ---- one more

pub raw_front : (rs : List Raw) (r : Raw) (k : ℕ) → k < length rs → raw_at (rs ++ r ∷ []) k ≡ raw_at rs k
unfolding raw_at
raw_front rs r k lt = get_or_append_left rs (r ∷ []) (raw.I10x 0) k lt

pub raw_last : (rs : List Raw) (r : Raw) → raw_at (rs ++ r ∷ []) (length rs) ≡ r
unfolding raw_at
raw_last rs r = get_or-append_seam rs r [] (raw.I10x 0)

insn_front : (is : List Insn) (i : Insn) (k : ℕ) → k < length is → insn_at (is ++ i ∷ []) k ≡ insn_at is k
insn_front is i k lt = get_or_append_left is (i ∷ []) (content.I10x 0) k lt

insn_last : (is : List Insn) (i : Insn) → insn_at (is ++ i ∷ []) (length is) ≡ i
insn_last is i = get_or-append_seam is i [] (content.I10x 0)

-- From the first unit to this one such instructions stand, which begin at the first k of these units, and say these.
pub record PlainRun (N : ℕ → Name → Type 0) (us begins : List ℕ) (count : ℕ) (is : List Insn) (k at : ℕ) : Type 0 where
  pub raws : List Raw
  pub count_is : length raws ≡ k
  pub said : length is ≡ k
  pub run : Run us 0 raws at
  pub begins_are : take k begins ≡ starts raws
  pub each : AllHold (λ j. ResolvesAtOnce N begins count (get_or begins j 0) j (raw_at raws j) (insn_at is j)) k

module _ (N : ℕ → Name → Type 0) (us begins : List ℕ) (count : ℕ) where
  pub begun : PlainRun N us begins count [] 0 0
  begun = record { raws = []; count_is = refl; said = refl; run = refl; begins_are = refl; each = λ j lt. absurd (omega (arith, lt)) }

  module _ (is : List Insn) (k at : ℕ) (r : Raw) (i : Insn) (p : PlainRun N us begins count is k at) where
    each_more : ResolvesAtOnce N begins count (get_or begins k 0) k r i → (j : ℕ) → j < k + 1 → ResolvesAtOnce N begins count (get_or begins j 0) j (raw_at (p.raws ++ r ∷ []) j) (insn_at (is ++ i ∷ []) j)
    each_more one j lt =
        let c = p.count_is in
        let d = p.said in
        elim (cases_lt j k) [
          | inl l ↦
              subst (λ (x : Raw). ResolvesAtOnce N begins count (get_or begins j 0) j x (insn_at (is ++ i ∷ []) j)) (sym (raw_front p.raws r j (omega (arith, l, c))))
              (subst (λ (x : Insn). ResolvesAtOnce N begins count (get_or begins j 0) j (raw_at p.raws j) x) (sym (insn_front is i j (omega (arith, l, d)))) (p.each j l))
          | inr g ↦
              let last : k ≡ j = omega (arith, lt, g) in
              subst (λ (n : ℕ). ResolvesAtOnce N begins count (get_or begins n 0) n (raw_at (p.raws ++ r ∷ []) n) (insn_at (is ++ i ∷ []) n)) last
              (subst (λ (x : Raw). ResolvesAtOnce N begins count (get_or begins k 0) k x (insn_at (is ++ i ∷ []) k)) (sym (subst (λ (n : ℕ). raw_at (p.raws ++ r ∷ []) n ≡ r) c (raw_last p.raws r)))
              (subst (λ (x : Insn). ResolvesAtOnce N begins count (get_or begins k 0) k r x) (sym (subst (λ (n : ℕ). insn_at (is ++ i ∷ []) n ≡ i) d (insn_last is i))) one))
        ]

    pub turned : k < length begins → get_or begins k 0 ≡ at → InsnStands us at r → ResolvesAtOnce N begins count (get_or begins k 0) k r i → PlainRun N us begins count (is ++ i ∷ []) (k + 1) (at + units r)
    turned inside here stands one = record {
      raws = p.raws ++ r ∷ [];
      count_is = length_push p.raws r ∙ ap (λ (n : ℕ). n + 1) p.count_is;
      said = length_push is i ∙ ap (λ (n : ℕ). n + 1) p.said;
      run = run-more us 0 p.raws at r p.run stands;
      begins_are = take_more begins k 0 inside ∙ ap (λ (x : ℕ). take k begins ++ x ∷ []) here ∙ ap (λ (xs : List ℕ). xs ++ at ∷ []) p.begins_are ∙ sym (starts-more us 0 p.raws at r p.run);
      each = each_more one;
    }

  -- all of them
  module _ (is : List Insn) (k at : ℕ) (p : PlainRun N us begins count is k at) (short : length us ≤ 8589934590) (all : length begins ≤ k) (end : at ≡ length us / 2) where
    begins_all : begins ≡ starts p.raws
    begins_all = sym (take_all k begins all) ∙ p.begins_are

    run_all : Run us 0 p.raws (length us / 2)
    run_all = subst (λ (n : ℕ). Run us 0 p.raws n) end p.run

    said_all : ResolvesPlainly N p.raws is
    said_all =
        let c = p.count_is in
        let size : length begins ≡ length p.raws = ap length begins_all ∙ length-of_starts p.raws in
        record {
          count = p.said ∙ sym c;
          plain = λ j l. (p.each j (omega (arith, l, c))).plain;
          leads = λ j l. subst (λ (n : ℕ). BranchStays n j (insn_at is j)) size (p.each j (omega (arith, l, c))).leads;
          resolves = λ j l. subst (λ (ss : List ℕ). Resolves N (target_number ss (get_or ss j 0)) (raw_at p.raws j) (insn_at is j)) begins_all (p.each j (omega (arith, l, c))).resolves;
        }

    pub plain_all : ArePlain N us begins count is
    plain_all =
        let c = p.said in
        record {
          read = record {
            raws = p.raws;
            table = table-of us begins p.raws short run_all begins_all;
            insns = record { walk = record { run = run_all }; linked = are-linked N p.raws is said_all; keep = keep N p.raws is said_all };
          };
          among = λ j l. (p.each j (omega (arith, l, c))).among;
        }
