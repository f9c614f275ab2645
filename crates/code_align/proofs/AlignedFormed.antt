-- An aligned code is well formed as the code was.
use Rattle.std.proofs.Common.{◌≡◌, ◌≢◌, ℕ, ◌+◌, ◌<◌, ◌≤◌, List, [], ◌∷◌, map, length, refl, ap, sym, ◌∙◌, arith, zero, suc, subst, Bool, true, false, Option, Some, None, inl, inr, ◌⊎◌, if◌then◌else◌}
use Rattle.std.specs.Prelude.{option_map, IfSome, IfNone}
use Rattle.std.specs.List.{AllByRecursion}
use Rattle.std.proofs.lemmas.Bool.{cases_lt}
use Rattle.std.proofs.lemmas.List.{length-map, get_or-map}
use Rattle.dex_insn.specs.Opcodes.{formats}
use Rattle.program_types.specs.Content.{Insn, Code, Try, Catch}
use Rattle.program_types.specs.Content as made
use Rattle.program_types.specs.declared.payload.Payload.{Payload}
use Rattle.program_types.specs.declared.payload.Payload.TheVariants as payload
use Rattle.program_types.specs.Operands.{IsOperand}
use Rattle.program_types.specs.Formed.{insn_at, try_at, insn_payload, insn_wants, insn_reach, insn_branch, insn_short_branch, insn_targets, insn_registers, AreAmong, AreAlike, IsSwitch, RefersToPayload, IsTarget, TargetHolds, PayloadHolds, TryFormed, IsFormed}
use Rattle.code_align.specs.Aligned.{with_nops, PadsPayloads, nops_to, moved, moved_insn, moved_catch, moved_try, padded, Aligned}
use Rattle.code_align.proofs.PadLaws.{length-with_nops, pads-count}
use Rattle.dex_base.proofs.ListFacts.{all_map, all_weaker}
use Rattle.dex_base.proofs.OptionLaws.{IfSome-map}

-- ---- the new numbers rise

pub moved-next : (ps : List Bool) (k : ℕ) → moved ps k < moved ps (suc k)
moved-next [] k = omega arith
moved-next (true ∷ ps) zero = omega arith
moved-next (false ∷ ps) zero = omega arith
moved-next (p ∷ ps) (suc k) = let r = moved-next ps k in omega arith

pub moved-rises : (ps : List Bool) (i j : ℕ) → i < j → moved ps i < moved ps j
moved-rises ps i zero l = absurd (omega arith)
moved-rises ps i (suc j) l = elim (cases_lt i j) [
  | inl a ↦ let r = moved-rises ps i j a in let n = moved-next ps j in omega arith
  | inr a ↦ let e : i ≡ j = omega arith in subst (λ (m : ℕ). moved ps m < moved ps (suc j)) (sym e) (moved-next ps j)
]

pub moved-le : (ps : List Bool) (i j : ℕ) → i ≤ j → moved ps i ≤ moved ps j
moved-le ps i j l = elim (cases_lt i j) [
  | inl a ↦ let r = moved-rises ps i j a in omega arith
  | inr a ↦ let e : i ≡ j = omega arith in subst (λ (m : ℕ). moved ps i ≤ moved ps m) e (omega arith)
]

pub moved-one : (ps : List Bool) (i j : ℕ) → moved ps i ≡ moved ps j → i ≡ j
moved-one ps i j e = elim (cases_lt i j) [
  | inl a ↦ let r = moved-rises ps i j a in absurd (omega arith)
  | inr a ↦ elim (cases_lt j i) [
    | inl b ↦ let r = moved-rises ps j i b in absurd (omega arith)
    | inr b ↦ omega arith
  ]
]

-- ---- which instruction has which number

-- Number k is a nop, or an instruction that was moved there.
Origin : List Bool → List Insn → ℕ → Type 0
Origin ps is k = (insn_at (with_nops ps is) k ≡ made.I10x 0) ⊎ ((j : ℕ) × (j < length is) × (moved ps j ≡ k) × (insn_at (with_nops ps is) k ≡ insn_at is j))

deeper : (q : Bool) (i : Insn) (ps : List Bool) (is : List Insn) (k m : ℕ) → insn_at (with_nops (q ∷ ps) (i ∷ is)) m ≡ insn_at (with_nops ps is) k → m ≡ (if q then 1 else 0) + suc k → Origin ps is k → Origin (q ∷ ps) (i ∷ is) m
unfolding Origin
deeper q i ps is k m e n (inl a) = inl (e ∙ a)
deeper q i ps is k m e n (inr a) = let l = a.1 in let t = a.2 in inr (suc a.0, omega arith, omega arith, e ∙ a.3)

origin : (ps : List Bool) (is : List Insn) (k : ℕ) → length ps ≡ length is → k < length (with_nops ps is) → Origin ps is k
unfolding Origin
origin [] [] k e l = absurd (omega arith)
origin [] (i ∷ is) k e l = absurd (omega arith)
origin (p ∷ ps) [] k e l = absurd (omega arith)
origin (true ∷ ps) (i ∷ is) zero e l = inl refl
origin (true ∷ ps) (i ∷ is) (suc zero) e l = inr (zero, omega arith, refl, refl)
origin (true ∷ ps) (i ∷ is) (suc (suc k)) e l = deeper true i ps is k (suc (suc k)) refl (omega arith) (origin ps is k (omega arith) (omega arith))
origin (false ∷ ps) (i ∷ is) zero e l = inr (zero, omega arith, refl, refl)
origin (false ∷ ps) (i ∷ is) (suc k) e l = deeper false i ps is k (suc k) refl (omega arith) (origin ps is k (omega arith) (omega arith))

-- each instruction stands where it was moved
there : (ps : List Bool) (is : List Insn) (j : ℕ) → length ps ≡ length is → j < length is → insn_at (with_nops ps is) (moved ps j) ≡ insn_at is j
there [] [] j e l = absurd (omega arith)
there [] (i ∷ is) j e l = absurd (omega arith)
there (p ∷ ps) [] j e l = absurd (omega arith)
there (true ∷ ps) (i ∷ is) zero e l = refl
there (false ∷ ps) (i ∷ is) zero e l = refl
there (true ∷ ps) (i ∷ is) (suc j) e l =
    let n : suc j + (1 + nops_to ps j) ≡ suc (suc (moved ps j)) = omega arith in
    ap (λ (m : ℕ). insn_at (made.I10x 0 ∷ i ∷ with_nops ps is) m) n ∙ there ps is j (omega arith) (omega arith)
there (false ∷ ps) (i ∷ is) (suc j) e l =
    let n : suc j + (0 + nops_to ps j) ≡ suc (moved ps j) = omega arith in
    ap (λ (m : ℕ). insn_at (i ∷ with_nops ps is) m) n ∙ there ps is j (omega arith) (omega arith)

-- ---- what a moved instruction says

all-moved : {A B : Type 0} (f : A → B) (P : A → Type 0) (Q : B → Type 0) (ts : List A) → ((t : A) → P t → Q (f t)) → AllByRecursion P ts → AllByRecursion Q (map f ts)
all-moved f P Q ts g h = all_map Q f ts (all_weaker P (λ t. Q (f t)) g ts h)

module _ (f : ℕ → ℕ) where
  payload-same : (i : Insn) → insn_payload (moved_insn f i) ≡ insn_payload i
  unfolding insn_payload
  payload-same (made.I10t op to) = refl
  payload-same _ = refl

  wants-same : (i : Insn) → insn_wants (moved_insn f i) ≡ insn_wants i
  unfolding insn_wants
  wants-same (made.I31t op a to) = refl
  wants-same _ = refl

  branch-same : (i : Insn) → insn_branch (moved_insn f i) ≡ option_map f (insn_branch i)
  unfolding insn_branch
  branch-same (made.I10t op to) = refl
  branch-same _ = refl

  short-same : (i : Insn) → insn_short_branch (moved_insn f i) ≡ option_map f (insn_short_branch i)
  unfolding insn_branch insn_short_branch
  short-same (made.I10t op to) = refl
  short-same _ = refl

  targets-same : (i : Insn) → insn_targets (moved_insn f i) ≡ map f (insn_targets i)
  unfolding insn_targets
  targets-same (made.Packed first to) = refl
  targets-same (made.Sparse keys to) = refl
  targets-same _ = refl

  registers-same : (i : Insn) → insn_registers (moved_insn f i) ≡ insn_registers i
  unfolding insn_registers
  registers-same (made.I10t op to) = refl
  registers-same _ = refl

  -- only what refers to a payload has a reach
  reach-same : (i : Insn) → AreAlike (insn_wants i) (insn_wants i) → insn_reach (moved_insn f i) ≡ f (insn_reach i)
  unfolding insn_wants insn_reach
  reach-same (made.I31t op a to) h = refl
  reach-same _ h = absurd h

  operand-moved : (m n : ℕ) (i : Insn) → ((t : ℕ) → t < m → f t < n) → IsOperand m i → IsOperand n (moved_insn f i)
  operand-moved m n (made.I10t op to) g h = (h.0, g to h.1)
  operand-moved m n (made.I20t op to) g h = (h.0, g to h.1)
  operand-moved m n (made.I21t op a to) g h = (h.0, h.1, g to h.2)
  operand-moved m n (made.I22t op a b to) g h = (h.0, h.1, h.2, g to h.3)
  operand-moved m n (made.I30t op to) g h = (h.0, g to h.1)
  operand-moved m n (made.I31t op a to) g h = (h.0, h.1, g to h.2)
  operand-moved m n (made.Packed first to) g h = let k = length-map to f in let l = h.1 in (h.0, omega arith, all-moved f (λ t. t < m) (λ t. t < n) to g h.2)
  operand-moved m n (made.Sparse keys to) g h = let k = length-map to f in let e = h.0 in let l = h.1 in (omega arith, omega arith, h.2, h.3, all-moved f (λ t. t < m) (λ t. t < n) to g h.4)
  operand-moved m n _ g h = h

-- ---- a nop

nop-operand : (n : ℕ) → IsOperand n (made.I10x 0)
unfolding formats
nop-operand n = refl

self-alike : (w l : Option Payload) → AreAlike w l → AreAlike w w
self-alike (Some payload.PackedSwitch) l h = tt
self-alike (Some payload.SparseSwitch) l h = tt
self-alike (Some payload.Array) l h = tt
self-alike None l h = h

no-wants : (o : Option Payload) → AreAlike (insn_wants (made.I10x 0)) o → ⊥
unfolding insn_wants
no-wants o h = h

no-switch : IsSwitch (insn_payload (made.I10x 0)) → ⊥
unfolding insn_payload
no-switch h = h

two-alike : {o p q r : Option Payload} → o ≡ p → q ≡ r → AreAlike o q → AreAlike p r
two-alike {o} {p} {q} {r} e f h = subst (λ (x : Option Payload). AreAlike p x) f (subst (λ (x : Option Payload). AreAlike x q) e h)

none-moved : (f : ℕ → ℕ) (o : Option ℕ) (cs : List Catch) → IfNone o (cs ≢ []) → IfNone (option_map f o) (map (moved_catch f) cs ≢ [])
none-moved f None [] h = absurd (h refl)
none-moved f None (c ∷ cs) h = λ e. cc
none-moved f (Some k) cs h = tt

-- ---- the code

module _ (c : Code) (ps : List Bool) (good : PadsPayloads ps c.insns) (formed : IsFormed c) where
  abbrev new : List Insn
  new = map (moved_insn (moved ps)) (with_nops ps c.insns)

  count : length ps ≡ length c.insns
  count = pads-count ps c.insns good

  length-new : length new ≡ moved ps (length c.insns)
  length-new = length-map (with_nops ps c.insns) (moved_insn (moved ps)) ∙ length-with_nops ps c.insns count ∙ ap (moved ps) count

  at-new : (k : ℕ) → k < length (with_nops ps c.insns) → insn_at new k ≡ moved_insn (moved ps) (insn_at (with_nops ps c.insns) k)
  at-new k l = get_or-map (moved_insn (moved ps)) (with_nops ps c.insns) k (made.I10x 0) (made.I10x 0) l

  inside : (j : ℕ) → j < length c.insns → moved ps j < length (with_nops ps c.insns)
  inside j l = let r = moved-rises ps j (length c.insns) l in let n = length-with_nops ps c.insns count in let e = ap (moved ps) count in omega arith

  at-moved : (j : ℕ) → j < length c.insns → insn_at new (moved ps j) ≡ moved_insn (moved ps) (insn_at c.insns j)
  at-moved j l = at-new (moved ps j) (inside j l) ∙ ap (moved_insn (moved ps)) (there ps c.insns j count l)

  below-new : (j : ℕ) → j < length c.insns → moved ps j < length new
  below-new j l = let r = moved-rises ps j (length c.insns) l in let n = length-new in omega arith

  -- what holds of nops and of what is moved holds of all
  each-new : (P : ℕ → Insn → Type 0) → ((k : ℕ) → P k (made.I10x 0)) → ((j : ℕ) → j < length c.insns → P (moved ps j) (moved_insn (moved ps) (insn_at c.insns j)))
      → (k : ℕ) → k < length new → P k (insn_at new k)
  unfolding Origin
  each-new P nops rest k l =
      let m = length-map (with_nops ps c.insns) (moved_insn (moved ps)) in
      elim (origin ps c.insns k count (omega arith)) [
        | inl a ↦ subst (λ (i : Insn). P k i) (sym (at-new k (omega arith) ∙ ap (moved_insn (moved ps)) a)) (nops k)
        | inr a ↦ subst (λ (i : Insn). P k i) (sym (at-new k (omega arith) ∙ ap (moved_insn (moved ps)) a.3))
            (subst (λ (n : ℕ). P n (moved_insn (moved ps) (insn_at c.insns a.0))) a.2 (rest a.0 a.1))
      ]

  nop-resolves : AreAmong c.registers (made.I10x 0) × IfSome (insn_branch (made.I10x 0)) (IsTarget new) × ((k : ℕ) → IfSome (insn_short_branch (made.I10x 0)) (λ to. to ≢ k)) × AllByRecursion (IsTarget new) (insn_targets (made.I10x 0))
  unfolding insn_registers insn_branch insn_short_branch insn_targets
  nop-resolves = (tt, tt, λ k. tt, tt)

  among : (k : ℕ) → k < length new → AreAmong c.registers (insn_at new k)
  among = each-new (λ k i. AreAmong c.registers i) (λ k. nop-resolves.0)
      (λ j l. subst (λ (vs : List ℕ). AllByRecursion (λ v. v < c.registers) vs) (sym (registers-same (moved ps) (insn_at c.insns j))) (formed.named.each j l))

  operands : (k : ℕ) → k < length new → IsOperand (length new) (insn_at new k)
  operands = each-new (λ k i. IsOperand (length new) i) (λ k. nop-operand (length new))
      (λ j l. operand-moved (moved ps) (length c.insns) (length new) (insn_at c.insns j) below-new (formed.operands j l))

  target-moved : (to : ℕ) → IsTarget c.insns to → IsTarget new (moved ps to)
  target-moved to t = record { inside = below-new to t.inside; plain = ap insn_payload (at-moved to t.inside) ∙ payload-same (moved ps) (insn_at c.insns to) ∙ t.plain }

  targets : (k : ℕ) → k < length new → TargetHolds new k
  targets k l = record {
    lands = each-new (λ n i. IfSome (insn_branch i) (IsTarget new)) (λ n. nop-resolves.1) (λ j m. subst (λ (o : Option ℕ). IfSome o (IsTarget new)) (sym (branch-same (moved ps) (insn_at c.insns j)))
        (IfSome-map (moved ps) (IsTarget c.insns) (IsTarget new) (insn_branch (insn_at c.insns j)) target-moved (formed.targets j m).lands)) k l;
    moves = each-new (λ n i. IfSome (insn_short_branch i) (λ to. to ≢ n)) nop-resolves.2 (λ j m. subst (λ (o : Option ℕ). IfSome o (λ to. to ≢ moved ps j)) (sym (short-same (moved ps) (insn_at c.insns j)))
        (IfSome-map (moved ps) (λ to. to ≢ j) (λ to. to ≢ moved ps j) (insn_short_branch (insn_at c.insns j)) (λ to ne e. ne (moved-one ps to j e)) (formed.targets j m).moves)) k l;
    all = each-new (λ n i. AllByRecursion (IsTarget new) (insn_targets i)) (λ n. nop-resolves.3) (λ j m. subst (λ (ts : List ℕ). AllByRecursion (IsTarget new) ts) (sym (targets-same (moved ps) (insn_at c.insns j)))
        (all-moved (moved ps) (IsTarget c.insns) (IsTarget new) (insn_targets (insn_at c.insns j)) target-moved (formed.targets j m).all)) k l;
  }

  refers-moved : (j k : ℕ) → RefersToPayload c.insns j k → RefersToPayload new (moved ps j) (moved ps k)
  refers-moved j k r = record {
    there = below-new j r.there;
    payload = below-new k r.payload;
    kind = two-alike (sym (ap insn_wants (at-moved j r.there) ∙ wants-same (moved ps) (insn_at c.insns j))) (sym (ap insn_payload (at-moved k r.payload) ∙ payload-same (moved ps) (insn_at c.insns k))) r.kind;
    leads = ap insn_reach (at-moved j r.there) ∙ reach-same (moved ps) (insn_at c.insns j) (self-alike _ _ r.kind) ∙ ap (moved ps) r.leads;
  }

  -- what refers to a moved payload was moved
  refers-back : (m j : ℕ) → j < length c.insns → RefersToPayload new m (moved ps j) → (a : ℕ) × (moved ps a ≡ m) × RefersToPayload c.insns a j
  unfolding Origin
  refers-back m j l r =
      let n = length-map (with_nops ps c.insns) (moved_insn (moved ps)) in
      let t = r.there in
      elim (origin ps c.insns m count (omega arith)) [
        | inl a ↦ absurd (no-wants (insn_payload (insn_at new (moved ps j)))
            (two-alike (ap insn_wants (at-new m (omega arith) ∙ ap (moved_insn (moved ps)) a)) refl r.kind))
        | inr a ↦
            let e : insn_at new m ≡ moved_insn (moved ps) (insn_at c.insns a.0) = at-new m (omega arith) ∙ ap (moved_insn (moved ps)) a.3 in
            let kind : AreAlike (insn_wants (insn_at c.insns a.0)) (insn_payload (insn_at c.insns j)) =
            two-alike (ap insn_wants e ∙ wants-same (moved ps) (insn_at c.insns a.0)) (ap insn_payload (at-moved j l) ∙ payload-same (moved ps) (insn_at c.insns j)) r.kind in (
              a.0,
              a.2,
              record {
                there = a.1;
                payload = l;
                kind = kind;
                leads = moved-one ps (insn_reach (insn_at c.insns a.0)) j (sym (reach-same (moved ps) (insn_at c.insns a.0) (self-alike _ _ kind)) ∙ sym (ap insn_reach e) ∙ r.leads);
              },
            )
      ]

  payloads : (k : ℕ) → k < length new → PayloadHolds new k
  payloads k l = record {
    refers = each-new (λ n i. AreAlike (insn_wants i) (insn_wants i) → RefersToPayload new n (insn_reach i)) (λ n h. absurd (no-wants (insn_wants (made.I10x 0)) h)) (λ j m h.
        let w = wants-same (moved ps) (insn_at c.insns j) in
        let own = two-alike w w h in
        subst (λ (to : ℕ). RefersToPayload new (moved ps j) to) (sym (reach-same (moved ps) (insn_at c.insns j) own)) (refers-moved j (insn_reach (insn_at c.insns j)) ((formed.payloads j m).refers own))) k l;
    used = each-new (λ n i. IsSwitch (insn_payload i) → (by : ℕ) × RefersToPayload new by n × ((m : ℕ) → RefersToPayload new m n → m ≡ by)) (λ n h. absurd (no-switch h)) (λ j m s.
        let u = (formed.payloads j m).used (subst IsSwitch (payload-same (moved ps) (insn_at c.insns j)) s) in
        (moved ps u.0, refers-moved u.0 j u.1, λ n r. let b = refers-back n j m r in sym b.1 ∙ ap (moved ps) (u.2 b.0 b.2))) k l;
  }

  try-new : (i : ℕ) → i < length c.tries → try_at (map (moved_try (moved ps)) c.tries) i ≡ moved_try (moved ps) (try_at c.tries i)
  try-new i l = get_or-map (moved_try (moved ps)) c.tries i (record { from = 0; to = 0; catches = []; catch_all = None }) (record { from = 0; to = 0; catches = []; catch_all = None }) l

  tries : (i : ℕ) → i < length (map (moved_try (moved ps)) c.tries) → TryFormed (length new) (map (moved_try (moved ps)) c.tries) i
  tries i m =
      let n = length-map c.tries (moved_try (moved ps)) in
      let l : i < length c.tries = omega arith in
      let t = formed.tries i l in
      let e = try-new i l in
      let from : (try_at (map (moved_try (moved ps)) c.tries) i).from ≡ moved ps (try_at c.tries i).from = ap (λ (x : Try). x.from) e in
      let to : (try_at (map (moved_try (moved ps)) c.tries) i).to ≡ moved ps (try_at c.tries i).to = ap (λ (x : Try). x.to) e in
      let up = moved-rises ps (try_at c.tries i).from (try_at c.tries i).to t.some in
      let end = moved-le ps (try_at c.tries i).to (length c.insns) t.within in
      let size = length-new in
      record {
        some = omega arith;
        within = omega arith;
        after = λ j q.
            let f = try-new j (omega arith) in
            let before : (try_at (map (moved_try (moved ps)) c.tries) j).to ≡ moved ps (try_at c.tries j).to = ap (λ (x : Try). x.to) f in
            let r = moved-le ps (try_at c.tries j).to (try_at c.tries i).from (t.after j q) in
            omega arith;
        places = subst (λ (x : Try). AllByRecursion (λ y. y.at < length new) x.catches) (sym e)
            (all-moved (moved_catch (moved ps)) (λ y. y.at < length c.insns) (λ y. y.at < length new) (try_at c.tries i).catches (λ y. below-new y.at) t.places);
        last = subst (λ (x : Try). IfSome x.catch_all (λ k. k < length new)) (sym e)
            (IfSome-map (moved ps) (λ k. k < length c.insns) (λ k. k < length new) (try_at c.tries i).catch_all below-new t.last);
        handled = subst (λ (x : Try). IfNone x.catch_all (x.catches ≢ [])) (sym e) (none-moved (moved ps) (try_at c.tries i).catch_all (try_at c.tries i).catches t.handled);
      }

  padded-formed : length new ≤ 2147483647 → IsFormed (padded ps c)
  padded-formed few =
      let some = formed.some in
      let low = moved-le ps 1 (length c.insns) (omega arith) in
      let size = length-new in
      record {
        some = omega arith;
        few = few;
        operands = operands;
        targets = targets;
        payloads = payloads;
        tries = tries;
        registers = formed.registers;
        ins = formed.ins;
        outs = formed.outs;
        named = record { ins = formed.named.ins; each = among };
      }

pub aligned-formed : (c d : Code) → IsFormed c → Aligned c d → length d.insns ≤ 2147483647 → IsFormed d
aligned-formed c d formed a few =
    let n = ap (λ (e : Code). length e.insns) a.is in
    subst IsFormed (sym a.is) (padded-formed c a.pads a.payloads formed (omega arith))
