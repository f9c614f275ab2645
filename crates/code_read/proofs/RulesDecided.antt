-- Whether an instruction of a code keeps a rule is decided.
use Rattle.std.proofs.Common.{◌≡◌, ◌≢◌, ℕ, inl, inr, Option, Some, None, List, length, refl, sym, subst}
use Rattle.dex_base.specs.Deciding.{Decided}
use Rattle.dex_base.proofs.Deciding.{decide_like, decide_both, decide_lt, decide_eq, decide_below, decide_all}
use Rattle.dex_insn.specs.Raw as raw
use Rattle.dex_insn.specs.Raw.{Raw}
use Rattle.dex_insn.specs.Opcodes.{index_kind_of}
use Rattle.dex_insn.specs.declared.opcode.IndexKind.{IndexKind}
use Rattle.program_types.specs.Content.{Name, Insn}
use Rattle.program_types.specs.Formed.{AreAlike, IsSwitch, insn_at, insn_payload, insn_wants, insn_reach, insn_branch, insn_short_branch, insn_targets, IsTarget, RefersToPayload, PayloadHolds}
use Rattle.code_rules.specs.Branches.{BranchLands, BranchMoves, SwitchLands}
use Rattle.program_types.specs.Kinds.{IsOfKind}
use Rattle.program_types.specs.Operands.{IsOfIndexKind}
use Rattle.program_types.specs.declared.payload.Payload.{Payload}
use Rattle.program_types.specs.declared.payload.Payload.TheVariants as payload
use Rattle.code_rules.specs.First.{AllHold}
use Rattle.code_read.specs.Symbols.{SomeName, InsnHasName}
use Rattle.code_read.proofs.Deciding.{decide-all-below, decide-implied, decide-if-some}

-- ---- names

-- in each table an index stands for a name, or for none
abbrev pub AreNamesDecided : (ℕ → Name → Type 0) → Type 0
AreNamesDecided N = (kind : IndexKind) (i : ℕ) → Decided ((which : Name) × IsOfKind kind which × N i which)

module _ (N : ℕ → Name → Type 0) (names : AreNamesDecided N) where
  decide-some-name : (op i : ℕ) → Decided (SomeName N op i)
  decide-some-name op i = by (index_kind_of op) refl
    where
      by : (o : Option IndexKind) → index_kind_of op ≡ o → Decided (SomeName N op i)
      by None e = inr (λ s. subst (λ (o : Option IndexKind). IsOfIndexKind o s.0) e s.1.kind)
      by (Some kind) e = decide_like
          (λ x. (x.0, record { kind = subst (λ (o : Option IndexKind). IsOfIndexKind o x.0) (sym e) x.1; stands = x.2 }))
          (λ (s : SomeName N op i). (s.0, subst (λ (o : Option IndexKind). IsOfIndexKind o s.0) e s.1.kind, s.1.stands))
          (names kind i)

  pub decide-name : (r : Raw) → Decided (InsnHasName N r)
  decide-name (raw.I21c op a index) = decide-some-name op index
  decide-name (raw.I22c op a b index) = decide-some-name op index
  decide-name (raw.I31c op a index) = decide-some-name op index
  decide-name (raw.I35c op n regs index) = decide-some-name op index
  decide-name (raw.I3rc op n first index) = decide-some-name op index
  decide-name _ = inl tt

-- ---- payloads

decide-alike : (w l : Option Payload) → Decided (AreAlike w l)
decide-alike (Some payload.PackedSwitch) (Some payload.PackedSwitch) = inl tt
decide-alike (Some payload.SparseSwitch) (Some payload.SparseSwitch) = inl tt
decide-alike (Some payload.Array) (Some payload.Array) = inl tt
decide-alike _ _ = inr (λ h. h)

pub decide-switch : (p : Option Payload) → Decided (IsSwitch p)
decide-switch (Some payload.PackedSwitch) = inl tt
decide-switch (Some payload.SparseSwitch) = inl tt
decide-switch _ = inr (λ h. h)

decide-none : (p : Option Payload) → Decided (p ≡ None)
decide-none None = inl refl
decide-none (Some p) = inr (λ e. cc)

module _ (is : List Insn) where
  pub decide-refers : (j k : ℕ) → Decided (RefersToPayload is j k)
  decide-refers j k = decide_like
      (λ x. record { there = x.0; payload = x.1.0; kind = x.1.1.0; leads = x.1.1.1 })
      (λ (u : RefersToPayload is j k). (u.there, (u.payload, (u.kind, u.leads))))
      (decide_both (decide_lt j (length is)) (decide_both (decide_lt k (length is)) (decide_both (decide-alike (insn_wants (insn_at is j)) (insn_payload (insn_at is k))) (decide_eq (insn_reach (insn_at is j)) k))))

  decide-once : (k : ℕ) → Decided ((by : ℕ) × RefersToPayload is by k × ((i : ℕ) → RefersToPayload is i k → i ≡ by))
  decide-once k = decide_like
      (λ x. (x.0, x.2.0, λ i u. x.2.1 i u.there u))
      (λ (o : (by : ℕ) × RefersToPayload is by k × ((i : ℕ) → RefersToPayload is i k → i ≡ by)). (o.0, o.1.there, (o.1, λ i l u. o.2 i u)))
      (decide_below (λ j. RefersToPayload is j k × AllHold (λ i. RefersToPayload is i k → i ≡ j) (length is))
      (λ j. decide_both (decide-refers j k) (decide-all-below (λ i. RefersToPayload is i k → i ≡ j) (λ i. decide-implied (decide-refers i k) (λ _. decide_eq i j)) (length is))) (length is))

  pub decide-payload : (k : ℕ) → Decided (PayloadHolds is k)
  decide-payload k = decide_like
      (λ x. record { refers = x.0; used = x.1 })
      (λ (h : PayloadHolds is k). (h.refers, h.used))
      (decide_both (decide-implied (decide-alike (insn_wants (insn_at is k)) (insn_wants (insn_at is k))) (λ _. decide-refers k (insn_reach (insn_at is k)))) (decide-implied (decide-switch (insn_payload (insn_at is k))) (λ _. decide-once k)))

  -- ---- branches

  decide-target : (to : ℕ) → Decided (IsTarget is to)
  decide-target to = decide_like (λ x. record { inside = x.0; plain = x.1 }) (λ (t : IsTarget is to). (t.inside, t.plain)) (decide_both (decide_lt to (length is)) (decide-none (insn_payload (insn_at is to))))

  decide-other : (k to : ℕ) → Decided (to ≢ k)
  decide-other k to = elim (decide_eq to k) [ inl e ↦ inr (λ h. h e) | inr nay ↦ inl nay ]

  pub decide-branch-lands : (k : ℕ) → Decided (BranchLands is k)
  decide-branch-lands k = decide-if-some (IsTarget is) decide-target (insn_branch (insn_at is k))

  pub decide-branch-moves : (k : ℕ) → Decided (BranchMoves is k)
  decide-branch-moves k = decide-if-some (λ to. to ≢ k) (decide-other k) (insn_short_branch (insn_at is k))

  pub decide-switch-lands : (k : ℕ) → Decided (SwitchLands is k)
  decide-switch-lands k = decide_all (IsTarget is) decide-target (insn_targets (insn_at is k))
