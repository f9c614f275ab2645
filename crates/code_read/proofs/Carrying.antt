-- Codes and their faults carry over to a naming that says the same.
use Rattle.std.proofs.Common.{ℕ, inl, inr, List}
use Rattle.dex_base.specs.declared.fault.Fault.{Fault}
use Rattle.dex_base.specs.Leb128.{Spells, SpellsSigned}
use Rattle.dex_container.specs.Frame.{IsFramed}
use Rattle.dex_insn.specs.Raw as raw
use Rattle.dex_insn.specs.Raw.{Raw}
use Rattle.program_types.specs.Content.{Name, Code}
use Rattle.tables_rows.specs.Names.{Names, AreNamesOf, NameIsAt}
use Rattle.tables_rows.specs.Stands.{NameStands}
use Rattle.tables_rows.proofs.NameLaws.{names_stand, stands_names}
use Rattle.code_read.specs.InsnFaults.{NamesBreak, RulesBreak, InsnsBreak}
use Rattle.code_read.specs.Symbols.{SomeName, InsnHasName}
use Rattle.code_read.specs.Walk.{raw_at, starts}
use Rattle.code_read.specs.Code.{CodeStands}
use Rattle.code_read.specs.Faults.{HasHandlers, TriesBreak, ItemBreaks, CodeBreaks, CodeOverruns}
use Rattle.code_read.proofs.CarryLaws.{body_weaker, code_weaker, list-weaker, linked-weaker, insns-weaker}

module _ (N M : ℕ → Name → Type 0) (f : (i : ℕ) (which : Name) → N i which → M i which) where
  some_weaker : (op i : ℕ) → SomeName N op i → SomeName M op i
  some_weaker op i s = (s.0, record { kind = s.1.kind; stands = f i s.0 s.1.stands })

  has_weaker : (r : Raw) → InsnHasName N r → InsnHasName M r
  has_weaker (raw.I21c op a i) s = some_weaker op i s
  has_weaker (raw.I22c op a b i) s = some_weaker op i s
  has_weaker (raw.I31c op a i) s = some_weaker op i s
  has_weaker (raw.I35c op n regs i) s = some_weaker op i s
  has_weaker (raw.I3rc op n first i) s = some_weaker op i s
  has_weaker _ s = tt

  handlers_weaker : (ss : List ℕ) (n : ℕ) (items rest : List ℕ) → HasHandlers N ss n items rest → HasHandlers M ss n items rest
  handlers_weaker ss n items rest h = record {
    list = h.list;
    after = h.after;
    joined = h.joined;
    handlers = h.handlers;
    spelled = list-weaker N M f Spells SpellsSigned ss h.list h.handlers h.spelled;
    each = h.each;
  }

module _ (N M : ℕ → Name → Type 0) (f : (i : ℕ) (which : Name) → N i which → M i which) (g : (i : ℕ) (which : Name) → M i which → N i which) where
  name_carried : (rs : List Raw) (base : ℕ) (e : Fault) → NamesBreak N rs (starts rs) base e → NamesBreak M rs (starts rs) base e
  name_carried rs base e u =
      record {
        number = u.number;
        within = u.within;
        breaks = record { broken = λ h. u.breaks.broken (has_weaker M N g (raw_at rs u.number) h); is = u.breaks.is };
        before = λ k l. has_weaker N M f (raw_at rs k) (u.before k l);
      }

  rules_carried : (rs : List Raw) (base : ℕ) (e : Fault) → RulesBreak N rs base e → RulesBreak M rs base e
  rules_carried rs base e (inl u) = inl (name_carried rs base e u)
  rules_carried rs base e (inr u) = inr (u.0, linked-weaker N M f rs u.0 u.1, u.2)

  insns_carried : (us : List ℕ) (base : ℕ) (e : Fault) → InsnsBreak N us base e → InsnsBreak M us base e
  insns_carried us base e (inl u) = inl u
  insns_carried us base e (inr u) = inr (u.0, u.1, rules_carried u.0 base e u.2)

  tries_carried : (ss : List ℕ) (size n : ℕ) (items rest : List ℕ) (base : ℕ) (e : Fault) → TriesBreak N ss size n items rest base e → TriesBreak M ss size n items rest base e
  tries_carried ss size n items rest base e (inl u) = inl u
  tries_carried ss size n items rest base e (inr (hold, inl u)) = inr (hold, inl (λ h. u.0 (λ some. handlers_weaker M N g ss n items rest (h some)), u.1))
  tries_carried ss size n items rest base e (inr (hold, inr u)) = absurd u.1

  item_carried : (off : ℕ) (bytes : List ℕ) (e : Fault) → ItemBreaks N off bytes e → ItemBreaks M off bytes e
  item_carried off bytes e (inl u) = inl u
  item_carried off bytes e (inr (whole, inl u)) = inr (whole, inl u)
  item_carried off bytes e (inr (whole, inr (some, inl u))) = inr (whole, inr (some, inl (insns_carried _ _ e u)))
  item_carried off bytes e (inr (whole, inr (some, inr u))) = inr (whole, inr (some, inr (u.0, u.1, insns-weaker N M f _ u.0 u.1 u.2, tries_carried _ _ _ _ _ _ e u.3)))

  breaks_carried : (b : List ℕ) (off : ℕ) (e : Fault) → CodeBreaks N b off e → CodeBreaks M b off e
  breaks_carried b off e (inl u) = inl u
  breaks_carried b off e (inr (even, inl u)) = inr (even, inl u)
  breaks_carried b off e (inr (even, inr (there, u))) = inr (even, inr (there, (u.0, u.1, u.2, item_carried off u.1 e u.3)))

-- with the names of a file
module _ (b : List ℕ) (names : Names) (framed : IsFramed b) (are : AreNamesOf b names) where
  there : (i : ℕ) (which : Name) → NameIsAt names i which → NameStands b i which
  there i which at = names_stand b names i which are at

  back : (i : ℕ) (which : Name) → NameStands b i which → NameIsAt names i which
  back i which st = stands_names b names i which framed are st

  pub code_stands : (off : ℕ) (c : Code) → (CodeStands (NameIsAt names) b off c → CodeStands (NameStands b) b off c) × (CodeStands (NameStands b) b off c → CodeStands (NameIsAt names) b off c)
  code_stands off c = (code_weaker (NameIsAt names) (NameStands b) there b off c, code_weaker (NameStands b) (NameIsAt names) back b off c)

  pub code_breaks : (off : ℕ) (e : Fault) → (CodeBreaks (NameIsAt names) b off e → CodeBreaks (NameStands b) b off e) × (CodeBreaks (NameStands b) b off e → CodeBreaks (NameIsAt names) b off e)
  code_breaks off e = (breaks_carried (NameIsAt names) (NameStands b) there back b off e, breaks_carried (NameStands b) (NameIsAt names) back there b off e)

  pub code_overruns : (off : ℕ) (e : Fault) → (CodeOverruns (NameIsAt names) b off e → CodeOverruns (NameStands b) b off e) × (CodeOverruns (NameStands b) b off e → CodeOverruns (NameIsAt names) b off e)
  code_overruns off e = (
    λ u. record { code = u.code; body = body_weaker (NameIsAt names) (NameStands b) there b off u.code u.body; breaks = u.breaks },
    λ u. record { code = u.code; body = body_weaker (NameStands b) (NameIsAt names) back b off u.code u.body; breaks = u.breaks },
  )
