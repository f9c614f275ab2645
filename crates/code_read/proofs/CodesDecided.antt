-- At a place of a file a code stands, or a fault does.
use Rattle.std.proofs.Common.{◌≡◌, ℕ, ◌+◌, ◌*◌, ◌-◌, ◌%◌, ◌<◌, ◌⊎◌, inl, inr, Option, Some, None, List, [], ◌∷◌, length, take, drop, refl, arith}
use Rattle.std.specs.Prelude.{slice_get}
use Rattle.std.specs.List.{AllByRecursion}
use Rattle.std.proofs.lemmas.Bool.{cases_eq, cases_lt}
use Rattle.dex_base.specs.Deciding.{Decided}
use Rattle.dex_base.specs.Fields.{AreBytes}
use Rattle.dex_base.specs.Grammar.{Takes}
use Rattle.dex_base.specs.declared.fault.Fault.{Fault}
use Rattle.dex_base.proofs.FirstFaultLaws.{broken_decided}
use Rattle.dex_base.proofs.Deciding.{decide_like, decide_both, decide_le}
use Rattle.dex_base.proofs.FieldBounds.{u32_at-fits, drop-AreBytes}
use Rattle.dex_container.specs.Frame.{IsFramed}
use Rattle.dex_container.proofs.PlacesDecided.{decide_in, found_at}
use Rattle.dex_insn.specs.Raw.{Raw}
use Rattle.dex_insn.specs.declared.opcode.IndexKind.{IndexKind}
use Rattle.dex_insn.specs.declared.opcode.IndexKind.TheVariants as kind
use Rattle.program_types.specs.Content.{Name, OfText, OfDesc, OfField, OfMethod, Insn, Code}
use Rattle.program_types.specs.Kinds.{IsOfKind}
use Rattle.tables_rows.specs.Names.{Names, NameIsAt}
use Rattle.code_read.specs.Walk.{starts}
use Rattle.code_read.specs.Linked.{SpellsInsns}
use Rattle.code_read.specs.inner.Symbols.{IsFunctional}
use Rattle.code_read.specs.Item.{insns_size, tries_of, registers_of, ins_of, outs_of, insns_bytes, items_of, units_end, tries_begin, list_begin, HasFixedParts}
use Rattle.code_read.specs.Code.{SpellsBody, BodyStands, CodeStands}
use Rattle.code_read.specs.Faults.{ItemBreaks, CodeBreaks, RegistersBreak, CodeOverruns}
use Rattle.program_types.specs.Formed.{RegistersHold, insn_at, insn_registers}
use Rattle.code_rules.specs.First.{AllHold}
use Rattle.code_read.specs.Registers.{AmongAt, IsPast}
use Rattle.code_read.proofs.StandLaws.{body_code, NameIsAt-functional}
use Rattle.code_read.proofs.FaultLaws.{units-even}
use Rattle.code_read.proofs.ItemLaws.{takes-from_read}
use Rattle.code_read.proofs.RulesDecided.{AreNamesDecided}
use Rattle.code_read.proofs.InsnsDecided.{insns-decided}
use Rattle.code_read.proofs.TriesDecided.{tries-decided}
use Rattle.dex_base.proofs.ListFacts.{take_bytes}

-- ---- names

-- the table of the kind has no row i
abbrev Lacks : Names → IndexKind → ℕ → Type 0
Lacks names kind.String i = slice_get names.strings i ≡ None
Lacks names kind.Type i = slice_get names.types i ≡ None
Lacks names kind.Field i = slice_get names.fields i ≡ None
Lacks names kind.Method i = slice_get names.methods i ≡ None

nowhere : (names : Names) (k : IndexKind) (which : Name) (i : ℕ) → IsOfKind k which → NameIsAt names i which → Lacks names k i → ⊥
nowhere names kind.String (OfText s) i k n e = absurd cc
nowhere names kind.Type (OfDesc s) i k n e = absurd cc
nowhere names kind.Field (OfField s) i k n e = absurd cc
nowhere names kind.Method (OfMethod s) i k n e = absurd cc
nowhere names _ _ i k n e = absurd k

in_column : {A : Type 0} (names : Names) (k : IndexKind) (i : ℕ) (o : Option A) → (o ≡ None → Lacks names k i) → ((x : A) → o ≡ Some x → (which : Name) × IsOfKind k which × NameIsAt names i which)
    → Decided ((which : Name) × IsOfKind k which × NameIsAt names i which)
in_column names k i None out row = inr (λ x. nowhere names k x.0 i x.1 x.2 (out refl))
in_column names k i (Some x) out row = inl (row x refl)

-- among the names of the tables each index stands for a name, or for none
pub names-decided : (names : Names) → AreNamesDecided (NameIsAt names)
names-decided names kind.String i = in_column names kind.String i (slice_get names.strings i) (λ e. e) (λ x e. (OfText x, tt, e))
names-decided names kind.Type i = in_column names kind.Type i (slice_get names.types i) (λ e. e) (λ x e. (OfDesc x, tt, e))
names-decided names kind.Field i = in_column names kind.Field i (slice_get names.fields i) (λ e. e) (λ x e. (OfField x, tt, e))
names-decided names kind.Method i = in_column names kind.Method i (slice_get names.methods i) (λ e. e) (λ x e. (OfMethod x, tt, e))

-- ---- the item

decide-whole : (bytes : List ℕ) → Decided (HasFixedParts bytes)
decide-whole bytes = decide_like (λ x. record { head = x.0; fixed = x.1 }) (λ (w : HasFixedParts bytes). (w.head, w.fixed)) (decide_both (decide_le 16 (length bytes)) (decide_le (list_begin bytes) (length bytes)))

units-are : (bytes : List ℕ) → AreBytes bytes → AreBytes (insns_bytes bytes)
units-are bytes are = take_bytes (units_end bytes - 16) (drop 16 bytes) (drop-AreBytes bytes 16 are)

module _ (N : ℕ → Name → Type 0) (names : AreNamesDecided N) (functional : IsFunctional N) (off : ℕ) (bytes : List ℕ) (are : AreBytes bytes) where
  abbrev IsItemDecided : Type 0
  IsItemDecided = ((c : Code) × (rest : List ℕ) × Takes (SpellsBody N) bytes c rest) ⊎ ((e : Fault) × ItemBreaks N off bytes e)

  with-insns : HasFixedParts bytes → 0 < insns_size bytes → (rs : List Raw) (is : List Insn) → SpellsInsns N (insns_bytes bytes) rs is → IsItemDecided
  with-insns whole some rs is s = elim (tries-decided N names functional (starts rs) (insns_size bytes) (tries_of bytes) (items_of bytes) (drop (list_begin bytes) bytes) (off + tries_begin bytes)) [
    | inr f ↦ inr (f.0, inr (whole, inr (some, inr (rs, is, s, f.1))))
    | inl x ↦
        let c : Code = record { registers = registers_of bytes; ins = ins_of bytes; outs = outs_of bytes; insns = is; tries = x.0 } in
        inl (c, x.1.after, takes-from_read N bytes x.1.after c (record { whole = whole; some = some; registers = refl; ins = refl; outs = refl; raws = rs; insns = s; list = x.1.list; joined = x.1.joined; tries = x.1.tries }))
  ]

  item-decided : IsItemDecided
  item-decided = elim (decide-whole bytes) [
    | inr broken ↦ inr (record { code = 60; place = off }, inl (broken, refl))
    | inl whole ↦ elim (cases_eq (insns_size bytes) 0) [
      | inl none ↦ inr (record { code = 61; place = off }, inr (whole, inl (λ some. omega (arith, some, none), refl)))
      | inr some ↦
          let u = units-even bytes whole in
          let f = u32_at-fits bytes 12 are in
          elim (insns-decided N names (insns_bytes bytes) (off + 16) (units-are bytes are) (omega (arith, u)) (omega (arith, u, f))) [
            | inr e ↦ inr (e.0, inr (whole, inr (omega (arith, some), inl e.1)))
            | inl x ↦ with-insns whole (omega (arith, some)) x.0 x.1 x.2
          ]
    ]
  ]

-- ---- the file

pub body-decided : (b : List ℕ) → AreBytes b → IsFramed b → (names : Names) (off : ℕ) → ((c : Code) × BodyStands (NameIsAt names) b off c) ⊎ ((e : Fault) × CodeBreaks (NameIsAt names) b off e)
body-decided b are framed names off = elim (cases_eq (off % 4) 0) [
  | inr odd ↦ inr (record { code = 60; place = off }, inl (odd, refl))
  | inl even ↦ elim (decide_in b framed 0x2001 off) [
    | inr outside ↦ inr (record { code = 60; place = off }, inr (even, inl (outside, refl)))
    | inl s ↦
        let N = NameIsAt names in
        let bytes = take (s.end - off) (drop off b) in
        let low = s.after in let high = s.before in
        elim (item-decided N (names-decided names) (NameIsAt-functional names) off bytes (take_bytes (s.end - off) (drop off b) (drop-AreBytes b off are))) [
          | inr e ↦ inr (e.0, inr (even, inr (s, (s.end, bytes, record { begin = s.begin; section = s.section; after = low; before = high; same = refl }, e.1))))
          | inl x ↦ inl (x.0, found_at (SpellsBody N) b framed 0x2001 4 off (record { begin = s.begin; end = s.end; section = s.section }) low (omega (arith, high)) even x.0 x.1 x.2)
        ]
  ]
]

-- ---- registers

numbers-decided : (count : ℕ) (vs : List ℕ) → Decided (AllByRecursion (λ v. v < count) vs)
numbers-decided count [] = inl tt
numbers-decided count (v ∷ vs) = elim (cases_lt v count) [
  | inl here ↦ elim (numbers-decided count vs) [
    | inl rest ↦ inl (here, rest)
    | inr not ↦ inr (λ h. not h.1)
  ]
  | inr not ↦ inr (λ h. let l = h.0 in omega (arith, l, not))
]

pub registers-decided : (off : ℕ) (c : Code) → RegistersHold c ⊎ ((e : Fault) × RegistersBreak off c e)
registers-decided off c = elim (cases_lt c.registers c.ins) [
  | inl many ↦ inr (record { code = 73; place = off }, inl (λ few. omega (arith, few, many), refl))
  | inr few ↦
      let named : AllHold (AmongAt c.registers c.insns) (length c.insns) ⊎ ((at : ℕ) × IsPast c.registers c.insns at) = broken_decided (λ k. numbers-decided c.registers (insn_registers (insn_at c.insns k))) in
      elim named [
        | inl all ↦ inl (record { ins = few; each = all })
        | inr f ↦ inr (record { code = 73; place = off + 16 + 2 * f.0 }, inr (few, (f.0, f.1, refl)))
      ]
]

pub code-decided : (b : List ℕ) → AreBytes b → IsFramed b → (names : Names) (off : ℕ) → ((c : Code) × CodeStands (NameIsAt names) b off c) ⊎ (((e : Fault) × CodeBreaks (NameIsAt names) b off e) ⊎ ((e : Fault) × CodeOverruns (NameIsAt names) b off e))
code-decided b are framed names off = elim (body-decided b are framed names off) [
  | inr f ↦ inr (inl f)
  | inl x ↦ elim (registers-decided off x.0) [
    | inl h ↦ inl (x.0, body_code (NameIsAt names) b off x.0 h x.1)
    | inr f ↦ inr (inr (f.0, record { code = x.0; body = x.1; breaks = f.1 }))
  ]
]
