-- Units spell one list of instructions at most.
use Rattle.std.proofs.Common.{◌≡◌, ℕ, ℤ, ◌<◌, ◌/◌, List, length, ap, sym, ◌∙◌, arith, Option, Some, None, subst, inl, inr}
use Rattle.dex_insn.specs.Raw as raw
use Rattle.dex_insn.specs.Raw.{Raw}
use Rattle.dex_insn.specs.Opcodes.{index_kind_of}
use Rattle.dex_insn.specs.declared.opcode.IndexKind.TheVariants as kind
use Rattle.program_types.specs.Content.{Name, Insn, OfText, OfDesc, OfField, OfMethod}
use Rattle.program_types.specs.Content as made
use Rattle.program_types.specs.Formed.{insn_at, insn_payload, insn_wants, insn_reach}
use Rattle.dex_insn.specs.declared.opcode.IndexKind.{IndexKind}
use Rattle.program_types.specs.Operands.{IsOfIndexKind}
use Rattle.code_rules.specs.Branches.{IsOrigin}
use Rattle.tables_rows.specs.Names.{Names, NameIsAt}
use Rattle.code_read.specs.Walk.{Walks, starts, raw_at, address}
use Rattle.code_read.specs.Symbols.{linked, Resolves, IndexStandsFor, name_in}
use Rattle.code_read.specs.inner.Symbols.{IsFunctional}
use Rattle.code_read.specs.Linked.{target_number, payload_of, AreLinked, SpellsInsns}
use Rattle.code_read.proofs.Runs.{run-once}
use Rattle.code_read.proofs.LinkLaws.{IsLike, kind-linked, wants-linked, reach-linked, own-origin, origin-like}
use Rattle.std.proofs.lemmas.List.{ext_get_or}
use Rattle.dex_base.proofs.ListFacts.{some_one}

pub origin-one : (is : List Insn) (k m n : ℕ) → IsOrigin is k m → IsOrigin is k n → m ≡ n
origin-one is k m n p q = elim p [
  | inl a ↦ elim q [
    | inl b ↦ let x = a.2 n b.1 in let y = b.2 m a.1 in omega (arith, x, y)
    | inr b ↦ absurd (b.0 m a)
  ]
  | inr a ↦ elim q [
    | inl b ↦ absurd (a.0 n b)
    | inr b ↦ a.1 ∙ sym b.1
  ]
]

named-one : (N : ℕ → Name → Type 0) (op n : ℕ) (v w : Name) → IsFunctional N → IndexStandsFor N op n v → IndexStandsFor N op n w → v ≡ w
named-one N op n v w f p q = by (index_kind_of op) p.kind q.kind
  where
    by : (kind : Option IndexKind) → IsOfIndexKind kind v → IsOfIndexKind kind w → v ≡ w
    by None a b = absurd a
    by (Some kind) a b = f kind n v w a b p.stands q.stands

-- with the same name it is the same
same-name : (T : ℤ → ℕ) (r : Raw) (i j : Insn) → name_in i ≡ name_in j → linked T (name_in i) r ≡ i → linked T (name_in j) r ≡ j → i ≡ j
same-name T r i j e p q = sym p ∙ ap (λ (w : Name). linked T w r) e ∙ q

pub resolves-one : (N : ℕ → Name → Type 0) (T : ℤ → ℕ) (r : Raw) (i j : Insn) → IsFunctional N → Resolves N T r i → Resolves N T r j → i ≡ j
unfolding linked
resolves-one N T (raw.I21c op a n) i j f p q = same-name T (raw.I21c op a n) i j (named-one N op n _ _ f p.named q.named) p.symbol q.symbol
resolves-one N T (raw.I22c op a b n) i j f p q = same-name T (raw.I22c op a b n) i j (named-one N op n _ _ f p.named q.named) p.symbol q.symbol
resolves-one N T (raw.I31c op a n) i j f p q = same-name T (raw.I31c op a n) i j (named-one N op n _ _ f p.named q.named) p.symbol q.symbol
resolves-one N T (raw.I35c op m regs n) i j f p q = same-name T (raw.I35c op m regs n) i j (named-one N op n _ _ f p.named q.named) p.symbol q.symbol
resolves-one N T (raw.I3rc op m first n) i j f p q = same-name T (raw.I3rc op m first n) i j (named-one N op n _ _ f p.named q.named) p.symbol q.symbol
resolves-one N T r i j f p q = sym p.symbol ∙ q.symbol

module _ (N : ℕ → Name → Type 0) (rs : List Raw) (is js : List Insn) (p : AreLinked N rs is) (q : AreLinked N rs js) where
  like : (k : ℕ) → k < length is → IsLike (insn_at is k) (insn_at js k)
  like k l =
      let n = p.count in
      let x = p.each k (omega (arith, l, n)) in
      let y = q.each k (omega (arith, l, n)) in
      record {
        kind = ap insn_payload (sym x.resolves.symbol) ∙ kind-linked _ _ (raw_at rs k) ∙ sym (kind-linked _ _ (raw_at rs k)) ∙ ap insn_payload y.resolves.symbol;
        wants = ap insn_wants (sym x.resolves.symbol) ∙ wants-linked _ _ _ _ (raw_at rs k) ∙ ap insn_wants y.resolves.symbol;
        reach = λ e.
            let none : payload_of (raw_at rs k) ≡ None = sym (kind-linked _ _ (raw_at rs k)) ∙ ap insn_payload x.resolves.symbol ∙ e in
            let other : insn_payload (insn_at js k) ≡ None = ap insn_payload (sym y.resolves.symbol) ∙ kind-linked _ _ (raw_at rs k) ∙ none in
            let same : x.origin ≡ y.origin = own-origin is k x.origin x.counts e ∙ sym (own-origin js k y.origin y.counts other) in
            ap insn_reach (sym x.resolves.symbol) ∙ ap (λ (o : ℕ). insn_reach (linked (target_number (starts rs) (address rs o)) (name_in (insn_at is k)) (raw_at rs k))) same
            ∙ reach-linked _ _ _ (raw_at rs k) ∙ ap insn_reach y.resolves.symbol;
      }

  pub linked-one : IsFunctional N → is ≡ js
  linked-one f =
      let n = p.count in let m = q.count in
      ext_get_or (made.I10x 0) is js (omega (arith, n, m))
      (λ k l.
      let x = p.each k (omega (arith, l, n)) in
      let y = q.each k (omega (arith, l, n)) in
      let o : x.origin ≡ y.origin = origin-one js k x.origin y.origin (origin-like is js k x.origin (n ∙ sym m) like l x.counts) y.counts in
      resolves-one N (target_number (starts rs) (address rs y.origin)) (raw_at rs k) _ _ f (subst (λ (z : ℕ). Resolves N (target_number (starts rs) (address rs z)) (raw_at rs k) (insn_at is k)) o x.resolves) y.resolves)

pub walks-one : (us : List ℕ) (rs ss : List Raw) → Walks us rs → Walks us ss → rs ≡ ss
walks-one us rs ss p q = run-once us 0 rs ss (length us / 2) p.run q.run

pub insns-one : (N : ℕ → Name → Type 0) (us : List ℕ) (rs : List Raw) (is js : List Insn) → IsFunctional N → SpellsInsns N us rs is → SpellsInsns N us rs js → is ≡ js
insns-one N us rs is js f p q = linked-one N rs is js p.linked q.linked f

-- in the tables of a file an index stands for one name
pub NameIsAt-functional : (names : Names) → IsFunctional (NameIsAt names)
NameIsAt-functional names kind.String i (OfText m) (OfText n) a b p q = ap OfText (some_one _ m n p q)
NameIsAt-functional names kind.Type i (OfDesc m) (OfDesc n) a b p q = ap OfDesc (some_one _ m n p q)
NameIsAt-functional names kind.Field i (OfField m) (OfField n) a b p q = ap OfField (some_one _ m n p q)
NameIsAt-functional names kind.Method i (OfMethod m) (OfMethod n) a b p q = ap OfMethod (some_one _ m n p q)
NameIsAt-functional names kind.String i (OfText m) _ a b p q = absurd b
NameIsAt-functional names kind.Type i (OfDesc m) _ a b p q = absurd b
NameIsAt-functional names kind.Field i (OfField m) _ a b p q = absurd b
NameIsAt-functional names kind.Method i (OfMethod m) _ a b p q = absurd b
NameIsAt-functional names _ i _ _ a b p q = absurd a
