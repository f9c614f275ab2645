-- Lines one after the other.
use Rattle.std.proofs.Common.{◌≡◌, ℕ, ◌+◌, inl, inr, List, [], ◌∷◌, ◌++◌, length, Some, None, refl, sym, ap, subst, ◌∙◌, append_assoc}
use Rattle.std.proofs.lemmas.List.{append-nil}
use Rattle.dex_base.specs.declared.fault.Fault.{Fault}
use Rattle.program_rules.specs.Rules.{RuleBreaks}
use Rattle.program_rules.specs.WellFormed.{WellFormed}
use Rattle.program_types.specs.Content.{Program}
use Rattle.listing_parse.specs.declared.block.Block.{Block}
use Rattle.listing_parse.specs.declared.block.Block.TheVariants.{Top}
use Rattle.listing_parse.specs.declared.draft.Draft.{Draft}
use Rattle.listing_parse.specs.States.{at_top, State}
use Rattle.listing_lines.specs.Splitting.{lines}
use Rattle.listing_parse.specs.Text.{Reading, begin, line_counted, TakesLine, Reads, IsListing, LineIsRefused, IsBadLine, ListingBreaks}
use Rattle.listing_parse.specs.inner.Text.{IsFinished, IsUnfinished}
use Rattle.listing_parse.specs.inner.View.{block, state}
use Rattle.listing_parse.specs.inner.ReadingView.{reading}
use Rattle.listing_parse.specs.declared.reading.Reading.{Reading as Made}

pub Reads-push : (s t u : Reading) (ls : List (List ℕ)) (l : List ℕ) (rest : List (List ℕ)) → Reads s ls (l ∷ rest) t → TakesLine t rest l u → Reads s (ls ++ l ∷ []) rest u
Reads-push s t u [] l rest e h = (u, subst (λ (x : Reading). TakesLine x rest l u) (sym e) h, refl)
Reads-push s t u (k ∷ ks) l rest r h = (r.0, subst (λ (x : List (List ℕ)). TakesLine s x k r.0) (sym (append_assoc ks (l ∷ []) rest)) r.1, Reads-push r.0 t u ks l rest r.2 h)

pub lines_push : (all before after rest : List (List ℕ)) (l : List ℕ) → all ≡ before ++ rest → rest ≡ l ∷ after → all ≡ (before ++ l ∷ []) ++ after
lines_push all before after rest l e f = e ∙ ap (λ x. before ++ x) f ∙ sym (append_assoc before (l ∷ []) after)

pub bad_line : (text : List ℕ) (before after rest : List (List ℕ)) (l : List ℕ) (s : Reading) (code place : ℕ) → lines text ≡ before ++ rest → rest ≡ l ∷ after → place ≡ length before + 1 → Reads begin before rest s → LineIsRefused (line_counted s) l code
    → IsBadLine (lines text) code place
bad_line text before after rest l s code place e f n r h = record {
  before = before;
  bad = l;
  after = after;
  joined = e ∙ ap (λ x. before ++ x) f;
  number = n;
  state = s;
  accepted = subst (λ (x : List (List ℕ)). Reads begin before x s) f r;
  refused = h;
}

pub all_read : (text : List ℕ) (before rest : List (List ℕ)) → lines text ≡ before ++ rest → rest ≡ [] → lines text ≡ before
all_read text before rest e f = e ∙ ap (λ x. before ++ x) f ∙ append-nil before

pub read_whole : (text : List ℕ) (before rest : List (List ℕ)) (s : Reading) → lines text ≡ before ++ rest → rest ≡ [] → Reads begin before rest s → Reads begin (lines text) [] s
read_whole text before rest s e f r = subst (λ (ls : List (List ℕ)). Reads begin ls [] s) (sym (all_read text before rest e f)) (subst (λ (ls : List (List ℕ)). Reads begin before ls s) f r)

pub lines_of : (d : Draft) → (state d).lines ≡ d.lines
unfolding state
lines_of d = refl

pub base_of : (r : Made) → (reading r).base ≡ state r.draft
unfolding reading
base_of r = refl

pub lines_in : (r : Made) → (reading r).base.lines ≡ r.draft.lines
unfolding reading state
lines_in r = refl

-- ---- after the last line

pub finished : (d : Draft) → d.block ≡ Top → d.late ≡ None → IsFinished (state d)
unfolding state block
finished d t l = (ap block t, l)

pub late_end : (d : Draft) (n : ℕ) → d.block ≡ Top → d.late ≡ Some n → IsUnfinished (state d) 105 n
unfolding state block
late_end d n t l = inr (refl, ap block t, l)

outside : (b : Block) → block b ≡ at_top → b ≡ Top
unfolding block
outside Top e = refl
outside _ e = absurd cc

pub open_end : (d : Draft) → (d.block ≡ Top → ⊥) → IsUnfinished (state d) 106 d.lines
unfolding state
open_end d t = inl (refl, refl, λ e. t (outside d.block e))

pub whole_text : (text : List ℕ) (s : State) (r : Reading) (p : Program) → Reads begin (lines text) [] r → r.base ≡ s → IsFinished s → p ≡ s.done → WellFormed p → IsListing text p
whole_text text s r p d q w e f = record { end = r; read = d; whole = ap (λ (x : State). x.block) q ∙ w.0; targets = ap (λ (x : State). x.late) q ∙ w.1; classes = ap (λ (x : State). x.done) q ∙ sym e; formed = f }

pub unfinished_text : (text : List ℕ) (s : State) (r : Reading) (code place : ℕ) → Reads begin (lines text) [] r → r.base ≡ s → s.lines ≡ length (lines text) → IsUnfinished s code place → ListingBreaks text code place
unfinished_text text s r code place d q n (inl u) = inr (inl (u.0, u.1 ∙ n, record { state = r; accepted = d; inside = λ t. u.2 (sym (ap (λ (x : State). x.block) q) ∙ t) }))
unfinished_text text s r code place d q n (inr u) = inr (inr (inl (u.0, record { state = r; accepted = d; whole = ap (λ (x : State). x.block) q ∙ u.1; late = ap (λ (x : State). x.late) q ∙ u.2 })))

pub unruly_text : (text : List ℕ) (s : State) (r : Reading) (p : Program) (e : Fault) → Reads begin (lines text) [] r → r.base ≡ s → IsFinished s → p ≡ s.done → RuleBreaks p e → ListingBreaks text e.code e.place
unruly_text text s r p e d q w m b = inr (inr (inr (record { state = r; accepted = d; whole = ap (λ (x : State). x.block) q ∙ w.0; targets = ap (λ (x : State). x.late) q ∙ w.1; breaks = subst (λ (x : Program). RuleBreaks x e) (m ∙ sym (ap (λ (x : State). x.done) q)) b })))
