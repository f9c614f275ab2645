-- Lines and their numbers.
use Rattle.std.proofs.Common.{◌≡◌, ℕ, ◌≤◌, List, [], ◌∷◌, ◌++◌, length, Option, refl, sym, ap, subst, ◌∙◌, append_assoc, arith}
use Rattle.std.proofs.lemmas.List.{map-append, length-append}
use Rattle.program_types.specs.Content.{Class}
use Rattle.listing_lines.specs.Lines.{Line}
use Rattle.listing_parse.specs.States.{Open, ClassPart, at_top, in_class, closed, State}
use Rattle.listing_parse.specs.Codes.{Numbered, unnumbered}
use Rattle.listing_parse.specs.inner.Runs.{at_line, Runs, Steps}

-- The lines begin with this one.
pub record Starts (ls : List Numbered) (x : Line) (xs : List Line) : Type 0 where
  pub number : ℕ
  pub rest : List Numbered
  pub is : ls ≡ (number, x) ∷ rest
  pub word_values : unnumbered rest ≡ xs

pub starts : (ls : List Numbered) (x : Line) (xs : List Line) → unnumbered ls ≡ x ∷ xs → Starts ls x xs
starts [] x xs e = absurd cc
starts ((n, l) ∷ ls) x xs e = let h : l ≡ x = cc in record { number = n; rest = ls; is = ap (λ y. (n, y) ∷ ls) h; word_values = cc }

-- The lines are those in front and those after.
pub record Splits (ls : List Numbered) (xs ys : List Line) : Type 0 where
  pub front : List Numbered
  pub back : List Numbered
  pub is : ls ≡ front ++ back
  pub in_front : unnumbered front ≡ xs
  pub after : unnumbered back ≡ ys

pub splits : (ls : List Numbered) (xs ys : List Line) → unnumbered ls ≡ xs ++ ys → Splits ls xs ys
splits ls [] ys e = record { front = []; back = ls; is = refl; in_front = refl; after = e }
splits [] (x ∷ xs) ys e = absurd cc
splits ((n, l) ∷ ls) (x ∷ xs) ys e =
    let h : l ≡ x = cc in
    let t : unnumbered ls ≡ xs ++ ys = cc in
    let k = splits ls xs ys t in
    record {
      front = (n, l) ∷ k.front;
      back = k.back;
      is = ap (λ y. (n, l) ∷ y) k.is;
      in_front = ap (λ y. y ∷ unnumbered k.front) h ∙ ap (λ y. x ∷ y) k.in_front;
      after = k.after;
    }

pub none_read : (ls : List Numbered) → unnumbered ls ≡ [] → ls ≡ []
none_read [] e = refl
none_read (l ∷ ls) e = absurd cc

pub read_append : (xs ys : List Numbered) → unnumbered (xs ++ ys) ≡ unnumbered xs ++ unnumbered ys
read_append xs ys = map-append (λ (l : Numbered). l.1) xs ys

pub length_after : (xs ys zs : List Numbered) → xs ≡ ys ++ zs → length zs ≤ length xs
length_after xs ys zs e = let h = ap length e in let k = length-append ys zs in omega arith

-- The lines are mine, which say xs, and those after.
pub record Front (ls : List Numbered) (xs : List Line) : Type 0 where
  pub mine : List Numbered
  pub after : List Numbered
  pub split : ls ≡ mine ++ after
  pub word_values : unnumbered mine ≡ xs

-- one line more in front
abbrev pub more_front : {ls : List Numbered} {xs : List Line} (n : ℕ) (l : Line) → Front ls xs → Front ((n, l) ∷ ls) (l ∷ xs)
more_front n l f = record { mine = (n, l) ∷ f.mine; after = f.after; split = ap (λ z. (n, l) ∷ z) f.split; word_values = ap (λ z. l ∷ z) f.word_values }

-- the lines, and of those after them the next
abbrev pub front_then : {ls : List Numbered} {xs ys zs : List Line} (f : Front ls xs) → Front f.after ys → xs ++ ys ≡ zs → Front ls zs
front_then {xs = xs} f g e = record {
  mine = f.mine ++ g.mine;
  after = g.after;
  split = f.split ∙ ap (λ z. f.mine ++ z) g.split ∙ sym (append_assoc f.mine g.mine g.after);
  word_values = read_append f.mine g.mine ∙ ap (λ z. z ++ unnumbered g.mine) f.word_values ∙ ap (λ z. xs ++ z) g.word_values ∙ e;
}

-- What was read, up to a line from where the lines after it run on.
pub record Behind {X : Type 0} (state : X → ℕ → State) (after : List Numbered) (t : State) : Type 0 where
  pub final : X
  pub line : ℕ
  pub runs : Runs (state final line) after t

-- a line that may stand there, and those after it
pub goes : (s u : State) (ls after : List Numbered) (t : State) (l : Line) (xs : List Line) (st : Starts ls l xs) → Steps s st.number l u → Runs u (st.rest ++ after) t → Runs s (ls ++ after) t
goes s u ls after t l xs st step r = subst (λ ys. Runs s (ys ++ after) t) (sym st.is) (u, step, r)

-- ---- states of a class

-- In a class.
abbrev pub within : ClassPart → List Class → Option ℕ → Open → ℕ → State
within p done late o n = record { done = done; block = in_class o p; lines = n; late = late }

-- After a whole class.
abbrev pub after_class : List Class → Option ℕ → Open → ℕ → State
after_class done late o n = record { done = done ++ closed o ∷ []; block = at_top; lines = n; late = late }

-- A class that is open isn't whole.
pub class_open : (p : ClassPart) (done : List Class) (late : Option ℕ) (o : Open) (n : ℕ) (t : State) → t.block ≡ at_top → t ≡ at_line (within p done late o n) t.lines → ⊥
class_open p done late o n t e r = let h : at_top ≡ in_class o p = sym e ∙ ap (λ (x : State). x.block) r in cc
