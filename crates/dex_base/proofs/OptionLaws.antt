-- What follows where a clause speaks of a `Some` or a `None`.
use Rattle.std.proofs.Common.{Option, Some, None}
use Rattle.std.specs.Prelude.{IfNone, IfSome, option_map}

-- a fact holds in any case
pub IfNone-always : {A P : Type 0} (o : Option A) → P → IfNone o P
IfNone-always None p = p
IfNone-always (Some x) p = tt

-- what follows from what a clause says of a `None`
pub IfNone-weaker : {A P Q : Type 0} (o : Option A) → (P → Q) → IfNone o P → IfNone o Q
IfNone-weaker None f p = f p
IfNone-weaker (Some x) f p = tt

-- what follows of a value that is turned into another
pub IfSome-map : {A B : Type 0} (f : A → B) (P : A → Type 0) (Q : B → Type 0) (o : Option A) → ((x : A) → P x → Q (f x)) → IfSome o P → IfSome (option_map f o) Q
IfSome-map f P Q None g h = tt
IfSome-map f P Q (Some x) g h = g x h
