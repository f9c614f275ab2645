-- Why a call failed, where it was this.
use Rattle.std.specs.Prelude.{Result}
use Rattle.std.proofs.Common.{Ok, Err}
use Rattle.dexasm_world.specs.FileKinds.{RefusedFor, Caused}
use Rattle.dexasm_world.specs.declared.world.Refusal.{Refusal}
use Rattle.dexasm_world.specs.declared.world.Refusal.TheVariants.{Missing, Memory, Other}

-- a cause leads on to another
pub refused_by : (r : Refusal) (P Q : Type 0) → (P → Q) → RefusedFor r P → RefusedFor r Q
refused_by Memory P Q to h = tt
refused_by Missing P Q to h = to h
refused_by Other P Q to h = to h

pub caused_by : {T : Type 0} (r : Result T Refusal) (P Q : Type 0) → (P → Q) → Caused r P → Caused r Q
caused_by (Ok x) P Q to h = tt
caused_by (Err r) P Q to h = refused_by r P Q to h
