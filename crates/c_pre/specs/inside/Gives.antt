-- What a call gives, beside what the definition says.
use Rattle.std.specs.Prelude.{◌≡◌, Result, Ok, Err}
use Rattle.c_pre.specs.declared.fault.PreFault.{PreFault}
use Rattle.c_pre.specs.declared.fault.PreFault.TheVariants as fault

-- the fault is the definition's, unless memory runs out
abbrev pub Refuses : {A : Type 0} → Result A PreFault → PreFault → Type 0
Refuses model fault.Memory = Unit {0}
Refuses model e = model ≡ Err e

-- what is there behind the call is what the definition says, unless memory runs out
abbrev pub Gives : {A : Type 0} → Result A PreFault → Result (Unit {0}) PreFault → A → Type 0
Gives model (Ok _) new = model ≡ Ok new
Gives model (Err e) new = Refuses model e
