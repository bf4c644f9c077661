-- What a call gives, beside what the definition says.
use Rattle.std.specs.Prelude.{◌≡◌, Result, Ok, Err}
use Rattle.c_library.specs.declared.fault.LibraryFault.{LibraryFault}
use Rattle.c_library.specs.declared.fault.LibraryFault.TheVariants as fault

-- the fault is the definition's, unless memory runs out
abbrev pub Refuses : {A : Type 0} → Result A LibraryFault → LibraryFault → Type 0
Refuses model fault.Memory = Unit {0}
Refuses model e = model ≡ Err e

-- what is there behind the call is what the definition says, unless memory runs out
abbrev pub Gives : {A : Type 0} → Result A LibraryFault → Result (Unit {0}) LibraryFault → A → Type 0
Gives model (Ok _) new = model ≡ Ok new
Gives model (Err e) new = Refuses model e
