-- What holds of a reading where it gives something, step by step.
use Rattle.std.proofs.Common.{◌≡◌, refl, Option, Some, None, Bool, true, false}
use Rattle.std.specs.Prelude.{Result, Ok, Err, if◌then◌else◌}
use Rattle.target_asm_spec.specs.declared.fault.AsmFault.{AsmFault}
use Rattle.target_asm_spec.specs.Reading.{◌>>=◌}
use Rattle.target_asm_spec.specs.inside.Reading.{or_else}
use Rattle.target_asm_spec.specs.inside.Blocks.{◌>>>◌, or_fault, wants}

-- P holds of what is there
abbrev pub If : {A : Type 0} → (A → Type 0) → Option A → Type 0
If P None = Unit {0}
If P (Some x) = P x

-- P holds of what is given without a fault
abbrev pub Holds : {A : Type 0} → (A → Type 0) → Result A AsmFault → Type 0
Holds P (Ok x) = P x
Holds P (Err e) = Unit {0}

-- what holds of the first answer and then of the next holds of both steps
pub bind : {A B : Type 0} (P : A → Type 0) (Q : B → Type 0) (x : Option A) (f : A → Option B)
    → If P x → ((v : A) → P v → If Q (f v)) → If Q (x >>= f)
bind P Q None f p q = tt
bind P Q (Some v) f p q = q v p

-- what holds of the first result and then of the next holds of both steps
pub chain : {A B : Type 0} (P : A → Type 0) (Q : B → Type 0) (x : Result A AsmFault)
    (f : A → Result B AsmFault)
    → Holds P x → ((v : A) → P v → Holds Q (f v)) → Holds Q (x >>> f)
chain P Q (Err e) f p q = tt
chain P Q (Ok v) f p q = q v p

-- what follows from what holds of an answer holds of it
pub gives : {A : Type 0} (P Q : A → Type 0) (x : Option A) → If P x → ((v : A) → P v → Q v)
    → If Q x
gives P Q None p q = tt
gives P Q (Some v) p q = q v p

-- what is there or the fault
pub or_holds : {A : Type 0} (P : A → Type 0) (e : AsmFault) (x : Option A) → If P x
    → Holds P (or_fault e x)
or_holds P e None p = tt
or_holds P e (Some v) p = p

-- what is wanted holds
pub wanted : (b : Bool) (e : AsmFault) → Holds (λ (u : Unit {0}). b ≡ true) (wants b e)
wanted true e = refl
wanted false e = tt

-- either of two
pub either : {A : Type 0} (P : A → Type 0) (x y : Option A) → If P x → If P y → If P (or_else x y)
either P None y p q = q
either P (Some v) y p q = p

-- what is there only where a test fails
pub unless : {A : Type 0} (P : A → Type 0) (b : Bool) (x : A) → (b ≡ false → P x)
    → If P (if b then None else Some x)
unless P true x p = tt
unless P false x p = p refl

-- what holds of an answer wherever a test is true holds of the answer under the test
pub when : {A : Type 0} (P : A → Type 0) (b : Bool) (x : Option A) → (b ≡ true → If P x)
    → If P (if b then x else None)
when P true x p = p refl
when P false x p = tt

-- what holds of both branches holds of the choice
pub fork : {A : Type 0} (P : A → Type 0) (b : Bool) (x y : Result A AsmFault)
    → (b ≡ true → Holds P x) → (b ≡ false → Holds P y) → Holds P (if b then x else y)
fork P true x y p q = p refl
fork P false x y p q = q refl
