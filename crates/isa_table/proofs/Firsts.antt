-- What passes a test first passes it.
use Rattle.std.proofs.Common.{◌≡◌, Bool, true, false, List, [], ◌∷◌, Some, if◌then◌else◌, refl, subst}
use Rattle.std.proofs.lemmas.Option.{same_Some}
use Rattle.trips_isa.specs.declared.op.Op.{Op}
use Rattle.isa_table.specs.inside.Operations.{first_with}

-- the first operation that passes a test passes it
pub first_taken : (test : Op → Bool) (os : List Op) (x : Op) → first_with test os ≡ Some x → test x ≡ true
first_taken test [] x e = absurd cc
first_taken test (o ∷ os) x e = by (first_taken test os x) (test o) refl e
  where
    by : (first_with test os ≡ Some x → test x ≡ true) → (b : Bool) → test o ≡ b
        → (if b then Some o else first_with test os) ≡ Some x → test x ≡ true
    by later true t f = subst (λ y. test y ≡ true) (same_Some o x f) t
    by later false t f = later f
