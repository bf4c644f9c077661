-- What tests that hold say.
use Rattle.std.proofs.Common.{◌≡◌, ℕ, Bool, true, false, List, [], ◌∷◌, Option, Some, None, refl, sym, ap, ◌∙◌}
use Rattle.std.proofs.Common.{eq-eqb}
use Rattle.std.specs.Prelude.{◌&&◌, ◌||◌}
use Rattle.std.proofs.lemmas.Bool.{false≢true, eqb-true}
use Rattle.c_tree.specs.declared.token.Kind.{Kind}
use Rattle.c_tree.specs.declared.typed.Slot.{Slot}
use Rattle.c_tree.specs.declared.typed.Slot.TheVariants as slot
use Rattle.c_constant.proofs.SameKinds.{kinds_are, kind_itself}
use Rattle.c_type_expr.specs.Roles.{same_row}
use Rattle.c_type.specs.Units.{same_slot, same_slots, same_result}

-- both of two tests
pub both_hold : (a b : Bool) → a && b ≡ true → (a ≡ true) × (b ≡ true)
both_hold true b h = (refl, h)
both_hold false b h = absurd (false≢true h)

-- neither of two tests
pub neither_holds : (a b : Bool) → a || b ≡ false → (a ≡ false) × (b ≡ false)
neither_holds false b h = (refl, h)
neither_holds true b h = absurd (false≢true (sym h))

-- second sizes that are the same by the test
rows_are : (p q : Option ℕ) → same_row p q ≡ true → p ≡ q
rows_are None None h = refl
rows_are (Some m) (Some n) h = ap Some (eqb-true m n h)
rows_are None (Some n) h = absurd (false≢true h)
rows_are (Some m) None h = absurd (false≢true h)

row_itself : (p : Option ℕ) → same_row p p ≡ true
row_itself None = refl
row_itself (Some n) = eq-eqb n n refl

slots_are : (s t : Slot) → same_slot s t ≡ true → s ≡ t
slots_are (slot.Scalar j) (slot.Scalar k) h = ap slot.Scalar (kinds_are j k h)
slots_are (slot.Address j p) (slot.Address k q) h =
    let r = both_hold _ (same_row p q) h in
    ap (λ j. slot.Address j p) (kinds_are j k r.0) ∙ ap (λ p. slot.Address k p) (rows_are p q r.1)
slots_are (slot.Scalar j) (slot.Address k q) h = absurd (false≢true h)
slots_are (slot.Address j p) (slot.Scalar k) h = absurd (false≢true h)

slot_itself : (s : Slot) → same_slot s s ≡ true
slot_itself (slot.Scalar k) = kind_itself k
slot_itself (slot.Address k p) = ap (λ b. b && same_row p p) (kind_itself k) ∙ row_itself p

-- parameters that are the same by the test
pub params_are : (ss ts : List Slot) → same_slots ss ts ≡ true → ss ≡ ts
params_are [] [] h = refl
params_are [] (t ∷ ts) h = absurd (false≢true h)
params_are (s ∷ ss) [] h = absurd (false≢true h)
params_are (s ∷ ss) (t ∷ ts) h =
    let q = both_hold (same_slot s t) (same_slots ss ts) h in
    ap (λ s. s ∷ ss) (slots_are s t q.0) ∙ ap (λ ss. t ∷ ss) (params_are ss ts q.1)

-- parameters are the same as themselves
pub params_themselves : (ss : List Slot) → same_slots ss ss ≡ true
params_themselves [] = refl
params_themselves (s ∷ ss) = ap (λ b. b && same_slots ss ss) (slot_itself s) ∙ params_themselves ss

-- results that are the same by the test
pub results_are : (r q : Option Kind) → same_result r q ≡ true → r ≡ q
results_are None None h = refl
results_are None (Some k) h = absurd (false≢true h)
results_are (Some j) None h = absurd (false≢true h)
results_are (Some j) (Some k) h = ap Some (kinds_are j k h)

-- a result is the same as itself
pub result_itself : (r : Option Kind) → same_result r r ≡ true
result_itself None = refl
result_itself (Some k) = kind_itself k
