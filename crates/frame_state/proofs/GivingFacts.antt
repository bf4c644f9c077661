-- What an instruction gives, where its form is at hand.
use Rattle.std.proofs.Common.{◌≡◌, ℕ, None, Some, refl, ap}
use Rattle.trips_isa.specs.declared.block.Token.TheVariants.{Null, Word}
use Rattle.trips_isa.specs.declared.block.Inst.{Inst}
use Rattle.trips_isa.specs.declared.form.Form.{Form}
use Rattle.trips_isa.specs.Forms.{form_of, role_in, role_of}
use Rattle.trips_isa.specs.Rule.{Answer, gives, of_one}
use Rattle.trips_isa.specs.Blocks.{form_computes, slot_computes}

-- a token whose word stays is the token
pub word_stays : (t : Answer) → t ≡ of_one (λ x. x) t
word_stays None = refl
word_stays (Some Null) = refl
word_stays (Some (Word w)) = refl

-- what is given by its form is what it gives
pub by_form : (f : Form) (i : Inst) (w : ℕ) (l r : Answer) → f ≡ form_of i.op
    → gives (role_in f i.op) (form_computes f i (λ a. w)) l r
    ≡ gives (role_of i.op) (slot_computes (Some i) (λ a. w)) l r
by_form f i w l r e = ap (λ z. gives (role_in z i.op) (form_computes z i (λ a. w)) l r) e
