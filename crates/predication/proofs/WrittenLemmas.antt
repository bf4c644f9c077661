-- Of the registers that are set those are written that outlast the block.
use Rattle.std.proofs.Common.{◌≡◌, ℕ, List, [], ◌∷◌, refl, sym, ap, ◌∙◌, arith, cond, nat_eq, Bool, true, false}
use Rattle.std.proofs.lemmas.Bool.Decides.{nat_tests}
use Rattle.hyper_narrow.specs.declared.narrowed.Lasting.{Lasting}
use Rattle.hyper_narrow.specs.declared.narrowed.Lasting.TheVariants.{Every, Those}
use Rattle.hyper_narrow.specs.inside.NarrowedCode.{is_among, outlasts}
use Rattle.predication.specs.inside.Environments.{member}
use Rattle.predication.specs.inside.Converted.{chosen, among}

all_of : (c : Bool) → c ≡ cond c true false
all_of true = refl
all_of false = refl

none_of : (c : Bool) → cond c false false ≡ false
none_of true = refl
none_of false = refl

member_or : (c : Bool) (r q : ℕ) (rs : List ℕ)
    → member r (cond c (q ∷ rs) rs) ≡ cond c (cond (nat_eq r q) true (member r rs)) (member r rs)
member_or true r q rs = refl
member_or false r q rs = refl

member_chosen : (set r : ℕ) (rs : List ℕ) → member r (chosen set rs) ≡ cond (member r rs) (is_among set r) false
member_chosen set r [] = refl
member_chosen set r (q ∷ rs) =
    member_or (is_among set q) r q (chosen set rs)
    ∙ go (nat_eq r q) refl (is_among set q) refl (member_chosen set r rs)
  where
    go : (c : Bool) → nat_eq r q ≡ c → (d : Bool) → is_among set q ≡ d
        → member r (chosen set rs) ≡ cond (member r rs) (is_among set r) false
        → cond d (cond c true (member r (chosen set rs))) (member r (chosen set rs))
        ≡ cond (cond c true (member r rs)) (is_among set r) false
    go true e true f ih =
        let same : r ≡ q = grind (arith, nat_tests) in sym (ap (is_among set) same ∙ f)
    go true e false f ih =
        let same : r ≡ q = grind (arith, nat_tests) in
        let out : is_among set r ≡ false = ap (is_among set) same ∙ f in
        ih ∙ ap (λ (x : Bool). cond (member r rs) x false) out ∙ none_of (member r rs) ∙ sym out
    go false e true f ih = ih
    go false e false f ih = ih

-- a register is among those that outlast the block where it is among all and outlasts it
pub member_among : (set : Lasting) (r : ℕ) (rs : List ℕ)
    → member r (among set rs) ≡ cond (member r rs) (outlasts set r) false
member_among Every r rs = all_of (member r rs)
member_among (Those set) r rs = member_chosen set r rs
