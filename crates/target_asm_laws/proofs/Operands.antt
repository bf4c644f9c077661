-- The operands of a read are told apart as they are spelled.
use Rattle.std.proofs.Common.{◌≡◌, ℕ, ◌-◌, List, [], ◌∷◌, ◌++◌, length, take, refl, sym}
use Rattle.std.proofs.Common.{ap, ◌∙◌, arith, Option, Some, None, Bool, true, false, eq-eqb}
use Rattle.std.proofs.Common.{append_assoc}
use Rattle.std.specs.Prelude.{ℤ, pos, negsuc, codes, ◌&&◌, if◌then◌else◌, is_some}
use Rattle.std.proofs.lemmas.List.{take_at, length-append, append_cancel_right}
use Rattle.target_asm_spec.specs.declared.spelled.SpelledTarget.{SpelledTarget}
use Rattle.target_asm_spec.specs.declared.spelled.SpelledTarget.TheVariants as spelled
use Rattle.target_asm_spec.specs.Reading.{◌>>=◌}
use Rattle.target_asm_spec.specs.inside.Reading.{after_in}
use Rattle.target_asm_spec.specs.inside.Places.{target_in}
use Rattle.target_asm_spec.specs.inside.Registers.{is_operand, same_number, same_operand, same_text}
use Rattle.target_asm_spec.specs.inside.Registers.{operands_fit, second_fits}
use Rattle.target_asm_spec.specs.Lines.{target_words, maybe_words}
use Rattle.target_asm_spec.specs.Lines.{IsOperand, AreOperands}
use Rattle.target_asm_spec.proofs.Numbers.{after_front}
use Rattle.target_asm_laws.proofs.Binds.{If}
use Rattle.target_asm_laws.proofs.Digits.{IsAfter, after_is}
use Rattle.target_asm_laws.proofs.Registers.{alike_is}
use Rattle.target_asm_laws.proofs.Numerals.{capped_z}
use Rattle.target_asm_laws.proofs.FaultTargets.{capped_target, capped_maybe, target_read}

-- ---- two operands

-- a target's text before another
apart : (t : SpelledTarget) (rest : List ℕ) → target_words t rest ≡ target_words t [] ++ rest
unfolding target_words
apart (spelled.Write n) rest = simp append_assoc refl
apart (spelled.Left n) rest = simp append_assoc refl
apart (spelled.Right n) rest = simp append_assoc refl
apart (spelled.Pred n) rest = simp append_assoc refl

abbrev left_of : {A : Type 0} → Option (A × List ℕ) → List ℕ
left_of None = []
left_of (Some x) = x.1

-- what two readings of one text leave is the same
pub same_rest : {A : Type 0} (a b : A) (r m : List ℕ) → ◌≡◌ {A = Option (A × List ℕ)} (Some (a, r)) (Some (b, m))
    → r ≡ m
same_rest a b r m e = ap left_of e

-- and what they give
pub same_item : {A : Type 0} (a b : A) (r m : List ℕ) → ◌≡◌ {A = Option (A × List ℕ)} (Some (a, r)) (Some (b, m))
    → a ≡ b
same_item {A} a b r m e = ap item_of e
  where
    item_of : Option (A × List ℕ) → A
    item_of None = a
    item_of (Some x) = x.0

begins_by : (t u : SpelledTarget) (r : List ℕ) (o : Option (List ℕ))
    → If (IsAfter (target_words t []) (target_words u r)) o → is_some o ≡ true
    → target_words u [] ≡ target_words t []
begins_by t u r None p s = absurd cc
begins_by t u r (Some more) p s =
    let w : List ℕ = target_words t [] in
    let e : target_words u r ≡ target_words t more = p ∙ sym (apart t more) in
    let m : r ≡ more = same_rest (capped_target u) (capped_target t) r more
    (sym (target_read u r) ∙ ap target_in e ∙ target_read t more) in
    append_cancel_right (target_words u []) w r
    (sym (apart u r) ∙ p ∙ ap (λ (x : List ℕ). w ++ x) (sym m))

-- two targets of which the second begins as the first are spelled alike
alike_text : (t u : SpelledTarget) (r : List ℕ)
    → same_text (target_words t (32 ∷ target_words u r)) (32 ∷ target_words u r) ≡ true
    → target_words u [] ≡ target_words t []
unfolding same_text
alike_text t u r h =
    let w : List ℕ = target_words t [] in
    let x : List ℕ = target_words u r in
    let text : List ℕ = target_words t (32 ∷ x) in
    let e : text ≡ w ++ 32 ∷ x = apart t (32 ∷ x) in
    let n : length w ≡ length (w ++ 32 ∷ x) - length (32 ∷ x) =
    omega (arith, length-append w (32 ∷ x)) in
    let front : take (length text - length (32 ∷ x)) text ≡ w =
    ap (λ (y : List ℕ). take (length y - length (32 ∷ x)) y) e
    ∙ take_at w (32 ∷ x) (length (w ++ 32 ∷ x) - length (32 ∷ x)) n in
    let space : after_in (codes " ") (32 ∷ x) ≡ Some x = after_front (codes " ") x in
    let same : is_some (after_in (codes " ") (32 ∷ x)
    >>= after_in (take (length text - length (32 ∷ x)) text)) ≡ is_some (after_in w x) =
    rw (space, front) refl in
    begins_by t u r (after_in w x) (after_is w x) (sym same ∙ h)

-- two targets that are spelled alike are told to be
text_alike : (t u : SpelledTarget) (r : List ℕ) → target_words u [] ≡ target_words t []
    → same_text (target_words t (32 ∷ target_words u r)) (32 ∷ target_words u r) ≡ true
text_alike t u r e =
    let w : List ℕ = target_words t [] in
    let x : target_words u r ≡ w ++ r = apart u r ∙ ap (λ (y : List ℕ). y ++ r) e in
    let a : target_words t (32 ∷ target_words u r) ≡ w ++ 32 ∷ target_words u r =
    apart t (32 ∷ target_words u r) in
    ap (λ (y : List ℕ). same_text y (32 ∷ target_words u r)) a
    ∙ ap (λ (y : List ℕ). same_text (w ++ 32 ∷ y) (32 ∷ y)) x ∙ alike_is w r

-- they are read alike too
read_alike : (t u : SpelledTarget) → target_words u [] ≡ target_words t []
    → capped_target u ≡ capped_target t
read_alike t u e = same_item (capped_target u) (capped_target t) [] []
    (sym (target_read u []) ∙ ap target_in e ∙ target_read t [])

operand_capped : (t : SpelledTarget) → IsOperand t → is_operand (capped_target t) ≡ true
operand_capped (spelled.Left n) f = refl
operand_capped (spelled.Right n) f = refl
operand_capped (spelled.Pred n) f = absurd f
operand_capped (spelled.Write n) f = absurd f

capped_operand : (t : SpelledTarget) → is_operand (capped_target t) ≡ true → IsOperand t
capped_operand (spelled.Left n) f = tt
capped_operand (spelled.Right n) f = tt
capped_operand (spelled.Pred n) f = absurd cc
capped_operand (spelled.Write n) f = absurd cc

number_self : (z : ℤ) → same_number z z ≡ true
number_self (pos n) = eq-eqb n n refl
number_self (negsuc n) = eq-eqb n n refl

operand_self : (t : SpelledTarget) → IsOperand t
    → same_operand (capped_target t) (capped_target t) ≡ true
operand_self (spelled.Left n) f = number_self (capped_z n)
operand_self (spelled.Right n) f = number_self (capped_z n)
operand_self (spelled.Pred n) f = absurd f
operand_self (spelled.Write n) f = absurd f

not_both : (a b : Bool) → (b ≡ true → ⊥) → (if a && b then false else true) ≡ true
not_both true true f = absurd (f refl)
not_both true false f = refl
not_both false true f = refl
not_both false false f = refl

not_alike : (a b : Bool) → (if a && b then false else true) ≡ true → a ≡ true → b ≡ true → ⊥
not_alike true true e p q = absurd cc
not_alike true false e p q = absurd cc
not_alike false b e p q = absurd cc

-- the operands of a read are taken for such
pub fit_read : (t : SpelledTarget) (u : Option SpelledTarget) (r : List ℕ) → AreOperands t u
    → operands_fit (same_text (target_words t (maybe_words u r)) (maybe_words u r))
    (capped_target t) (capped_maybe u) ≡ true
unfolding operands_fit second_fits maybe_words
fit_read t None r f = let e = operand_capped t f in rw e refl
fit_read t (Some u) r f =
    let e = operand_capped t f.0 in
    let g = operand_capped u f.1 in
    let alike : Bool = same_text (target_words t (32 ∷ target_words u r)) (32 ∷ target_words u r) in
    let n = not_both (same_operand (capped_target t) (capped_target u)) alike
    (λ a. f.2 (alike_text t u r a)) in
    rw (e, g) n

if_true : (a b : Bool) → (if a then b else false) ≡ true → (a ≡ true) × (b ≡ true)
if_true true b e = (refl, e)
if_true false b e = absurd cc

-- and what is taken for operands of a read are such
pub fit_of : (t : SpelledTarget) (u : Option SpelledTarget) (r : List ℕ)
    → operands_fit (same_text (target_words t (maybe_words u r)) (maybe_words u r))
    (capped_target t) (capped_maybe u) ≡ true → AreOperands t u
unfolding operands_fit second_fits maybe_words
fit_of t None r f = capped_operand t (if_true (is_operand (capped_target t)) true f).0
fit_of t (Some u) r f =
    let alike : Bool = same_text (target_words t (32 ∷ target_words u r)) (32 ∷ target_words u r) in
    let one : Bool = if same_operand (capped_target t) (capped_target u) && alike then false else true in
    let a = if_true (is_operand (capped_target t)) (if is_operand (capped_target u) then one else false) f in
    let b = if_true (is_operand (capped_target u)) one a.1 in
    let first : IsOperand t = capped_operand t a.0 in (
      first,
      capped_operand u b.0,
      λ e. not_alike (same_operand (capped_target t) (capped_target u)) alike b.1
          (ap (same_operand (capped_target t)) (read_alike t u e) ∙ operand_self t first)
          (text_alike t u r e),
    )
