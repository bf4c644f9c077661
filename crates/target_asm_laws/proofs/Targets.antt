-- A text that is read as a target is the text of that target.
use Rattle.std.proofs.Common.{◌≡◌, ℕ, List, [], ◌∷◌, ◌++◌, append_assoc, refl, sym}
use Rattle.std.proofs.Common.{ap, ◌∙◌, arith, Option, Some, None}
use Rattle.std.specs.Prelude.{ℤ, codes}
use Rattle.std.specs.Fmt.{signed_decimal}
use Rattle.trips_isa.specs.declared.block.Spot.{Spot}
use Rattle.trips_isa.specs.declared.block.Spot.TheVariants as spot
use Rattle.trips_isa.specs.Fits.{FitsTarget}
use Rattle.isa_table.specs.Spots.{indexed, at_slot, spot_text}
use Rattle.target_asm_spec.specs.Fields.{target_text}
use Rattle.target_asm_spec.specs.declared.spelled.SpelledTarget.{SpelledTarget}
use Rattle.target_asm_spec.specs.declared.spelled.SpelledTarget.TheVariants as spelled
use Rattle.target_asm_spec.specs.Reading.{field_in}
use Rattle.target_asm_spec.specs.inside.Reading.{or_else, after_in, number_in, index_in}
use Rattle.target_asm_spec.specs.inside.Places.{left_in, right_in, pred_in, place_in, slot_in, write_in}
use Rattle.target_asm_spec.specs.Places.{spot_of, maybe_spot}
use Rattle.target_asm_spec.specs.inside.Places.{target_by, target_in, next_by, next_in}
use Rattle.target_asm_spec.proofs.Numbers.{IsSmall}
use Rattle.target_asm_spec.proofs.Targets.{spelled_spot, spelled_target}
use Rattle.target_asm_laws.proofs.Binds.{If, bind, either}
use Rattle.target_asm_laws.proofs.Digits.{Spells, IsAfter, after_is, IsNumber, number_is, IsIndex}
use Rattle.target_asm_laws.proofs.Digits.{index_is, InField, field_is}

-- the text of a target as it is spelled
abbrev pub target_decimals : SpelledTarget → List ℕ
target_decimals (spelled.Write n) = 87 ∷ 91 ∷ (signed_decimal n ++ 93 ∷ [])
target_decimals (spelled.Left n) = 78 ∷ 91 ∷ (signed_decimal n ++ 44 ∷ 48 ∷ 93 ∷ [])
target_decimals (spelled.Right n) = 78 ∷ 91 ∷ (signed_decimal n ++ 44 ∷ 49 ∷ 93 ∷ [])
target_decimals (spelled.Pred n) = 78 ∷ 91 ∷ (signed_decimal n ++ 44 ∷ 112 ∷ 93 ∷ [])

-- the number of a target is small
abbrev pub SmallTarget : SpelledTarget → Type 0
SmallTarget (spelled.Write n) = IsSmall n
SmallTarget (spelled.Left n) = IsSmall n
SmallTarget (spelled.Right n) = IsSmall n
SmallTarget (spelled.Pred n) = IsSmall n

-- a text that is read as a target is its text, if its number is small
abbrev pub IsTarget : List ℕ → SpelledTarget × List ℕ → Type 0
IsTarget text r = Spells target_decimals SmallTarget text r

-- what follows the number of a slot
last : (n : ℤ) (end text inner rest : List ℕ)
    → text ≡ 78 ∷ 91 ∷ (signed_decimal n ++ inner) → inner ≡ end ++ rest
    → text ≡ 78 ∷ 91 ∷ (signed_decimal n ++ end) ++ rest
last n end text inner rest t i =
    t ∙ ap (λ (x : List ℕ). 78 ∷ 91 ∷ (signed_decimal n ++ x)) i
    ∙ ap (λ (x : List ℕ). 78 ∷ 91 ∷ x) (sym (append_assoc (signed_decimal n) end rest))

place_is : (n : ℤ) (text inner : List ℕ)
    → (IsSmall n → text ≡ 78 ∷ 91 ∷ (signed_decimal n ++ inner))
    → If (IsTarget text) (place_in n inner)
unfolding place_in
place_is n text inner h =
    either (IsTarget text) (left_in n inner) (or_else (right_in n inner) (pred_in n inner))
    (bind (IsAfter (codes ",0]") inner) (IsTarget text) (after_in (codes ",0]") inner) _
    (after_is (codes ",0]") inner)
    (λ rest a l. last n (codes ",0]") text inner rest (h l) a))
    (either (IsTarget text) (right_in n inner) (pred_in n inner)
    (bind (IsAfter (codes ",1]") inner) (IsTarget text) (after_in (codes ",1]") inner) _
    (after_is (codes ",1]") inner)
    (λ rest a l. last n (codes ",1]") text inner rest (h l) a))
    (bind (IsAfter (codes ",p]") inner) (IsTarget text) (after_in (codes ",p]") inner) _
    (after_is (codes ",p]") inner)
    (λ rest a l. last n (codes ",p]") text inner rest (h l) a)))

slot_is : (text inner : List ℕ) → text ≡ 78 ∷ 91 ∷ inner → If (IsTarget text) (slot_in inner)
unfolding slot_in
slot_is text inner e =
    bind (IsNumber inner) (IsTarget text) (number_in inner) _ (number_is inner) (λ n h.
    place_is n.0 text n.1 (λ l. e ∙ ap (λ (x : List ℕ). 78 ∷ 91 ∷ x) (h l)))

write_is : (text : List ℕ) → If (IsTarget text) (write_in text)
unfolding write_in
write_is text =
    bind (IsIndex (codes "W[") text) (IsTarget text) (index_in (codes "W[") text) _
    (index_is (codes "W[") text) (λ n h l.
    h l ∙ ap (λ (x : List ℕ). 87 ∷ 91 ∷ x) (sym (append_assoc (signed_decimal n.0) (93 ∷ []) n.1)))

target_by_is : (text : List ℕ) (o : Option (List ℕ)) → If (IsAfter (codes "N[") text) o
    → If (IsTarget text) (target_by o text)
target_by_is text None h = write_is text
target_by_is text (Some inner) h = slot_is text inner h

-- what is read as a target is its text
pub target_is : (text : List ℕ) → If (IsTarget text) (target_in text)
unfolding target_in
target_is text = target_by_is text (after_in (codes "N[") text) (after_is (codes "N[") text)

-- ---- a target after a space, if there is one

-- a space and the decimals of a target, if there is one
abbrev pub maybe_decimals : Option SpelledTarget → List ℕ
maybe_decimals None = []
maybe_decimals (Some t) = 32 ∷ target_decimals t

-- a target has a small number, if there is one
abbrev pub SmallMaybe : Option SpelledTarget → Type 0
SmallMaybe None = Unit {0}
SmallMaybe (Some t) = SmallTarget t

-- a target that may be there: its text, if its number is small, or none stands there
pub record IsNext (text : List ℕ) (r : Option SpelledTarget × List ℕ) : Type 0 where
  pub spells : Spells maybe_decimals SmallMaybe text r
  pub ends : r.0 ≡ None → after_in (codes " ") r.1 ≡ None
  pub none : after_in (codes " ") text ≡ None → r.0 ≡ None

next_by_is : (text : List ℕ) (o : Option (List ℕ)) → after_in (codes " ") text ≡ o
    → If (IsAfter (codes " ") text) o → If (IsNext text) (next_by o text)
next_by_is text None e h =
    record { spells = λ l. refl; ends = λ n. e; none = λ n. refl }
next_by_is text (Some rest) e h =
    bind (IsTarget rest) (IsNext text) (target_in rest) (λ t. Some (Some t.0, t.1))
    (target_is rest) (λ t p. record {
      spells = λ l. h ∙ ap (λ (x : List ℕ). 32 ∷ x) (p l);
      ends = λ n. absurd cc;
      none = λ n. absurd cc;
    })

-- what is read as a target that may be there is its text
pub next_is : (text : List ℕ) → If (IsNext text) (next_in text)
unfolding next_in
next_is text = next_by_is text (after_in (codes " ") text) refl (after_is (codes " ") text)

-- ---- targets whose numbers lie in their fields

-- a spelled target that is the target s, which fits
pub record IsSpot (t : SpelledTarget) (s : Spot) : Type 0 where
  pub is : t ≡ spelled_spot s
  pub fits : FitsTarget (Some s)

-- a spelled target that is judged to be one is this target, and it fits
pub spot_is : (t : SpelledTarget) → If (IsSpot t) (spot_of t)
unfolding spot_of
spot_is (spelled.Write n) =
    bind (InField n 32) (IsSpot (spelled.Write n)) (field_in n 32) _ (field_is n 32)
    (λ w f. record { is = ap spelled.Write f.is; fits = f.below })
spot_is (spelled.Left n) =
    bind (InField n 128) (IsSpot (spelled.Left n)) (field_in n 128) _ (field_is n 128)
    (λ w f. record { is = ap spelled.Left f.is; fits = f.below })
spot_is (spelled.Right n) =
    bind (InField n 128) (IsSpot (spelled.Right n)) (field_in n 128) _ (field_is n 128)
    (λ w f. record { is = ap spelled.Right f.is; fits = f.below })
spot_is (spelled.Pred n) =
    bind (InField n 128) (IsSpot (spelled.Pred n)) (field_in n 128) _ (field_is n 128)
    (λ w f. record { is = ap spelled.Pred f.is; fits = f.below })

-- a spelled target, or none, that is the target s, or none
pub record IsMaybe (t : Option SpelledTarget) (s : Option Spot) : Type 0 where
  pub is : t ≡ spelled_target s
  pub fits : FitsTarget s

-- a spelled target, or none, that is judged to be one is this one
pub maybe_is : (t : Option SpelledTarget) → If (IsMaybe t) (maybe_spot t)
unfolding maybe_spot
maybe_is None = record { is = refl; fits = tt }
maybe_is (Some t) =
    bind (IsSpot t) (IsMaybe (Some t)) (spot_of t) _ (spot_is t)
    (λ s p. record { is = ap (λ (x : SpelledTarget). Some x) p.is; fits = p.fits })

-- a target in its field has its text, and its number is small
pub spot_words : (s : Spot) → FitsTarget (Some s) → target_decimals (spelled_spot s) ≡ spot_text s
unfolding indexed at_slot
spot_words (spot.Write w) f = refl
spot_words (spot.Left n) f = refl
spot_words (spot.Right n) f = refl
spot_words (spot.Pred n) f = refl
spot_words (spot.Read n) f = absurd f
spot_words (spot.Inst n) f = absurd f
spot_words (spot.Store n) f = absurd f

-- the number of a target that fits is small
pub spot_small : (s : Spot) → FitsTarget (Some s) → SmallTarget (spelled_spot s)
spot_small (spot.Write w) f = omega (arith, f)
spot_small (spot.Left n) f = omega (arith, f)
spot_small (spot.Right n) f = omega (arith, f)
spot_small (spot.Pred n) f = omega (arith, f)
spot_small (spot.Read n) f = absurd f
spot_small (spot.Inst n) f = absurd f
spot_small (spot.Store n) f = absurd f

-- the target that is spelled for a spot that fits has a small number
pub maybe_small : (s : Option Spot) → FitsTarget s → SmallMaybe (spelled_target s)
maybe_small None f = tt
maybe_small (Some s) f = spot_small s f

-- the text of a spelled target, or of none, is the text of the target
pub maybe_text : (s : Option Spot) → FitsTarget s → maybe_decimals (spelled_target s) ≡ target_text s
maybe_text None f = refl
maybe_text (Some s) f = ap (λ (x : List ℕ). 32 ∷ x) (spot_words s f)
