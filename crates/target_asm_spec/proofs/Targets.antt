-- Targets are read from their texts.
use Rattle.std.proofs.Common.{◌≡◌, ℕ, ◌<◌, List, [], ◌∷◌, ◌++◌, append_assoc}
use Rattle.std.proofs.Common.{refl, arith, Option, Some, None}
use Rattle.std.specs.Prelude.{ℤ, pos, codes}
use Rattle.std.specs.Fmt.{decimal}
use Rattle.trips_isa.specs.declared.block.Spot.{Spot}
use Rattle.trips_isa.specs.declared.block.Spot.TheVariants as spot
use Rattle.trips_isa.specs.Fits.{FitsTarget}
use Rattle.isa_table.specs.Spots.{indexed, at_slot, spot_text}
use Rattle.target_asm_spec.specs.Fields.{target_text}
use Rattle.target_asm_spec.specs.declared.spelled.SpelledTarget.{SpelledTarget}
use Rattle.target_asm_spec.specs.declared.spelled.SpelledTarget.TheVariants as spelled
use Rattle.target_asm_spec.specs.inside.Reading.{after_in, digits_in, number_in, index_in}
use Rattle.target_asm_spec.specs.Places.{spot_of}
use Rattle.target_asm_spec.specs.inside.Places.{place_in, slot_in, write_in, target_in, next_in}
use Rattle.target_asm_spec.specs.Places.{maybe_spot}
use Rattle.target_asm_spec.proofs.Numbers.{after_front, number_pos, index_again, indexed_is}
use Rattle.target_asm_spec.proofs.Numbers.{field_again}

-- how a target is spelled; a place that no line names is no matter
abbrev pub spelled_spot : Spot → SpelledTarget
spelled_spot (spot.Write w) = spelled.Write (pos w)
spelled_spot (spot.Left s) = spelled.Left (pos s)
spelled_spot (spot.Right s) = spelled.Right (pos s)
spelled_spot (spot.Pred s) = spelled.Pred (pos s)
spelled_spot (spot.Read n) = spelled.Write (pos n)
spelled_spot (spot.Inst n) = spelled.Write (pos n)
spelled_spot (spot.Store n) = spelled.Write (pos n)

-- the target that is spelled for a spot, if there is one
abbrev pub spelled_target : Option Spot → Option SpelledTarget
spelled_target None = None
spelled_target (Some s) = Some (spelled_spot s)

left_place : (n : ℤ) (rest : List ℕ) → place_in n (44 ∷ 48 ∷ 93 ∷ rest)
    ≡ Some (spelled.Left n, rest)
unfolding place_in after_in
left_place n rest = refl

right_place : (n : ℤ) (rest : List ℕ) → place_in n (44 ∷ 49 ∷ 93 ∷ rest)
    ≡ Some (spelled.Right n, rest)
unfolding place_in after_in
right_place n rest = refl

pred_place : (n : ℤ) (rest : List ℕ) → place_in n (44 ∷ 112 ∷ 93 ∷ rest)
    ≡ Some (spelled.Pred n, rest)
unfolding place_in after_in
pred_place n rest = refl

comma : (rest : List ℕ) → digits_in (44 ∷ rest) ≡ 0
unfolding digits_in
comma rest = refl

-- a place of a slot is read as what its last letter says
slot_again : (place n : ℕ) (t : SpelledTarget) (rest : List ℕ) → n < 128
    → place_in (pos n) (44 ∷ place ∷ 93 ∷ rest) ≡ Some (t, rest)
    → target_in (at_slot place n ++ rest) ≡ Some (t, rest)
unfolding target_in slot_in at_slot
slot_again place n t rest l p =
    let inner : List ℕ = 44 ∷ place ∷ 93 ∷ rest in
    let e : (decimal n ++ 44 ∷ place ∷ 93 ∷ []) ++ rest ≡ decimal n ++ inner =
    append_assoc (decimal n) (44 ∷ place ∷ 93 ∷ []) rest in
    let a : after_in (codes "N[") (78 ∷ 91 ∷ (decimal n ++ inner)) ≡ Some (decimal n ++ inner) =
    after_front (codes "N[") (decimal n ++ inner) in
    let b : number_in (decimal n ++ inner) ≡ Some (pos n, inner) =
    number_pos n inner (omega (arith, l)) (comma (place ∷ 93 ∷ rest)) in
    rw (e, a, b) p

no_slot : (rest : List ℕ) → after_in (codes "N[") (87 ∷ rest) ≡ None
unfolding after_in
no_slot rest = refl

write_again : (w : ℕ) (rest : List ℕ) → w < 32
    → target_in (indexed 87 w ++ rest) ≡ Some (spelled.Write (pos w), rest)
unfolding target_in write_in
write_again w rest l =
    let e : indexed 87 w ++ rest ≡ 87 ∷ 91 ∷ (decimal w ++ 93 ∷ rest) = indexed_is 87 w rest in
    let a : after_in (codes "N[") (87 ∷ 91 ∷ (decimal w ++ 93 ∷ rest)) ≡ None =
    no_slot (91 ∷ (decimal w ++ 93 ∷ rest)) in
    let b : index_in (codes "W[") (87 ∷ 91 ∷ (decimal w ++ 93 ∷ rest)) ≡ Some (pos w, rest) =
    index_again (codes "W[") w rest (omega (arith, l)) in
    rw (e, a, b) refl

-- a target that fits is read again from its text
pub target_again : (s : Spot) (rest : List ℕ) → FitsTarget (Some s)
    → target_in (spot_text s ++ rest) ≡ Some (spelled_spot s, rest)
target_again (spot.Write w) rest f = write_again w rest f
target_again (spot.Left n) rest f = slot_again 48 n (spelled.Left (pos n)) rest f
    (left_place (pos n) rest)
target_again (spot.Right n) rest f = slot_again 49 n (spelled.Right (pos n)) rest f
    (right_place (pos n) rest)
target_again (spot.Pred n) rest f = slot_again 112 n (spelled.Pred (pos n)) rest f
    (pred_place (pos n) rest)
target_again (spot.Read n) rest f = absurd f
target_again (spot.Inst n) rest f = absurd f
target_again (spot.Store n) rest f = absurd f

-- what comes after is no further target
abbrev pub IsEnd : List ℕ → Type 0
IsEnd rest = after_in (codes " ") rest ≡ None

-- a line feed ends a line
pub feed_ends : (rest : List ℕ) → IsEnd (10 ∷ rest)
unfolding after_in
feed_ends rest = refl

-- a target behind a space is read again
pub some_again : (s : Spot) (rest : List ℕ) → FitsTarget (Some s)
    → next_in (32 ∷ (spot_text s ++ rest)) ≡ Some (Some (spelled_spot s), rest)
unfolding next_in
some_again s rest f =
    let a : after_in (codes " ") (32 ∷ (spot_text s ++ rest)) ≡ Some (spot_text s ++ rest) =
    after_front (codes " ") (spot_text s ++ rest) in
    rw (a, target_again s rest f) refl

-- at the end of a line there is no further target
pub none_again : (rest : List ℕ) → IsEnd rest → next_in rest ≡ Some (None, rest)
unfolding next_in
none_again rest e = rw e refl

-- a target that is there or is not is read again where no other follows
pub next_again : (t : Option Spot) (rest : List ℕ) → FitsTarget t → IsEnd rest
    → next_in (target_text t ++ rest) ≡ Some (spelled_target t, rest)
next_again None rest f e = none_again rest e
next_again (Some s) rest f e = some_again s rest f

-- a target that is spelled lies in its field
pub spot_again : (s : Spot) → FitsTarget (Some s) → spot_of (spelled_spot s) ≡ Some s
unfolding spot_of
spot_again (spot.Write w) f = rw (field_again w 32 f) refl
spot_again (spot.Left n) f = rw (field_again n 128 f) refl
spot_again (spot.Right n) f = rw (field_again n 128 f) refl
spot_again (spot.Pred n) f = rw (field_again n 128 f) refl
spot_again (spot.Read n) f = absurd f
spot_again (spot.Inst n) f = absurd f
spot_again (spot.Store n) f = absurd f

-- a target that fits, or none, is judged to be itself
pub maybe_again : (t : Option Spot) → FitsTarget t → maybe_spot (spelled_target t) ≡ Some t
unfolding maybe_spot
maybe_again None f = refl
maybe_again (Some s) f = rw (spot_again s f) refl
