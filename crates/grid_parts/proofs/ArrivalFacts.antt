-- Where the eldest parcel that has come is.
use Rattle.std.proofs.Common.{◌≡◌, ℕ, zero, suc, ◌+◌, ◌<◌, ◌≤◌, List, [], ◌∷◌, Option, Some, None, IfSome}
use Rattle.std.proofs.Common.{sym, subst, arith}
use Rattle.std.specs.Option.{option_or}
use Rattle.operand_net.specs.declared.parcel.Parcel.{Parcel}
use Rattle.operand_net.specs.declared.parcel.Stand.{Stand}
use Rattle.operand_net.specs.declared.parcel.Stand.TheVariants.{Nowhere, Away, Held}
use Rattle.operand_net.specs.Places.{Places}
use Rattle.operand_net.specs.inside.Places.{come, lowest, in_frame, eldest}

abbrev Within : Option Parcel → Type 0
Within None = Unit {0}
Within (Some c) = c.place < 320

either_within : (a b : Option Parcel) → Within a → Within b → Within (option_or a b)
either_within None b x y = y
either_within (Some c) b x y = x

come_within : (f p : ℕ) (s : Stand) → p < 320 → Within (come f p s)
come_within f p Nowhere l = tt
come_within f p (Away t a) l = tt
come_within f p (Held t zero) l = l
come_within f p (Held t (suc h)) l = tt

lowest_within : (m : Places) (f p n : ℕ) → p + n ≤ 320 → Within (lowest m f p n)
lowest_within m f p zero l = tt
lowest_within m f p (suc n) l = either_within (come f p (m f p)) (lowest m f (p + 1) n)
    (come_within f p (m f p) (omega arith)) (lowest_within m f (p + 1) n (omega arith))

frame_within : (m : Places) (f : ℕ) → Within (in_frame m f)
unfolding in_frame
frame_within m f = lowest_within m f 0 320 (omega arith)

pub eldest_within : (m : Places) (order : List ℕ) → Within (eldest m order)
eldest_within m [] = tt
eldest_within m (f ∷ fs) = either_within (in_frame m f) (eldest m fs) (frame_within m f) (eldest_within m fs)

-- the parcel that has come is in one of the 320 places
pub arrived_within : (m : Places) (order : List ℕ) (o : Option Parcel) → o ≡ eldest m order
    → IfSome o (λ c. c.place < 320)
arrived_within m order o e = go o (subst Within (sym e) (eldest_within m order))
  where
    go : (o : Option Parcel) → Within o → IfSome o (λ c. c.place < 320)
    go None w = tt
    go (Some c) w = w
