-- Beside what is believed of Places.antt: where the parcels stand, by frame and place, and what a call changes.
use Rattle.std.specs.Prelude.{◌≡◌, ℕ, zero, suc, ◌+◌, ◌<◌, Bool, false, ◌==◌, cond, List, []}
use Rattle.std.specs.Prelude.{◌∷◌, length, get_or, Option, Some, None}
use Rattle.std.specs.Option.{option_or}
use Rattle.operand_net.specs.declared.parcel.Parcel.{Parcel}
use Rattle.operand_net.specs.declared.parcel.Stand.{Stand}
use Rattle.operand_net.specs.declared.parcel.Stand.TheVariants.{Nowhere, Away, Held}
use Rattle.operand_net.specs.Places.{Places, at, put}

-- whether there is a parcel of this generation
abbrev pub is_of : ℕ → Stand → Bool
is_of generation Nowhere = false
is_of generation (Away trip at) = trip.generation == generation
is_of generation (Held trip left) = trip.generation == generation

-- what is left of a place where the parcels of a generation are forgotten
abbrev pub forgotten : ℕ → Stand → Stand
forgotten generation s = cond (is_of generation s) Nowhere s

-- the parcels of a frame and generation are forgotten
abbrev pub dropped : Places → ℕ → ℕ → Places
dropped m frame generation f p = cond (f == frame) (forgotten generation (m f p)) (m f p)

-- all parcels of a frame are forgotten
abbrev pub cleared : Places → ℕ → Places
cleared m frame f p = cond (f == frame) Nowhere (m f p)

-- the parcel, where it has come to its end and is held no longer
abbrev pub come : ℕ → ℕ → Stand → Option Parcel
come f p (Held trip zero) = Some (record {
  frame = f;
  generation = trip.generation;
  from = trip.from;
  to = trip.to;
  place = p;
})
come f p _ = None

-- of n places from p on, the lowest whose parcel has come
abbrev pub lowest : Places → ℕ → ℕ → ℕ → Option Parcel
lowest m f p zero = None
lowest m f p (suc n) = option_or (come f p (m f p)) (lowest m f (p + 1) n)

-- the parcel of a frame that has come and has the lowest place
unfoldable pub in_frame : Places → ℕ → Option Parcel
in_frame m f = lowest m f 0 320

-- the eldest parcel that has come, the frames being given from the eldest on
abbrev pub eldest : Places → List ℕ → Option Parcel
eldest m [] = None
eldest m (f ∷ fs) = option_or (in_frame m f) (eldest m fs)

-- the parcel that is taken is there no longer
abbrev pub without : Places → Option Parcel → Places
without m None = m
without m (Some c) = put m c.frame c.place Nowhere

-- nodes are below 25, and holds at most 3
abbrev pub Inside : Stand → Type 0
Inside Nowhere = Unit {0}
Inside (Away trip at) = (at < 25) × (trip.to < 25)
Inside (Held trip left) = Unit {0}

-- no frame is named twice
abbrev pub Once : List ℕ → Type 0
Once order = (i j : ℕ) → i < j → j < length order → get_or order i 0 ≡ get_or order j 0 → ⊥
