-- Spots that a good block may have, and wires to them.
use Rattle.std.proofs.Common.{◌≡◌, ◌≢◌, ℕ, Bool, true, false, nat_lt}
use Rattle.std.proofs.Common.{List, [], ◌∷◌, ◌++◌, Some}
use Rattle.trips_isa.specs.declared.block.Spot.{Spot}
use Rattle.trips_isa.specs.declared.block.Block.{Block}
use Rattle.trips_isa.specs.Fits.{FitsTarget}
use Rattle.block_cases.specs.Orders.{target_good}
use Rattle.ir_forms.specs.declared.flow.FlowSource.{FlowSource}
use Rattle.ir_forms.specs.inside.FlowRegular.{same_source}
use Rattle.fan_out.specs.inside.Wires.{Wire, wired_to, uses, if_same}
use Rattle.fan_out.specs.inside.Heights.{height, ordered, put_in, behind_if}

-- a spot fits, and is one that a good block may have
pub record Fine (b : Block) (t : Spot) : Type 0 where
  pub fits : FitsTarget (Some t)
  pub good : target_good b t ≡ true

-- each of some spots is fine
abbrev pub EachFine : Block → List Spot → Type 0
EachFine b [] = Unit {0}
EachFine b (t ∷ ts) = Fine b t × EachFine b ts

-- each of some wires leads to a fine spot
abbrev pub WiresFine : Block → List Wire → Type 0
WiresFine b [] = Unit {0}
WiresFine b (x ∷ ws) = Fine b x.spot × WiresFine b ws

-- the uses of a source in fine wires are fine
pub uses_fine : (b : Block) (s : FlowSource) (ws : List Wire) → WiresFine b ws
    → EachFine b (uses s ws)
uses_fine b s [] h = tt
uses_fine b s (x ∷ ws) h = by (same_source s x.source) (uses_fine b s ws h.1)
  where
    by : (c : Bool) → EachFine b (uses s ws) → EachFine b (if_same c x.spot (uses s ws))
    by true k = (h.0, k)
    by false k = k

put_fine : (b : Block) (hs : List ℕ) (t : Spot) (us : List Spot) → Fine b t → EachFine b us
    → EachFine b (put_in hs t us)
put_fine b hs t [] h k = (h, tt)
put_fine b hs t (u ∷ us) h k = by (nat_lt (height hs t) (height hs u)) (put_fine b hs t us h k.1)
  where
    by : (c : Bool) → EachFine b (put_in hs t us) → EachFine b (behind_if c t u us (put_in hs t us))
    by true e = (k.0, e)
    by false e = (h, k)

-- fine spots are fine in order
pub ordered_fine : (b : Block) (hs : List ℕ) (ts : List Spot) → EachFine b ts → EachFine b (ordered hs ts)
ordered_fine b hs [] h = tt
ordered_fine b hs (t ∷ ts) h = put_fine b hs t (ordered hs ts) h.0 (ordered_fine b hs ts h.1)

-- fine wires behind fine ones are fine
pub wires_fine_append : (b : Block) (xs ys : List Wire) → WiresFine b xs → WiresFine b ys
    → WiresFine b (xs ++ ys)
wires_fine_append b [] ys h k = k
wires_fine_append b (x ∷ xs) ys h k = (h.0, wires_fine_append b xs ys h.1 k)

-- the wires from some sources to a fine spot are fine
pub wired_fine : (b : Block) (t : Spot) (o : ℕ) (ss : List FlowSource) → (ss ≢ [] → Fine b t)
    → WiresFine b (wired_to t o ss)
wired_fine b t o [] h = tt
wired_fine b t o (s ∷ ss) h = (here, all ss)
  where
    here : Fine b t
    here = h (λ e. absurd (cc))

    all : (ss : List FlowSource) → WiresFine b (wired_to t o ss)
    all [] = tt
    all (s ∷ ss) = (here, all ss)
