-- The spots of a block, as texts name them.
use Rattle.std.specs.Prelude.{ℕ, List, [], ◌∷◌, ◌++◌}
use Rattle.std.specs.Fmt.{decimal}
use Rattle.trips_isa.specs.declared.block.Spot.{Spot}
use Rattle.trips_isa.specs.declared.block.Spot.TheVariants as spot

-- a letter with an index, as `G[5]`
unfoldable pub indexed : ℕ → ℕ → List ℕ
indexed letter n = letter ∷ 91 ∷ (decimal n ++ 93 ∷ [])

-- a place at a slot, as `N[5,p]`
unfoldable pub at_slot : ℕ → ℕ → List ℕ
at_slot place n = 78 ∷ 91 ∷ (decimal n ++ 44 ∷ place ∷ 93 ∷ [])

-- `R[0]`, `N[0]`, `N[0,0]`, `N[0,1]`, `N[0,p]`, `W[0]` and `S[0]`
abbrev pub spot_text : Spot → List ℕ
spot_text (spot.Read r) = indexed 82 r
spot_text (spot.Inst s) = indexed 78 s
spot_text (spot.Left s) = at_slot 48 s
spot_text (spot.Right s) = at_slot 49 s
spot_text (spot.Pred s) = at_slot 112 s
spot_text (spot.Write w) = indexed 87 w
spot_text (spot.Store n) = indexed 83 n
