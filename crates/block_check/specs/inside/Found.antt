-- What the search keeps of the cases that it has visited.
use Rattle.std.specs.Prelude.{◌≡◌, ℕ, ◌+◌, ◌<◌, ◌≤◌, Bool, true, false, ◌||◌, ◌==◌, nat_lt, List}
use Rattle.std.specs.Prelude.{[], ◌∷◌, ◌++◌, length, slice_get, slice_set}
use Rattle.trips_isa.specs.declared.node.Node.{Node}
use Rattle.trips_isa.specs.PlaceNumbers.{place_count}
use Rattle.block_cases.specs.Choosers.{is_chooser}
use Rattle.block_cases.specs.Cases.{bit, token, tokens, has_bit, cases, GetsTwo}
use Rattle.block_cases.specs.Cases.{GetsNone}
use Rattle.block_check.specs.inside.Walk.{tally}

-- c and further cases, where a node has a bit to set
abbrev pub extra : Bool → List Bool → List (List Bool) → List (List Bool)
extra true c cs = c ∷ cs
extra false c cs = []

-- the cases of a walk but for c itself
abbrev pub others : List Node → List ℕ → List Bool → List (List Bool)
others ns [] c = []
others ns (x ∷ xs) c = others ns xs c ++ extra (has_bit ns c x) (slice_set c x true) (others ns xs
    (slice_set c x true))

-- which nodes are choosers
abbrev pub Choosing : List Node → List Bool → Type 0
Choosing ns choosers = (x : ℕ) → x < length ns → bit choosers x ≡ is_chooser ns x (slice_get ns x)

-- whether the place gets two tokens in the case c
abbrev pub gets_two : List Node → ℕ → List Bool → Bool
gets_two ns q c = nat_lt 1 (tokens ns (token ns c) q)

-- whether it gets none
abbrev pub gets_none : List Node → ℕ → List Bool → Bool
gets_none ns q c = tokens ns (token ns c) q == 0

-- the test that each case passes
abbrev pub any : List Bool → Bool
any c = true

-- what is known after these cases were visited, where more than 256 are not told apart
pub record Added (ns : List Node) (cs : List (List Bool)) (count count' : ℕ) (two two' none none' :
    List Bool) : Type 0 where
  -- the count of cases never falls
  pub more : count ≤ count'
  -- a count above 256 is not exact; it only says that more than 256 cases were met
  pub many : 256 < count' → 256 < count + tally any cs
  -- a count of at most 256 has counted each of these cases
  pub few : count' ≤ 256 → count' ≡ count + tally any cs
  -- a place is marked where it was, or gets two tokens in one of these cases
  pub twos : count' ≤ 256 → (q : ℕ) → q < place_count → bit two' q ≡ (bit two q
      || nat_lt 0 (tally (gets_two ns q) cs))
  -- and in the other table where it was, or gets none in one of these
  pub nones : count' ≤ 256 → (q : ℕ) → q < place_count → bit none' q ≡ (bit none q
      || nat_lt 0 (tally (gets_none ns q) cs))

-- what is known of all cases
pub record Explored (ns : List Node) (count : ℕ) (two none : List Bool) : Type 0 where
  -- more than 256 were counted only where there are as many
  pub many : 256 < count → 256 < cases ns
  -- else exactly the block's cases were counted
  pub few : count ≤ 256 → cases ns ≡ count
  -- the marks say exactly which places get two tokens in some case
  pub twos : count ≤ 256 → (q : ℕ) → q < place_count → bit two q ≡ true → GetsTwo ns q
  pub no_twos : count ≤ 256 → (q : ℕ) → q < place_count → bit two q ≡ false → GetsTwo ns q → ⊥
  -- and which get none in some case
  pub nones : count ≤ 256 → (q : ℕ) → q < place_count → bit none q ≡ true → GetsNone ns q
  pub no_nones : count ≤ 256 → (q : ℕ) → q < place_count → bit none q ≡ false → GetsNone ns q → ⊥
