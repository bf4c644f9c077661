-- The fault of the third to the eighth kind that is answered.
use Rattle.std.specs.Prelude.{◌≡◌, ℕ, ◌<◌, ◌≤◌, Bool, true, false, List}
use Rattle.trips_isa.specs.declared.node.Node.{Node}
use Rattle.trips_isa.specs.PlaceNumbers.{exit_place}
use Rattle.block_cases.specs.Nodes.{HasCycle}
use Rattle.block_cases.specs.Cases.{bit, cases, GetsTwo, GetsNone}
use Rattle.block_cases.specs.Good.{NoTwo, NoGap}
use Rattle.block_cases.specs.inside.Good.{IsAcyclic}
use Rattle.block_check.specs.declared.fault.NodeFault.{NodeFault}
use Rattle.block_check.specs.declared.fault.NodeFault.TheVariants.{Cycle, TooManyCases, TwoTokens}
use Rattle.block_check.specs.declared.fault.NodeFault.TheVariants.{NoToken, NoExit, TwoExits}

-- no place below `end` is marked
abbrev pub FalseBelow : ℕ → List Bool → Type 0
FalseBelow end l = (q : ℕ) → q < end → bit l q ≡ false

-- the least place that gets two tokens
pub record FirstTwo (ns : List Node) (q : ℕ) : Type 0 where
  -- no fault of a lower number is there: no cycle, and no more than 256 cases
  pub acyclic : IsAcyclic ns
  pub few : cases ns ≤ 256
  -- the exit is judged by itself
  pub below : q < exit_place
  pub two : GetsTwo ns q
  -- no lower place gets two
  pub least : (p : ℕ) → p < q → GetsTwo ns p → ⊥

-- the least wanted place that gets no token, where none gets two
pub record FirstGap (ns : List Node) (wanted : ℕ → Bool) (q : ℕ) : Type 0 where
  -- no fault of a lower number is there
  pub acyclic : IsAcyclic ns
  pub few : cases ns ≤ 256
  pub no_two : NoTwo ns
  -- the exit is judged by itself
  pub below : q < exit_place
  pub is_wanted : wanted q ≡ true
  pub none : GetsNone ns q
  -- no lower wanted place gets none
  pub least : (p : ℕ) → p < q → wanted p ≡ true → GetsNone ns p → ⊥

-- no branch fires in some case, where nothing else is at fault
pub record LacksExit (ns : List Node) (wanted : ℕ → Bool) : Type 0 where
  -- no fault of a lower number is there
  pub acyclic : IsAcyclic ns
  pub few : cases ns ≤ 256
  pub no_two : NoTwo ns
  pub no_gap : NoGap ns wanted
  pub none : GetsNone ns exit_place

-- two branches fire in some case, where nothing else is at fault
pub record HasTwoExits (ns : List Node) (wanted : ℕ → Bool) : Type 0 where
  -- no fault of a lower number is there
  pub acyclic : IsAcyclic ns
  pub few : cases ns ≤ 256
  pub no_two : NoTwo ns
  pub no_gap : NoGap ns wanted
  -- in each case some branch fires
  pub exit : GetsNone ns exit_place → ⊥
  pub two : GetsTwo ns exit_place

-- the fault with the lowest number, at its least place
abbrev pub IsFault : List Node → (ℕ → Bool) → NodeFault → Type 0
IsFault ns wanted Cycle = HasCycle ns
IsFault ns wanted TooManyCases = IsAcyclic ns × (256 < cases ns)
IsFault ns wanted (TwoTokens q) = FirstTwo ns q
IsFault ns wanted (NoToken q) = FirstGap ns wanted q
IsFault ns wanted NoExit = LacksExit ns wanted
IsFault ns wanted TwoExits = HasTwoExits ns wanted
