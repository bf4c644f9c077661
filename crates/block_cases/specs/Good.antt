-- Good blocks, and what a machine may rely on in them (docs/MACHINE.md, "Good blocks"). Source: every
-- write, store and exit of a block comes exactly once, TRIPS Processor Reference Manual, UT Austin
-- TR-05-19. Own: the faults, and that at most 256 cases are judged.
use Rattle.std.specs.Prelude.{◌≡◌, ℕ, ◌<◌, ◌≤◌, Bool, true, List}
use Rattle.trips_isa.specs.declared.node.Node.{Node}
use Rattle.trips_isa.specs.PlaceNumbers.{exit_place}
use Rattle.block_cases.specs.Nodes.{HasCycle, IsRanked}
use Rattle.block_cases.specs.Cases.{cases, GetsTwo, GetsNone}
use Rattle.block_cases.specs.Blocks.{nodes_of, wanted_of}
use Rattle.block_cases.specs.Orders.{IsInOrder}
use Rattle.trips_isa.specs.declared.block.Block.{Block}

-- no place below the exit gets two tokens
abbrev pub NoTwo : List Node → Type 0
NoTwo ns = (q : ℕ) → q < exit_place → GetsTwo ns q → ⊥

-- each declared write and number gets one
abbrev pub NoGap : List Node → (ℕ → Bool) → Type 0
NoGap ns wanted = (q : ℕ) → q < exit_place → wanted q ≡ true → GetsNone ns q → ⊥

-- no fault of the third to the eighth kind, where `wanted` says which writes and numbers are
-- declared
pub record Good (ns : List Node) (wanted : ℕ → Bool) : Type 0 where
  -- the third kind, Cycle
  pub acyclic : HasCycle ns → ⊥
  -- the fourth, TooManyCases
  pub few : cases ns ≤ 256
  -- the fifth, TwoTokens
  pub no_two : NoTwo ns
  -- the sixth, NoToken
  pub no_gap : NoGap ns wanted
  -- the seventh, NoExit
  pub exit : GetsNone ns exit_place → ⊥
  -- the eighth, TwoExits
  pub one_exit : GetsTwo ns exit_place → ⊥

-- a good block: no fault of any kind, and with that an order of its nodes along their edges
pub record GoodBlock (b : Block) : Type 0 where
  -- no fault of the first and the second kind
  pub in_order : IsInOrder b
  -- none of the third to the eighth
  pub good : Good (nodes_of b) (wanted_of b)
  -- an order along the edges, which a block without a cycle has
  pub ranked : IsRanked (nodes_of b)
