-- Beside what is believed of Good.antt: good blocks, and what a machine may rely on in them (docs/MACHINE.md,
-- "Good blocks").
use Rattle.std.specs.Prelude.{◌≡◌, ℕ, ◌<◌, ◌≤◌, ◌⊎◌, Bool, true, List, Some, slice_get}
use Rattle.trips_isa.specs.declared.block.Sense.TheVariants.{Always}
use Rattle.block_cases.specs.declared.token.CaseToken.{CaseToken}
use Rattle.trips_isa.specs.declared.node.Node.{Node}
use Rattle.trips_isa.specs.PlaceNumbers.{exit_place}
use Rattle.block_cases.specs.Nodes.{targets, names, HasCycle}
use Rattle.block_cases.specs.Cases.{tokens}

-- each node stands in one of the 128 slots, or has no predicate
abbrev pub IsPlaced : List Node → Type 0
IsPlaced ns = (x : ℕ) (n : Node) → slice_get ns x ≡ Some n → (n.slot < 128) ⊎ (n.sense ≡ Always)

-- node x names place q
abbrev pub NamesPlace : List Node → ℕ → ℕ → Type 0
NamesPlace ns x q = (n : Node) × (slice_get ns x ≡ Some n) × (names (targets n) q ≡ true)

-- no chain of edges comes back
abbrev pub IsAcyclic : List Node → Type 0
IsAcyclic ns = HasCycle ns → ⊥

-- no place gets two tokens, each write and number exactly one, and exactly one exit fires
pub record OneToken (ns : List Node) (wanted : ℕ → Bool) (f : ℕ → CaseToken) : Type 0 where
  -- no place below the exit gets two
  pub at_most : (q : ℕ) → q < exit_place → tokens ns f q ≤ 1
  -- each declared write and each number of the mask gets one
  pub exactly : (q : ℕ) → q < exit_place → wanted q ≡ true → tokens ns f q ≡ 1
  -- one branch fires
  pub exit : tokens ns f exit_place ≡ 1
