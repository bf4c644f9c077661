-- Rounds from a guess, the bounds of a node's places, and the empty slots at the end.
use Rattle.std.specs.Prelude.{◌≡◌, ℕ, zero, suc, ◌<◌, ◌≤◌, Bool, List, Some, All, slice_get}
use Rattle.std.specs.Prelude.{slice_index_or}
use Rattle.block_cases.specs.declared.token.CaseToken.{CaseToken}
use Rattle.block_cases.specs.declared.token.CaseToken.TheVariants.{Absent}
use Rattle.trips_isa.specs.declared.form.Role.TheVariants.{Empty}
use Rattle.trips_isa.specs.declared.node.Node.{Node}
use Rattle.trips_isa.specs.PlaceNumbers.{no_place}
use Rattle.block_cases.specs.CaseRule.{pulled, first}

-- the places of a node lie within the tables
pub record InPlace (n : Node) : Type 0 where
  -- its slot, or `PLACES` for a read
  pub slot : n.slot < 512
  -- a place of the block, or `no_place`
  pub first : n.first < 768
  pub second : n.second < 768
  -- the place below which it sees stores, as a load does, or 0
  pub below : n.below < 768

-- so do those of each node
abbrev pub AllInPlace : List Node → Type 0
AllInPlace ns = All InPlace ns

-- an empty slot: it names no place
pub record IsSpare (n : Node) : Type 0 where
  -- it takes nothing and gives nothing
  pub role : n.role ≡ Empty
  pub first : n.first ≡ no_place
  pub second : n.second ≡ no_place

-- the nodes from `used` on are empty slots
abbrev pub Spare : List Node → ℕ → Type 0
Spare ns used = (x : ℕ) (n : Node) → used ≤ x → slice_get ns x ≡ Some n → IsSpare n

-- what a table has at x, and no token past its end
abbrev pub tok_at : List CaseToken → ℕ → CaseToken
tok_at ts x = slice_index_or ts x Absent

-- no token from `used` on
abbrev pub AbsentFrom : ℕ → List CaseToken → Type 0
AbsentFrom used ts = (x : ℕ) → used ≤ x → tok_at ts x ≡ Absent

-- what each node gives where its producers give h
abbrev pub once : List Node → (ℕ → Bool) → (ℕ → CaseToken) → ℕ → CaseToken
once ns c h x = pulled (slice_get ns x) (c x) (λ q. first ns q h)

-- k rounds from the guess h
abbrev pub rounds_from : List Node → (ℕ → Bool) → (ℕ → CaseToken) → ℕ → ℕ → CaseToken
rounds_from ns c h zero x = h x
rounds_from ns c h (suc k) x = once ns c (rounds_from ns c h k) x
