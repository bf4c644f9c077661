-- A case in one pass along an order of the nodes, where no place gets two tokens.
use Rattle.std.specs.Prelude.{◌≡◌, ◌≢◌, ℕ, ◌<◌, ◌≤◌, Bool, true, false, cond, List, length, slice_get}
use Rattle.block_cases.specs.declared.token.CaseToken.{CaseToken}
use Rattle.block_cases.specs.declared.token.CaseToken.TheVariants.{Absent}
use Rattle.trips_isa.specs.declared.node.Node.{Node}
use Rattle.trips_isa.specs.PlaceNumbers.{no_place}
use Rattle.block_cases.specs.Nodes.{targets, names, hits}
use Rattle.block_cases.specs.CaseRule.{or_else, first, pulled}
use Rattle.block_cases.specs.Cases.{tokens}
use Rattle.block_check.specs.inside.Pass.{tok_at}
use Rattle.block_check.specs.inside.Walk.{Sorted}

-- the token t of node n goes to its places, none of which had one
pub record Given (spots spots' : List CaseToken) (n : Node) (t : CaseToken) : Type 0 where
  -- a token that is there comes to a place that had none
  pub free : t ≢ Absent → (q : ℕ) → q ≢ no_place → names (targets n) q ≡ true → tok_at spots q ≡ Absent
  -- and the node does not name a place twice
  pub single : t ≢ Absent → (q : ℕ) → q ≢ no_place → hits (targets n) q ≤ 1
  -- what each place has then
  pub set : (q : ℕ) → q ≢ no_place →
      tok_at spots' q ≡ or_else (cond (names (targets n) q) t Absent) (tok_at spots q)

-- the tables where the nodes of `rest` are left and no place got two tokens
pub record Passing (ns : List Node) (rank : ℕ → ℕ) (rest : List ℕ) (c : ℕ → Bool) (spots toks : List
    CaseToken) : Type 0 where
  -- what is left stands in order
  pub sorted : Sorted rank rest
  -- and no node that is done has a higher rank
  pub before : (y z : ℕ) → y < length ns → names rest y ≡ false → names rest z ≡ true →
      rank y ≤ rank z
  -- a node that is left gave nothing
  pub left : (y : ℕ) → names rest y ≡ true → tok_at toks y ≡ Absent
  -- a node that is done gave what it gives of the others' tokens
  pub done : (y : ℕ) → y < length ns → names rest y ≡ false →
      tok_at toks y ≡ pulled (slice_get ns y) (c y) (λ q. first ns q (tok_at toks))
  -- each place has the token that was given to it
  pub places : (q : ℕ) → q < 768 → q ≢ no_place → tok_at spots q ≡ first ns q (tok_at toks)
  -- and no place two
  pub single : (q : ℕ) → q < 768 → q ≢ no_place → tokens ns (tok_at toks) q ≤ 1
