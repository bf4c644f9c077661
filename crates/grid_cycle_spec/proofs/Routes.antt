-- The ways of parcels, by a test of all pairs of nodes; costs.
use Rattle.std.proofs.Common.{◌≡◌, ◌≢◌, ℕ, ◌+◌, ◌*◌, ◌/◌, ◌%◌, ◌<◌, ◌≤◌, Bool, true, false, ◌==◌}
use Rattle.std.proofs.Common.{◌&&◌, ◌||◌, nat_le, nat_lt, List, [], ◌∷◌, ◌++◌, length, Option, Some, None, refl}
use Rattle.std.proofs.Common.{sym, ap₂, ◌∙◌, true≢false, arith}
use Rattle.std.proofs.Common.{◌-◌, cond, slice_index_or}
use Rattle.std.proofs.lemmas.Bool.{agree_below_at, leb-true, ltb-true, eqb-true}
use Rattle.trips_isa.specs.declared.op.Op.{Op}
use Rattle.trips_isa.specs.declared.op.Op.TheVariants.{Mul}
use Rattle.trips_isa.specs.declared.block.Inst.{Inst}
use Rattle.trips_isa.specs.declared.block.Block.{Block}
use Rattle.trips_isa.specs.declared.run.Traced.{Traced}
use Rattle.trips_isa.specs.PlaceNumbers.{first_write}
use Rattle.trips_isa.specs.Fits.{FitsBlock}
use Rattle.operand_net.specs.Tick.{next_of}
use Rattle.grid_cycle_spec.specs.Stations.{bank_of, bank_node, data_tile_of, data_node, home, tile_of, tile_node}
use Rattle.grid_cycle_spec.specs.inside.Stations.{far}
use Rattle.grid_cycle_spec.specs.Costs.{instructions, cost, cost_of, greatest}
use Rattle.grid_cycle_spec.specs.inside.Laws.{IsNearer, TakesTime}

-- a test of a pair of nodes that holds of all pairs below 25, the pair being a number below 625
pair_holds : (test : ℕ → ℕ → Bool) → ((i : ℕ) → i < 625 → test (i / 25) (i % 25) ≡ true) → (a b : ℕ) → a < 25
    → b < 25 → test a b ≡ true
pair_holds test all a b la lb =
    let first : (a * 25 + b) / 25 ≡ a = omega arith in
    let second : (a * 25 + b) % 25 ≡ b = omega arith in
    let inside : a * 25 + b < 625 = omega arith in
    sym (ap₂ test first second) ∙ all (a * 25 + b) inside

abbrev near : ℕ → ℕ → Bool
near a b = nat_le (far a b) 8

abbrev leads : ℕ → ℕ → Bool
leads a b = (a == b) || (nat_lt (next_of a b) 25 && (far (next_of a b) b + 1 == far a b))

all_near : (i : ℕ) → i < 625 → near (i / 25) (i % 25) ≡ true
all_near i l = agree_below_at (λ i. near (i / 25) (i % 25)) (λ i. true) 625 i refl l

all_lead : (i : ℕ) → i < 625 → leads (i / 25) (i % 25) ≡ true
all_lead i l = agree_below_at (λ i. leads (i / 25) (i % 25)) (λ i. true) 625 i refl l

-- two nodes of the mesh are at most eight links apart
pub far_at_most : (a b : ℕ) → a < 25 → b < 25 → far a b ≤ 8
far_at_most a b la lb = leb-true (far a b) 8 (pair_holds near all_near a b la lb)

or_right : (x y : Bool) → x ≡ false → (x || y) ≡ true → y ≡ true
or_right true y e h = absurd (true≢false e)
or_right false y e h = h

both_left : (x y : Bool) → (x && y) ≡ true → x ≡ true
both_left true y h = refl
both_left false true h = h
both_left false false h = h

both_right : (x y : Bool) → (x && y) ≡ true → y ≡ true
both_right true y h = h
both_right false true h = refl
both_right false false h = h

apart : (a b : ℕ) → a ≢ b → (a == b) ≡ false
apart a b ne = go (a == b) refl
  where
    go : (v : Bool) → (a == b) ≡ v → (a == b) ≡ false
    go true e = absurd (ne (eqb-true a b e))
    go false e = e

-- the link that a parcel takes leads it nearer to its end
pub leads_nearer : (a b : ℕ) → a < 25 → b < 25 → a ≢ b → IsNearer a b
leads_nearer a b la lb ne =
    let both = or_right (a == b) _ (apart a b ne) (pair_holds leads all_lead a b la lb) in
    record {
      inside = ltb-true (next_of a b) 25 (both_left _ _ both);
      nearer = eqb-true _ _ (both_right (nat_lt (next_of a b) 25) _ both);
    }

-- stations ---------------------------------------------------------------------------------------

-- a register's bank lies on the mesh
pub bank_inside : (r : ℕ) → bank_node (bank_of r) < 25
bank_inside r = omega arith

-- an address's data tile lies on the mesh
pub data_inside : (a : ℕ) → data_node (data_tile_of a) < 25
data_inside a = omega arith

-- a slot's tile lies on the mesh
pub tile_inside : (s : ℕ) → tile_node (tile_of s) < 25
tile_inside s = omega arith

-- the node to which the token of a place goes lies on the mesh
pub home_inside : (b : Block) (q : ℕ) → home b q < 25
home_inside b q = go (nat_lt q first_write) (bank_of (slice_index_or b.writes.items (q - first_write) 0))
    (bank_inside (slice_index_or b.writes.items (q - first_write) 0))
  where
    go : (v : Bool) (n : ℕ) → bank_node n < 25 → cond v (tile_node (tile_of (q % 128))) (bank_node n) < 25
    go true n l = tile_inside (q % 128)
    go false n l = l

-- costs ------------------------------------------------------------------------------------------

few_instructions : (slots : List (Option Inst)) → instructions slots ≤ length slots
few_instructions [] = omega arith
few_instructions (None ∷ slots) = let h = few_instructions slots in omega (arith, h)
few_instructions (Some i ∷ slots) = let h = few_instructions slots in omega (arith, h)

-- a block costs at least 512 cycles
pub cost_least : (b : Block) → 512 ≤ cost b
unfolding cost
cost_least b = omega arith

-- the cost of a block is at most the greatest
pub cost_most : (b : Block) → FitsBlock b → cost b ≤ greatest
unfolding cost greatest
cost_most b fits =
    let few = few_instructions b.insts.items in
    let slots = fits.insts in
    let reads = fits.reads in
    omega (arith, few, slots, reads)

-- the cost of two traces one after the other is the sum of their costs
pub cost_more : (blocks : List Block) (s t : List Traced)
    → cost_of blocks (s ++ t) ≡ cost_of blocks s + cost_of blocks t
cost_more blocks [] t = omega arith
cost_more blocks (x ∷ s) t = let h = cost_more blocks s t in omega (arith, h)

-- time -------------------------------------------------------------------------------------------

-- each operation takes from one cycle to the longest latency
pub takes_time : (op : Op) → TakesTime op
takes_time Mul = record { some = omega arith; most = omega arith }
takes_time _ = record { some = omega arith; most = omega arith }
