use Rattle.std.proofs.Common.{◌≡◌, ◌<◌, ◌≤◌, ◌+◌, ℕ, length, arith, true, false, leb}
use Rattle.block_check.specs.inside.PartOrder.{unplaced}
use Rattle.block_check.proofs.Ordering.{placing_none, all_ordered}
use Rattle.block_check.proofs.Cycles.{stuck_cycle}
use Rattle.block_check.proofs.order.sort_by.Goals as goal

pub place_all-placed-requires-clause-placing : goal.place_all-placed-requires-clause-placing
place_all-placed-requires-clause-placing c = placing_none c.args.nodes.now c.loop-rank.ranks
    c.args.order.now (omega arith) c.requires.order (λ k lt. c.loop-rank.invariant k (omega arith))

all_of : (p n u : ℕ) → leb n p ≡ true → p + u ≡ n → p ≡ n
all_of p n u e l = let le : n ≤ p = grind arith in omega arith

less_of : (p n : ℕ) → leb n p ≡ false → p < n
less_of p n e = grind arith

pub returns-clause-ordered : goal.returns-clause-ordered
returns-clause-ordered c e = all_ordered c.args.nodes.now c.place_all-placed.new.ranks
    c.place_all-placed.new.order c.place_all-placed.result c.place_all-placed.ensures.placing
    c.requires.size (all_of _ _ (unplaced c.place_all-placed.new.ranks) e
    c.place_all-placed.ensures.placing.left)

pub returns-clause-cycle : goal.returns-clause-cycle
returns-clause-cycle c e =
    let lt = less_of c.place_all-placed.result (length c.args.nodes.now) e in
    stuck_cycle c.args.nodes.now c.place_all-placed.new.ranks c.place_all-placed.new.order
    c.place_all-placed.result c.place_all-placed.ensures.placing
    (c.place_all-placed.ensures.stuck lt) lt
