-- Sums over slots and over a trace, one item after another.
use Rattle.std.proofs.Common.{◌≡◌, ℕ, ◌+◌, ◌*◌, ◌≤◌, ◌<◌, List, [], ◌∷◌, length, drop, get_or}
use Rattle.std.proofs.Common.{slice_get, Option, sym, ap, ap₂}
use Rattle.std.proofs.Common.{◌∙◌, arith}
use Rattle.std.proofs.lemmas.List.{at_drop_more, at_drop_all}
use Rattle.trips_isa.specs.declared.block.Block.{Block}
use Rattle.trips_isa.specs.declared.block.Inst.{Inst}
use Rattle.trips_isa.specs.declared.run.Traced.{Traced}
use Rattle.grid_cycle_spec.specs.Costs.{cost, cost_in, cost_of, instructions}

-- one slot more has been counted
pub slot_more : (xs : List (Option Inst)) (i count one all : ℕ) (d x : Option Inst) → i < length xs
    → x ≡ get_or xs i d → ((ys : List (Option Inst)) → instructions (x ∷ ys) ≡ one + instructions ys)
    → count + instructions (drop i xs) ≡ all → count + one + instructions (drop (i + 1) xs) ≡ all
slot_more xs i count one all d x l is counts e =
    let next : instructions (drop i xs) ≡ instructions (get_or xs i d ∷ drop (i + 1) xs) =
    at_drop_more instructions xs i d l in
    let same : instructions (get_or xs i d ∷ drop (i + 1) xs) ≡ instructions (x ∷ drop (i + 1) xs) =
    ap (λ y. instructions (y ∷ drop (i + 1) xs)) (sym is) in
    let sum = counts (drop (i + 1) xs) in
    omega (arith, next, same, sum, e)

-- behind the last slot the count is that of all instructions
pub slots_all : (xs : List (Option Inst)) (i count all : ℕ) → length xs ≤ i
    → count + instructions (drop i xs) ≡ all → count ≡ all
slots_all xs i count all l e =
    let none : instructions (drop i xs) ≡ 0 = at_drop_all instructions xs i l in
    omega (arith, none, e)

-- the cost of a block, from its instructions and reads
pub cost_is : (b : Block) (count reads : ℕ) → count ≡ instructions b.insts.items → reads ≡ length b.reads.items
    → 512 + 256 * (count + reads) ≡ cost b
unfolding cost
cost_is b count reads e f = ap₂ (λ m n. 512 + 256 * (m + n)) e f

-- one block more has been counted
pub block_more : (blocks : List Block) (xs : List Traced) (i total one all : ℕ) (d x : Traced) → i < length xs
    → x ≡ get_or xs i d → one ≡ cost_in (slice_get blocks x.block)
    → total + cost_of blocks (drop i xs) ≡ all → total + one + cost_of blocks (drop (i + 1) xs) ≡ all
block_more blocks xs i total one all d x l is costs e =
    let next : cost_of blocks (drop i xs)
    ≡ cost_in (slice_get blocks (get_or xs i d).block) + cost_of blocks (drop (i + 1) xs) =
    at_drop_more (cost_of blocks) xs i d l in
    let same : cost_in (slice_get blocks (get_or xs i d).block) ≡ one =
    ap (λ (y : Traced). cost_in (slice_get blocks y.block)) (sym is) ∙ sym costs in
    omega (arith, next, same, e)

pub blocks_all : (blocks : List Block) (xs : List Traced) (i total all : ℕ) → length xs ≤ i
    → total + cost_of blocks (drop i xs) ≡ all → total ≡ all
blocks_all blocks xs i total all l e =
    let none : cost_of blocks (drop i xs) ≡ 0 = at_drop_all (cost_of blocks) xs i l in
    omega (arith, none, e)
