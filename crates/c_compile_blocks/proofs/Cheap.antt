-- Blocks that cost little, and what their constants cost.
use Rattle.std.proofs.Common.{◌≡◌, ℕ, zero, suc, ◌+◌, ◌/◌, ◌^◌, ◌<◌, ◌≤◌, Bool, true, false, List}
use Rattle.std.proofs.Common.{length, refl, ap, arith}
use Rattle.std.proofs.Common.{cond, nat_lt}
use Rattle.std.proofs.lemmas.Bool.Decides.{nat_tests}
use Rattle.ir_forms.specs.declared.hyper.Source.{Source}
use Rattle.ir_forms.specs.declared.hyper.Source.TheVariants.{Const, Reg}
use Rattle.ir_forms.specs.declared.hyper.Exit.TheVariants as exit
use Rattle.ir_forms.specs.inside.Frames.{frame_limit}
use Rattle.ir_forms.specs.inside.HyperCode.{Tail, Leave, Test, Block}
use Rattle.ir_forms.specs.inside.HyperFits.{items_in, exits_in}
use Rattle.hyper_build.specs.inside.Passing.{below_end}
use Rattle.hyper_build.specs.inside.Smallness.{TestsJump}
use Rattle.predication.specs.inside.Environments.{member}
use Rattle.predication.specs.inside.Tails.{tail_with}
use Rattle.predication.specs.inside.Converted.{all_touched}
use Rattle.c_compile_blocks.specs.inside.Costs.{apps, source_cost, items_cost, tail_cost}
use Rattle.c_compile_blocks.proofs.PlainBlocks.{IsPlainBlock}

-- a block that costs little: the registers that it reads and writes are among few
pub record IsCheap (b : Block) : Type 0 where
  pub read : List ℕ
  pub plain : IsPlainBlock (λ q. member q read ≡ true) b
  pub reads : length read ≤ 32
  pub written : List ℕ
  pub covers : (r : ℕ) → member r (all_touched b) ≡ true → member r written ≡ true
  pub writes : length written ≤ 32
  pub cost : items_cost b.items + tail_cost b.tail + length written ≤ 128
  pub items : items_in b.items ≤ 32
  pub exits : exits_in b.tail ≤ 8

-- CONSTANTS

pub apps_most : (d w : ℕ) → apps d w ≤ d
apps_most zero w = omega arith
apps_most (suc d) w = go (nat_lt w 65536) (apps_most d (w / 65536))
  where
    go : (b : Bool) → apps d (w / 65536) ≤ d → cond b 0 (suc (apps d (w / 65536))) ≤ suc d
    go true h = omega arith
    go false h = omega (arith, h)

-- a source costs at most four
pub source_most : (a : Source) → source_cost a ≤ 4
source_most (Const w) = let h = apps_most 3 w in omega (arith, h)
source_most (Reg r) = omega arith

-- a constant of 32 bits takes one `app`
pub apps_short : (w : ℕ) → w < 2 ^ 32 → apps 3 w ≤ 1
apps_short w l = go (nat_lt w 65536)
  where
    high : nat_lt (w / 65536) 65536 ≡ true
    high = let h : w / 65536 < 65536 = omega (arith, l) in grind (arith, nat_tests)

    go : (b : Bool) → cond b 0 (suc (apps 2 (w / 65536))) ≤ 1
    go true = omega arith
    go false = let e = ap (λ (c : Bool). cond c 0 (suc (apps 1 (w / 65536 / 65536)))) high in omega (arith, e)

-- the address below the end of a frame has 32 bits
pub below_short : (frame v : ℕ) → below_end frame v < 2 ^ 32
unfolding frame_limit
below_short frame v = omega arith

-- OTHER LABELS

-- another number for the block to come back to changes nothing of this
pub jumps_with : (f : ℕ → ℕ) (t : Tail) → TestsJump t → TestsJump (tail_with f t)
jumps_with f (Leave e) u = tt
jumps_with f (Test t (Leave (exit.Jump a)) (Leave (exit.Jump b))) u = (tt, tt)
jumps_with f (Test t (Leave (exit.Call l back)) other) u = absurd (u.0)
jumps_with f (Test t (Leave exit.Return) other) u = absurd (u.0)
jumps_with f (Test t (Leave (exit.System l)) other) u = absurd (u.0)
jumps_with f (Test t (Test s x y) other) u = absurd (u.0)
jumps_with f (Test t (Leave (exit.Jump a)) (Leave (exit.Call l back))) u = absurd (u.1)
jumps_with f (Test t (Leave (exit.Jump a)) (Leave exit.Return)) u = absurd (u.1)
jumps_with f (Test t (Leave (exit.Jump a)) (Leave (exit.System l))) u = absurd (u.1)
jumps_with f (Test t (Leave (exit.Jump a)) (Test s x y)) u = absurd (u.1)

-- a tail has as many exits with other labels
pub exits_with : (f : ℕ → ℕ) (t : Tail) → exits_in (tail_with f t) ≡ exits_in t
exits_with f (Leave e) = refl
exits_with f (Test t one other) =
    let a = exits_with f one in let b = exits_with f other in omega (arith, a, b)
