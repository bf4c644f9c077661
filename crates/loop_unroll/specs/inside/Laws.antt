-- What unrolling keeps: runs, in fewer blocks; and how often a loop's block is run.
use Rattle.std.specs.Prelude.{◌≡◌, ℕ, zero, suc, ◌+◌, ◌*◌, ◌<◌, ◌≤◌, Bool, List, length, Some, slice_get}
use Rattle.ir_forms.specs.declared.hyper.Exit.TheVariants as exit
use Rattle.ir_forms.specs.inside.HyperCode.{Items, Block}
use Rattle.ir_forms.specs.inside.HyperRuns.{Machine, Layout, Standing, Running, after_items, exit_of, block_at, run}
use Rattle.ir_forms.specs.inside.HyperRuns.{hyper_run}
use Rattle.ir_forms.specs.inside.HyperFits.{FitsHyper, IsFollowed, filled_in}
use Rattle.loop_unroll.specs.inside.Unrolled.{Loop, loop_of, asked, unrolled}
use Rattle.loop_unroll.specs.inside.Wholes.{Whole, whole, standing_of}

-- RUNS

-- no entry asks for more than so many turns more than one
abbrev pub AsksAtMost : ℕ → List ℕ → Type 0
AsksAtMost most times = (k : ℕ) → asked times k ≤ most

-- what b blocks of one run come to, some number of blocks of another come to: no more than b, and, where w is one
-- less than the most copies of a turn, no fewer than b / (w + 1), rounded down
pub record ComesTo (w : ℕ) (A : Type 0) (old new : ℕ → A) (b : ℕ) : Type 0 where
  pub blocks : ℕ
  pub few : blocks ≤ b
  pub enough : b ≤ suc w * blocks + w
  -- the same output while it goes on; at its end also the same last exit, registers, memory and rest of the input
  pub same : new blocks ≡ old b

-- The runs of a program and of the unrolled one from a block on, with or without the check of faults, wherever both
-- are laid out.
abbrev pub UnrollsRuns : Type 0
UnrollsRuns =
    (check : Bool) (at : Layout) (w : ℕ) (times : List ℕ) (P : List Block) (l : ℕ) (m : Machine) (b : ℕ)
    → AsksAtMost w times → ComesTo w Whole (λ n. whole check at P n (block_at P l) m)
    (λ n. whole check at (unrolled times P) n (block_at (unrolled times P) l) m) b

-- such a run stands as the run of the program does
abbrev pub WholesStand : Type 0
WholesStand =
    (check : Bool) (at : Layout) (P : List Block) (n : ℕ) (b : Block) (m : Machine)
    → run check at P n b m ≡ standing_of (whole check at P n b m)

-- so of whole programs on an input
abbrev pub UnrollsPrograms : Type 0
UnrollsPrograms =
    (check : Bool) (at : Layout) (w : ℕ) (times : List ℕ) (P : List Block) (bytes input : List ℕ) (b : ℕ)
    → AsksAtMost w times → ComesTo w Standing (λ n. hyper_run check at P bytes input n)
    (λ n. hyper_run check at (unrolled times P) bytes input n) b

-- a run that has ended after n blocks, or come to a fault, stands so after more
abbrev pub HasStopped : Standing → Type 0
HasStopped (Running out) = ⊥
HasStopped _ = Unit {0}

abbrev pub StoppedStays : Type 0
StoppedStays =
    (check : Bool) (at : Layout) (P : List Block) (bytes input : List ℕ) (n k : ℕ)
    → HasStopped (hyper_run check at P bytes input n)
    → hyper_run check at P bytes input (n + k) ≡ hyper_run check at P bytes input n

-- BLOCKS

-- as many blocks, with the same exits; they fit where those of the program do; and no fewer filled if-items
pub record AreUnrolled (P Q : List Block) : Type 0 where
  pub size : length Q ≡ length P
  pub followed : IsFollowed P → IsFollowed Q
  pub fit : ((k : ℕ) (b : Block) → slice_get P k ≡ Some b → FitsHyper b) → (k : ℕ) (b : Block)
      → slice_get Q k ≡ Some b → FitsHyper b
  pub filled : filled_in P ≤ filled_in Q

abbrev pub UnrollsBlocks : Type 0
UnrollsBlocks = (times : List ℕ) (P : List Block) → AreUnrolled P (unrolled times P)

-- no list asks for more than eight copies; one that asks for no second copy leaves a program as it is
abbrev pub AsksForEight : Type 0
AsksForEight = (times : List ℕ) → AsksAtMost 7 times

abbrev pub StaysOnce : Type 0
StaysOnce = (times : List ℕ) (P : List Block) → AsksAtMost 0 times → unrolled times P ≡ P

-- COUNTS

-- items done so often one after another
abbrev pub done : Items → ℕ → Machine → Machine
done is zero m = m
done is (suc n) m = done is n (after_items is m)

-- Block k is run m times one after another from x on: but for the last time it leaves by its jump to itself, and the
-- last time by another exit.
pub record RunsFor (k : ℕ) (b : Block) (m : ℕ) (x : Machine) : Type 0 where
  pub some : 1 ≤ m
  pub goes : (i : ℕ) → suc i < m → exit_of b.tail (done b.items (suc i) x).registers ≡ exit.Jump k
  pub ends : exit_of b.tail (done b.items m x).registers ≡ exit.Jump k → ⊥

-- a self loop that is run m times is run m / t times, rounded up, where t copies of its turn were asked for; and
-- leaves the same
pub record RunsFewer (k : ℕ) (b c : Block) (t m : ℕ) (x : Machine) : Type 0 where
  pub times : ℕ
  -- it is m / t rounded up
  pub most : m ≤ t * times
  pub least : t * times < m + t
  pub runs : RunsFor k c times x
  pub same : done c.items times x ≡ done b.items m x

abbrev pub UnrollsCounts : Type 0
UnrollsCounts =
    (times : List ℕ) (P : List Block) (k m : ℕ) (b : Block) (loop : Loop) (x : Machine)
    → slice_get P k ≡ Some b → loop_of k b.tail ≡ Some loop → RunsFor k b m x
    → (c : Block) × (slice_get (unrolled times P) k ≡ Some c)
    × RunsFewer k b c (suc (asked times k)) m x
