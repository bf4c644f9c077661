-- What it is that a statement and code do what they mean.
use Rattle.std.specs.Prelude.{◌≡◌, ℕ, ◌^◌, ◌<◌, Bool, true}
use Rattle.trips_isa.specs.declared.op.Op.{Op}
use Rattle.trips_isa.specs.Alu.{alu_of}
use Rattle.ir_forms.specs.inside.FlatFits.{operates}
use Rattle.ir_forms.specs.inside.FlatSteps.{Calls, act, exec}
use Rattle.ir_forms.specs.inside.HyperCode.{Block}
use Rattle.hyper_build.specs.inside.Tree.{Stmt, Tree, Routine, plain_in, plain}
use Rattle.hyper_build.specs.inside.Straight.{Place}
use Rattle.hyper_build.specs.inside.Entries.{entry_in, entry, turn_entry}
use Rattle.hyper_build.specs.inside.Build.{blocks_in, blocks, turn_blocks}
use Rattle.hyper_build.specs.inside.Merging.{SetsLow}
use Rattle.hyper_build.specs.inside.World.{World, Has, checks_of, env_in}
use Rattle.hyper_build.specs.inside.Follow.{Does, ways_of}
use Rattle.hyper_build.specs.inside.Fits.{FitsStmt, FitsTree, IsPlace}

-- A law of the operations: on words they give words.
abbrev pub AluGivesWords : Type 0
AluGivesWords =
    (op : Op) (a b : ℕ) → operates op ≡ true → a < 2 ^ 64 → b < 2 ^ 64 → alu_of op a b < 2 ^ 64

-- a statement that fits does what it means, wherever its blocks stand and whatever follows
abbrev pub StmtDoes : World → Calls → ℕ → Routine → Stmt → Type 0
StmtDoes W call start g s =
    (inside : Bool) (p : Place) → FitsStmt W g inside s → IsPlace W g p → (l : ℕ) (k : Block)
    → Has W.program l (blocks_in p s l k)
    → Does W start g (entry_in p s l k) (ways_of p k)
    (act (checks_of W) call (env_in W start g) (plain_in s))

-- and so does code
abbrev pub TreeDoes : World → Calls → ℕ → Routine → Tree → Type 0
TreeDoes W call start g c =
    (inside : Bool) (p : Place) → FitsTree W g inside c → IsPlace W g p → (l : ℕ) (k : Block)
    → Has W.program l (blocks p c l k)
    → Does W start g (entry p c l k) (ways_of p k)
    (exec (checks_of W) call (env_in W start g) (plain c))

-- and a loop's body, where what follows it leaves alone the register in which the test is kept
abbrev pub TurnDoes : World → Calls → ℕ → Routine → Tree → Type 0
TurnDoes W call start g c =
    (inside : Bool) (p : Place) → FitsTree W g inside c → IsPlace W g p → (l : ℕ) (k : Block)
    → SetsLow k.items → Has W.program l (turn_blocks p c l k)
    → Does W start g (turn_entry p c l k) (ways_of p k)
    (exec (checks_of W) call (env_in W start g) (plain c))
