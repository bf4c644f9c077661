-- Hyper programs as plain data, which their meaning and the passes recurse on.
use Rattle.std.specs.Prelude.{ℕ}
use Rattle.trips_isa.specs.declared.op.Op.{Op}
use Rattle.ir_forms.specs.declared.hyper.Source.{Source}
use Rattle.ir_forms.specs.declared.hyper.Exit.{Exit}

-- the items of a block, in order
pub data Items : Type 0 where
  Done : Items
  Set : (to : ℕ) (op : Op) (a b : Source) (rest : Items) → Items
  Load : (to : ℕ) (op : Op) (address : Source) (rest : Items) → Items
  Save : (op : Op) (address value : Source) (rest : Items) → Items
  If : (test : Source) (one other rest : Items) → Items

-- the end of a block: a tree of tests with an exit at each leaf
pub data Tail : Type 0 where
  Leave : (exit : Exit) → Tail
  Test : (test : Source) (one other : Tail) → Tail

-- a block, or the rest of one
pub record Block : Type 0 where
  pub items : Items
  pub tail : Tail
