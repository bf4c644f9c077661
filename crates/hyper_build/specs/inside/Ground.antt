-- What emission knows of a function and its program.
use Rattle.std.specs.Prelude.{ℕ, zero, suc, Bool, List, [], ◌∷◌}
use Rattle.trips_isa.specs.declared.op.Op.TheVariants.{Sub, Ld}
use Rattle.ir_forms.specs.declared.hyper.Source.TheVariants.{Const, Reg}
use Rattle.ir_forms.specs.declared.hyper.Exit.TheVariants as exit
use Rattle.ir_forms.specs.inside.HyperCode.{Done, Set, Load, Leave, Block}
use Rattle.hyper_build.specs.inside.Tree.{Plan}
use Rattle.hyper_build.specs.inside.Parts.{capped}
use Rattle.hyper_build.specs.inside.Straight.{Place}
use Rattle.hyper_build.specs.inside.Laws.{plan_of}

-- The answers of the plan, where blocks are cut and which ifs are joined, the groups of each call, the
-- label of each function, and the bytes of the frame and of its arrays.
pub record Ground : Type 0 where
  pub cuts : List Bool
  pub joins : List Bool
  pub groups : List (List (List ℕ))
  pub entries : List ℕ
  pub frame : ℕ
  pub arrays : ℕ

-- the label of a function by its number; where there is none, 0
abbrev pub entry_at : List ℕ → ℕ → ℕ
entry_at [] f = 0
entry_at (e ∷ es) zero = e
entry_at (e ∷ es) (suc f) = entry_at es f

-- the answers and groups as a plan, which has one at every place
abbrev pub plan : Ground → Plan
plan g = plan_of g.cuts g.joins g.groups

-- what a return goes on with
abbrev pub left : ℕ → Block
left frame = record {
  items = Set 1 Sub (Reg 1) (Const (capped frame)) (Load 2 Ld (Reg 1) Done);
  tail = Leave exit.Return;
}

-- what statements of the function need of where they stand, where a break and a continue lead to
-- labels
abbrev pub place : Ground → ℕ → ℕ → Place
place g broke again = record {
  frame = g.frame;
  arrays = g.arrays;
  entries = entry_at g.entries;
  broke = broke;
  again = again;
  gave = left g.frame;
}
