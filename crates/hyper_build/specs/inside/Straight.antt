-- What of annotated code needs no block of its own, as items of the block in which it stands.
use Rattle.std.specs.Prelude.{ℕ, ◌-◌, Bool, true, false, ◌&&◌, ◌||◌, not}
use Rattle.trips_isa.specs.declared.op.Op.TheVariants.{Sub}
use Rattle.ir_forms.specs.declared.hyper.Source.TheVariants.{Const, Reg}
use Rattle.ir_forms.specs.inside.Frames.{register_of}
use Rattle.ir_forms.specs.inside.FlatCode.{Code}
use Rattle.ir_forms.specs.inside.FlatFits.{is_small_leg, is_empty}
use Rattle.ir_forms.specs.inside.HyperCode.{Items, Done, Set, Load, Save, If, Block}
use Rattle.hyper_build.specs.inside.Tree.{Stmt, LetAt, FrameAt, LoadAt, SaveAt, IfAt, Tree, End, ◌▸◌, plain}
use Rattle.hyper_build.specs.inside.Parts.{source, capped}

-- What a statement's code needs of where it stands: the bytes of the frame and of its arrays, the
-- label of each function, where a break and a continue lead, and what a return goes on with.
pub record Place : Type 0 where
  -- in bytes, the arrays among them
  pub frame : ℕ
  pub arrays : ℕ
  -- by the function's number
  pub entries : ℕ → ℕ
  pub broke : ℕ
  pub again : ℕ
  pub gave : Block

-- the same place in the body of a loop, where a break and a continue lead to its labels
abbrev pub in_loop : Place → ℕ → ℕ → Place
in_loop p broke again = record p { broke = broke; again = again }

-- IF-ITEMS

-- whether a statement is items alone
abbrev mutual
  -- one operation on words, in the frame or in memory, or an if of such alone
  pub straight_in : Stmt → Bool
  straight_in (LetAt c to op a b) = true
  straight_in (FrameAt c to at) = true
  straight_in (LoadAt c to op a) = true
  straight_in (SaveAt c op a v) = true
  straight_in (IfAt c joined t one other) = straight one && straight other
  straight_in _ = false

  -- each statement of the code is such
  pub straight : Tree → Bool
  straight End = true
  straight (s ▸ rest) = straight_in s && straight rest

-- the items of a straight statement, and then others
abbrev mutual
  -- one statement, as one item
  pub items_in : Place → Stmt → Items → Items
  items_in p (LetAt c to op a b) k = Set (register_of to) op (source a) (source b) k
  items_in p (FrameAt c to at) k =
      Set (register_of to) Sub (Reg 1) (Const (capped (p.arrays - at))) k
  items_in p (LoadAt c to op a) k = Load (register_of to) op (source a) k
  items_in p (SaveAt c op a v) k = Save op (source a) (source v) k
  items_in p (IfAt c joined t one other) k =
      If (source t) (items_of p one Done) (items_of p other Done) k
  items_in p _ k = k

  -- code, an item for each statement
  pub items_of : Place → Tree → Items → Items
  items_of p End k = k
  items_of p (s ▸ rest) k = items_in p s (items_of p rest k)

-- a small if: its legs are each empty or one operation, and not both empty
abbrev pub is_small_if : Code → Code → Bool
is_small_if one other =
    (is_small_leg one && is_small_leg other) && not (is_empty one && is_empty other)

-- an if that is an item of its block: one that is joined, where its legs are straight, and each small one
abbrev pub is_item : Bool → Tree → Tree → Bool
is_item joined one other =
    (joined || is_small_if (plain one) (plain other)) && (straight one && straight other)
