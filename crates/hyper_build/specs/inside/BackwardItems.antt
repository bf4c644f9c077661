-- Code that needs no block of its own, as items.
use Rattle.std.specs.Prelude.{ℕ, ◌-◌, Bool, true, false, ◌&&◌, ◌||◌}
use Rattle.trips_isa.specs.declared.op.Op.TheVariants.{Sub}
use Rattle.ir_forms.specs.declared.hyper.Source.{Source}
use Rattle.ir_forms.specs.declared.hyper.Source.TheVariants.{Const, Reg}
use Rattle.ir_forms.specs.inside.Frames.{register_of}
use Rattle.ir_forms.specs.inside.FlatCode.{Step, Let, Frame, Load, Save, If, Code, Nop, ◌▹◌}
use Rattle.ir_forms.specs.inside.HyperCode.{Items, Done, Set, Block}
use Rattle.ir_forms.specs.inside.HyperCode as hyper
use Rattle.hyper_build.specs.inside.Parts.{source, capped, set_then}
use Rattle.hyper_build.specs.inside.Straight.{is_small_if}

-- what of code needs no block of its own
abbrev mutual
  -- one operation on words, in the frame or in memory, or an if of such alone
  pub is_straight_in : Step → Bool
  is_straight_in (Let to op a b) = true
  is_straight_in (Frame to at) = true
  is_straight_in (Load to op a) = true
  is_straight_in (Save op a v) = true
  is_straight_in (If x one other) = is_straight one && is_straight other
  is_straight_in _ = false

  -- each statement of the code is such
  pub is_straight : Code → Bool
  is_straight Nop = true
  is_straight (s ▹ rest) = is_straight_in s && is_straight rest

-- whether an if is an item of its block, by its legs; a small one always is
abbrev pub is_if_item : Bool → Code → Code → Bool
is_if_item joined one other =
    (joined || is_small_if one other) && (is_straight one && is_straight other)

-- items come before those of a rest
abbrev pub items_before : (Items → Items) → Block → Block
items_before f k = record { items = f k.items; tail = k.tail }

-- an if as an item before a rest
abbrev pub if_then : Source → Items → Items → Block → Block
if_then x one other k = record { items = hyper.If x one other k.items; tail = k.tail }

-- a variable becomes the address of a byte of the arrays, before a rest
abbrev pub frame_then : ℕ → ℕ → ℕ → Block → Block
frame_then arrays to at k = set_then (register_of to) Sub (Reg 1) (Const (capped (arrays - at))) k

-- the items of straight code, and then others
abbrev mutual
  -- one statement, as one item
  pub straight_items_in : ℕ → Step → Items → Items
  straight_items_in arrays (Let to op a b) k = Set (register_of to) op (source a) (source b) k
  straight_items_in arrays (Frame to at) k =
      Set (register_of to) Sub (Reg 1) (Const (capped (arrays - at))) k
  straight_items_in arrays (Load to op a) k = hyper.Load (register_of to) op (source a) k
  straight_items_in arrays (Save op a v) k = hyper.Save op (source a) (source v) k
  straight_items_in arrays (If x one other) k =
      hyper.If (source x) (straight_items arrays one Done) (straight_items arrays other Done) k
  straight_items_in arrays _ k = k

  -- code, an item for each statement
  pub straight_items : ℕ → Code → Items → Items
  straight_items arrays Nop k = k
  straight_items arrays (s ▹ rest) k = straight_items_in arrays s (straight_items arrays rest k)
