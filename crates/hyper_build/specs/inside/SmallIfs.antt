-- Blocks that hold one small if alone, and leave behind it.
use Rattle.std.specs.Prelude.{◌≡◌, true, ◌||◌}
use Rattle.ir_forms.specs.declared.hyper.Source.{Source}
use Rattle.ir_forms.specs.declared.hyper.Exit.{Exit}
use Rattle.ir_forms.specs.inside.HyperCode.{Items, Done, Set, Load, Save, If, Leave, Block}
use Rattle.ir_forms.specs.inside.HyperFits.{is_filled}

-- no further item
abbrev pub IsEnded : Items → Type 0
IsEnded Done = Unit {0}
IsEnded (Set to op a b rest) = ⊥
IsEnded (Load to op a rest) = ⊥
IsEnded (Save op a v rest) = ⊥
IsEnded (If t one other rest) = ⊥

-- a leg that is empty, or sets one register
abbrev pub IsShortLeg : Items → Type 0
IsShortLeg Done = Unit {0}
IsShortLeg (Set to op a b rest) = IsEnded rest
IsShortLeg (Load to op a rest) = ⊥
IsShortLeg (Save op a v rest) = ⊥
IsShortLeg (If t one other rest) = ⊥

-- the block of one if-item, with one exit behind it
abbrev pub if_block : Source → Items → Items → Exit → Block
if_block t one other out = record { items = If t one other Done; tail = Leave out }

-- a block of one small if: each leg is empty or sets one register, and not both are empty
pub record HoldsSmallIf (b : Block) : Type 0 where
  pub test : Source
  pub one : Items
  pub other : Items
  pub out : Exit
  pub is : b ≡ if_block test one other out
  pub first : IsShortLeg one
  pub second : IsShortLeg other
  -- at least one of them sets a register
  pub filled : (is_filled one || is_filled other) ≡ true
