-- The shapes of the blocks of an image.
use Rattle.std.specs.Prelude.{List, [], ◌∷◌}
use Rattle.trips_isa.specs.declared.block.Block.{Block}
use Rattle.frame_state.specs.declared.shape.Shape.{Shape}
use Rattle.frame_state.specs.inside.Shapes.{IsShape}

-- to each block its shape, and no other
abbrev pub AreShapes : List Block → List Shape → Type 0
AreShapes [] [] = Unit {0}
AreShapes [] (s ∷ ss) = ⊥
AreShapes (b ∷ bs) [] = ⊥
AreShapes (b ∷ bs) (s ∷ ss) = IsShape b s × AreShapes bs ss
