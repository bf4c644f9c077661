-- The shapes of blocks, one after another.
use Rattle.std.proofs.Common.{◌≡◌, ℕ, zero, suc, ◌+◌, ◌<◌, ◌≤◌, List, [], ◌∷◌, ◌++◌, Some, length, take, slice_get}
use Rattle.std.proofs.Common.{refl, sym, ap, subst, arith}
use Rattle.trips_isa.specs.declared.block.Block.{Block}
use Rattle.frame_state.specs.declared.shape.Shape.{Shape}
use Rattle.frame_state.specs.inside.Shapes.{IsShape}
use Rattle.grid_machine.specs.inside.Shaped.{AreShapes}

-- one more
pub more_shapes : (bs : List Block) (k : ℕ) (ss : List Shape) (b : Block) (s : Shape) → AreShapes (take k bs) ss
    → slice_get bs k ≡ Some b → IsShape b s → AreShapes (take (suc k) bs) (ss ++ s ∷ [])
more_shapes [] k ss b s h e is = absurd (cc)
more_shapes (c ∷ cs) zero [] b s h e is = let same : c ≡ b = cc in (subst (λ x. IsShape x s) (sym same) is, tt)
more_shapes (c ∷ cs) zero (t ∷ ts) b s h e is = absurd h
more_shapes (c ∷ cs) (suc k) [] b s h e is = absurd h
more_shapes (c ∷ cs) (suc k) (t ∷ ts) b s h e is = (h.0, more_shapes cs k ts b s h.1 e is)

whole : (bs : List Block) (k : ℕ) → length bs ≤ k → take k bs ≡ bs
whole [] zero l = refl
whole [] (suc k) l = refl
whole (b ∷ bs) zero l = absurd (omega arith)
whole (b ∷ bs) (suc k) l = ap (λ xs. b ∷ xs) (whole bs k (omega arith))

-- shapes of as many blocks as there are are those of all blocks
pub all_shapes : (bs : List Block) (k : ℕ) (ss : List Shape) → AreShapes (take k bs) ss → length bs ≤ k
    → AreShapes bs ss
all_shapes bs k ss h l = subst (λ xs. AreShapes xs ss) (whole bs k l) h

-- as many shapes as blocks
pub shape_count : (bs : List Block) (ss : List Shape) → AreShapes bs ss → length ss ≡ length bs
shape_count [] [] h = refl
shape_count [] (s ∷ ss) h = absurd h
shape_count (b ∷ bs) [] h = absurd h
shape_count (b ∷ bs) (s ∷ ss) h = ap suc (shape_count bs ss h.1)

-- each at its block
pub shape_at : (bs : List Block) (ss : List Shape) → AreShapes bs ss → (k : ℕ) (b : Block) (s : Shape)
    → slice_get bs k ≡ Some b → slice_get ss k ≡ Some s → IsShape b s
shape_at [] ss h k b s e w = absurd (cc)
shape_at (c ∷ cs) [] h k b s e w = absurd h
shape_at (c ∷ cs) (t ∷ ts) h zero b s e w =
    let block : c ≡ b = cc in
    let shape : t ≡ s = cc in
    subst (λ x. IsShape x s) block (subst (IsShape c) shape h.0)
shape_at (c ∷ cs) (t ∷ ts) h (suc k) b s e w = shape_at cs ts h.1 k b s e w

-- a block stands below the count
pub block_there : (bs : List Block) (k : ℕ) → k < length bs → (b : Block) × (slice_get bs k ≡ Some b)
block_there [] k l = absurd (omega arith)
block_there (b ∷ bs) zero l = (b, refl)
block_there (b ∷ bs) (suc k) l = block_there bs k (omega arith)
