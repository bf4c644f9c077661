-- Small blocks without if-items and those of a save group cost little.
use Rattle.std.proofs.Common.{◌≡◌, ℕ}
use Rattle.std.proofs.Common.{sym, subst, ◌⊎◌}
use Rattle.std.proofs.Common.{inl, inr}
use Rattle.ir_forms.specs.inside.HyperCode.{Block}
use Rattle.ir_forms.specs.inside.HyperFits.{FitsItems}
use Rattle.ir_forms.specs.inside.HyperRuns.{jump}
use Rattle.hyper_build.specs.inside.Passing.{saving, restoring}
use Rattle.hyper_build.specs.inside.Smallness.{IsSimple, IsGroupBlock}
use Rattle.predication.specs.inside.Tails.{block_with}
use Rattle.c_compile_blocks.proofs.Cheap.{IsCheap}
use Rattle.c_compile_blocks.proofs.SmallBlocks.{simple_cheap}
use Rattle.c_compile_blocks.proofs.SaveGroups.{saves_cheap, restores_cheap}

-- a simple block, or one of a save group, costs little
pub little_cheap : (f : ℕ → ℕ) (b : Block) → FitsItems b.items → IsSimple b ⊎ IsGroupBlock b
    → IsCheap (block_with f b)
little_cheap f b fits (inl s) = simple_cheap f b fits s
little_cheap f b fits (inr g) = go g.is
  where
    go : (b ≡ saving g.frame g.variables (jump g.to)) ⊎ (b ≡ restoring g.frame g.variables (jump g.to))
        → IsCheap (block_with f b)
    go (inl e) =
        subst (λ (x : Block). IsCheap (block_with f x)) (sym e)
        (saves_cheap f g.frame g.to g.variables g.few (subst (λ (x : Block). FitsItems x.items) e fits))
    go (inr e) =
        subst (λ (x : Block). IsCheap (block_with f x)) (sym e)
        (restores_cheap f g.frame g.to g.variables g.few (subst (λ (x : Block). FitsItems x.items) e fits))
