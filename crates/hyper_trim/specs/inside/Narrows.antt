-- That a narrowed program is what is left of a hyper program.
use Rattle.std.specs.Prelude.{◌≡◌, ℕ, Bool, List, length, Some, slice_get}
use Rattle.ir_forms.specs.inside.HyperCode.{Block}
use Rattle.ir_forms.specs.inside.HyperFits.{FitsHyper, IsFollowed, filled_in}
use Rattle.ir_forms.specs.inside.HyperRuns.{Layout, hyper_run}
use Rattle.hyper_narrow.specs.inside.NarrowedCode.{Narrowed, bare}
use Rattle.hyper_narrow.specs.inside.NarrowedRuns.{narrowed_run}

-- each block of a program fits
abbrev pub AllFit : List Block → Type 0
AllFit P = (k : ℕ) (b : Block) → slice_get P k ≡ Some b → FitsHyper b

-- each block of a narrowed program fits
abbrev pub AllNarrowedFit : List Narrowed → Type 0
AllNarrowedFit Q = (k : ℕ) (c : Narrowed) → slice_get Q k ≡ Some c → FitsHyper c.block

-- Q is what is left of P, with what outlasts each of its blocks: it does the same, block by block
pub record Narrows (P : List Block) (Q : List Narrowed) : Type 0 where
  -- the same standing after each number of blocks, on each input, in each layout, with or without the check for
  -- faults
  pub runs : (check : Bool) (at : Layout) (bytes input : List ℕ) (n : ℕ)
      → narrowed_run check at Q bytes input n ≡ hyper_run check at P bytes input n
  -- as many blocks
  pub count : length Q ≡ length P
  -- which lead to blocks of it
  pub followed : IsFollowed P → IsFollowed (bare Q)
  pub fit : AllFit P → AllNarrowedFit Q
  -- and have as many filled if-items
  pub filled : filled_in (bare Q) ≡ filled_in P
