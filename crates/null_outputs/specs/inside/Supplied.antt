-- The test of blocks whose outputs surely get a token each.
use Rattle.std.specs.Prelude.{ℕ, zero, suc, Bool, true, not, ◌&&◌, List, [], ◌∷◌, None}
use Rattle.ir_forms.specs.declared.flow.FlowWrite.{FlowWrite}
use Rattle.ir_forms.specs.declared.flow.FlowBlock.{FlowBlock}
use Rattle.null_outputs.specs.inside.Covers.{Sure}
use Rattle.null_outputs.specs.inside.Groups.{number_open}
use Rattle.null_outputs.specs.inside.Surely.{sure_by}

-- whether each write does
abbrev pub writes_there : Sure → List FlowWrite → Bool
writes_there sure [] = true
writes_there sure (w ∷ rest) = sure None w.sources && writes_there sure rest

-- whether each of m store numbers from k on does that the mask has
abbrev pub numbers_there : Sure → FlowBlock → ℕ → ℕ → Bool
numbers_there sure b k zero = true
numbers_there sure b k (suc m) = not (number_open sure b k) && numbers_there sure b (suc k) m

-- the same of all numbers; not an `abbrev`, since the numeral unrolls
unfoldable pub all_numbers_there : Sure → FlowBlock → Bool
all_numbers_there sure b = numbers_there sure b 0 32

-- whether each output does
abbrev pub is_supplied : FlowBlock → Bool
is_supplied b = writes_there (sure_by b) b.writes && all_numbers_there (sure_by b) b
