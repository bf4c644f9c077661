use Rattle.std.proofs.Common.{◌+◌, ◌≤◌, drop}
use Rattle.ir_forms.specs.inside.HyperFits.{filled_ifs}
use Rattle.ir_forms.specs.inside.HyperViews.{items_of}
use Rattle.c_compile_blocks.proofs.filled.+item.Given as goal

-- so many guards are left for what is not counted yet
abbrev pub invariant-behind_items-loop-item : goal.invariant-behind_items-loop-item
invariant-behind_items-loop-item l =
    filled_ifs (items_of l.items) + l.left ≤ l.fn.guards + filled_ifs (items_of (drop l.item-index l.items))
