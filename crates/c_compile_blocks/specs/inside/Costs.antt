-- What a hyper block without if-items costs in instructions, at most.
use Rattle.std.specs.Prelude.{ℕ, zero, suc, ◌+◌, ◌/◌, nat_lt, cond}
use Rattle.ir_forms.specs.declared.hyper.Source.{Source}
use Rattle.ir_forms.specs.declared.hyper.Source.TheVariants.{Const, Reg}
use Rattle.ir_forms.specs.declared.hyper.Exit.{Exit}
use Rattle.ir_forms.specs.declared.hyper.Exit.TheVariants as exit
use Rattle.ir_forms.specs.inside.HyperCode.{Items, Done, Set, Load, Save, If, Tail, Leave, Test}

-- how many `app` a constant takes after its `genu`, at most d
abbrev pub apps : ℕ → ℕ → ℕ
apps zero w = 0
apps (suc d) w = cond (nat_lt w 65536) 0 (suc (apps d (w / 65536)))

-- the nodes of an operand, and its source
abbrev pub source_cost : Source → ℕ
source_cost (Const w) = suc (apps 3 w)
source_cost (Reg r) = 1

-- if-items are left out
abbrev pub items_cost : Items → ℕ
items_cost Done = 0
items_cost (Set r op a b rest) = 1 + source_cost a + source_cost b + items_cost rest
items_cost (Load r op a rest) = 1 + source_cost a + items_cost rest
items_cost (Save op a v rest) = 1 + source_cost a + source_cost v + items_cost rest
items_cost (If t one other rest) = 0

-- the nodes of an exit; a call puts an address into a register
abbrev pub exit_cost : Exit → ℕ
exit_cost (exit.Jump l) = 1
exit_cost (exit.Call l back) = 4
exit_cost exit.Return = 2
exit_cost (exit.System l) = 1

-- an end with at most one test, between two jumps
abbrev pub tail_cost : Tail → ℕ
tail_cost (Leave e) = exit_cost e
tail_cost (Test t one other) = 1 + source_cost t + 4
