-- Guards, and which are found to be met wherever others are.
use Rattle.std.specs.Prelude.{ℕ, zero, suc, Bool, true, false, not, nat_eq, ◌&&◌, ◌||◌}
use Rattle.std.specs.Prelude.{List, Option, Some, None, slice_get}
use Rattle.trips_isa.specs.declared.block.Sense.{Sense}
use Rattle.trips_isa.specs.declared.block.Sense.TheVariants.{Always, OnTrue, OnFalse}
use Rattle.ir_forms.specs.declared.flow.Guard.{Guard}
use Rattle.ir_forms.specs.declared.flow.FlowNode.{FlowNode}

-- which guard each node has
abbrev pub Guards : Type 0
Guards = ℕ → Option Guard

-- whether two senses are one
abbrev pub same_sense : Sense → Sense → Bool
same_sense Always Always = true
same_sense OnTrue OnTrue = true
same_sense OnFalse OnFalse = true
same_sense _ _ = false

-- whether two guards are one
abbrev pub same_guard : Option Guard → Option Guard → Bool
same_guard None None = true
same_guard None (Some g) = false
same_guard (Some g) None = false
same_guard (Some g) (Some k) = nat_eq g.node k.node && same_sense g.sense k.sense

-- whether a sense is met by every token, and where there is none
abbrev pub is_always : Sense → Bool
is_always Always = true
is_always _ = false

-- the guard of a node that exists
abbrev pub guard_in : Option FlowNode → Option Guard
guard_in None = None
guard_in (Some n) = n.guard

-- the guard of each of some nodes
abbrev pub guards_of : List FlowNode → Guards
guards_of nodes k = guard_in (slice_get nodes k)

-- what holds of the guard of a guard's node: where a guard is met, its node fired
abbrev pub of_outer : (Option Guard → Bool) → Guards → Option Guard → Bool
of_outer holds guards None = false
of_outer holds guards (Some g) = not (is_always g.sense) && holds (guards g.node)

-- whether the outer of two guards is found to be met wherever the inner one is: it is the inner one, or one of d
-- guards around it
abbrev pub implies : Guards → ℕ → Option Guard → Option Guard → Bool
implies guards zero outer inner = same_guard inner outer
implies guards (suc d) outer inner = same_guard inner outer || of_outer (implies guards d outer) guards inner

-- how many guards around a node are looked at; not an `abbrev`, since the numeral unrolls
unfoldable pub most_around : ℕ
most_around = 8
