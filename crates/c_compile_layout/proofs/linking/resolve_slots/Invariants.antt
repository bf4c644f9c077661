use Rattle.std.proofs.Common.{◌≡◌, ◌++◌, map, take, drop, get_or}
use Rattle.c_compile_layout.specs.inside.Linking.{resolved_slot, by_both}
use Rattle.c_compile_layout.proofs.linking.resolve_slots.Given as goal

abbrev pub invariant-loop-i : goal.invariant-loop-i
invariant-loop-i l =
    l.slots
    ≡ map (resolved_slot (by_both (λ x. get_or l.starts x l.end) l.k)) (take l.i l.initial.slots)
    ++ drop l.i l.initial.slots
