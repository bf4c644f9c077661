use Rattle.std.proofs.Common.{◌≡◌, ◌++◌, take, drop, get_or}
use Rattle.c_compile_layout.specs.inside.Linking.{linked_from}
use Rattle.c_compile_layout.proofs.linking.link.Given as goal

abbrev pub invariant-loop-k : goal.invariant-loop-k
invariant-loop-k l =
    l.blocks ≡ linked_from (λ x. get_or l.starts x l.end) 0 (take l.k l.initial.blocks) ++ drop l.k l.initial.blocks
