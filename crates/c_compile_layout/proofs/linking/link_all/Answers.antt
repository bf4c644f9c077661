use Rattle.std.proofs.Common.{◌∙◌, sym, subst, arith, ◌≤◌, All}
use Rattle.c_compile_layout.proofs.LabelLoop.{linked_by, begins_low}
use Rattle.c_compile_layout.proofs.linking.link_all.Goals as goal
use Rattle.trips_isa.specs.Limits.{most_chunks}

pub link-requires-clause-starts : goal.link-requires-clause-starts
link-requires-clause-starts c =
    let f = c.requires.few in
    subst (All (λ n. n ≤ most_chunks)) (sym (c.as_slice.ensures.value ∙ c.in_ok-end.ensures.starts))
    (begins_low 0 most_chunks c.args.blocks.now (omega (arith, f)))

pub returns-clause-ok : goal.returns-clause-ok
returns-clause-ok c =
    linked_by c.as_slice.result.now c.in_ok-end.end c.args.blocks.now c.link.new.blocks
    (c.as_slice.ensures.value ∙ c.in_ok-end.ensures.starts) c.in_ok-end.ensures.end c.link.ensures.value
