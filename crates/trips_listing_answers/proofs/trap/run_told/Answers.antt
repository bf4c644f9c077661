use Rattle.trips_listing_answers.proofs.Trapped.{is_trap_told}
use Rattle.trips_listing_answers.proofs.trap.run_told.Goals as goal

pub returns : goal.returns
returns c =
    is_trap_told c.args.text.now c.args.input.items c.args.budget c.args.made.now.image c.args.made.now.entries
    c.in_ok-tokens.tokens.items c.deref.result.now c.deref-2.result.now c.in_ok-tree.tree c.as_slice.result.now
    c.in_ok-told.told c.as_slice-3.result.now c.as_slice-2.result.now c.new-out.result.items c.put_ending.new.out.items
    c.in_ok-ending.ending c.requires.listed c.in_ok-tokens.ensures c.deref.ensures.value c.deref-2.ensures.value
    c.in_ok-tree.ensures c.as_slice.ensures.value c.in_ok-told.ensures c.as_slice-3.ensures.value
    c.as_slice-2.ensures.value c.in_ok-ending.ensures c.new-out.ensures.items c.in_ok-put_ending.ensures
