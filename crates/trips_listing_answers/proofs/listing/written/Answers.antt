use Rattle.trips_listing_answers.proofs.Written.{is_written}
use Rattle.trips_listing_answers.proofs.listing.written.Goals as goal

pub returns : goal.returns
returns c =
    is_written c.args.text.now c.args.made.now.image c.args.made.now.entries c.in_ok-tokens.tokens.items
    c.in_ok-tree.tree c.in_ok-target.target.items c.in_ok-report.report.items c.deref.result.now c.deref-2.result.now
    c.as_slice.result.now c.in_ok-told.told c.as_slice-3.result.now c.as_slice-2.result.now c.deref-3.result.now
    c.in_ok-tokens.ensures c.deref.ensures.value c.in_ok-tree.ensures c.deref-2.ensures.value c.as_slice.ensures.value
    c.in_ok-told.ensures c.in_ok-target.ensures c.as_slice-2.ensures.value c.as_slice-3.ensures.value
    c.deref-3.ensures.value c.in_ok-report.ensures
