use Rattle.std.proofs.Common.{◌≡◌, ◌++◌, ℕ, List, sym, subst, ◌∙◌}
use Rattle.target_file.specs.Bare.{lines_of}
use Rattle.trips_listing_text.specs.Comments.{comments}
use Rattle.trips_listing_text.specs.Listed.{behind, begins_block, listed}
use Rattle.trips_listing_text.proofs.Turns.{written, all_written}
use Rattle.trips_listing_text.proofs.listing.listed.Goals as goal

pub loop-rest-preserved : goal.loop-rest-preserved
loop-rest-preserved c =
    let told = comments c.args.entries.now c.args.told.now in
    let first = c.first_line-first.result in
    let h = written told c.loop-rest.k c.loop-rest.rest.now first.line.now first.ended first.rest.now
    c.loop-rest.out.items c.put_before.new.out.items c.put_line.new.out.items
    (listed told 0 (lines_of c.args.target.now)) c.first_line-first.ensures c.in_ok-k.ensures.written
    c.in_ok-put_line.ensures c.loop-rest.invariant in
    subst (λ (k : ℕ). c.put_line.new.out.items ++ listed told k (lines_of first.rest.now)
    ≡ listed told 0 (lines_of c.args.target.now)) (sym c.in_ok-k.ensures.behind) h

pub returns : goal.returns
returns c =
    all_written (comments c.args.entries.now c.args.told.now) c.loop-rest.k c.loop-rest.out.items c.loop-rest.rest.now
    (listed (comments c.args.entries.now c.args.told.now) 0 (lines_of c.args.target.now))
    (sym c.is_empty.ensures ∙ c.loop-rest-test.false) c.loop-rest.invariant
