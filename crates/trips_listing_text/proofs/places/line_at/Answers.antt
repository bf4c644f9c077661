use Rattle.std.proofs.Common.{◌≡◌, ◌+◌, suc, ◌∷◌, List, ℕ, drop, subst, sym, ap, ◌∙◌, arith}
use Rattle.std.specs.Prelude.{slice_index_or}
use Rattle.std.proofs.Math.Seq.{drop-cons}
use Rattle.trips_listing_text.specs.Functions.{feed, feeds, line_at}
use Rattle.trips_listing_text.proofs.Feeds.{feeds_on}
use Rattle.trips_listing_text.proofs.places.line_at.Goals as goal

pub loop-i-preserved : goal.loop-i-preserved
loop-i-preserved c =
    let text = c.args.text.now in
    let i = c.loop-i.i in
    let b = slice_index_or text i 0 in
    let e : suc i ≡ i + 1 = omega arith in
    let d = drop-cons text i 0 (omega (arith, c.loop-i-test.true)) ∙ ap (λ n. b ∷ drop n text) e in
    let h = feeds_on c.loop-i.line c.args.at i b (line_at text c.args.at) text c.if-i-at.false d c.loop-i.invariant.0 in
    let v = c.feed-line.ensures.value in
    let w = c.feed-line.ensures.within in
    let n = c.loop-i.invariant.1 in
    let o = c.if-i-at.false in
    (omega (arith, h, v), omega (arith, w, n), omega (arith, o))
