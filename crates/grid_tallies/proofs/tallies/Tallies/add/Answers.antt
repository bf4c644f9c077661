use Rattle.std.proofs.Common.{◌<◌, ◌+◌, ◌^◌, ◌≡◌, ◌==◌, cond, length, slice_index_or, slice_set, subst, arith}
use Rattle.grid_tallies.specs.Statistics.{place}
use Rattle.grid_tallies.proofs.Adding.{grown}
use Rattle.grid_tallies.proofs.tallies.Tallies.add.Goals as goal

pub returns : goal.returns
returns c =
    let xs = c.args.self.now.numbers in
    let is = c.place-place.ensures.value in
    let within = c.place-place.ensures.within in
    let inside : c.place-place.result < length xs = omega (arith, within) in
    λ t. subst (λ p. slice_index_or xs (place t) 0 + cond (place t == p) c.args.by 0 < 2 ^ 64
    → slice_index_or (slice_set xs c.place-place.result c.more.result) (place t) 0
    ≡ slice_index_or xs (place t) 0 + cond (place t == p) c.args.by 0) is
    (grown xs c.place-place.result c.more.result c.args.by inside c.more.ensures (place t))
