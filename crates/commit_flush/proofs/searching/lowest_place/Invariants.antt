use Rattle.std.proofs.Common.{◌≡◌, ◌*◌, ◌<◌, ℕ, None}
use Rattle.commit_flush_spec.specs.Frames.{at}
use Rattle.commit_flush.proofs.searching.lowest_place.Given as goal

abbrev pub invariant-loop-word : goal.invariant-loop-word
invariant-loop-word l = (p : ℕ) → p < 64 * l.word → at l.held.places p ≡ None
