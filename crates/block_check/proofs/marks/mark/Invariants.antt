use Rattle.std.proofs.Common.{◌≡◌, ◌<◌, ◌||◌, ◌&&◌, ◌==◌, ℕ, nat_lt, take, get_or}
use Rattle.trips_isa.specs.PlaceNumbers.{place_count}
use Rattle.block_cases.specs.Cases.{bit}
use Rattle.block_check.specs.inside.Named.{named}
use Rattle.block_check.proofs.marks.mark.Given as goal

abbrev pub invariant-loop-x : goal.invariant-loop-x
invariant-loop-x l = record {
  two : (q : ℕ) → q < place_count → bit l.two q ≡ (bit l.initial.two q
      || (named (take l.x l.nodes) q && nat_lt 1 (get_or l.seen q 0)));
  none : (q : ℕ) → q < place_count → bit l.none q ≡ (bit l.initial.none q
      || (named (take l.x l.nodes) q && (get_or l.seen q 0 == 0)));
}
