use Rattle.std.proofs.Common.{◌≡◌, ◌<◌, ◌≤◌, ◌+◌}
use Rattle.c_locals.specs.Brackets.{pieces, further_pieces}
use Rattle.c_locals.specs.Declarators.{rows_from}
use Rattle.c_locals.proofs.SplitFacts.{left}
use Rattle.std.specs.Prelude.{option_map}
use Rattle.c_locals.proofs.grids.rows.Given as goal

abbrev pub invariant-loop-rest : goal.invariant-loop-rest
invariant-loop-rest l =
    record {
      value : rows_from 0 (pieces l.fn.values)
          ≡ rows_from l.count (further_pieces (option_map (λ more. more.now) l.rest));
      few : l.count + left (option_map (λ more. more.now) l.rest) ≤ l.size + 1;
      small : l.size < 9223372036854775808;
    }

abbrev pub decreases-loop-rest : goal.decreases-loop-rest
decreases-loop-rest l = left (option_map (λ more. more.now) l.rest)
