use Rattle.std.proofs.Common.{◌≡◌, ◌<◌, ◌≤◌, ◌+◌}
use Rattle.c_tree.specs.Limits.{most_tokens}
use Rattle.c_library.specs.inside.Puts.{put_all}
use Rattle.c_locals.specs.Brackets.{pieces, further_pieces}
use Rattle.c_locals.specs.Declarators.{set_rows}
use Rattle.c_locals.proofs.SplitFacts.{left}
use Rattle.std.specs.Prelude.{option_map}
use Rattle.c_locals.proofs.grids.put_rows.Given as goal

abbrev pub invariant-loop-rest : goal.invariant-loop-rest
invariant-loop-rest l =
    record {
      value : put_all most_tokens (set_rows l.fn.name l.fn.width 0 (pieces l.fn.values)) l.fn.out
          ≡ put_all most_tokens (set_rows l.fn.name l.fn.width l.k
          (further_pieces (option_map (λ more. more.now) l.rest))) l.out;
      few : l.k + left (option_map (λ more. more.now) l.rest) ≤ l.size + 1;
      small : l.size < 9223372036854775808;
    }

abbrev pub decreases-loop-rest : goal.decreases-loop-rest
decreases-loop-rest l = left (option_map (λ more. more.now) l.rest)
