use Rattle.std.proofs.Common.{◌≡◌}
use Rattle.c_tree.specs.Limits.{most_tokens}
use Rattle.c_library.specs.inside.Puts.{put_all}
use Rattle.c_locals.specs.Brackets.{pieces, further_pieces}
use Rattle.c_locals.specs.Values.{each_declared}
use Rattle.c_locals.proofs.SplitFacts.{left}
use Rattle.std.specs.Prelude.{option_map}
use Rattle.c_locals.proofs.values.put_each.Given as goal

abbrev pub invariant-loop-rest : goal.invariant-loop-rest
invariant-loop-rest l =
    put_all most_tokens (each_declared l.fn.words (pieces l.fn.body)) l.fn.out
    ≡ put_all most_tokens (each_declared l.fn.words (further_pieces (option_map (λ more. more.now) l.rest))) l.out

abbrev pub decreases-loop-rest : goal.decreases-loop-rest
decreases-loop-rest l = left (option_map (λ more. more.now) l.rest)
