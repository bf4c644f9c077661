use Rattle.std.proofs.Common.{◌≡◌, length}
use Rattle.std.specs.Str.{bytes_eq}
use Rattle.std.specs.HashSet.{contains}
use Rattle.c_tree.specs.Limits.{most_tokens}
use Rattle.c_library.specs.Arrays.{arrays, none_known}
use Rattle.c_library.specs.Initialisers.{beginning}
use Rattle.c_library.specs.inside.Puts.{put_all}
use Rattle.c_library.proofs.strings.put_arrays.Given as goal

abbrev pub invariant-loop-rest : goal.invariant-loop-rest
invariant-loop-rest l =
    put_all most_tokens (arrays none_known beginning l.fn.tokens) l.fn.out
    ≡ put_all most_tokens (arrays (contains bytes_eq l.known) l.place l.rest) l.out

abbrev pub decreases-loop-rest : goal.decreases-loop-rest
decreases-loop-rest l = length l.rest
