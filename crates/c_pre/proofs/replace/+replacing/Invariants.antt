use Rattle.std.proofs.Common.{◌≡◌, ◌+◌, ◌*◌, length}
use Rattle.c_tree.specs.Limits.{most_tokens}
use Rattle.c_pre.specs.inside.EachTaken.{each_taken}
use Rattle.c_pre.proofs.replace.+replacing.Given as goal

abbrev pub decreases-replace : goal.decreases-replace
decreases-replace l = 4 * l.depth

abbrev pub decreases-replace_all : goal.decreases-replace_all
decreases-replace_all l = 4 * l.depth + 1

abbrev pub decreases-replace_each : goal.decreases-replace_each
decreases-replace_each l = 4 * l.depth + 2

abbrev pub decreases-replace_name : goal.decreases-replace_name
decreases-replace_name l = 4 * l.depth + 3

abbrev pub invariant-replace_all-loop-rest : goal.invariant-replace_all-loop-rest
invariant-replace_all-loop-rest l = record {
  gives : each_taken most_tokens l.fn.at l.fn.depth l.fn.macros l.fn.hidden l.fn.forms l.fn.output
      ≡ each_taken most_tokens l.at l.depth l.macros l.fn.hidden l.rest l.output;
  hidden : l.hidden ≡ l.fn.hidden;
}

abbrev pub decreases-replace_all-loop-rest : goal.decreases-replace_all-loop-rest
decreases-replace_all-loop-rest l = length l.rest
