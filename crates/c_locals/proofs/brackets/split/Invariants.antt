use Rattle.std.proofs.Common.{◌≡◌, ◌≤◌, ◌+◌, length, take, drop}
use Rattle.c_locals.specs.Brackets.{split_from}
use Rattle.c_locals.proofs.SplitFacts.{extended}
use Rattle.c_locals.proofs.brackets.split.Given as goal

abbrev pub invariant-loop-rest : goal.invariant-loop-rest
invariant-loop-rest l =
    record {
      value : split_from l.fn.mark 0 l.fn.tokens
          ≡ extended (take l.count l.fn.tokens) (split_from l.fn.mark l.depth l.rest);
      rest : drop l.count l.fn.tokens ≡ l.rest;
      size : l.count + length l.rest ≡ l.size;
      depth : l.depth ≤ l.count;
    }

abbrev pub decreases-loop-rest : goal.decreases-loop-rest
decreases-loop-rest l = length l.rest
