use Rattle.null_outputs.proofs.Assembled.{added_by_code}
use Rattle.null_outputs.proofs.assembly.added.Goals as goal

pub returns : goal.returns
returns c = λ is.
    added_by_code c.args.block.now c.args.guess.now c.args.starts.now is c.as_slice-nodes.result.now
    c.as_slice.result.now
    c.new-out.result c.push_guards.new.out c.push_guards-2.new.out c.push_lefts.new.out c.push_rights.new.out
    c.push_writes.new.out c.push_stores.new.out c.as_slice-nodes.ensures.value c.as_slice.ensures.value
    (record {
      start = c.new-out.ensures.value;
      on_true = c.in_ok-push_guards.ensures;
      on_false = c.in_ok-push_guards-2.ensures;
      left = c.in_ok-push_lefts.ensures;
      right = c.in_ok-push_rights.ensures;
      written = c.in_ok-push_writes.ensures;
      stored = c.in_ok-push_stores.ensures;
    })
