use Rattle.std.proofs.lemmas.Result.{IfOk-weaker}
use Rattle.trips_tools.proofs.tools.checked.Goals as goal

pub returns-in-Ok : goal.returns-in-Ok
returns-in-Ok c = record {
  ok = IfOk-weaker c.judged.result _ _ (λ made h. h c.args.bytes.now c.in-Ok.ensures.ok)
      c.judged.ensures;
}
