use Rattle.std.proofs.Common.{arith}
use Rattle.trips_explain_answers.proofs.FurtherFacts.{ends_told, on_ok, step_told}
use Rattle.trips_explain_answers.proofs.further.+put_further.Goals as goal

pub returns-in-None : goal.returns-in-None
returns-in-None t c = record {
  ok = ends_told c.args.file.now c.args.text.now c.args.tokens.now c.args.left c.args.now.now c.in_ok-next.next.items
      c.deref.result.now c.args.offset c.in_ok-next_fault.field-0 c.args.out.now.items
      (omega (arith, c.if-left-eq0.false)) c.in_ok-next.ensures.ok c.deref.ensures.value c.in_ok-next_fault.ensures
      c.in-None.is;
}

pub returns : goal.returns
returns t c = record {
  ok = on_ok _ _ c.put_further.result c.put_further.ensures.ok
      (step_told c.args.file.now c.args.text.now c.args.tokens.now c.args.left c.args.now.now c.in_ok-next.next.items
      c.deref.result.now c.deref-in-Some-2.result.now c.args.offset c.in_ok-next_fault.field-0 c.in-Some.fault
      c.unwrap_or-at.result c.place_of.result c.in_ok-told-in-Some.told.items c.deref-in-Some.result.now
      c.args.out.now.items _ c.put_further.new.out.items (omega (arith, c.if-left-eq0.false)) c.in_ok-next.ensures.ok
      c.deref.ensures.value c.in_ok-next_fault.ensures c.in-Some.is c.place_of.ensures c.unwrap_or-at.ensures
      c.in_ok-told-in-Some.ensures.text c.deref-in-Some.ensures.value
      c.in_ok-extend_from_slice-in-Some.ensures.items c.deref-in-Some-2.ensures.value);
}
