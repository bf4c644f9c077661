use Rattle.std.proofs.Common.{◌++◌, ◌∙◌, ap, sym}
use Rattle.trips_json.specs.Lines.{is_value}
use Rattle.trips_json.specs.Objects.{member}
use Rattle.trips_json.proofs.Turns.{all_written, turn, values_joined}
use Rattle.trips_json.proofs.texts.put_values.Goals as goal

pub loop-rest-preserved : goal.loop-rest-preserved
loop-rest-preserved c = turn is_value member c.loop-rest.later c.in_ok-later.later c.loop-rest.out.items
    c.put_value.new.out.items c.loop-rest.rest.now c.first_line.result.0.now c.first_line.result.1.now _
    (sym c.is_empty.ensures ∙ c.loop-rest-test.true) c.first_line.ensures.line c.first_line.ensures.behind
    c.in_ok-later.ensures.ok c.in_ok-later.ensures.later c.loop-rest.invariant

pub returns : goal.returns
returns c = record {
  ok = all_written is_value member c.loop-rest.later c.loop-rest.out.items c.loop-rest.rest.now _
      (sym c.is_empty.ensures ∙ c.loop-rest-test.false) c.loop-rest.invariant
      ∙ ap (λ t. c.args.out.now.items ++ t) (values_joined c.args.text.now);
}
