use Rattle.std.proofs.Common.{◌++◌, ◌∙◌, ap, sym}
use Rattle.trips_json.specs.Strings.{string_of}
use Rattle.trips_json.specs.inside.Items.{is_other}
use Rattle.trips_json.proofs.Turns.{all_written, strings_joined, turn}
use Rattle.trips_json.proofs.texts.put_strings.Goals as goal

pub loop-rest-preserved : goal.loop-rest-preserved
loop-rest-preserved c = turn (is_other c.args.all) string_of c.loop-rest.later c.in_ok-later.later
    c.loop-rest.out.items c.put_other.new.out.items c.loop-rest.rest.now c.first_line.result.0.now
    c.first_line.result.1.now _ (sym c.is_empty.ensures ∙ c.loop-rest-test.true) c.first_line.ensures.line
    c.first_line.ensures.behind c.in_ok-later.ensures.ok c.in_ok-later.ensures.later c.loop-rest.invariant

pub returns : goal.returns
returns c = record {
  ok = all_written (is_other c.args.all) string_of c.loop-rest.later c.loop-rest.out.items c.loop-rest.rest.now _
      (sym c.is_empty.ensures ∙ c.loop-rest-test.false) c.loop-rest.invariant
      ∙ ap (λ t. c.args.out.now.items ++ t) (strings_joined c.args.all c.args.text.now);
}
