use Rattle.std.proofs.Common.{◌++◌, ◌∷◌, [], codes}
use Rattle.trips_json.specs.Objects.{others, shown, values}
use Rattle.trips_json.proofs.Turns.{three}
use Rattle.trips_json.proofs.objects.put_shown.Goals as goal

pub returns : goal.returns
unfolding shown
returns c = record {
  ok = three (codes ",\"values\":{") (values c.args.text.now)
      (codes "},\"lines\":[" ++ (others c.args.text.now ++ 93 ∷ [])) c.args.out.now.items
      c.extend_from_slice.new.self.items c.put_values.new.out.items _ c.in_ok-extend_from_slice.ensures.items
      c.in_ok-put_values.ensures.ok
      (three (codes "},\"lines\":[") (others c.args.text.now) (93 ∷ []) c.put_values.new.out.items
      c.extend_from_slice-2.new.self.items c.put_others.new.out.items _ c.in_ok-extend_from_slice-2.ensures.items
      c.in_ok-put_others.ensures.ok c.in_ok-push.ensures.items);
}
