use Rattle.std.proofs.Common.{◌∷◌, [], codes}
use Rattle.trips_json.specs.Objects.{all_lines, told}
use Rattle.trips_json.proofs.Turns.{three}
use Rattle.trips_json.proofs.objects.put_lines.Goals as goal

pub returns : goal.returns
unfolding told
returns c = record {
  ok = three (codes ",\"values\":{},\"lines\":[") (all_lines c.args.report.now) (93 ∷ []) c.args.out.now.items
      c.extend_from_slice.new.self.items c.put_all.new.out.items _ c.in_ok-extend_from_slice.ensures.items
      c.in_ok-put_all.ensures.ok c.in_ok-push.ensures.items;
}
