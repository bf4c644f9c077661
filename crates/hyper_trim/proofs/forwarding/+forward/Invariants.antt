use Rattle.std.proofs.Common.{◌≡◌, drop}
use Rattle.ir_forms.specs.inside.HyperViews.{items_of}
use Rattle.hyper_trim.specs.inside.Forward as spec
use Rattle.hyper_trim.specs.inside.Entries.{copies_of, before}
use Rattle.hyper_trim.proofs.forwarding.+forward.Given as goal

abbrev pub invariant-forward_items-loop-i : goal.invariant-forward_items-loop-i
invariant-forward_items-loop-i l = record {
  items : before l.all (spec.forward (items_of (drop l.i-index l.items)) (copies_of l.entries))
      ≡ spec.forward (items_of l.items) (copies_of l.fn.entries);
  behind : spec.behind (items_of (drop l.i-index l.items)) (copies_of l.entries)
      ≡ spec.behind (items_of l.items) (copies_of l.fn.entries);
}
