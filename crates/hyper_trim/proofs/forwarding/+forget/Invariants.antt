use Rattle.std.proofs.Common.{◌≡◌, drop}
use Rattle.ir_forms.specs.inside.HyperViews.{items_of}
use Rattle.hyper_trim.specs.inside.Forward as spec
use Rattle.hyper_trim.specs.inside.Entries.{copies_of}
use Rattle.hyper_trim.proofs.forwarding.+forget.Given as goal

abbrev pub invariant-forget_all-loop-i : goal.invariant-forget_all-loop-i
invariant-forget_all-loop-i l =
    spec.forget_all (items_of (drop l.i-index l.items)) (copies_of l.entries)
    ≡ spec.forget_all (items_of l.items) (copies_of l.fn.entries)
