use Rattle.std.proofs.Common.{List, map, ap, ◌∙◌, arith}
use Rattle.hyper_trim.specs.declared.forwarding.Entry.{Entry}
use Rattle.hyper_trim.specs.inside.Entries.{copies_of, forgotten}
use Rattle.hyper_trim.proofs.Lists.{forget_list, forget_none}
use Rattle.hyper_trim.proofs.forwarding.forget.Goals as goal

pub returns : goal.returns
returns c =
    ap copies_of (c.in_ok-all.ensures
    ∙ ap (λ (l : List Entry). map (forgotten c.args.to) l) c.as_slice-2.ensures.value)
    ∙ forget_list c.args.entries.now c.args.to

pub returns-then-not-any_known : goal.returns-then-not-any_known
returns-then-not-any_known c = forget_none c.args.entries.now c.args.to (first_of (cc, grind arith))
