use Rattle.std.proofs.Common.{ℕ, ◌+◌, drop, get_or, Option, None, sym, subst, arith}
use Rattle.flat_lower.proofs.EmitArguments.{drop_all}
use Rattle.flat_lower.proofs.EmitImages.{item_at}
use Rattle.flat_lower.proofs.EmitLabels.{LabelsSoFar, labels_go_on, labels_end}
use Rattle.flat_lower.proofs.labels.put_labels.Goals as goal

pub loop-label-preserved : goal.loop-label-preserved
loop-label-preserved c =
    let all = c.args.labels.now in
    let i = c.loop-label.label-index in
    let z : Option ℕ = None in
    let a = get_or all i z in
    let dc = item_at all i z (omega arith) in
    let old = c.args.code.now in
    subst (λ h. LabelsSoFar h c.args.n all (drop (i + 1) all) old c.put_label.new.code) (sym c.held_behind-held.ensures)
    (labels_go_on c.loop-label.held c.args.n all (drop (i + 1) all) a old c.loop-label.code c.put_label.new.code
    (subst (λ r. LabelsSoFar c.loop-label.held c.args.n all r old c.loop-label.code) dc c.loop-label.invariant)
    c.in_ok-put_label.ensures)

pub returns : goal.returns
returns c =
    let all = c.args.labels.now in
    let e = drop_all all c.loop-label.label-index (omega arith) in
    let old = c.args.code.now in
    labels_end c.loop-label.held c.args.n all old c.loop-label.code c.put_held.new.code
    (subst (λ r. LabelsSoFar c.loop-label.held c.args.n all r old c.loop-label.code) e c.loop-label.invariant)
    c.in_ok-put_held.ensures
