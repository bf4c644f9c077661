use Rattle.flat_lower.specs.inside.Emitted.{Adds}
use Rattle.flat_lower.specs.inside.Labels.{labels_code}
use Rattle.flat_lower.specs.declared.held.Held.TheVariants as held
use Rattle.std.proofs.Common.{◌≡◌, ◌+◌, suc, ◌∷◌, drop, sym, ap, ◌∙◌, subst, arith}
use Rattle.std.proofs.Math.Seq.{drop-cons}
use Rattle.c_tree.specs.declared.TypedSection.{TypedSection}
use Rattle.flat_lower.proofs.EmitArguments.{drop_all}
use Rattle.flat_lower.proofs.EmitLabels.{ComparedSoFar, compared_goes_on, compared_ends}
use Rattle.flat_lower.proofs.labels.put_compared.Goals as goal

pub loop-section-preserved : goal.loop-section-preserved
loop-section-preserved c =
    let all = c.args.sections.now in
    let i = c.loop-section.section-index in
    let a = c.section-item.result in
    let e1 : i + 1 ≡ suc i = omega arith in
    let dc : drop i all ≡ a ∷ drop (i + 1) all =
    drop-cons all i a (omega arith) ∙ ap (λ (x : TypedSection). x ∷ drop (suc i) all) (sym c.section-item.is)
    ∙ ap (λ n. a ∷ drop n all) (sym e1) in
    let old = c.args.code.now in
    let n = c.loop-section.n in
    let e2 : suc n ≡ n + 1 = omega arith in
    let h = compared_goes_on n all (drop (i + 1) all) a old c.loop-section.code c.put_labels.new.code
    (subst (λ r. ComparedSoFar n all r old c.loop-section.code) dc c.loop-section.invariant.0)
    (subst (λ ls. Adds c.loop-section.code c.put_labels.new.code (labels_code held.Zero n ls))
    c.as_slice.ensures.value c.in_ok-put_labels.ensures) in (
      subst (λ m. ComparedSoFar m all (drop (i + 1) all) old c.put_labels.new.code) e2 h,
      ap (λ m. m + 1) c.loop-section.invariant.1,
    )

pub returns : goal.returns
returns c =
    let all = c.args.sections.now in
    let e = drop_all all c.loop-section.section-index (omega arith) in
    let old = c.args.code.now in
    compared_ends c.loop-section.n all old c.loop-section.code
    (subst (λ r. ComparedSoFar c.loop-section.n all r old c.loop-section.code) e
    c.loop-section.invariant.0)
