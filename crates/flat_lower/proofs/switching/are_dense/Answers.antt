use Rattle.std.proofs.Common.{◌≡◌, suc, ◌+◌, ◌-◌, ◌∷◌, drop, length, cond, false, sym, ap, ◌∙◌, subst}
use Rattle.std.proofs.Common.{arith}
use Rattle.std.specs.Prelude.{nat_eq}
use Rattle.std.proofs.Math.Seq.{drop-cons}
use Rattle.std.proofs.lemmas.List.{length-drop}
use Rattle.c_tree.specs.declared.TypedSection.{TypedSection}
use Rattle.flat_lower.specs.inside.Switches.{is_label, is_default, are_dense}
use Rattle.flat_lower.specs.inside.Emitted.{sections_in}
use Rattle.flat_lower.proofs.EmitLabels.{dense_stops}
use Rattle.flat_lower.proofs.switching.are_dense.Goals as goal

pub returns-then-not-is_label : goal.returns-then-not-is_label
returns-then-not-is_label c =
    let all = c.args.sections.now in
    let i = c.loop-section.section-index in
    let a = c.section-item.result in
    let w = c.loop-section.w in
    let left = c.loop-section.left - 1 in
    let rest = drop (i + 1) all in
    let e1 : i + 1 ≡ suc i = omega arith in
    let dc : drop i all ≡ a ∷ rest =
    drop-cons all i a (omega arith) ∙ ap (λ (x : TypedSection). x ∷ drop (suc i) all) (sym c.section-item.is)
    ∙ ap (λ n. a ∷ drop n all) (sym e1) in
    let known : is_label w a.labels ≡ c.is_label.result =
    sym (subst (λ ls. c.is_label.result ≡ is_label w ls) c.as_slice.ensures.value c.is_label.ensures) in
    let other : is_label w a.labels ≡ false = known ∙ grind (arith, c.if-not-is_label.true) in
    let long : length rest ≡ length all - (i + 1) = length-drop (i + 1) all in
    let e = c.loop-section.invariant.1 in
    let behind : left ≡ length rest = omega (arith, long, e) in
    let ended : c.ends.result ≡ cond (is_default a.labels) (nat_eq left 0) false =
    subst (λ ls. c.ends.result ≡ cond (is_default ls) (nat_eq left 0) false)
    c.as_slice-then-not-is_label.ensures.value c.ends.ensures in
    ended ∙ dense_stops w left a rest other behind
    ∙ ap (λ r. are_dense w (sections_in r)) (sym dc) ∙ c.loop-section.invariant.0
