use Rattle.std.proofs.Common.{◌≡◌, ◌+◌, ◌++◌, arith, drop, map, sym, ap, ◌∙◌}
use Rattle.std.proofs.lemmas.Grind.{common_steps}
use Rattle.c_type_expr.specs.Constants.{constant_at}
use Rattle.c_type_expr.specs.Blames.{first}
use Rattle.c_type.specs.inside.Units.{values_fault}
use Rattle.c_type.specs.FileScopes.{all_values}
use Rattle.c_type.proofs.Rows.{item_of, values_append, words_on}
use Rattle.c_type.proofs.initialisers.values.Goals as goal

pub returns-in_err-add_values : goal.returns-in_err-add_values
returns-in_err-add_values c =
    let all = c.args.init.now in
    let i = c.loop-list.list-index in
    let es = c.list-item.result in
    let G = c.args.names.now in
    let rest = drop (i + 1) all in
    let e : values_fault (all_values all) G ≡ first (values_fault es G) (values_fault (all_values rest) G) =
    c.loop-list.invariant.same_fault
    ∙ ap (λ r. values_fault (all_values r) G) (item_of all i es (omega arith) c.list-item.is)
    ∙ values_append es (all_values rest) G in
    grind (arith, common_steps, e)

pub loop-list-preserved : goal.loop-list-preserved
loop-list-preserved c =
    let all = c.args.init.now in
    let i = c.loop-list.list-index in
    let es = c.list-item.result in
    let G = c.args.names.now in
    let k = c.args.kind in
    let rest = drop (i + 1) all in
    let d = item_of all i es (omega arith) c.list-item.is in
    let e : values_fault (all_values all) G ≡ first (values_fault es G) (values_fault (all_values rest) G) =
    c.loop-list.invariant.same_fault ∙ ap (λ r. values_fault (all_values r) G) d
    ∙ values_append es (all_values rest) G in
    let f : values_fault (all_values all) G ≡ values_fault (all_values rest) G =
    e
    ∙ ap (λ ws. first (values_fault ws G) (values_fault (all_values rest) G)) (sym c.as_slice.ensures.value)
    ∙ ap (λ b. first b (values_fault (all_values rest) G)) c.in_ok-add_values.ensures.fault.0 in
    let w = words_on k all rest es c.loop-list.found
    (c.loop-list.invariant.so_far ∙ ap (λ r. c.loop-list.found ++ map (constant_at k) (all_values r)) d) in
    record {
      same_fault = f;
      so_far = w
          ∙ ap (λ ws. (c.loop-list.found ++ map (constant_at k) ws) ++ map (constant_at k) (all_values rest))
          (sym c.as_slice.ensures.value)
          ∙ ap (λ ws. ws ++ map (constant_at k) (all_values rest)) (sym c.in_ok-add_values.ensures.ok);
    }
