use Rattle.std.proofs.Common.{◌≡◌, ℕ, ◌+◌, ◌<◌, List, ◌∷◌, ◌++◌, length, drop, get_or, map, sym, ap, ◌∙◌, arith}
use Rattle.std.proofs.Common.{add-one, drop-cons}
use Rattle.predication.specs.declared.work.Named.{Named}
use Rattle.predication.specs.inside.Emits.{low, puts, joined_at, both_nodes}
use Rattle.predication.proofs.AddLemmas.{adds_number}
use Rattle.predication.proofs.JoinLemmas.{join_nodes, join_env}
use Rattle.predication.proofs.joining.join.Goals as goal

pub loop-register-preserved : goal.loop-register-preserved
loop-register-preserved c =
    let rs = c.args.registers.now in
    let i = c.loop-register.register-index in
    let r = get_or rs i 0 in
    let rest = drop (i + 1) rs in
    let w = c.loop-register.work in
    let w1 = c.both_legs.new.work in
    let t = c.args.test in
    let before = c.args.before.now in
    let y = c.args.yes.now in
    let n = c.args.no.now in
    let named = c.loop-register.named in
    let h : i < length rs = omega arith in
    let dc : drop i rs ≡ r ∷ rest = rw (add-one, drop-cons rs i 0) in
    let p = c.in_ok-entry.ensures.adds in
    record {
      nodes = join_nodes t w w1 before y n r rest p
          ∙ ap (λ (x : List ℕ). w.nodes ++ map low (joined_at t (length w.nodes) before y n x).nodes) (sym dc)
          ∙ c.loop-register.invariant.nodes;
      number = adds_number w w1 (both_nodes t (length w.nodes) before y n r) p ∙ c.loop-register.invariant.number;
      env = ap (λ (x : List Named). puts x (joined_at t (length w1.nodes) before y n rest).env)
          c.in_ok-push.ensures.ok
          ∙ join_env t w w1 before y n r rest p named c.in_ok-entry.entry c.in_ok-entry.ensures.entry
          ∙ ap (λ (x : List ℕ). puts named (joined_at t (length w.nodes) before y n x).env) (sym dc)
          ∙ c.loop-register.invariant.env;
    }
