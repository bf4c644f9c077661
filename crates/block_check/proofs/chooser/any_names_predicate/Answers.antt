use Rattle.std.proofs.Common.{◌≡◌, ◌<◌, ◌≤◌, ◌∙◌, Bool, true, false, nat_lt, slice_get, get_or}
use Rattle.std.proofs.Common.{refl, sym, ap, arith}
use Rattle.std.proofs.lemmas.Option.{get_or_from_slice_get}
use Rattle.trips_isa.specs.declared.node.Node.{Node}
use Rattle.block_cases.specs.Nodes.{targets}
use Rattle.block_cases.specs.Choosers.{names_predicate}
use Rattle.block_check.proofs.Adding.{blank}
use Rattle.block_check.proofs.Chains.{spare_names_none}
use Rattle.block_check.proofs.chooser.any_names_predicate.Goals as goal

pub loop-x-preserved : goal.loop-x-preserved
loop-x-preserved c y n lt e = go (nat_lt y c.loop-x.x) refl
  where
    go : (b : Bool) → nat_lt y c.loop-x.x ≡ b → names_predicate (targets n) ≡ false
    go true i = c.loop-x.invariant y n (grind arith) e
    go false i =
        let past : c.loop-x.x ≤ y = grind arith in
        let here : y ≡ c.loop-x.x = omega arith in
        let node : get_or c.args.nodes.now c.loop-x.x blank ≡ n = get_or_from_slice_get
        c.args.nodes.now c.loop-x.x n blank (ap (slice_get c.args.nodes.now) (sym here) ∙ e) in
        ap (λ (m : Node). names_predicate (targets m)) (sym node) ∙ sym c.names_predicate.ensures
        ∙ c.if-names_predicate.false

pub returns : goal.returns
returns c e x n i = go (nat_lt x c.args.used) refl
  where
    go : (b : Bool) → nat_lt x c.args.used ≡ b → names_predicate (targets n) ≡ false
    go true j = c.loop-x.invariant x n (let lt : x < c.args.used = grind arith in omega arith) i
    go false j = spare_names_none c.args.nodes.now c.args.used x n c.requires.spare (grind arith) i
