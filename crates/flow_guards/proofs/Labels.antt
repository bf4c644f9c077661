-- Labels may be resolved before nodes lose their guards or afterwards.
use Rattle.std.proofs.Common.{◌≡◌, ℕ, zero, suc, List, [], ◌∷◌, refl, sym, ap, ap₂, ◌∙◌, Bool, true, ◌&&◌, map}
use Rattle.std.specs.Prelude.{Option, Some, None, slice_get}
use Rattle.std.proofs.Math.Path.{fun_ext}
use Rattle.ir_forms.specs.declared.flow.Guard.{Guard}
use Rattle.ir_forms.specs.declared.flow.FlowNode.{FlowNode}
use Rattle.ir_forms.specs.declared.flow.FlowBlock.{FlowBlock}
use Rattle.predication.specs.inside.Labels.{resolved_node, resolved}
use Rattle.flow_guards.specs.inside.Guards.{Guards, guard_in, guards_of}
use Rattle.flow_guards.specs.inside.Unguards.{Loses, is_right, nodes_right, writes_right, may_lose, loosened}
use Rattle.flow_guards.specs.inside.Unguards.{all_loosened, unguarded, Unguards}

module _ (address : ℕ → ℕ) where
  -- a node with its label resolved has the guard that it had
  guard_stays : (nodes : List FlowNode) (k : ℕ) → guards_of (map (resolved_node address) nodes) k ≡ guards_of nodes k
  guard_stays [] k = refl
  guard_stays (n ∷ nodes) zero = refl
  guard_stays (n ∷ nodes) (suc k) = guard_stays nodes k

  -- nodes are right whatever their immediates are
  right_stays : (guards : Guards) (loses : Loses) (j : ℕ) (ns : List FlowNode)
      → nodes_right guards loses j (map (resolved_node address) ns) ≡ nodes_right guards loses j ns
  right_stays guards loses j [] = refl
  right_stays guards loses j (n ∷ ns) =
      ap (λ (b : Bool). is_right guards loses j n && b) (right_stays guards loses (suc j) ns)

  -- and lose their guards as they would have
  loosened_stays : (loses : Loses) (j : ℕ) (ns : List FlowNode)
      → map (resolved_node address) (all_loosened loses j ns)
      ≡ all_loosened loses j (map (resolved_node address) ns)
  loosened_stays loses j [] = refl
  loosened_stays loses j (n ∷ ns) =
      ap (λ (ms : List FlowNode). resolved_node address (loosened (loses j) n) ∷ ms)
      (loosened_stays loses (suc j) ns)

  -- whatever addresses the labels become, the same nodes may lose their guards
  pub keeps_labels : (f g : FlowBlock) → Unguards f g → Unguards (resolved address f) (resolved address g)
  keeps_labels f g u = record {
    loses = u.loses;
    may =
        ap (λ (b : Bool). b && writes_right u.loses f.writes)
        (ap (λ (guards : Guards). nodes_right guards u.loses 0 (map (resolved_node address) f.nodes))
        (fun_ext (λ (k : ℕ). guard_stays f.nodes k))
        ∙ right_stays (guards_of f.nodes) u.loses 0 f.nodes)
        ∙ u.may;
    same =
        ap (λ (x : FlowBlock). resolved address x) u.same
        ∙ ap (λ (ns : List FlowNode). record {
          nodes = ns;
          reads = f.reads;
          writes = f.writes;
          mask = f.mask;
        }) (loosened_stays u.loses 0 f.nodes);
  }
