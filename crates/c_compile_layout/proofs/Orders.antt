-- The order of a resolved flow block is the block's.
use Rattle.std.proofs.Common.{◌≡◌, ℕ, List, map, Some, slice_get, ap, ◌∙◌, subst, arith}
use Rattle.std.specs.Prelude.{option_map}
use Rattle.std.proofs.lemmas.Option.{slice_get-map}
use Rattle.trips_isa.specs.Forms.{form_of}
use Rattle.ir_forms.specs.declared.flow.FlowNode.{FlowNode}
use Rattle.ir_forms.specs.declared.flow.FlowBlock.{FlowBlock}
use Rattle.ir_forms.specs.inside.FlowFits.{HasOrder, Rises}
use Rattle.c_compile_layout.specs.inside.Linking.{Resolves, resolved_node, resolved}
use Rattle.c_compile_layout.proofs.Regularity.{was}

rises_back : (r : Resolves) (rank : ℕ → ℕ) (k : ℕ) (n : FlowNode) → Rises rank k (resolved_node r n)
    → Rises rank k n
rises_back r rank k n h = record { left = h.left; right = h.right; guard = h.guard }

got_resolved : (r : Resolves) (ns : List FlowNode) (j : ℕ) (n : FlowNode) → slice_get ns j ≡ Some n
    → slice_get (map (resolved_node r) ns) j ≡ Some (resolved_node r n)
got_resolved r ns j n e = slice_get-map (resolved_node r) ns j ∙ ap (option_map (resolved_node r)) e

-- the order of a resolved block is the block's
pub order_back : (r : Resolves) (f : FlowBlock) (rank : ℕ → ℕ) → HasOrder (resolved r f) rank
    → HasOrder f rank
order_back r f rank o = record {
  sources = λ j n e. rises_back r rank (rank j) n (o.sources j (resolved_node r n) (got_resolved r f.nodes j n e));
  stores = λ i j m n s t a b l.
      o.stores i j (resolved_node r m) (resolved_node r n) (got_resolved r f.nodes i m s)
      (got_resolved r f.nodes j n t) a b l;
}

rises_forth : (r : Resolves) (rank : ℕ → ℕ) (k : ℕ) (n : FlowNode) → Rises rank k n
    → Rises rank k (resolved_node r n)
rises_forth r rank k n h = record { left = h.left; right = h.right; guard = h.guard }

-- the order of a flow block is one once it is resolved
pub order_forth : (r : Resolves) (f : FlowBlock) (rank : ℕ → ℕ) → HasOrder f rank
    → HasOrder (resolved r f) rank
order_forth r f rank o = record {
  sources = λ j n e.
      let x = was r f.nodes j n e in
      subst (Rises rank (rank j)) x.is (rises_forth r rank (rank j) x.node (o.sources j x.node x.there));
  stores = λ i j m n s t a b l.
      let x = was r f.nodes i m s in
      let y = was r f.nodes j n t in
      let p : (x.node).number ≡ m.number = ap (λ (z : FlowNode). z.number) x.is in
      let q : (y.node).number ≡ n.number = ap (λ (z : FlowNode). z.number) y.is in
      o.stores i j x.node y.node x.there y.there (ap (λ (z : FlowNode). form_of z.op) x.is ∙ a)
      (ap (λ (z : FlowNode). form_of z.op) y.is ∙ b) (omega (arith, p, q, l));
}
