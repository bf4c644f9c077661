-- A resolved flow block is regular where the block is, and only there.
use Rattle.std.proofs.Common.{◌≡◌, ℕ, ◌||◌, List, [], ◌∷◌, map, Option, Some, None, slice_get, refl}
use Rattle.std.proofs.Common.{sym, ap, subst, ◌∙◌}
use Rattle.std.specs.Prelude.{option_map}
use Rattle.std.proofs.lemmas.Option.{slice_get-map}
use Rattle.trips_isa.specs.Forms.{form_of}
use Rattle.ir_forms.specs.declared.flow.FlowSource.TheVariants.{Read, Node}
use Rattle.ir_forms.specs.declared.flow.FlowNode.{FlowNode}
use Rattle.ir_forms.specs.declared.flow.FlowBlock.{FlowBlock}
use Rattle.ir_forms.specs.declared.flow.FlowSource.{FlowSource}
use Rattle.ir_forms.specs.inside.FlowRegular.{guards_by, is_among, is_named, is_silent, nodes_name}
use Rattle.ir_forms.specs.inside.FlowRegular.{writes_name, IsRegular, TakesOnly}
use Rattle.ir_forms.specs.inside.FlowFits.{in_mask}
use Rattle.c_compile_layout.specs.inside.Linking.{Resolves, resolved_node, resolved}

-- a node of the resolved block is a resolved node of the block
pub record Was (r : Resolves) (ns : List FlowNode) (j : ℕ) (n : FlowNode) : Type 0 where
  pub node : FlowNode
  pub there : slice_get ns j ≡ Some node
  pub is : resolved_node r node ≡ n

-- each resolved node was one with its immediate as it stood
pub was : (r : Resolves) (ns : List FlowNode) (j : ℕ) (n : FlowNode)
    → slice_get (map (resolved_node r) ns) j ≡ Some n → Was r ns j n
was r ns j n e = go (slice_get ns j) refl (sym (slice_get-map (resolved_node r) ns j) ∙ e)
  where
    go : (o : Option FlowNode) → slice_get ns j ≡ o → option_map (resolved_node r) o ≡ Some n
        → Was r ns j n
    go None s q = absurd (cc)
    go (Some x) s q = record { node = x; there = s; is = cc }

names_same : (r : Resolves) (s : FlowSource) (ns : List FlowNode)
    → nodes_name s (map (resolved_node r) ns) ≡ nodes_name s ns
names_same r s [] = refl
names_same r s (n ∷ ns) =
    ap (λ x. is_among s n.left || (is_among s n.right || (guards_by s n.guard || x)))
    (names_same r s ns)

-- the same sources are named
named_same : (r : Resolves) (f : FlowBlock) (s : FlowSource)
    → is_named (resolved r f) s ≡ is_named f s
named_same r f s = ap (λ x. x || writes_name s f.writes) (names_same r s f.nodes)

takes_same : (r : Resolves) (n : FlowNode) → TakesOnly n → TakesOnly (resolved_node r n)
takes_same r n t = record { left = t.left; right = t.right }

-- a regular flow block is regular once it is resolved
pub regular_resolved : (r : Resolves) (f : FlowBlock) → IsRegular f → IsRegular (resolved r f)
regular_resolved r f g = record {
  registers = g.registers;
  loads = λ i j m n s t a b e.
      let x = was r f.nodes i m s in
      let y = was r f.nodes j n t in
      g.loads i j x.node y.node x.there y.there (ap (λ (z : FlowNode). form_of z.op) x.is ∙ a)
      (ap (λ (z : FlowNode). form_of z.op) y.is ∙ b)
      (ap (λ (z : FlowNode). z.number) x.is ∙ e ∙ sym (ap (λ (z : FlowNode). z.number) y.is));
  unmasked = λ j n s a.
      let x = was r f.nodes j n s in
      ap (λ (z : FlowNode). in_mask f.mask z.number) (sym x.is)
      ∙ g.unmasked j x.node x.there (ap (λ (z : FlowNode). form_of z.op) x.is ∙ a);
  masked = λ j n s a.
      let x = was r f.nodes j n s in
      ap (λ (z : FlowNode). in_mask f.mask z.number) (sym x.is)
      ∙ g.masked j x.node x.there (ap (λ (z : FlowNode). form_of z.op) x.is ∙ a);
  operands = λ j n s.
      let x = was r f.nodes j n s in
      subst TakesOnly x.is (takes_same r x.node (g.operands j x.node x.there));
  low = g.low;
  guards = λ j n d s e.
      let x = was r f.nodes j n s in
      g.guards j x.node d x.there (ap (λ (z : FlowNode). z.guard) x.is ∙ e);
  reads = g.reads;
  used = λ i q s. named_same r f (Read q) ∙ g.used i q s;
  silent = λ j n s e.
      let x = was r f.nodes j n s in
      named_same r f (Node j)
      ∙ g.silent j x.node x.there (ap (λ (z : FlowNode). is_silent (form_of z.op)) x.is ∙ e);
}

-- A NODE IN ITS PLACE

stands : (r : Resolves) (ns : List FlowNode) (j : ℕ) (n : FlowNode) → slice_get ns j ≡ Some n
    → slice_get (map (resolved_node r) ns) j ≡ Some (resolved_node r n)
stands r ns j n s = slice_get-map (resolved_node r) ns j ∙ ap (option_map (resolved_node r)) s

-- no part of it looks at an immediate
pub regular_before : (r : Resolves) (f : FlowBlock) → IsRegular (resolved r f) → IsRegular f
regular_before r f g = record {
  registers = g.registers;
  loads = λ i j m n s t a b e.
      g.loads i j (resolved_node r m) (resolved_node r n) (stands r f.nodes i m s)
      (stands r f.nodes j n t) a b e;
  unmasked = λ j n s a. g.unmasked j (resolved_node r n) (stands r f.nodes j n s) a;
  masked = λ j n s a. g.masked j (resolved_node r n) (stands r f.nodes j n s) a;
  operands = λ j n s.
      let t = g.operands j (resolved_node r n) (stands r f.nodes j n s) in
      record { left = t.left; right = t.right };
  guards = λ j n d s e. g.guards j (resolved_node r n) d (stands r f.nodes j n s) e;
  low = g.low;
  reads = g.reads;
  used = λ i q s. sym (named_same r f (Read q)) ∙ g.used i q s;
  silent = λ j n s e.
      sym (named_same r f (Node j)) ∙ g.silent j (resolved_node r n) (stands r f.nodes j n s) e;
}
