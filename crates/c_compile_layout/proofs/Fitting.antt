-- A resolved flow block fits where the block does and each resolved immediate does.
use Rattle.std.proofs.Common.{◌≡◌, ◌≢◌, ℕ, suc, ◌+◌, ◌≤◌, List, [], ◌∷◌, map, length, Option, Some, None}
use Rattle.std.proofs.Common.{refl, sym, ap₂, ◌∙◌, subst, arith, length-append}
use Rattle.std.specs.List.{All}
use Rattle.std.proofs.lemmas.List.{length-map}
use Rattle.std.proofs.lemmas.List.Elements.{All-cons}
use Rattle.trips_isa.specs.declared.form.Form.{Form}
use Rattle.trips_isa.specs.declared.form.Form.TheVariants.{Store, Branch}
use Rattle.trips_isa.specs.declared.block.Token.TheVariants.{Null}
use Rattle.trips_isa.specs.Forms.{form_of}
use Rattle.trips_isa.specs.Rule.{Answer}
use Rattle.ir_forms.specs.declared.flow.FlowSource.{FlowSource}
use Rattle.ir_forms.specs.declared.flow.FlowSource.TheVariants.{Read, Node}
use Rattle.ir_forms.specs.declared.flow.Guard.{Guard}
use Rattle.ir_forms.specs.declared.flow.FlowNode.{FlowNode}
use Rattle.ir_forms.specs.declared.flow.FlowWrite.{FlowWrite}
use Rattle.ir_forms.specs.declared.flow.FlowBlock.{FlowBlock}
use Rattle.ir_forms.specs.inside.FlowRuns.{Computes, Obeys, tokens, numbered, exits, leaving_in, guard_token}
use Rattle.ir_forms.specs.inside.FlowFits.{FitsFlow, FitsNode, FitsNodeForm, FitsGuard, FitsFlowSource, FitsWrite}
use Rattle.ir_forms.specs.inside.FlowFits.{AtMostOne, IsComplete}
use Rattle.c_compile_layout.specs.inside.Linking.{Resolves, resolved_node, resolved}
use Rattle.c_compile_layout.proofs.Orders.{order_forth}

-- each node's resolved immediate lies in its field
abbrev pub FormsFit : Resolves → List FlowNode → Type 0
FormsFit r ns = All (λ n. FitsNodeForm (form_of n.op) (resolved_node r n)) ns

module _ (r : Resolves) (f : FlowBlock) where
  -- FIELDS

  source_fits : (s : FlowSource) → FitsFlowSource f s → FitsFlowSource (resolved r f) s
  source_fits (Read q) h = h
  source_fits (Node j) h = let l = length-map f.nodes (resolved_node r) in omega (arith, h, l)

  sources_fit : (ss : List FlowSource) → All (FitsFlowSource f) ss → All (FitsFlowSource (resolved r f)) ss
  sources_fit [] a = λ i d l. absurd (omega arith)
  sources_fit (s ∷ ss) a = All-cons (FitsFlowSource (resolved r f)) s ss (source_fits s (a 0 s (omega arith)))
      (sources_fit ss (λ i d l. a (suc i) d (omega arith)))

  guard_fits : (g : Option Guard) → FitsGuard f g → FitsGuard (resolved r f) g
  guard_fits None h = tt
  guard_fits (Some g) h = let l = length-map f.nodes (resolved_node r) in omega (arith, h, l)

  nodes_fit : (ns : List FlowNode) → All (FitsNode f) ns → FormsFit r ns
      → All (FitsNode (resolved r f)) (map (resolved_node r) ns)
  nodes_fit [] a b = λ i d l. absurd (omega arith)
  nodes_fit (n ∷ ns) a b =
      let h = a 0 n (omega arith) in
      All-cons (FitsNode (resolved r f)) (resolved_node r n) (map (resolved_node r) ns)
      (record {
        form = b 0 n (omega arith);
        guard = guard_fits n.guard h.guard;
        left = sources_fit n.left h.left;
        right = sources_fit n.right h.right;
      })
      (nodes_fit ns (λ i d l. a (suc i) d (omega arith)) (λ i d l. b (suc i) d (omega arith)))

  writes_fit : (ws : List FlowWrite) → All (FitsWrite f) ws → All (FitsWrite (resolved r f)) ws
  writes_fit [] a = λ i d l. absurd (omega arith)
  writes_fit (w ∷ ws) a =
      let h = a 0 w (omega arith) in
      All-cons (FitsWrite (resolved r f)) w ws
      (record { register = h.register; sources = sources_fit w.sources h.sources })
      (writes_fit ws (λ i d l. a (suc i) d (omega arith)))

  -- PATHS

  -- what each node computes, as the block's own node does
  abbrev as_before : Computes → Computes
  as_before g j n = g j (resolved_node r n)

  path_back : (regs : ℕ → ℕ) (g : Computes) (h : ℕ → Answer) (j : ℕ) (ns : List FlowNode)
      → Obeys regs g h j (map (resolved_node r) ns) → Obeys regs (as_before g) h j ns
  path_back regs g h j [] o = tt
  path_back regs g h j (n ∷ ns) o = (o.0, path_back regs g h (suc j) ns o.1)

  clear_forth : (h : ℕ → Answer) (ns : List FlowNode) → All (λ n. guard_token h n.guard ≢ Some Null) ns
      → All (λ (n : FlowNode). guard_token h n.guard ≢ Some Null) (map (resolved_node r) ns)
  clear_forth h [] a = λ i d l. absurd (omega arith)
  clear_forth h (n ∷ ns) a =
      All-cons (λ (n : FlowNode). guard_token h n.guard ≢ Some Null) (resolved_node r n) (map (resolved_node r) ns)
      (a 0 n (omega arith)) (clear_forth h ns (λ i d l. a (suc i) d (omega arith)))

  operands_forth : (regs : ℕ → ℕ) (h : ℕ → Answer) (ns : List FlowNode) → All (AtMostOne regs h) ns
      → All (AtMostOne regs h) (map (resolved_node r) ns)
  operands_forth regs h [] a = λ i d l. absurd (omega arith)
  operands_forth regs h (n ∷ ns) a =
      All-cons (AtMostOne regs h) (resolved_node r n) (map (resolved_node r) ns)
      (a 0 n (omega arith)) (operands_forth regs h ns (λ i d l. a (suc i) d (omega arith)))

  numbered_same : (x : Form) (n : FlowNode) (t : Answer) (k : ℕ)
      → numbered x (resolved_node r n) t k ≡ numbered x n t k
  numbered_same Store n t k = refl
  numbered_same _ n t k = refl

  tokens_same : (h : ℕ → Answer) (j : ℕ) (ns : List FlowNode) (k : ℕ)
      → tokens h j (map (resolved_node r) ns) k ≡ tokens h j ns k
  tokens_same h j [] k = refl
  tokens_same h j (n ∷ ns) k =
      ap₂ (λ a b. a + b) (numbered_same (form_of n.op) n (h j) k) (tokens_same h (suc j) ns k)

  leaving_count : (x : Form) (n : FlowNode) (t : Answer)
      → length (leaving_in x (resolved_node r n) t) ≡ length (leaving_in x n t)
  leaving_count Branch n None = refl
  leaving_count Branch n (Some t) = refl
  leaving_count _ n t = refl

  exits_count : (h : ℕ → Answer) (j : ℕ) (ns : List FlowNode)
      → length (exits h j (map (resolved_node r) ns)) ≡ length (exits h j ns)
  exits_count h j [] = refl
  exits_count h j (n ∷ ns) =
      length-append (leaving_in (form_of n.op) (resolved_node r n) (h j)) (exits h (suc j) (map (resolved_node r) ns))
      ∙ ap₂ (λ a b. a + b) (leaving_count (form_of n.op) n (h j)) (exits_count h (suc j) ns)
      ∙ sym (length-append (leaving_in (form_of n.op) n (h j)) (exits h (suc j) ns))

  pub fits_resolved : FitsFlow f → FormsFit r f.nodes → FitsFlow (resolved r f)
  fits_resolved fits forms = record {
    nodes = nodes_fit f.nodes fits.nodes forms;
    writes = writes_fit f.writes fits.writes;
    mask = fits.mask;
    order = let o = fits.order in (o.0, order_forth r f o.0 o.1);
    tidy = λ regs g h p.
        let t = fits.tidy regs (as_before g) h (path_back regs g h 0 f.nodes p) in
        record { clear = clear_forth h f.nodes t.clear; operands = operands_forth regs h f.nodes t.operands };
    one = λ regs g h p.
        let t = fits.one regs (as_before g) h (path_back regs g h 0 f.nodes p) in
        record {
          writes = t.writes;
          numbers = λ k. subst (λ n. n ≤ 1) (sym (tokens_same h 0 f.nodes k)) (t.numbers k);
          exits = exits_count h 0 f.nodes ∙ t.exits;
        };
  }

  -- a complete block whose resolved immediates lie in their fields is complete once it is resolved
  pub complete_resolved : IsComplete f → FormsFit r f.nodes → IsComplete (resolved r f)
  complete_resolved c forms = record {
    fits = fits_resolved c.fits forms;
    all = λ regs g h p.
        let t = c.all regs (as_before g) h (path_back regs g h 0 f.nodes p) in
        record {
          writes = t.writes;
          numbers = λ k. tokens_same h 0 f.nodes k ∙ t.numbers k;
        };
  }
