-- A sweep of many nodes is made in steps: where the nodes behind one are gone, it goes by itself.
use Rattle.std.proofs.Common.{◌≡◌, ℕ, zero, suc, ◌+◌, ◌<◌, ◌≤◌, List, [], ◌∷◌, ◌⊎◌, inl, inr, refl, sym}
use Rattle.std.proofs.Common.{ap, ap₂, ◌∙◌, arith, length}
use Rattle.std.proofs.Common.{cond, nat_eq, nat_lt, Bool, true, false, ◌||◌, ◌&&◌, map}
use Rattle.std.specs.Prelude.{Some, None, Option, slice_get, option_map}
use Rattle.std.proofs.lemmas.Bool.{cases_lt, le-ltb, eqb-true, eqb-false, ne_eqb, eq-eqb, and_parts, false≢true}
use Rattle.ir_forms.specs.declared.flow.FlowSource.{FlowSource}
use Rattle.ir_forms.specs.declared.flow.FlowSource.TheVariants.{Read, Node}
use Rattle.ir_forms.specs.declared.flow.Guard.{Guard}
use Rattle.ir_forms.specs.declared.flow.FlowNode.{FlowNode}
use Rattle.ir_forms.specs.declared.flow.FlowWrite.{FlowWrite}
use Rattle.ir_forms.specs.declared.flow.FlowBlock.{FlowBlock}
use Rattle.ir_forms.specs.inside.FlowRegular.{same_source, is_among, guards_by, nodes_name, writes_name, is_named}
use Rattle.flow_fold.specs.inside.Sweeps.{lower_source, lower_guard, lower_node, lower_write, left_nodes}
use Rattle.flow_fold.specs.inside.Sweeps.{without, is_idle, may_go}
use Rattle.flow_fold.specs.inside.SweepsAll.{number, by_source, by_guard, by_node, by_write, staying, kept}
use Rattle.flow_fold.specs.inside.SweepsAll.{may_name, may_name_all, may_guard, names_only, node_may, nodes_may}
use Rattle.flow_fold.specs.inside.SweepsAll.{writes_may, may_sweep}
use Rattle.flow_fold.proofs.StayingNumbers.{upto, stays_low, stays_high, stays_same, number_on, number_off}
use Rattle.flow_fold.proofs.StayingNumbers.{number_low, number_only, number_down}

both_false : (a b : Bool) → a ≡ false → b ≡ false → (a || b) ≡ false
both_false a b d e = ap₂ (λ (x y : Bool). x || y) d e

-- a node with other sources
abbrev with_sources : FlowNode → Option Guard → List FlowSource → List FlowSource → FlowNode
with_sources n o l r = record n { guard = o; left = l; right = r }

-- the operation of a node does not change by numbers
goes_alike : (v : ℕ → ℕ) (o : Option FlowNode) → may_go (option_map (by_node v) o) ≡ may_go o
goes_alike v None = refl
goes_alike v (Some n) = refl

module _ (s : ℕ → Bool) (p : ℕ) (goes : s p ≡ false) where
  abbrev more : ℕ → Bool
  more = upto s (suc p)

  abbrev less : ℕ → Bool
  less = upto s p

  -- the nodes behind node j that stay
  abbrev many : ℕ → List FlowNode → List FlowNode
  many j ns = staying (number more) more (suc j) ns

  abbrev few : ℕ → List FlowNode → List FlowNode
  few j ns = staying (number less) less (suc j) ns

  -- THE BLOCK OF A STEP

  source_down : (x : FlowSource) → lower_source p (by_source (number more) x) ≡ by_source (number less) x
  source_down (Read r) = refl
  source_down (Node j) = ap (λ (i : ℕ). Node i) (number_down s p goes j)

  sources_down : (xs : List FlowSource)
      → map (lower_source p) (map (by_source (number more)) xs) ≡ map (by_source (number less)) xs
  sources_down [] = refl
  sources_down (x ∷ xs) =
      ap₂ (λ (a : FlowSource) (b : List FlowSource). a ∷ b) (source_down x) (sources_down xs)

  guard_down : (o : Option Guard) → lower_guard p (by_guard (number more) o) ≡ by_guard (number less) o
  guard_down None = refl
  guard_down (Some g) = ap (λ (i : ℕ). Some (record g { node = i })) (number_down s p goes g.node)

  node_down : (n : FlowNode) → lower_node p (by_node (number more) n) ≡ by_node (number less) n
  node_down n =
      ap (λ (o : Option Guard). with_sources n o (map (lower_source p) (map (by_source (number more)) n.left))
      (map (lower_source p) (map (by_source (number more)) n.right))) (guard_down n.guard)
      ∙ ap₂ (λ (l r : List FlowSource). with_sources n (by_guard (number less) n.guard) l r) (sources_down n.left)
      (sources_down n.right)

  write_down : (w : FlowWrite) → lower_write p (by_write (number more) w) ≡ by_write (number less) w
  write_down w = ap (λ (xs : List FlowSource). record w { sources = xs }) (sources_down w.sources)

  writes_down : (ws : List FlowWrite)
      → map (lower_write p) (map (by_write (number more)) ws) ≡ map (by_write (number less)) ws
  writes_down [] = refl
  writes_down (w ∷ ws) = ap₂ (λ (a : FlowWrite) (b : List FlowWrite). a ∷ b) (write_down w) (writes_down ws)

  -- the nodes that stay behind it, without node p
  nodes_down : (ns : List FlowNode) (j : ℕ)
      → left_nodes p (number more j) (staying (number more) more j ns) ≡ staying (number less) less j ns
  nodes_down [] j = refl
  nodes_down (n ∷ ns) j = go (nodes_down ns (suc j)) (nat_eq j p) refl
    where
      by_stay : left_nodes p (number more (suc j)) (many j ns) ≡ few j ns → nat_eq j p ≡ false → (b : Bool)
          → less j ≡ b
          → left_nodes p (number more j) (cond (more j) (by_node (number more) n ∷ many j ns) (many j ns))
          ≡ cond (less j) (by_node (number less) n ∷ few j ns) (few j ns)
      by_stay rest e true t =
          let on : more j ≡ true = stays_same s p j (eqb-false j p e) ∙ t in
          let apart : nat_eq (number more j) p ≡ false =
          ne_eqb (number more j) p (λ z. eqb-false j p e (number_only s p j z)) in
          ap (λ (b : Bool). left_nodes p (number more j) (cond b (by_node (number more) n ∷ many j ns) (many j ns)))
          on
          ∙ (ap (λ (b : Bool). cond b (left_nodes p (suc (number more j)) (many j ns))
          (lower_node p (by_node (number more) n) ∷ left_nodes p (suc (number more j)) (many j ns))) apart
          ∙ (ap₂ (λ (a : FlowNode) (b : List FlowNode). a ∷ b) (node_down n)
          (ap (λ (i : ℕ). left_nodes p i (many j ns)) (sym (number_on more j on)) ∙ rest)
          ∙ ap (λ (b : Bool). cond b (by_node (number less) n ∷ few j ns) (few j ns)) (sym t)))
      by_stay rest e false t =
          let off : more j ≡ false = stays_same s p j (eqb-false j p e) ∙ t in
          ap (λ (b : Bool). left_nodes p (number more j) (cond b (by_node (number more) n ∷ many j ns) (many j ns)))
          off
          ∙ (ap (λ (i : ℕ). left_nodes p i (many j ns)) (sym (number_off more j off))
          ∙ (rest ∙ ap (λ (b : Bool). cond b (by_node (number less) n ∷ few j ns) (few j ns)) (sym t)))

      go : left_nodes p (number more (suc j)) (many j ns) ≡ few j ns → (b : Bool) → nat_eq j p ≡ b
          → left_nodes p (number more j) (cond (more j) (by_node (number more) n ∷ many j ns) (many j ns))
          ≡ cond (less j) (by_node (number less) n ∷ few j ns) (few j ns)
      go rest true e =
          let i = eqb-true j p e in
          let on : more j ≡ true = stays_low s (suc p) j (omega (arith, i)) in
          let off : less j ≡ false = stays_high s p j (omega (arith, i)) ∙ (ap s i ∙ goes) in
          let it : nat_eq (number more j) p ≡ true =
          eq-eqb (number more j) p (number_low s (suc p) j (omega (arith, i)) ∙ i) in
          ap (λ (b : Bool). left_nodes p (number more j) (cond b (by_node (number more) n ∷ many j ns) (many j ns)))
          on
          ∙ (ap (λ (b : Bool). cond b (left_nodes p (suc (number more j)) (many j ns))
          (lower_node p (by_node (number more) n) ∷ left_nodes p (suc (number more j)) (many j ns))) it
          ∙ (ap (λ (i : ℕ). left_nodes p i (many j ns)) (sym (number_on more j on))
          ∙ (rest ∙ ap (λ (b : Bool). cond b (by_node (number less) n ∷ few j ns) (few j ns)) (sym off))))
      go rest false e = by_stay rest e (less j) refl

  -- node p goes from a block of the nodes up to it and of those that stay
  pub block_down : (f : FlowBlock) → without p (kept more f) ≡ kept less f
  block_down f = ap₂ (λ (ns : List FlowNode) (ws : List FlowWrite). record f { nodes = ns; writes = ws })
      (nodes_down f.nodes 0) (writes_down f.writes)

  -- WHY IT MAY GO

  placed : (v : ℕ → ℕ) (ns : List FlowNode) (j i : ℕ) → j + i ≤ p
      → slice_get (staying v more j ns) i ≡ option_map (by_node v) (slice_get ns i)
  placed v [] j i l = refl
  placed v (n ∷ ns) j zero l =
      ap (λ (b : Bool). slice_get (cond b (by_node v n ∷ staying v more (suc j) ns) (staying v more (suc j) ns)) 0)
      (stays_low s (suc p) j (omega (arith, l)))
  placed v (n ∷ ns) j (suc i) l =
      ap (λ (b : Bool). slice_get (cond b (by_node v n ∷ staying v more (suc j) ns) (staying v more (suc j) ns))
      (suc i)) (stays_low s (suc p) j (omega (arith, l)))
      ∙ placed v ns (suc j) i (omega (arith, l))

  idle_at : (ns : List FlowNode) (j i : ℕ) → j + i ≡ p → nodes_may s j ns ≡ true → i < length ns
      → may_go (slice_get ns i) ≡ true
  idle_at [] j i q e l = absurd (omega (arith, l))
  idle_at (n ∷ ns) j zero q e l =
      let a = and_parts (node_may s j n) (nodes_may s (suc j) ns) e in
      let it : j ≡ p = omega (arith, q) in
      let b : (is_idle n.op && names_only s j n) ≡ true =
      ap (λ (b : Bool). cond b (names_only s 0 n) (is_idle n.op && names_only s j n)) (sym (ap s it ∙ goes))
      ∙ a.0 in
      (and_parts (is_idle n.op) (names_only s j n) b).0
  idle_at (n ∷ ns) j (suc i) q e l =
      idle_at ns (suc j) i (omega (arith, q)) (and_parts (node_may s j n) (nodes_may s (suc j) ns) e).1
      (omega (arith, l))

  -- it only gives a token
  pub idle_down : (f : FlowBlock) → p < length f.nodes → may_sweep s f ≡ true
      → may_go (slice_get (kept more f).nodes p) ≡ true
  idle_down f l e =
      ap may_go (placed (number more) f.nodes 0 p (omega arith))
      ∙ (goes_alike (number more) (slice_get f.nodes p)
      ∙ idle_at f.nodes 0 p (omega arith) (and_parts (nodes_may s 0 f.nodes) (writes_may s f.writes) e).0 l)

  spared : (top : ℕ) → top ≤ p → (x : FlowSource) → may_name s top x ≡ true
      → same_source (Node p) (by_source (number more) x) ≡ false
  spared top l (Read r) e = refl
  spared top l (Node i) e = ne_eqb p (number more i) (λ z.
      let d : i ≡ p = number_only s p i (sym z) in
      let low : nat_lt i top ≡ false = le-ltb i top (omega (arith, d, l)) in
      false≢true (sym (both_false (s i) (nat_lt i top) (ap s d ∙ goes) low) ∙ e))

  all_spared : (top : ℕ) → top ≤ p → (xs : List FlowSource) → may_name_all s top xs ≡ true
      → is_among (Node p) (map (by_source (number more)) xs) ≡ false
  all_spared top l [] e = refl
  all_spared top l (x ∷ xs) e =
      let a = and_parts (may_name s top x) (may_name_all s top xs) e in
      both_false (same_source (Node p) (by_source (number more) x)) _ (spared top l x a.0) (all_spared top l xs a.1)

  guard_spared : (top : ℕ) → top ≤ p → (o : Option Guard) → may_guard s top o ≡ true
      → guards_by (Node p) (by_guard (number more) o) ≡ false
  guard_spared top l None e = refl
  guard_spared top l (Some g) e = spared top l (Node g.node) e

  node_spared : (top : ℕ) → top ≤ p → (n : FlowNode) → names_only s top n ≡ true → (b : Bool) → b ≡ false
      → (is_among (Node p) (by_node (number more) n).left || (is_among (Node p) (by_node (number more) n).right
      || (guards_by (Node p) (by_node (number more) n).guard || b))) ≡ false
  node_spared top l n e b d =
      let a = and_parts (may_name_all s top n.left) (may_name_all s top n.right && may_guard s top n.guard) e in
      let c = and_parts (may_name_all s top n.right) (may_guard s top n.guard) a.1 in
      both_false _ _ (all_spared top l n.left a.0)
      (both_false _ _ (all_spared top l n.right c.0) (both_false _ _ (guard_spared top l n.guard c.1) d))

  nodes_spared : (ns : List FlowNode) (j : ℕ) → nodes_may s j ns ≡ true
      → nodes_name (Node p) (staying (number more) more j ns) ≡ false
  nodes_spared [] j e = refl
  nodes_spared (n ∷ ns) j e =
      let a = and_parts (node_may s j n) (nodes_may s (suc j) ns) e in
      go (nodes_spared ns (suc j) a.1) a.0 (cases_lt p j) (s j) refl
    where
      with_it : (b : Bool) → more j ≡ b
          → nodes_name (Node p) (cond b (by_node (number more) n ∷ many j ns) (many j ns)) ≡ false
          → nodes_name (Node p) (cond (more j) (by_node (number more) n ∷ many j ns) (many j ns)) ≡ false
      with_it b e d =
          ap (λ (b : Bool). nodes_name (Node p) (cond b (by_node (number more) n ∷ many j ns) (many j ns))) e ∙ d

      go : nodes_name (Node p) (many j ns) ≡ false → node_may s j n ≡ true → (p < j) ⊎ (j ≤ p) → (b : Bool) → s j ≡ b
          → nodes_name (Node p) (cond (more j) (by_node (number more) n ∷ many j ns) (many j ns)) ≡ false
      go rest m (inl l) true t =
          let c : names_only s 0 n ≡ true =
          ap (λ (b : Bool). cond b (names_only s 0 n) (is_idle n.op && names_only s j n)) (sym t) ∙ m in
          with_it true (stays_high s (suc p) j (omega (arith, l)) ∙ t)
          (node_spared 0 (omega arith) n c (nodes_name (Node p) (many j ns)) rest)
      go rest m (inl l) false t = with_it false (stays_high s (suc p) j (omega (arith, l)) ∙ t) rest
      go rest m (inr l) true t =
          let c : names_only s 0 n ≡ true =
          ap (λ (b : Bool). cond b (names_only s 0 n) (is_idle n.op && names_only s j n)) (sym t) ∙ m in
          with_it true (stays_low s (suc p) j (omega (arith, l)))
          (node_spared 0 (omega arith) n c (nodes_name (Node p) (many j ns)) rest)
      go rest m (inr l) false t =
          let c : (is_idle n.op && names_only s j n) ≡ true =
          ap (λ (b : Bool). cond b (names_only s 0 n) (is_idle n.op && names_only s j n)) (sym t) ∙ m in
          with_it true (stays_low s (suc p) j (omega (arith, l)))
          (node_spared j l n (and_parts (is_idle n.op) (names_only s j n) c).1 (nodes_name (Node p) (many j ns)) rest)

  writes_spared : (ws : List FlowWrite) → writes_may s ws ≡ true
      → writes_name (Node p) (map (by_write (number more)) ws) ≡ false
  writes_spared [] e = refl
  writes_spared (w ∷ ws) e =
      let a = and_parts (may_name_all s 0 w.sources) (writes_may s ws) e in
      both_false _ _ (all_spared 0 (omega arith) w.sources a.0) (writes_spared ws a.1)

  -- nothing names it
  pub unnamed_down : (f : FlowBlock) → may_sweep s f ≡ true → is_named (kept more f) (Node p) ≡ false
  unnamed_down f e =
      let a = and_parts (nodes_may s 0 f.nodes) (writes_may s f.writes) e in
      both_false _ _ (nodes_spared f.nodes 0 a.0) (writes_spared f.writes a.1)
