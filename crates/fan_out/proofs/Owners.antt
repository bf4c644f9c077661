-- Who names each place of a targeted block: a node, a mov or nobody.
use Rattle.std.proofs.Common.{◌≡◌, ◌≢◌, ℕ, zero, suc, ◌+◌, ◌<◌, ◌≤◌, true, []}
use Rattle.std.proofs.Common.{List, ◌∷◌, ◌++◌, map, length, Option, Some, None, ◌⊎◌}
use Rattle.std.proofs.Common.{inl, inr, slice_get, refl, sym, ap, ◌∙◌, arith}
use Rattle.trips_isa.specs.declared.node.Node.{Node as NodeOf}
use Rattle.trips_isa.specs.declared.form.Form.{Form}
use Rattle.trips_isa.specs.declared.form.Form.TheVariants.{General, Immediate, Load, Store, Branch}
use Rattle.trips_isa.specs.declared.form.Form.TheVariants.{Constant}
use Rattle.trips_isa.specs.Forms.{form_of}
use Rattle.trips_isa.specs.Places.{place_at, first_place, read_node, inst_node}
use Rattle.trips_isa.specs.Places.{inst_nodes, targets, names}
use Rattle.ir_forms.specs.declared.flow.FlowSource.{FlowSource}
use Rattle.ir_forms.specs.declared.flow.FlowSource.TheVariants.{Read, Node}
use Rattle.ir_forms.specs.declared.flow.FlowNode.{FlowNode}
use Rattle.ir_forms.specs.declared.flow.FlowBlock.{FlowBlock}
use Rattle.fan_out.specs.inside.Wires.{Wire, wires, nodes_wires, writes_wires}
use Rattle.fan_out.specs.inside.Fans.{Placed, Fan, no_target}
use Rattle.fan_out.specs.inside.Targeted.{fan_of_read, placed_node, read_slots}
use Rattle.fan_out.specs.inside.Targeted.{slots, filled}
use Rattle.ir_forms.specs.inside.FlowRegular.{is_silent}
use Rattle.fan_out.proofs.Weights.{named, nodes_weight}
use Rattle.fan_out.proofs.Bringing.{placed_weight, inst_targets, fan_targets}
use Rattle.fan_out.proofs.Sharing.{reads_share, nodes_share, shared}
use Rattle.fan_out.proofs.Reaching.{none_at, writes_none, held_beyond, wires_append, nodes_wires_at}
use Rattle.fan_out.proofs.Reaching.{writes_wires_at, Misses}
use Rattle.fan_out.proofs.Totals.{Given, owners, all_movs, reads_of, targeted_nodes}
use Rattle.fan_out.proofs.Totals.{at_place, quiet, got_below, each_produced}
use Rattle.fan_out.proofs.TargetedNodes.{Stands, a_read, a_node, a_mov, empty, nothing, stands}
use Rattle.fan_out.proofs.Ending.{unnamed, slot_of_node}
use Rattle.fan_out.proofs.Ranks.{named_least, brings_owner}
use Rattle.fan_out.proofs.Ranks.{one, either}

got_front : {A : Type 0} → (xs ys : List A) (x : ℕ) → x < length xs
    → slice_get (xs ++ ys) x ≡ slice_get xs x
got_front [] ys x l = absurd (omega arith)
got_front (a ∷ xs) ys zero l = refl
got_front (a ∷ xs) ys (suc x) l = got_front xs ys x (omega arith)

read_owner : (rs : List ℕ) (x r : ℕ) → slice_get rs x ≡ Some r
    → slice_get (map Read rs) x ≡ Some (Read r)
read_owner [] x r e = absurd (cc)
read_owner (a ∷ rs) zero r e = let same : a ≡ r = cc in ap (λ y. Some (Read y)) same
read_owner (a ∷ rs) (suc x) r e = read_owner rs x r e

placed_least : (ps : List Placed) (k : ℕ) (p : Placed) (q : ℕ) → slice_get ps k ≡ Some p
    → names (inst_targets p.inst) q ≡ true → 1 ≤ placed_weight one ps q
placed_least [] k p q e t = absurd (cc)
placed_least (x ∷ ps) zero p q e t =
    let same : p ≡ x = cc in
    let a = named_least 1 (inst_targets x.inst) q
    (ap (λ (y : Placed). names (inst_targets y.inst) q) (sym same) ∙ t) in
    omega arith
placed_least (x ∷ ps) (suc k) p q e t = let a = placed_least ps k p q e t in omega arith

-- there is a node for each read
pub read_count : (ws : List Wire) (rs : List ℕ) (next : ℕ)
    → length (map read_node (read_slots ws next rs)) ≡ length rs
read_count ws [] next = refl
read_count ws (a ∷ rs) next = ap suc (read_count ws rs (next + length (fan_of_read ws next a).movs))

module _ (f : FlowBlock) (g : Given f) where
  -- a place below the writes that belongs to no node and no mov gets nothing
  pub zero_at : (q : ℕ) → q < 384 → ((k : ℕ) → 0 ≤ k → k < 0 + length f.nodes → Misses q k)
      → length f.nodes + length (all_movs f) ≤ q
      → nodes_weight one (targeted_nodes f) (owners f) q ≡ 0
  zero_at q l m b =
      omega (
        arith,
        at_place f g one q (omega arith),
        none_at one q f.nodes 0 m,
        writes_none one q f.writes 0 (omega arith),
        held_beyond one (all_movs f) (length f.nodes) q b,
      )

  -- the node at x has an owner
  pub record Owned (x : ℕ) (o : Option FlowSource) : Type 0 where
    pub owner : FlowSource
    pub is : o ≡ Some owner

  -- a node that names a place has an owner, by what stands at x
  pub owned : (x q : ℕ) (m : NodeOf) → q ≢ 700 → names (targets m) q ≡ true → (n : Option NodeOf)
      (o : Option FlowSource) → Stands f x n o → n ≡ Some m → Owned x o
  owned x q m d t n o (a_read s r e) z = record { owner = Read r; is = refl }
  owned x q m d t n o (a_node k p e s i) z = record { owner = p.owner; is = refl }
  owned x q m d t n o (a_mov k p e s i) z = record { owner = p.owner; is = refl }
  owned x q m d t n o (empty k u v) z = absurd (by (either 700 700 q names_none))
    where
      names_none : names (700 ∷ 700 ∷ []) q ≡ true
      names_none = let same : inst_node k None ≡ m = cc in ap (λ (y : NodeOf). names (targets y) q) same ∙ t

      by : (700 ≡ q) ⊎ (700 ≡ q) → ⊥
      by (inl e) = d (sym e)
      by (inr e) = d (sym e)
  owned x q m d t n o nothing z = absurd (cc)

  -- each node that names a place has an owner
  pub has_owner : (x q : ℕ) (m : NodeOf) → q ≢ 700 → slice_get (targeted_nodes f) x ≡ Some m
      → names (targets m) q ≡ true → Owned x (slice_get (owners f) x)
  has_owner x q m d e t = owned x q m d t _ _ (stands f x) e

  -- a place that gets nothing is named by no node
  pub nobody : (x q : ℕ) (m : NodeOf) → q ≢ 700 → nodes_weight one (targeted_nodes f) (owners f) q ≡ 0
      → slice_get (targeted_nodes f) x ≡ Some m → names (targets m) q ≡ true → ⊥
  nobody x q m d z e t =
      let h = has_owner x q m d e t in
      let k = brings_owner one (targeted_nodes f) (owners f) q x m h.owner e h.is t in
      absurd (omega arith)

  -- from the numbers of stores on
  pub record Loud (x q : ℕ) (o : Option FlowSource) : Type 0 where
    pub slot : ℕ
    pub node : FlowNode
    pub got : slice_get f.nodes slot ≡ Some node
    pub owner : o ≡ Some (Node slot)
    pub how : ((form_of node.op ≡ Store) × (416 + node.number ≡ q)) ⊎ ((form_of node.op ≡ Branch) × (448 ≡ q))

  how_named : (e : Form) (number q : ℕ) (a : Fan) → q ≢ 700 → named 1 (fan_targets a) q ≡ 0
      → (is_silent e ≡ true → a ≡ no_target)
      → names (first_place e number a.first ∷ place_at a.second ∷ []) q ≡ true
      → ((e ≡ Store) × (416 + number ≡ q)) ⊎ ((e ≡ Branch) × (448 ≡ q))
  how_named General number q a d z i t = let u = unnamed (fan_targets a) q z in absurd (cc)
  how_named Immediate number q a d z i t = let u = unnamed (fan_targets a) q z in absurd (cc)
  how_named Load number q a d z i t = let u = unnamed (fan_targets a) q z in absurd (cc)
  how_named Constant number q a d z i t = let u = unnamed (fan_targets a) q z in absurd (cc)
  how_named Store number q a d z i t = by (either (416 + number) (place_at a.second) q t)
    where
      by : (416 + number ≡ q) ⊎ (place_at a.second ≡ q)
          → ((Store ≡ Store) × (416 + number ≡ q)) ⊎ ((Store ≡ Branch) × (448 ≡ q))
      by (inl e) = inl (refl, e)
      by (inr e) = absurd (d (sym e ∙ ap (λ (y : Fan). place_at y.second) (i refl)))
  how_named Branch number q a d z i t = by (either 448 (place_at a.second) q t)
    where
      by : (448 ≡ q) ⊎ (place_at a.second ≡ q)
          → ((Branch ≡ Store) × (416 + number ≡ q)) ⊎ ((Branch ≡ Branch) × (448 ≡ q))
      by (inl e) = inr (refl, e)
      by (inr e) = absurd (d (sym e ∙ ap (λ (y : Fan). place_at y.second) (i refl)))

  reads_size : (x r : ℕ) → slice_get f.reads x ≡ Some r → x < length (reads_of f)
  reads_size x r e =
      let l = got_below f.reads x r e in
      let c = read_count (wires f) f.reads (length f.nodes) in omega arith

  loud_at : (x q : ℕ) (m : NodeOf) → 416 ≤ q → q ≢ 700 → names (targets m) q ≡ true
      → slice_get (targeted_nodes f) x ≡ Some m → (n : Option NodeOf) (o : Option FlowSource)
      → Stands f x n o → n ≡ Some m → Loud x q o
  loud_at x q m l d t e n o (a_read s r u) z =
      let at : slice_get (reads_of f) x ≡ Some m =
      sym (got_front (reads_of f) (inst_nodes 0 (filled (slots f))) x (reads_size x r u)) ∙ e in
      let k = brings_owner one (reads_of f) (map Read f.reads) q x m (Read r) at (read_owner f.reads x r u) t in
      let y = quiet f g one q l d in absurd (omega arith)
  loud_at x q m l d t e n o (a_mov k p u s i) z =
      let same : inst_node k (Some p.inst) ≡ m = cc in
      let w = placed_least (all_movs f) i.at p q i.got (ap (λ (y : NodeOf). names (targets y) q) same ∙ t) in
      let y = quiet f g one q l d in absurd (omega arith)
  loud_at x q m l d t e n o (a_node k p u s i) z =
      let b = slot_of_node f k i.node i.got in
      let same : p ≡ placed_node k i.node b.fan = (let y = b.got in cc) in
      let here : names (inst_targets p.inst) q ≡ true =
      (let w : inst_node k (Some p.inst) ≡ m = cc in ap (λ (y : NodeOf). names (targets y) q) w ∙ t) in
      record {
        slot = k;
        node = i.node;
        got = i.got;
        owner = ap (λ (y : Placed). Some y.owner) same;
        how = how_named (form_of i.node.op) i.node.number q b.fan d
            (b.still q (let y = quiet f g one q l d in omega arith)) b.silent
            (ap (λ (y : Placed). names (inst_targets y.inst) q) (sym same) ∙ here);
      }
  loud_at x q m l d t e n o (empty k u v) z =
      absurd (let h = owned x q m d t _ _ (empty k u v) z in let y = h.is in cc)
  loud_at x q m l d t e n o nothing z = absurd (cc)

  -- who names a place from the numbers of stores on is a store of that number or a branch
  pub loud : (x q : ℕ) (m : NodeOf) → 416 ≤ q → q ≢ 700 → names (targets m) q ≡ true
      → slice_get (targeted_nodes f) x ≡ Some m → Loud x q (slice_get (owners f) x)
  loud x q m l d t e = loud_at x q m l d t e _ _ (stands f x) e

  -- movs
  pub away : (q : ℕ) → length f.nodes ≤ q → q < 128
      → reads_share one (wires f) f.reads q + nodes_share one (wires f) 0 f.nodes q ≡ 0
  away q l u =
      omega (
        arith,
        shared one q f.reads f.nodes (wires f) (each_produced f g.fits g.regular),
        wires_append one (nodes_wires 0 f.nodes) (writes_wires 0 f.writes) q,
        nodes_wires_at one 0 f.nodes q,
        writes_wires_at one 0 f.writes q,
        writes_none one q f.writes 0 (omega arith),
        none_at one q f.nodes 0 (λ k a b. (
          (λ e. absurd (omega arith)),
          (λ e. absurd (omega arith)),
          (λ e. absurd (omega arith)),
        )),
      )
