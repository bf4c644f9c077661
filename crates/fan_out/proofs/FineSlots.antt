-- Each wire of a targeted block leads to an operand that its node takes, and each slot is fine.
use Rattle.std.proofs.Common.{◌≡◌, ◌≢◌, ℕ, zero, suc, ◌+◌, ◌-◌, ◌<◌, ◌≤◌, Bool, true, false, ◌==◌, []}
use Rattle.std.proofs.Common.{List, ◌∷◌, ◌++◌, map, length, replicate, Option, Some, None, ◌⊎◌}
use Rattle.std.proofs.Common.{inl, inr, slice_get, slice_index_or, refl, ap, subst, ◌∙◌}
use Rattle.std.proofs.Common.{arith, length-append}
use Rattle.std.proofs.lemmas.Bool.{cases_lt}
use Rattle.std.proofs.lemmas.Bool.Decides.{nat_tests}
use Rattle.trips_isa.specs.declared.block.Spot.TheVariants as spot
use Rattle.trips_isa.specs.declared.block.Sense.{Sense}
use Rattle.trips_isa.specs.declared.block.Sense.TheVariants.{Always, OnTrue, OnFalse}
use Rattle.trips_isa.specs.declared.block.Inst.{Inst}
use Rattle.trips_isa.specs.declared.block.Block.{Block}
use Rattle.trips_isa.specs.Forms.{role_of, takes_left, takes_right}
use Rattle.block_cases.specs.Orders.{slot_of as slot_in_block, left_of, right_of, guard_of, is_guarded}
use Rattle.ir_forms.specs.declared.flow.FlowSource.{FlowSource}
use Rattle.ir_forms.specs.declared.flow.FlowSource.TheVariants.{Read, Node}
use Rattle.ir_forms.specs.declared.flow.Guard.{Guard}
use Rattle.ir_forms.specs.declared.flow.FlowNode.{FlowNode}
use Rattle.ir_forms.specs.declared.flow.FlowWrite.{FlowWrite}
use Rattle.ir_forms.specs.declared.flow.FlowBlock.{FlowBlock}
use Rattle.ir_forms.specs.inside.FlowRuns.{sense_of, count}
use Rattle.ir_forms.specs.inside.FlowFits.{FitsNode}
use Rattle.ir_forms.specs.inside.FlowFits.{AtMostOne}
use Rattle.fan_out.specs.inside.Wires.{Wire, wired_to, guard_note, guard_sources, node_wires, nodes_wires}
use Rattle.fan_out.specs.inside.Wires.{writes_wires, wires, uses}
use Rattle.fan_out.specs.inside.Fans.{Placed, Fan}
use Rattle.fan_out.specs.inside.Targeted.{placed_node, read_slots, with_targets, slots}
use Rattle.fan_out.specs.inside.Targeted.{slots_of_nodes, movs_of_reads, movs_of_nodes, next_of_nodes}
use Rattle.fan_out.specs.inside.Targeted.{slot_of, register_of, IsTargeted}
use Rattle.fan_out.proofs.Weights.{weight_if, weigh}
use Rattle.fan_out.proofs.Bringing.{spots_weight}
use Rattle.fan_out.proofs.Sharing.{reads_share, shared}
use Rattle.fan_out.proofs.Reaching.{none_at, writes_none, wires_append, nodes_wires_at, writes_wires_at}
use Rattle.fan_out.proofs.Reaching.{left_at, right_at, nodes_at}
use Rattle.fan_out.proofs.Totals.{Given, all_movs, all_got, got_below, nodes_low, each_produced}
use Rattle.fan_out.proofs.Totals.{placed_length}
use Rattle.fan_out.proofs.Named.{used}
use Rattle.fan_out.proofs.TargetedNodes.{is_mov}
use Rattle.fan_out.proofs.Ending.{slot_of_node}
use Rattle.fan_out.proofs.Entry.{insts_at}
use Rattle.fan_out.proofs.Ranks.{mark, one}
use Rattle.fan_out.proofs.Owners.{away}
use Rattle.fan_out.proofs.Paths.{obeys, path_table}
use Rattle.fan_out.proofs.Goods.{item_at}
use Rattle.fan_out.proofs.FineSpots.{WiresFine, wires_fine_append, wired_fine}
use Rattle.fan_out.proofs.Fineness.{AllFine, Room, nodes_fine, ReadsFine, reads_fine, Lone}

-- lists --------------------------------------------------------------------------------------------

got_behind : {A : Type 0} → (xs ys : List A) (k i : ℕ) → k ≡ length xs + i
    → slice_get (xs ++ ys) k ≡ slice_get ys i
got_behind [] ys k i e = let same : k ≡ i = omega arith in ap (slice_get ys) same
got_behind (x ∷ xs) ys zero i e = absurd (omega arith)
got_behind (x ∷ xs) ys (suc k) i e = got_behind xs ys k i (omega arith)

-- a slot that holds nothing
abbrev pub no_inst : Option Inst
no_inst = None

insts_beyond : (ps : List Placed) (n k : ℕ) → length ps ≤ k
    → slice_index_or (map slot_of ps ++ replicate n None) k None ≡ None
insts_beyond [] n k l = none n k
  where
    none : (n k : ℕ) → slice_index_or (replicate n no_inst) k no_inst ≡ no_inst
    none zero k = refl
    none (suc n) zero = refl
    none (suc n) (suc k) = none n k
insts_beyond (p ∷ ps) n zero l = absurd (omega arith)
insts_beyond (p ∷ ps) n (suc k) l = insts_beyond ps n k (omega arith)

all_fine_append : (b : Block) (xs ys : List Placed) → AllFine b xs → AllFine b ys → AllFine b (xs ++ ys)
all_fine_append b [] ys h k = k
all_fine_append b (x ∷ xs) ys h k = (h.0, all_fine_append b xs ys h.1 k)

mapped_count : (xs : List FlowWrite) → length (map register_of xs) ≡ length xs
mapped_count [] = refl
mapped_count (x ∷ xs) = ap suc (mapped_count xs)

share_least : (w : FlowSource → ℕ) (ws : List Wire) (q : ℕ) (rs : List ℕ) (i r : ℕ)
    → slice_get rs i ≡ Some r → spots_weight (w (Read r)) (uses (Read r) ws) q ≤ reads_share w ws rs q
share_least w ws q [] i r e = absurd (cc)
share_least w ws q (x ∷ rs) zero r e =
    let same : x ≡ r = cc in
    let k : spots_weight (w (Read x)) (uses (Read x) ws) q ≡ spots_weight (w (Read r)) (uses (Read r) ws) q
    = ap (λ y. spots_weight (w (Read y)) (uses (Read y) ws) q) same in omega arith
share_least w ws q (x ∷ rs) (suc i) r e = let k = share_least w ws q rs i r e in omega arith

mark_count : (regs : ℕ → ℕ) (h : ℕ → _) (r : ℕ) (ss : List FlowSource)
    → weigh (mark (Read r)) ss ≤ count regs h ss
mark_count regs h r [] = omega arith
mark_count regs h r (Read a ∷ ss) =
    let k = mark_count regs h r ss in by (r == a) k
  where
    by : (c : Bool) → weigh (mark (Read r)) ss ≤ count regs h ss
        → weight_if c 1 + weigh (mark (Read r)) ss ≤ 1 + count regs h ss
    by true k = omega arith
    by false k = omega arith
mark_count regs h r (Node j ∷ ss) = let k = mark_count regs h r ss in omega arith

-- the block ----------------------------------------------------------------------------------------

module _ (f : FlowBlock) (g : Given f) (b : Block) (t : IsTargeted f b) where
  -- the block holds what is placed in a slot
  pub inst_in : (k : ℕ) (p : Placed) → slice_get (slots f) k ≡ Some p → slot_in_block b k ≡ Some p.inst
  inst_in k p e =
      ap (λ l. slice_index_or l k None) t.insts
      ∙ insts_at (slots f) (replicate (128 - length (slots f)) None) k p e

  -- a slot behind all that is placed holds nothing
  pub none_in : (k : ℕ) → length (slots f) ≤ k → slot_in_block b k ≡ None
  none_in k l =
      ap (λ i. slice_index_or i k None) t.insts
      ∙ insts_beyond (slots f) (128 - length (slots f)) k l

  node_in : (k : ℕ) (n : FlowNode) → slice_get f.nodes k ≡ Some n
      → (a : Fan) × (slot_in_block b k ≡ Some (with_targets n a))
  node_in k n e = let s = slot_of_node f k n e in (s.fan, inst_in k (placed_node k n s.fan) s.got)

  room : Room b (length f.nodes) (length f.nodes + length (all_movs f))
  room k l u =
      let low = nodes_low f g in
      let i = item_at (all_movs f) (k - length f.nodes) (omega arith) in
      let p = i.item in
      let m = is_mov f (k - length f.nodes) p i.got in
      let c = placed_length (wires f) f.nodes (next_of_nodes f) 0 in
      let at : slice_get (slots f) k ≡ Some p =
      got_behind (slots_of_nodes f) (all_movs f) k (k - length f.nodes) (omega arith) ∙ i.got in
      record {
        fits = omega arith;
        good = ap left_of (inst_in k p at) ∙ ap (λ (y : Placed). left_of (Some y.inst)) m.is;
      }

  taken_true : (c : Bool) (ss : List FlowSource) → (c ≡ false → ss ≡ []) → ss ≢ [] → c ≡ true
  taken_true true ss h o = refl
  taken_true false ss h o = absurd (o (h refl))

  guard_wires : (k : ℕ) (n : FlowNode) → slice_get f.nodes k ≡ Some n → k < 128
      → (d : Option Guard) → n.guard ≡ d → WiresFine b (wired_to (spot.Pred k) (guard_note d) (guard_sources d))
  guard_wires k n e l None z = tt
  guard_wires k n e l (Some d) z = (
    record {
      fits = l;
      good =
          let s = node_in k n e in
          let regular = g.regular in
          ap guard_of s.1 ∙ ap (λ y. is_guarded (sense_of y)) z ∙ sensed d.sense (regular.guards k n d e z);
    },
    tt,
  )
    where
      sensed : (s : Sense) → s ≢ Always → is_guarded s ≡ true
      sensed Always h = absurd (h refl)
      sensed OnTrue h = refl
      sensed OnFalse h = refl

  node_wires_fine : (k : ℕ) (n : FlowNode) → slice_get f.nodes k ≡ Some n → k < 128
      → WiresFine b (node_wires k n)
  node_wires_fine k n e l =
      let s = node_in k n e in
      let regular = g.regular in
      let only = regular.operands k n e in
      wires_fine_append b (wired_to (spot.Left k) 0 n.left) _
      (wired_fine b (spot.Left k) 0 n.left (λ o. record {
        fits = l;
        good = ap left_of s.1
            ∙ taken_true (takes_left (role_of n.op)) n.left only.left o;
      }))
      (wires_fine_append b (wired_to (spot.Right k) 0 n.right) _
      (wired_fine b (spot.Right k) 0 n.right (λ o. record {
        fits = l;
        good = ap right_of s.1
            ∙ taken_true (takes_right (role_of n.op)) n.right only.right o;
      }))
      (guard_wires k n e l n.guard refl))

  nodes_wires_fine : (ns : List FlowNode) (j : ℕ)
      → ((i k : ℕ) (n : FlowNode) → slice_get ns i ≡ Some n → k ≡ j + i
      → (slice_get f.nodes k ≡ Some n) × (k < 128)) → WiresFine b (nodes_wires j ns)
  nodes_wires_fine [] j h = tt
  nodes_wires_fine (n ∷ ns) j h =
      let a = h 0 j n refl (omega arith) in
      wires_fine_append b (node_wires j n) (nodes_wires (suc j) ns) (node_wires_fine j n a.0 a.1)
      (nodes_wires_fine ns (suc j) (λ i k m e z. h (suc i) k m e (omega arith)))

  writes_wires_fine : (xs : List FlowWrite) (k : ℕ) → k + length xs ≤ length b.writes.items
      → length b.writes.items ≤ 32 → WiresFine b (writes_wires k xs)
  writes_wires_fine [] k l u = tt
  writes_wires_fine (x ∷ xs) k l u =
      wires_fine_append b (wired_to (spot.Write k) x.register x.sources) (writes_wires (suc k) xs)
      (wired_fine b (spot.Write k) x.register x.sources (λ o. record {
        fits = omega arith;
        good = let m : k < length b.writes.items = omega arith in grind (arith, nat_tests);
      }))
      (writes_wires_fine xs (suc k) (omega arith) u)

  -- the block has as many writes as the flow
  pub writes_count : length b.writes.items ≡ length f.writes
  writes_count = ap length t.writes ∙ mapped_count f.writes

  all_wires_fine : WiresFine b (wires f)
  all_wires_fine =
      let low = nodes_low f g in
      let few = g.writes in
      let c = writes_count in
      wires_fine_append b (nodes_wires 0 f.nodes) (writes_wires 0 f.writes)
      (nodes_wires_fine f.nodes 0 (λ i k n e z. let same : i ≡ k = omega arith in let y = got_below f.nodes i n e in
      (subst (λ v. slice_get f.nodes v ≡ Some n) same e, omega arith)))
      (writes_wires_fine f.writes 0 (omega arith) (omega arith))

  lone_at : (i r q : ℕ) → slice_get f.reads i ≡ Some r → q < 256
      → spots_weight 1 (uses (Read r) (wires f)) q ≤ 1
  lone_at i r q e l =
      let least = share_least (mark (Read r)) (wires f) q f.reads i r e in
      let own : mark (Read r) (Read r) ≡ 1 = ap (λ c. weight_if c 1)
      (let z : (r == r) ≡ true = grind (arith, nat_tests) in z) in
      let same : spots_weight (mark (Read r) (Read r)) (uses (Read r) (wires f)) q
      ≡ spots_weight 1 (uses (Read r) (wires f)) q
      = ap (λ v. spots_weight v (uses (Read r) (wires f)) q) own in
      let fits = g.fits in
      let i2 = shared (mark (Read r)) q f.reads f.nodes (wires f) (each_produced f fits g.regular) in
      let a = wires_append (mark (Read r)) (nodes_wires 0 f.nodes) (writes_wires 0 f.writes) q in
      let n = nodes_wires_at (mark (Read r)) 0 f.nodes q in
      let v = writes_wires_at (mark (Read r)) 0 f.writes q in
      let x = writes_none (mark (Read r)) q f.writes 0 (omega arith) in
      let m = nodes_most in
      omega (arith, least, same, i2, a, n, v, x, m)
    where
      low : length f.nodes ≤ 128
      low = let z = nodes_low f g in omega arith

      tidy : (k : ℕ) (n : FlowNode) → slice_get f.nodes k ≡ Some n
          → (weigh (mark (Read r)) n.left ≤ 1) × (weigh (mark (Read r)) n.right ≤ 1)
      tidy k n z =
          let fits = g.fits in
          let order = fits.order in
          let rg : ℕ → ℕ = λ y. 0 in
          let wd : ℕ → ℕ → ℕ → ℕ = λ j l r. 0 in
          let h = path_table f order.0 order.1 rg wd in
          let tidy = fits.tidy rg (λ j n. wd j) h (obeys f order.0 order.1 rg wd) in
          let one = all_got (AtMostOne rg h) f.nodes k n tidy.operands z in
          let one0 = one.0 in
          let one1 = one.1 in
          let a = mark_count rg h r n.left in
          let c = mark_count rg h r n.right in
          (omega arith, omega arith)

      nothing : ((k : ℕ) → 0 ≤ k → k < 0 + length f.nodes → (k ≢ q) × (128 + k ≢ q) × (256 + k ≢ q))
          → nodes_at (mark (Read r)) 0 f.nodes q ≤ 1
      nothing m = let z = none_at (mark (Read r)) q f.nodes 0 m in omega arith

      lefts : q < length f.nodes → nodes_at (mark (Read r)) 0 f.nodes q ≤ 1
      lefts u =
          let k = item_at f.nodes q u in
          let n = k.item in
          let z = left_at (mark (Read r)) f.nodes q n low k.got in
          let y = tidy q n k.got in
          let y0 = y.0 in omega arith

      rights : 128 ≤ q → q - 128 < length f.nodes → nodes_at (mark (Read r)) 0 f.nodes q ≤ 1
      rights v u =
          let k = item_at f.nodes (q - 128) u in
          let n = k.item in
          let z = right_at (mark (Read r)) f.nodes (q - 128) n low k.got in
          let y = tidy (q - 128) n k.got in
          let y1 = y.1 in
          let at : 128 + (q - 128) ≡ q = omega arith in
          subst (λ p. nodes_at (mark (Read r)) 0 f.nodes p ≤ 1) at (omega arith)

      nodes_most : nodes_at (mark (Read r)) 0 f.nodes q ≤ 1
      nodes_most = by (cases_lt q (length f.nodes)) (cases_lt q 128) (cases_lt (q - 128) (length f.nodes))
        where
          by : (q < length f.nodes) ⊎ (length f.nodes ≤ q) → (q < 128) ⊎ (128 ≤ q)
              → (q - 128 < length f.nodes) ⊎ (length f.nodes ≤ q - 128)
              → nodes_at (mark (Read r)) 0 f.nodes q ≤ 1
          by (inl u) c d = lefts u
          by (inr u) (inl c) d = nothing (λ k a z. (
            (λ e. absurd (omega arith)),
            (λ e. absurd (omega arith)),
            (λ e. absurd (omega arith)),
          ))
          by (inr u) (inr c) (inl d) = rights c d
          by (inr u) (inr c) (inr d) = nothing (λ k a z. (
            (λ e. absurd (omega arith)),
            (λ e. absurd (omega arith)),
            (λ e. absurd (omega arith)),
          ))

  lone : (i r : ℕ) → slice_get f.reads i ≡ Some r
      → Lone (length f.nodes) (length f.nodes + length (all_movs f)) (uses (Read r) (wires f))
  lone i r e = record {
    once = λ q l. lone_at i r q e l;
    away = λ q l u. (let low = nodes_low f g in let z = away f g q l (omega arith) in
        let k = share_least one (wires f) q f.reads i r e in omega arith);
  }

  -- each read, and each mov that carries one, is fine
  pub fine_reads : ReadsFine b (read_slots (wires f) (length f.nodes) f.reads) × AllFine b (movs_of_reads f)
  fine_reads =
      let z = length-append (movs_of_reads f) (movs_of_nodes f) in
      let regular = g.regular in
      reads_fine b (length f.nodes) (length f.nodes + length (all_movs f)) room (wires f) all_wires_fine f.reads
      (length f.nodes)
      (omega arith) (omega (arith, z)) (λ i x e. (used f (Read x) (regular.used i x e), lone i x e))

  fine_nodes : AllFine b (slots_of_nodes f) × AllFine b (movs_of_nodes f)
  fine_nodes =
      let z = length-append (movs_of_reads f) (movs_of_nodes f) in
      let fits = g.fits in
      nodes_fine b (length f.nodes) (length f.nodes + length (all_movs f)) room (wires f) all_wires_fine f.nodes
      (next_of_nodes f) 0
      (omega arith) (omega (arith, z)) (λ i x e. let h = all_got (FitsNode f) f.nodes i x fits.nodes e in h.form)

  -- all that is placed in slots is fine
  pub fine_slots : AllFine b (slots f)
  fine_slots = all_fine_append b (slots_of_nodes f) (all_movs f) fine_nodes.0
      (all_fine_append b (movs_of_reads f) (movs_of_nodes f) fine_reads.1 fine_nodes.1)
