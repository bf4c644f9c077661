-- What completing adds to a block all of whose nodes are firm and whose guards are one node: how much it
-- costs, and that the guards stay that node.
use Rattle.std.proofs.Common.{◌≡◌, ℕ, zero, suc, ◌+◌, ◌*◌, ◌<◌, ◌≤◌, Bool, true, false, not, ◌&&◌, List, [], ◌∷◌}
use Rattle.std.proofs.Common.{◌++◌, length, refl, sym, ap, subst, arith, length-append, cond}
use Rattle.std.specs.Prelude.{None}
use Rattle.trips_isa.specs.declared.op.Op.{Op}
use Rattle.trips_isa.specs.declared.op.Op.TheVariants as op
use Rattle.trips_isa.specs.declared.form.Form.TheVariants as form
use Rattle.trips_isa.specs.Forms.{form_of}
use Rattle.ir_forms.specs.declared.flow.FlowSource.{FlowSource}
use Rattle.ir_forms.specs.declared.flow.FlowSource.TheVariants.{Node}
use Rattle.ir_forms.specs.declared.flow.FlowNode.{FlowNode}
use Rattle.ir_forms.specs.declared.flow.FlowWrite.{FlowWrite}
use Rattle.ir_forms.specs.declared.flow.FlowBlock.{FlowBlock}
use Rattle.ir_forms.specs.inside.FlowFits.{in_mask}
use Rattle.null_outputs.specs.inside.Covers.{Sure, Want, left_open, right_open, null_store_of, list_top, list_nodes}
use Rattle.null_outputs.specs.inside.Groups.{guard_group, guard_part, guard_part_size, is_used, left_part, left_size}
use Rattle.null_outputs.specs.inside.Groups.{right_part, right_size, region, stores_of, number_open}
use Rattle.null_outputs.specs.inside.Completed.{places, cover, write_part, write_size, filled_all, number_part}
use Rattle.null_outputs.specs.inside.Completed.{number_size, numbers_part, numbers_at, all_numbers, trues, falses}
use Rattle.null_outputs.specs.inside.Completed.{lefts, rights, writes_at, trues_region, falses_region, lefts_region}
use Rattle.null_outputs.specs.inside.Completed.{rights_region, writes_region, added, completed}
use Rattle.null_outputs.specs.inside.Immediates.{IsAddedOp}
use Rattle.null_outputs.specs.inside.Sizes.{sum_of, AllFirm}
use Rattle.null_outputs.proofs.Added.{AllAdded, all_added}
use Rattle.fan_out.specs.inside.Counts.{nodes_kinds, writes_kinds}
use Rattle.fan_out.specs.inside.Targeted.{count_insts}
use Rattle.c_compile_blocks.specs.inside.Prices.{price, write_price}
use Rattle.c_compile_blocks.proofs.Prices.{Different, Feeding, few_insts}
use Rattle.c_compile_blocks.proofs.Flat.{uses_append, AreUsed, used_append, used_grow, price_append}
use Rattle.c_compile_blocks.proofs.PlainWrites.{EachWrite}
use Rattle.c_compile_blocks.proofs.OneGuard.{AreBy, by_append, unguarded, saves}
use Rattle.c_compile_blocks.proofs.CoverPrices.{once_most, price_if, if_not, none_if, region_none, region_by}
use Rattle.c_compile_blocks.proofs.CoverPrices.{region_price, cover_few, group_price, list_by, store_price}
use Rattle.c_compile_blocks.proofs.CoverPrices.{list_price, top_few, group_by, used_by}
use Rattle.c_compile_blocks.proofs.StoreCounts.{stored_in, stored_most}

-- WHAT IS ADDED

-- a write of at most two sources
abbrev pub IsFew : FlowWrite → Type 0
IsFew w = length w.sources ≤ 2

module _ (sure : Sure) (want : Want) (b : FlowBlock) (c : ℕ) (guards : AreBy c b.nodes) (firm : AllFirm sure b)
    (stored : (k : ℕ) → k < 32 → in_mask b.mask k ≡ true → 1 ≤ length (stores_of 0 b.nodes k))
    (few : EachWrite IsFew b.writes) where
  covers : (s : FlowSource) → length (cover sure want b s) ≤ 1
  covers s = cover_few b.nodes sure (places sure want b) firm s

  -- what the nulls of a node's guards of one sense cost
  abbrev weight : Bool → ℕ → FlowNode → ℕ
  weight s y n = cond (is_used want 0 b.nodes s y) 5 0

  guards_price : (s : Bool) (p : ℕ) → price (region (guard_part want b.nodes (cover sure want b) s)
      (guard_part_size want b.nodes sure s) p 0 b.nodes) ≤ 5
  guards_price s p =
      let a = region_price (guard_part want b.nodes (cover sure want b) s) (guard_part_size want b.nodes sure s)
      (weight s)
      (λ q y n. price_if (is_used want 0 b.nodes s y) (guard_group q s y (cover sure want b (Node y))) 5
      (group_price q s y (cover sure want b (Node y)) (covers (Node y)))) p 0 b.nodes in
      let o : sum_of (weight s) 0 b.nodes ≤ 5 = once_most (λ y. is_used want 0 b.nodes s y) c 5 0 b.nodes
      (λ y e. used_by want c 0 b.nodes guards s y e) in
      omega (arith, a, o)

  guards_by : (s : Bool) (p : ℕ) → AreBy c (region (guard_part want b.nodes (cover sure want b) s)
      (guard_part_size want b.nodes sure s) p 0 b.nodes)
  guards_by s p =
      region_by (guard_part want b.nodes (cover sure want b) s) (guard_part_size want b.nodes sure s) c
      (λ q y n. go q y (is_used want 0 b.nodes s y) (λ e. used_by want c 0 b.nodes guards s y e)) p 0 b.nodes
    where
      go : (q y : ℕ) (t : Bool) → (t ≡ true → y ≡ c)
          → AreBy c (cond t (guard_group q s y (cover sure want b (Node y))) [])
      go q y true f = group_by c q s y (cover sure want b (Node y)) (f refl)
      go q y false f = tt

  lefts_none : lefts_region sure want b ≡ []
  lefts_none =
      region_none (left_part sure want (cover sure want b)) (left_size sure want) (lefts sure want b) 0 b.nodes
      (λ i y q n e. none_if (want y) (left_open sure n) _ ((firm i n e).0))

  rights_none : rights_region sure want b ≡ []
  rights_none =
      region_none (right_part sure want (cover sure want b)) (right_size sure want) (rights sure want b) 0 b.nodes
      (λ i y q n e. none_if (want y) (right_open sure n) _ ((firm i n e).1))

  -- writes

  writes_price : (p j : ℕ) (ws : List FlowWrite) → EachWrite IsFew ws
      → price (region (write_part sure want b) (write_size sure want b) p j ws) ≤ 3 * length ws
  writes_price p j [] a = omega arith
  writes_price p j (w ∷ ws) a =
      let x : price (write_part sure want b p j w) ≤ 3 =
      if_not (sure None w.sources) (list_nodes (cover sure want b) p w.sources) 3
      (list_price (cover sure want b) covers p w.sources a.0) in
      let r = writes_price (p + write_size sure want b j w) (suc j) ws a.1 in
      let e = price_append (write_part sure want b p j w) (region (write_part sure want b) (write_size sure want b)
      (p + write_size sure want b j w) (suc j) ws) in
      omega (arith, x, r, e)

  writes_by : (p j : ℕ) (ws : List FlowWrite)
      → AreBy c (region (write_part sure want b) (write_size sure want b) p j ws)
  writes_by = region_by (write_part sure want b) (write_size sure want b) c
      (λ p j w. go p w (sure None w.sources))
    where
      go : (p : ℕ) (w : FlowWrite) (t : Bool)
          → AreBy c (cond t [] (list_nodes (cover sure want b) p w.sources))
      go p w true = tt
      go p w false = list_by (cover sure want b) covers c p w.sources

  filled_price : (p j : ℕ) (ws : List FlowWrite) → EachWrite IsFew ws
      → write_price (filled_all sure want b p j ws) ≤ 3 * length ws
  filled_price p j [] a = omega arith
  filled_price p j (w ∷ ws) a =
      let r = filled_price (p + write_size sure want b j w) (suc j) ws a.1 in
      let x = a.0 in
      let t = top (sure None w.sources) in
      let e = length-append w.sources
      (cond (sure None w.sources) [] (list_top (cover sure want b) p w.sources)) in
      omega (arith, r, x, t, e)
    where
      top : (t : Bool) → length (cond t [] (list_top (cover sure want b) p w.sources)) ≤ 1
      top true = omega arith
      top false = top_few (cover sure want b) covers p w.sources

  -- writes are filled one by one, so there are as many as before
  pub filled_length : (p j : ℕ) (ws : List FlowWrite) → length (filled_all sure want b p j ws) ≡ length ws
  filled_length p j [] = refl
  filled_length p j (w ∷ ws) =
      let r = filled_length (p + write_size sure want b j w) (suc j) ws in omega (arith, r)

  -- numbers

  -- what the null stores of numbers cost: at most three for each store
  number_price : (p k : ℕ) → k < 32 → price (number_part sure want b p k) ≤ 3 * length (stores_of 0 b.nodes k)
  number_price p k l = go (in_mask b.mask k) refl (not (sure None (stores_of 0 b.nodes k)))
    where
      go : (m : Bool) → in_mask b.mask k ≡ m → (v : Bool)
          → price (cond (m && v) (null_store_of k (list_top (cover sure want b) (suc p) (stores_of 0 b.nodes k))
          ∷ list_nodes (cover sure want b) (suc p) (stores_of 0 b.nodes k)) []) ≤ 3 * length (stores_of 0 b.nodes k)
      go true e true = store_price (cover sure want b) covers (suc p) k (stores_of 0 b.nodes k) (stored k l e)
      go true e false = omega arith
      go false e true = omega arith
      go false e false = omega arith

  numbers_price : (m p k : ℕ) → k + m ≤ 32 → price (numbers_part sure want b p k m) ≤ 3 * stored_in 0 b.nodes k m
  numbers_price zero p k l = omega arith
  numbers_price (suc m) p k l =
      let h = number_price p k (omega (arith, l)) in
      let r = numbers_price m (p + number_size sure want b k) (suc k) (omega (arith, l)) in
      let e = price_append (number_part sure want b p k)
      (numbers_part sure want b (p + number_size sure want b k) (suc k) m) in
      omega (arith, h, r, e)

  numbers_most : (m p k : ℕ) → k + m ≤ 32 → price (numbers_part sure want b p k m) ≤ 3 * saves b.nodes
  numbers_most m p k l =
      let h = numbers_price m p k l in let s = stored_most b.nodes 0 k m in omega (arith, h, s)

  number_by : (p k : ℕ) → AreBy c (number_part sure want b p k)
  number_by p k = go (number_open sure b k)
    where
      go : (t : Bool) → AreBy c (cond t
          (null_store_of k (list_top (cover sure want b) (suc p) (stores_of 0 b.nodes k))
          ∷ list_nodes (cover sure want b) (suc p) (stores_of 0 b.nodes k)) [])
      go true = (unguarded c, list_by (cover sure want b) covers c (suc p) (stores_of 0 b.nodes k))
      go false = tt

  numbers_by : (m p k : ℕ) → AreBy c (numbers_part sure want b p k m)
  numbers_by zero p k = tt
  numbers_by (suc m) p k =
      by_append c (number_part sure want b p k)
      (numbers_part sure want b (p + number_size sure want b k) (suc k) m) (number_by p k)
      (numbers_by m (p + number_size sure want b k) (suc k))

  all_price : price (all_numbers sure want b) ≤ 3 * saves b.nodes
  unfolding all_numbers
  all_price = numbers_most 32 (numbers_at sure want b) 0 (omega arith)

  all_by : AreBy c (all_numbers sure want b)
  unfolding all_numbers
  all_by = numbers_by 32 (numbers_at sure want b) 0

  -- all of it

  no_price : (ns : List FlowNode) → ns ≡ [] → price ns ≡ 0
  no_price ns e = ap price e

  no_by : (ns : List FlowNode) → ns ≡ [] → AreBy c ns
  no_by ns e = subst (AreBy c) (sym e) tt

  added_price : price (added sure want b) ≤ 10 + 3 * length b.writes + 3 * saves b.nodes
  added_price =
      let one = guards_price true (trues sure want b) in
      let two = guards_price false (falses sure want b) in
      let three = no_price (lefts_region sure want b) lefts_none in
      let four = no_price (rights_region sure want b) rights_none in
      let five = writes_price (writes_at sure want b) 0 b.writes few in
      let six = all_price in
      let a = price_append (trues_region sure want b) (falses_region sure want b ++ (lefts_region sure want b
      ++ (rights_region sure want b ++ (writes_region sure want b ++ all_numbers sure want b)))) in
      let d = price_append (falses_region sure want b) (lefts_region sure want b
      ++ (rights_region sure want b ++ (writes_region sure want b ++ all_numbers sure want b))) in
      let e = price_append (lefts_region sure want b) (rights_region sure want b
      ++ (writes_region sure want b ++ all_numbers sure want b)) in
      let f = price_append (rights_region sure want b) (writes_region sure want b ++ all_numbers sure want b) in
      let g = price_append (writes_region sure want b) (all_numbers sure want b) in
      total _ _ _ _ _ _ _ _ _ _ _ _ _ one two three four five six a d e f g
    where
      total : (w v one two three four five six s1 s2 s3 s4 s5 : ℕ) → one ≤ 5 → two ≤ 5 → three ≡ 0 → four ≡ 0
          → five ≤ 3 * w → six ≤ 3 * v → s1 ≡ one + s2 → s2 ≡ two + s3 → s3 ≡ three + s4 → s4 ≡ four + s5
          → s5 ≡ five + six → s1 ≤ 10 + 3 * w + 3 * v
      total w v one two three four five six s1 s2 s3 s4 s5 a b c d e f g h i j k =
          omega (arith, a, b, c, d, e, f, g, h, i, j, k)

  added_by : AreBy c (added sure want b)
  added_by =
      by_append c (trues_region sure want b) _ (guards_by true (trues sure want b))
      (by_append c (falses_region sure want b) _ (guards_by false (falses sure want b))
      (by_append c (lefts_region sure want b) _ (no_by (lefts_region sure want b) lefts_none)
      (by_append c (rights_region sure want b) _ (no_by (rights_region sure want b) rights_none)
      (by_append c (writes_region sure want b) _ (writes_by (writes_at sure want b) 0 b.writes)
      all_by))))

  -- node c gives each guard of the completed block, too
  pub completed_by : AreBy c (completed sure want b).nodes
  completed_by = by_append c b.nodes (added sure want b) guards added_by

  -- what is added is no constant
  added_op : (o : Op) → IsAddedOp o → form_of o ≡ form.Constant → ⊥
  added_op op.Null a e = absurd (cc)
  added_op op.Mov a e = absurd (cc)
  added_op op.And a e = absurd (cc)
  added_op op.Sb a e = absurd (cc)
  added_op _ a e = absurd a

  added_used : (l : List FlowNode) (j : ℕ) (ns : List FlowNode) → AllAdded ns → AreUsed l j ns
  added_used l j [] a = tt
  added_used l j (n ∷ ns) a =
      let x = a.0 in ((λ e. absurd (added_op n.op x.op e)), added_used l (suc j) ns a.1)

  feeding : (f : FlowBlock) (j : ℕ) (ms : List FlowNode) → AreUsed f.nodes j ms → Feeding f j ms
  feeding f j [] a = tt
  feeding f j (n ∷ ms) a = (
    (λ e.
        let h = (a.0) e in
        let s = length-append (nodes_kinds (Node j) f.nodes) (writes_kinds (Node j) f.writes) in
        omega (arith, h, s)),
    feeding f (suc j) ms a.1,
  )

  -- where each constant of the block is used, this bounds the instructions
  pub completed_insts : Different b.reads → AreUsed b.nodes 0 b.nodes
      → count_insts (completed sure want b) ≤ price b.nodes + 3 * saves b.nodes + (10 + 6 * length b.writes)
  completed_insts d used =
      let f = completed sure want b in
      let all = b.nodes ++ added sure want b in
      let x : count_insts f ≤ price all + write_price (filled_all sure want b (writes_at sure want b) 0 b.writes) =
      few_insts f d (feeding f 0 all
      (used_append all 0 b.nodes (added sure want b)
      (used_grow b.nodes all (λ s. let h = uses_append s b.nodes (added sure want b) in omega (arith, h)) 0 b.nodes
      used)
      (added_used all (0 + length b.nodes) (added sure want b) (all_added sure want b)))) in
      let p = price_append b.nodes (added sure want b) in
      let q = added_price in
      let w = filled_price (writes_at sure want b) 0 b.writes few in
      omega (arith, x, p, q, w)
