-- A moved block is good where the block is.
use Rattle.std.proofs.Common.{◌≡◌, ℕ, suc, ◌+◌, ◌-◌, ◌<◌, ◌≤◌, ◌⊎◌, inl, inr, Bool, true, false}
use Rattle.std.proofs.Common.{◌&&◌, ◌||◌, List, [], ◌∷◌, map, length, Option}
use Rattle.std.proofs.Common.{refl, sym, ap, ap₂, subst, ◌∙◌, arith, nat_lt, ltb-true}
use Rattle.std.proofs.Common.{ltb-false, le_trans}
use Rattle.std.specs.Prelude.{nat_le}
use Rattle.std.proofs.lemmas.Bool.Decides.{nat_tests}
use Rattle.std.proofs.lemmas.List.{length-map, length-append}
use Rattle.trips_isa.specs.declared.node.Node.{Node}
use Rattle.trips_isa.specs.declared.block.Inst.{Inst}
use Rattle.trips_isa.specs.declared.block.Block.{Block}
use Rattle.trips_isa.specs.declared.block.Sense.TheVariants.{Always}
use Rattle.trips_isa.specs.declared.form.Role.TheVariants.{Reading}
use Rattle.trips_isa.specs.Fits.{FitsBlock}
use Rattle.trips_isa.specs.Places.{read_node, inst_nodes, nodes_of}
use Rattle.trips_isa.specs.Blocks.{is_read, slot_at, inst_at}
use Rattle.block_cases.specs.Blocks.{wanted_of, in_mask}
use Rattle.block_cases.specs.Cases.{cases, GetsTwo, GetsNone}
use Rattle.block_cases.specs.Good.{Good, GoodBlock}
use Rattle.block_cases.proofs.Placed.{nodes_placed}
use Rattle.block_cases.proofs.Nodes.{slot_got}
use Rattle.grid_place.specs.Moves.{Permutes}
use Rattle.grid_place.specs.inside.Moves.{IsMoved}
use Rattle.grid_place.proofs.Renaming.{place_goes, place_stays, place_back, place_low}
use Rattle.grid_place.proofs.MovedNodes.{Standing, standing, node_goes, as_many, read_is, slot_is}
use Rattle.grid_place.proofs.MovedNodes.{slot_low}
use Rattle.grid_place.proofs.Edges.{ranked_acyclic}
use Rattle.grid_place.proofs.Alike.{moved_ranked}
use Rattle.grid_place.proofs.Choosing.{IsPlain, as_few, two_back, none_back}

inst_count : (is : List (Option Inst)) (j : ℕ) → length (inst_nodes j is) ≡ length is
inst_count [] j = refl
inst_count (i ∷ is) j = ap suc (inst_count is (suc j))

node_count : (b : Block) → length (nodes_of b) ≡ length b.reads.items + length b.insts.items
node_count b = length-append (map read_node b.reads.items) (inst_nodes 0 b.insts.items)
    ∙ ap₂ (λ m n. m + n) (length-map b.reads.items read_node) (inst_count b.insts.items 0)

plain_nodes : (b : Block) → FitsBlock b → IsPlain (nodes_of b)
plain_nodes b f x n i = by (is_read b x) refl
  where
    by : (v : Bool) → is_read b x ≡ v
        → (n.slot < 128) ⊎ ((n.role ≡ Reading) × (n.sense ≡ Always))
    by true e = let r = read_is b x n e i in
        inr (ap (λ (m : Node). m.role) r.1, ap (λ (m : Node). m.sense) r.1)
    by false e =
        let l : slot_at b x < 128 = slot_low b f x n e i in
        let s : n.slot ≡ slot_at b x = ap (λ (m : Node). m.slot) (slot_got b x n e i)
        ∙ slot_is (slot_at b x) (inst_at b x) in
        inl (subst (λ k. k < 128) (sym s) l)

-- writes and numbers stand above the slots
wanted_high : (b : Block) (q : ℕ) → wanted_of b q ≡ true → 384 ≤ q
wanted_high b q e = by (nat_lt q 384) refl
  where
    low : q < 384 → wanted_of b q ≡ false
    low l = let x : nat_le 384 q ≡ false = grind (arith, nat_tests) in
        let y : nat_le 416 q ≡ false = grind (arith, nat_tests) in
        ap₂ (λ u v. (u && nat_lt q (384 + length b.writes.items))
        || (v && (nat_lt q 448 && in_mask b.mask (q - 416)))) x y

    by : (v : Bool) → nat_lt q 384 ≡ v → 384 ≤ q
    by true k = absurd (let h = low (ltb-true q 384 k) in cc)
    by false k = ltb-false q 384 k

module _ (p q : ℕ → ℕ) (b c : Block) (fits : FitsBlock b) (good : GoodBlock b) (m : Permutes p q)
    (w : IsMoved p b c) where
  stand : Standing (nodes_of b) (nodes_of c) (place_goes p) (node_goes p b) (node_goes q c)
  stand = standing p q b c fits m w

  size : length (nodes_of c) ≡ length (nodes_of b)
  size =
      let m = node_count b in
      let n = node_count c in
      let r = as_many p q b c fits m' w in
      let s : length c.insts.items ≡ 128 = w.size in
      let t : length b.insts.items ≡ 128 = fits.insts in
      omega (arith, m, n, r, s, t)
    where
      m' : Permutes p q
      m' = m

  two : (r : ℕ) → GetsTwo (nodes_of c) (place_goes p r) → GetsTwo (nodes_of b) r
  two = two_back (nodes_of b) (nodes_of c) (place_goes p) (node_goes p b) (node_goes q c) stand
      good.ranked (nodes_placed b fits) (plain_nodes b fits) (wanted_of b) good.good size

  none : (r : ℕ) → GetsNone (nodes_of c) (place_goes p r) → GetsNone (nodes_of b) r
  none = none_back (nodes_of b) (nodes_of c) (place_goes p) (node_goes p b) (node_goes q c) stand
      good.ranked (nodes_placed b fits) (plain_nodes b fits) (wanted_of b) good.good size

  back : Permutes q p
  back = record { there = m.back; back = m.there; returns = m.returned; returned = m.returns }

  comes_from : (r : ℕ) → place_goes p (place_goes q r) ≡ r
  comes_from r = place_back q p back r

  below : (r : ℕ) → r < 448 → place_goes q r < 448
  below r l = by (nat_lt r 384) refl
    where
      by : (v : Bool) → nat_lt r 384 ≡ v → place_goes q r < 448
      by true e = let h = place_low q m.back r (ltb-true r 384 e) in omega (arith, h)
      by false e = let h = place_stays q r (ltb-false r 384 e) in omega (arith, h, l)

  wanted_same : (r : ℕ) → wanted_of c r ≡ wanted_of b r
  wanted_same r = ap₂ (λ (n k : ℕ). (nat_le 384 r && nat_lt r (384 + n))
      || (nat_le 416 r && (nat_lt r 448 && in_mask k (r - 416)))) (ap length w.writes) w.mask

  -- the nodes of a moved block are good where the block is
  pub good_nodes : Good (nodes_of c) (wanted_of c)
  good_nodes = record {
    acyclic = ranked_acyclic (nodes_of c) (moved_ranked p q b c fits good m w);
    few =
        (let n : cases (nodes_of c) ≤ cases (nodes_of b) = as_few (nodes_of b) (nodes_of c)
        (place_goes p) (node_goes p b) (node_goes q c) stand good.ranked (nodes_placed b fits)
        (plain_nodes b fits) (wanted_of b) good.good size in
        let k : cases (nodes_of b) ≤ 256 = (good.good).few in
        le_trans n k);
    no_two = λ r l g. (good.good).no_two (place_goes q r) (below r l)
        (two (place_goes q r) (subst (GetsTwo (nodes_of c)) (sym (comes_from r)) g));
    no_gap = λ r l e g.
        (let e' : wanted_of b r ≡ true = sym (wanted_same r) ∙ e in
        (good.good).no_gap r l e'
        (none r (subst (GetsNone (nodes_of c)) (sym (place_stays p r (wanted_high b r e'))) g)));
    exit = λ g. (good.good).exit
        (none 448 (subst (GetsNone (nodes_of c)) (sym (place_stays p 448 (omega arith))) g));
    one_exit = λ g. (good.good).one_exit
        (two 448 (subst (GetsTwo (nodes_of c)) (sym (place_stays p 448 (omega arith))) g));
  }
