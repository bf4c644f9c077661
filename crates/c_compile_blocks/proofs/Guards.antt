-- A targeted block all of whose guards are one node, no mov, has one chooser at most, so two cases.
use Rattle.std.proofs.Common.{◌≡◌, ◌≢◌, ℕ, zero, suc, ◌+◌, ◌-◌, ◌^◌, ◌<◌, ◌≤◌, Bool, true, false, ◌||◌, ◌&&◌}
use Rattle.std.proofs.Common.{List, [], ◌∷◌, length, Option, Some, None, ◌⊎◌, inl, inr, slice_get}
use Rattle.std.proofs.Common.{refl, sym, ap, subst, ◌∙◌, arith, ◌==◌, nat_le, nat_lt}
use Rattle.std.specs.List.{All}
use Rattle.std.proofs.lemmas.Bool.{cases_lt}
use Rattle.std.proofs.lemmas.Bool.Decides.{nat_tests}
use Rattle.trips_isa.specs.declared.node.Node.{Node as NodeOf}
use Rattle.trips_isa.specs.declared.block.Block.{Block}
use Rattle.trips_isa.specs.Forms.{role_of}
use Rattle.trips_isa.specs.Places.{read_node, inst_node, nodes_of, targets, names}
use Rattle.block_cases.specs.Choosers.{is_copy, names_predicate, through, leads_from, leads}
use Rattle.block_cases.specs.CaseRule.{no}
use Rattle.block_cases.specs.Choosers.{is_chooser}
use Rattle.block_cases.specs.Cases.{cases, deepest}
use Rattle.block_cases.proofs.Alike.{and_true, or_true, passes}
use Rattle.ir_forms.specs.declared.flow.FlowSource.{FlowSource}
use Rattle.ir_forms.specs.declared.flow.FlowSource.TheVariants.{Node}
use Rattle.ir_forms.specs.declared.flow.Guard.{Guard}
use Rattle.ir_forms.specs.declared.flow.FlowNode.{FlowNode}
use Rattle.ir_forms.specs.declared.flow.FlowBlock.{FlowBlock}
use Rattle.fan_out.specs.inside.Wires.{guard_sources}
use Rattle.fan_out.specs.declared.wiring.Placed.{Placed}
use Rattle.fan_out.specs.inside.Targeted.{IsTargeted}
use Rattle.fan_out.proofs.Totals.{Given, owners, all_movs, targeted_nodes, got_below, nodes_low}
use Rattle.fan_out.proofs.Totals.{wired_guard, wired_mov, nodes_are}
use Rattle.fan_out.proofs.TargetedNodes.{Stands, a_read, a_node, a_mov, empty, nothing, stands, is_mov}
use Rattle.fan_out.proofs.Ranks.{owner_among}
use Rattle.fan_out.proofs.Owners.{zero_at, has_owner, nobody}
use Rattle.null_outputs.proofs.Covers.{within}
use Rattle.c_compile_blocks.specs.inside.Choosers.{choosers}
use Rattle.c_compile_blocks.proofs.Choosing.{few_cases, one_passes}

-- a list of one
one_only : (P : FlowSource → Type 0) (s : FlowSource) → P s → All P (s ∷ [])
one_only P s p zero y l = p
one_only P s p (suc i) y l = absurd (omega (arith, l))

none_of : (P : FlowSource → Type 0) → All P []
none_of P i y l = absurd (omega (arith, l))

-- where a predicate is named
pub record NamesGuard (ts : List ℕ) : Type 0 where
  pub place : ℕ
  pub low : 256 ≤ place
  pub high : place < 384
  pub named : names ts place ≡ true

or_right : (a b : Bool) → b ≡ true → (a || b) ≡ true
or_right true b e = refl
or_right false b e = e

or_left : (a b : Bool) → a ≡ true → (a || b) ≡ true
or_left a b e = rw e refl

predicate_named : (ts : List ℕ) → names_predicate ts ≡ true → NamesGuard ts
predicate_named [] e = absurd (cc)
predicate_named (t ∷ ts) e =
    go (or_true (nat_le 256 t && nat_lt t 384) (names_predicate ts) e) (λ d. predicate_named ts d)
  where
    go : ((nat_le 256 t && nat_lt t 384) ≡ true) ⊎ (names_predicate ts ≡ true)
        → (names_predicate ts ≡ true → NamesGuard ts) → NamesGuard (t ∷ ts)
    go (inl x) f =
        let h = and_true (nat_le 256 t) (nat_lt t 384) x in
        let a = h.0 in
        let b = h.1 in
        let same : (t == t) ≡ true = grind (arith, nat_tests) in
        record {
          place = t;
          low = grind (arith, nat_tests);
          high = grind (arith, nat_tests);
          named = or_left (t == t) (names ts t) same;
        }
    go (inr x) f =
        let h = f x in
        record {
          place = h.place;
          low = h.low;
          high = h.high;
          named = or_right (t == h.place) (names ts h.place) h.named;
        }

two_most : (k : ℕ) → k ≤ 1 → 2 ^ k ≤ 2
two_most zero l = omega arith
two_most (suc zero) l = omega arith
two_most (suc (suc k)) l = absurd (omega (arith, l))

module _ (f : FlowBlock) (g : Given f) (c : ℕ)
    (only : (j : ℕ) (n : FlowNode) (d : Guard) → slice_get f.nodes j ≡ Some n → n.guard ≡ Some d → d.node ≡ c)
    (no_mov : (n : FlowNode) → slice_get f.nodes c ≡ Some n → is_copy (role_of n.op) ≡ false) where
  abbrev ns : List NodeOf
  ns = targeted_nodes f

  guards_are : (j : ℕ) (n : FlowNode) → slice_get f.nodes j ≡ Some n
      → All (λ s. s ≡ Node c) (guard_sources n.guard)
  guards_are j n e = go n.guard refl
    where
      go : (o : Option Guard) → n.guard ≡ o → All (λ s. s ≡ Node c) (guard_sources o)
      go None z = none_of (λ s. s ≡ Node c)
      go (Some d) z = one_only (λ s. s ≡ Node c) (Node d.node) (ap Node (only j n d e z))

  -- what names a predicate passes on the token of the guards' node
  by_guard : (x q : ℕ) (m : NodeOf) → slice_get ns x ≡ Some m → 256 ≤ q → q < 384
      → names (targets m) q ≡ true → slice_get (owners f) x ≡ Some (Node c)
  by_guard x q m e low high t = go (cases_lt (q - 256) (length f.nodes))
    where
      bounded : q ≢ 700
      bounded z = absurd (omega (arith, z, high))

      go : (q - 256 < length f.nodes) ⊎ (length f.nodes ≤ q - 256) → slice_get (owners f) x ≡ Some (Node c)
      go (inl l) =
          let w = within f.nodes (q - 256) l in
          let h = has_owner f g x q m bounded e t in
          let at : q ≡ 256 + (q - 256) = omega (arith, low) in
          let own = owner_among (λ s. s ≡ Node c) ns (owners f) (256 + (q - 256)) x m h.owner (guard_sources
          (w.0).guard)
          (wired_guard f g (q - 256) w.0 w.1) (guards_are (q - 256) w.0 w.1) e h.is
          (subst (λ (p : ℕ). names (targets m) p ≡ true) at t) in
          h.is ∙ ap (λ (s : FlowSource). Some s) own
      go (inr l) =
          let size = nodes_low f g in
          absurd (nobody f g x q m bounded
          (zero_at f g q high
          (λ k a b. (
            (λ z. absurd (omega (arith, z, low, b, size))),
            (λ z. absurd (omega (
              arith,
              z,
              low,
              b,
              size,
            ))),
            (λ z. absurd (omega (arith, z, low, b, l))),
          ))
          (omega (arith, low, size))) e t)

  -- what names the operand of a mov passes on what the mov passes on
  by_mov : (x : ℕ) (m : NodeOf) → slice_get ns x ≡ Some m → (y : ℕ) (k : NodeOf) (n : Option NodeOf)
      (o : Option FlowSource) → Stands f y n o → n ≡ Some k → o ≡ Some (Node c) → is_copy k.role ≡ true
      → names (targets m) k.slot ≡ true → slice_get (owners f) x ≡ Some (Node c)
  by_mov x m e y k n o (a_read s r d) z w u t =
      let same : read_node s ≡ k = cc in
      absurd (let v : is_copy (read_node s).role ≡ true = ap (λ (a : NodeOf). is_copy a.role) same ∙ u in cc)
  by_mov x m e y k n o (a_node j p d s i) z w u t =
      let same : inst_node j (Some p.inst) ≡ k = cc in
      let owner : p.owner ≡ Node c = cc in
      let at : Node j ≡ Node c = ap (λ (a : Placed). a.owner) (sym i.is) ∙ owner in
      let here : j ≡ c = number at in
      let still = no_mov i.node (ap (slice_get f.nodes) (sym here) ∙ i.got) in
      let role_is : is_copy (role_of (i.node).op) ≡ true =
      ap (λ (a : Placed). is_copy (role_of a.inst.op)) (sym i.is) ∙ (ap (λ (a : NodeOf). is_copy a.role) same ∙ u) in
      absurd (let v = sym still ∙ role_is in cc)
    where
      number : {a b : ℕ} → Node a ≡ Node b → a ≡ b
      number h = cc
  by_mov x m e y k n o (a_mov j p d s i) z w u t =
      let same : inst_node j (Some p.inst) ≡ k = cc in
      let owner : p.owner ≡ Node c = cc in
      let slot : names (targets m) j ≡ true = ap (λ (a : NodeOf). names (targets m) a.slot) same ∙ t in
      let size = nodes_low f g in
      let below = got_below (all_movs f) i.at p i.got in
      let place = i.place in
      let h = has_owner f g x j m (λ v. absurd (omega (arith, v, size, below, place))) e slot in
      let own = owner_among (λ v. v ≡ p.owner) ns (owners f) (length f.nodes + i.at) x m h.owner (p.owner ∷ [])
      (wired_mov f g i.at p i.got) (one_only (λ v. v ≡ p.owner) p.owner refl) e h.is
      (subst (λ (q : ℕ). names (targets m) q ≡ true) place slot) in
      h.is ∙ ap (λ (v : FlowSource). Some v) (own ∙ owner)
  by_mov x m e y k n o (empty j a b) z w u t = absurd (cc)
  by_mov x m e y k n o nothing z w u t = absurd (cc)

  -- what leads to a predicate passes on the token of the guards' node
  lead : (k x : ℕ) → leads ns k x ≡ true → slice_get (owners f) x ≡ Some (Node c)
  lead zero x e = absurd (cc)
  lead (suc k) x e = go (slice_get ns x) refl e (λ y d. lead k y d)
    where
      go : (o : Option NodeOf) → slice_get ns x ≡ o → leads_from ns o (leads ns k) ≡ true
          → ((y : ℕ) → leads ns k y ≡ true → slice_get (owners f) y ≡ Some (Node c))
          → slice_get (owners f) x ≡ Some (Node c)
      go None i d r = absurd (cc)
      go (Some m) i d r = by (or_true (names_predicate (targets m)) (through ns (targets m) (leads ns k)) d)
        where
          by : (names_predicate (targets m) ≡ true) ⊎ (through ns (targets m) (leads ns k) ≡ true)
              → slice_get (owners f) x ≡ Some (Node c)
          by (inl p) = let h = predicate_named (targets m) p in by_guard x h.place m i h.low h.high h.named
          by (inr p) =
              let w = passes ns (targets m) (leads ns k) p in
              by_mov x m i w.at w.node (slice_get ns w.at) (slice_get (owners f) w.at) (stands f w.at) w.is_node
              (r w.at w.leads_on) w.copies w.named

  -- so it is that node, or a mov
  stands_at : (x : ℕ) (m : NodeOf) (n : Option NodeOf) (o : Option FlowSource) → Stands f x n o → n ≡ Some m
      → o ≡ Some (Node c) → no (is_copy m.role) ≡ true → x ≡ length f.reads + c
  stands_at x m n o (a_read s r d) z w u = absurd (cc)
  stands_at x m n o (a_node j p d s i) z w u =
      let owner : p.owner ≡ Node c = cc in
      let at : Node j ≡ Node c = ap (λ (a : Placed). a.owner) (sym i.is) ∙ owner in
      let here : j ≡ c = number at in
      omega (arith, d, here)
    where
      number : {a b : ℕ} → Node a ≡ Node b → a ≡ b
      number h = cc
  stands_at x m n o (a_mov j p d s i) z w u =
      let same : inst_node j (Some p.inst) ≡ m = cc in
      let v = is_mov f i.at p i.got in
      let copy : is_copy (role_of p.inst.op) ≡ true = ap (λ (a : Placed). is_copy (role_of a.inst.op)) v.is in
      let role_is : no (is_copy (role_of p.inst.op)) ≡ true = ap (λ (a : NodeOf). no (is_copy a.role)) same ∙ u in
      absurd (let y = sym (ap no copy) ∙ role_is in cc)
  stands_at x m n o (empty j a b) z w u = absurd (cc)
  stands_at x m n o nothing z w u = absurd (cc)

  chooser_at : (x : ℕ) → is_chooser ns x (slice_get ns x) ≡ true → x ≡ length f.reads + c
  chooser_at x e = go (slice_get ns x) refl e
    where
      go : (o : Option NodeOf) → slice_get ns x ≡ o → is_chooser ns x o ≡ true → x ≡ length f.reads + c
      go None i d = absurd (cc)
      go (Some m) i d =
          let h = and_true (no (is_copy m.role)) (leads ns deepest x) d in
          stands_at x m (slice_get ns x) (slice_get (owners f) x) (stands f x) i (lead deepest x h.1) h.0

  -- a targeted block whose guards are all one node has at most two cases
  pub two_cases : (t : Block) → IsTargeted f t → cases (nodes_of t) ≤ 2
  two_cases t is =
      subst (λ (l : List NodeOf). cases l ≤ 2) (sym (nodes_are f t is))
      (let a = few_cases ns in
      let b = one_passes (length ns) (length f.reads + c) (λ x. is_chooser ns x (slice_get ns x)) chooser_at in
      let d = two_most (choosers ns) b in
      omega (arith, a, d))
