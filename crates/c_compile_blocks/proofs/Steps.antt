-- One item under the scope of a block of one test, and the test itself.
use Rattle.std.proofs.Common.{◌≡◌, ℕ, suc, ◌+◌, ◌≤◌, Bool, true, false, List, [], ◌∷◌, ◌++◌, length, refl, arith}
use Rattle.std.proofs.Common.{length-append}
use Rattle.std.specs.Prelude.{Option, Some, None, pos}
use Rattle.trips_isa.specs.declared.op.Op.{Op}
use Rattle.trips_isa.specs.declared.op.Op.TheVariants as op
use Rattle.trips_isa.specs.declared.form.Form.TheVariants as form
use Rattle.trips_isa.specs.Forms.{form_of, role_of, takes_right}
use Rattle.ir_forms.specs.declared.hyper.Source.{Source}
use Rattle.ir_forms.specs.declared.hyper.Source.TheVariants.{Const, Reg}
use Rattle.ir_forms.specs.declared.flow.FlowNode.{FlowNode}
use Rattle.predication.specs.inside.Environments.{Scope, Env, Bits}
use Rattle.predication.specs.inside.Operands.{Chain, Got, node_of, test_of, operand, second, fresh_test, test_by}
use Rattle.predication.specs.inside.Operands.{tested}
use Rattle.c_compile_blocks.proofs.Pieces.{AreBits, Names}
use Rattle.c_compile_blocks.proofs.Supplies.{AreAt, at_front, at_back}
use Rattle.c_compile_blocks.proofs.OneGuard.{IsGuardBy, unguarded, IsHeld, held_none, held_group, held_behind}
use Rattle.c_compile_blocks.proofs.Entries.{IsUnder, IsChoice, IsKnown, choice_later, known_later}
use Rattle.c_compile_blocks.proofs.Served.{none_served, operand_served, second_served}

-- THE NODES OF AN ITEM

-- the second operand, where it is taken
abbrev pub behind_first : Bool → ℕ → Env → Source → Source → Got
behind_first t j env a b = second t (j + length (operand j env a).nodes) env b

-- where the item's own node stands
abbrev pub own_place : Bool → ℕ → Env → Source → Source → ℕ
own_place t j env a b = j + length (operand j env a).nodes + length (behind_first t j env a b).nodes

-- that node
abbrev pub own_node : Scope → Op → ℕ → Bool → ℕ → Env → Source → Source → FlowNode
own_node g o n t j env a b = node_of o n g (operand j env a).sources (behind_first t j env a b).sources

-- all of them, and what stands behind them
abbrev pub item_nodes : Scope → Op → ℕ → Bool → ℕ → Env → Source → Source → List FlowNode → List FlowNode
item_nodes g o n t j env a b rest =
    (operand j env a).nodes ++ ((behind_first t j env a b).nodes ++ own_node g o n t j env a b ∷ rest)

-- the nodes of an item and of the rest are those up to the item's own, and the rest
pub item_size : (g : Scope) (o : Op) (n : ℕ) (t : Bool) (j : ℕ) (env : Env) (a b : Source) (rest : List FlowNode)
    → suc (own_place t j env a b) + length rest ≡ j + length (item_nodes g o n t j env a b rest)
item_size g o n t j env a b rest =
    let u = length-append (operand j env a).nodes
    ((behind_first t j env a b).nodes ++ own_node g o n t j env a b ∷ rest) in
    let v = length-append (behind_first t j env a b).nodes (own_node g o n t j env a b ∷ rest) in
    omega (arith, u, v)

-- the place behind an item's own node is not before the item
pub item_from : (t : Bool) (j : ℕ) (env : Env) (a b : Source) → j ≤ suc (own_place t j env a b)
item_from t j env a b = omega arith

module _ (all : List FlowNode) (g : Scope) (o : Op) (n : ℕ) (t : Bool) (j : ℕ) (env : Env) (a b : Source)
    (rest : List FlowNode) (at : AreAt all j (item_nodes g o n t j env a b rest)) where
  at_second : AreAt all (j + length (operand j env a).nodes)
      ((behind_first t j env a b).nodes ++ own_node g o n t j env a b ∷ rest)
  at_second =
      at_back all j (operand j env a).nodes
      ((behind_first t j env a b).nodes ++ own_node g o n t j env a b ∷ rest) at

  -- from an item's own place on stand its own node and the rest
  pub at_own : AreAt all (own_place t j env a b) (own_node g o n t j env a b ∷ rest)
  at_own =
      at_back all (j + length (operand j env a).nodes) (behind_first t j env a b).nodes
      (own_node g o n t j env a b ∷ rest) at_second

  -- behind an item's own place stands the rest
  pub at_rest : AreAt all (suc (own_place t j env a b)) rest
  at_rest = let h = at_own in h.1

  -- an item's own node stands under the scope
  pub own_under : IsUnder all (suc (own_place t j env a b)) g (own_place t j env a b)
  own_under = let h = at_own in (own_node g o n t j env a b, h.0, refl, omega arith)

  -- an item costs at most 15
  pub step_held : (P : ℕ → Type 0) (c : ℕ) (m : Bool) (k : ℕ) → IsGuardBy c g
      → (takes_right (role_of o) ≡ true → t ≡ true) → (form_of o ≡ form.Constant → ⊥) → Names P a → Names P b
      → ((q : ℕ) → IsKnown all c m j g (env q)) → IsHeld P all c (suc (own_place t j env a b)) rest k
      → IsHeld P all c j (item_nodes g o n t j env a b rest) (15 + k)
  step_held P c m k guard right plain p q known h =
      let x = operand j env a in
      let y = behind_first t j env a b in
      held_behind P all c j x.nodes y.nodes (own_node g o n t j env a b) rest 15 k
      (held_group P all c j x.nodes y.nodes x.sources y.sources 5 5 t o (pos 0) n g
      (operand_served P all c m g j env a p known
      (at_front all j x.nodes (y.nodes ++ own_node g o n t j env a b ∷ rest) at))
      (second_served P all c t m g (j + length x.nodes) env b q
      (λ r. known_at m (j + length x.nodes) (omega arith) known r)
      (at_front all (j + length x.nodes) y.nodes (own_node g o n t j env a b ∷ rest) at_second)) right plain guard) h
    where
      known_at : (m : Bool) (i : ℕ) → j ≤ i → ((q : ℕ) → IsKnown all c m j g (env q)) → (q : ℕ)
          → IsKnown all c m i g (env q)
      known_at m i l f q = known_later all c m j i g (env q) l (f q)

-- TESTS

-- the nodes of a test that stands outside of legs, and the node that gives its bit
module _ (P : ℕ → Type 0) (all : List FlowNode) (c : ℕ) where
  -- the nodes of a test that stands outside of legs, and the node that gives its bit
  pub record IsTest (j : ℕ) (x : Chain) : Type 0 where
    pub held : IsHeld P all c j x.nodes 10
    pub choice : IsChoice all (j + length x.nodes) None x.last

  fresh_is : (m : Bool) (j : ℕ) (env : Env) (a : Source) → Names P a
      → ((q : ℕ) → IsKnown all c m j None (env q)) → AreAt all j (fresh_test None j (operand j env a)).nodes
      → IsTest j (fresh_test None j (operand j env a))
  fresh_is m j env a p known at =
      let x = operand j env a in
      let n = test_of None x.sources in
      let own = at_back all j x.nodes (n ∷ []) at in
      let size = length-append x.nodes (n ∷ []) in
      record {
        held = held_group P all c j x.nodes [] x.sources [] 5 0 false op.Tnei (pos 0) 0 None
            (operand_served P all c m None j env a p known (at_front all j x.nodes (n ∷ []) at))
            (none_served P all c None (j + length x.nodes) 0) (λ e. absurd (cc)) (λ e. absurd (cc)) (unguarded c);
        choice = (n, own.0, refl, refl, omega (arith, size));
      }

  test_by_is : (m : Bool) (j : ℕ) (env : Env) (r : ℕ) (b : Option ℕ) → P r
      → ((q : ℕ) → IsKnown all c m j None (env q)) → ((k : ℕ) → b ≡ Some k → IsChoice all j None k)
      → AreAt all j (test_by None j env r b).nodes → IsTest j (test_by None j env r b)
  test_by_is m j env r (Some k) p known f at = record {
    held = held_none P all c j 10;
    choice = choice_later all j (j + 0) None k (omega arith) (f k refl);
  }
  test_by_is m j env r None p known f at = fresh_is m j env (Reg r) p known at

  -- the nodes of a test outside of legs cost at most ten, and its last may choose
  pub tested_is : (m : Bool) (j : ℕ) (env : Env) (bits : Bits) (a : Source) → Names P a
      → ((q : ℕ) → IsKnown all c m j None (env q)) → AreBits (IsChoice all j None) bits
      → AreAt all j (tested None j env bits a).nodes → IsTest j (tested None j env bits a)
  tested_is m j env bits (Const w) p known f at = fresh_is m j env (Const w) p known at
  tested_is m j env bits (Reg r) p known f at = test_by_is m j env r (bits r) p known (f r) at
