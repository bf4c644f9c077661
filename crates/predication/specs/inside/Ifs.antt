-- The nodes of items: both legs of an if stand one after the other under their scopes, and at its end
-- each register that a leg sets takes its word from both.
use Rattle.std.specs.Prelude.{ℕ, suc, ◌+◌, Bool, true, false, List, [], ◌∷◌, ◌++◌, length}
use Rattle.std.specs.Prelude.{None}
use Rattle.trips_isa.specs.Forms.{role_of, takes_right}
use Rattle.ir_forms.specs.declared.flow.FlowSource.{FlowSource}
use Rattle.ir_forms.specs.declared.flow.FlowNode.{FlowNode}
use Rattle.ir_forms.specs.inside.HyperCode.{Items, Done, Set, Load, Save, If}
use Rattle.predication.specs.inside.Environments.{Scope, Entry, Env, Bits, no_bits, left_bits, under, put, note}
use Rattle.predication.specs.inside.Environments.{from_node, both, member, distinct}
use Rattle.predication.specs.inside.Operands.{Chain, Got, node_of, mov_of, movs, froms, operand, second, bit_set}
use Rattle.predication.specs.inside.Operands.{tested}

-- THE END OF AN IF

-- nodes, and the entry that a leg leaves for a register
pub record Part : Type 0 where
  pub nodes : List FlowNode
  -- where the register's word comes from behind the leg
  pub entry : Entry

-- A register of a leg that does not set it, g being the leg's scope: it is kept there, or what was
-- given before goes through a `mov` that fires in the leg alone.
abbrev pub left_of : Scope → ℕ → ℕ → List FlowSource → List Scope → Part
left_of g j r [] kept = record { nodes = []; entry = record { given = []; kept = g ∷ [] } }
left_of g j r (s ∷ ss) kept = record {
  nodes = movs r kept ++ (mov_of g ((s ∷ ss) ++ froms j kept) ∷ []);
  entry = from_node (j + length (movs r kept));
}

-- a leg that sets the register has an entry of its own
abbrev pub side_of : Bool → Scope → ℕ → ℕ → (before mine : Entry) → Part
side_of true g j r before mine = record { nodes = []; entry = mine }
side_of false g j r before mine = left_of g j r before.given before.kept

-- the nodes of the end of an if, and the entries after it
pub record Joined : Type 0 where
  pub nodes : List FlowNode
  -- where each register's word comes from behind the if
  pub env : Env

-- t is the test's node; each register of rs takes its word from both legs, which set those of ty
-- and of tn
abbrev pub join : ℕ → ℕ → Env → Env → Env → List ℕ → List ℕ → List ℕ → Joined
join t j env yea nay ty tn [] = record { nodes = []; env = env }
join t j env yea nay ty tn (r ∷ rs) =
    let a : Part = side_of (member r ty) (under t true) j r (env r) (yea r) in
    let b : Part = side_of (member r tn) (under t false) (j + length a.nodes) r (env r) (nay r) in
    let c : Joined = join t (j + length a.nodes + length b.nodes) env yea nay ty tn rs in
    record { nodes = a.nodes ++ (b.nodes ++ c.nodes); env = put c.env r (both a.entry b.entry) }

-- ITEMS

-- the registers that items set on some path
abbrev pub touched : Items → List ℕ
touched Done = []
touched (Set r op a b rest) = r ∷ touched rest
touched (Load r op a rest) = r ∷ touched rest
touched (Save op a v rest) = touched rest
touched (If t one other rest) = (touched one ++ touched other) ++ touched rest

-- what items come to
pub record Out : Type 0 where
  pub nodes : List FlowNode
  -- where each register's word comes from behind the items
  pub env : Env
  -- the registers whose word is known to be 0 or 1
  pub bits : Bits
  -- the next number of a load or a store
  pub number : ℕ

-- g is the scope, j the next node, m the next number
abbrev pub items : Scope → ℕ → ℕ → Env → Bits → Items → Out
items g j m env bits Done = record { nodes = []; env = env; bits = bits; number = m }
items g j m env bits (Set r op a b rest) =
    let x : Got = operand j env a in
    let y : Got = second (takes_right (role_of op)) (j + length x.nodes) env b in
    let k : ℕ = j + length x.nodes + length y.nodes in
    let o : Out = items g (suc k) m (put env r (from_node k))
    (note bits r (bit_set op bits a k)) rest in
    record o { nodes = x.nodes ++ (y.nodes ++ node_of op 0 g x.sources y.sources ∷ o.nodes) }
items g j m env bits (Load r op a rest) =
    let x : Got = operand j env a in
    let k : ℕ = j + length x.nodes in
    let o : Out = items g (suc k) (suc m) (put env r (from_node k)) (note bits r None) rest in
    record o { nodes = x.nodes ++ node_of op m g x.sources [] ∷ o.nodes }
items g j m env bits (Save op a v rest) =
    let x : Got = operand j env a in
    let y : Got = operand (j + length x.nodes) env v in
    let k : ℕ = j + length x.nodes + length y.nodes in
    let o : Out = items g (suc k) (suc m) env bits rest in
    record o { nodes = x.nodes ++ (y.nodes ++ node_of op m g x.sources y.sources ∷ o.nodes) }
items g j m env bits (If t one other rest) =
    let x : Chain = tested g j env bits t in
    let i : ℕ = j + length x.nodes in
    let y : Out = items (under x.last true) i m env no_bits one in
    let n : Out = items (under x.last false) (i + length y.nodes) y.number env no_bits other in
    let c : Joined = join x.last (i + length y.nodes + length n.nodes) env y.env n.env
    (touched one) (touched other) (distinct (touched one ++ touched other)) in
    let o : Out = items g (i + length y.nodes + length n.nodes + length c.nodes) n.number c.env
    (left_bits bits (touched one ++ touched other)) rest in
    record o { nodes = x.nodes ++ (y.nodes ++ (n.nodes ++ (c.nodes ++ o.nodes))) }
