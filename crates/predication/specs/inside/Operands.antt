-- The nodes of operands and tests, from a node's number on, and the sources that they come to.
use Rattle.std.specs.Prelude.{ℕ, zero, suc, ◌+◌, ◌/◌, ◌%◌, pos, Bool, true, false, cond, nat_lt, List, []}
use Rattle.std.specs.Prelude.{◌∷◌, ◌++◌, length, Option, Some, None}
use Rattle.trips_isa.specs.declared.op.Op.{Op}
use Rattle.trips_isa.specs.declared.op.Op.TheVariants.{Teq, Tne, Tlt, Tle, Tgt, Tge, Tltu, Tleu}
use Rattle.trips_isa.specs.declared.op.Op.TheVariants.{Tgtu, Tgeu, Mov, Tnei, Genu, App}
use Rattle.ir_forms.specs.declared.hyper.Source.{Source}
use Rattle.ir_forms.specs.declared.hyper.Source.TheVariants.{Const, Reg}
use Rattle.ir_forms.specs.declared.flow.FlowSource.{FlowSource}
use Rattle.ir_forms.specs.declared.flow.FlowSource.TheVariants.{Read, Node}
use Rattle.ir_forms.specs.declared.flow.FlowNode.{FlowNode}
use Rattle.predication.specs.inside.Environments.{Scope, Env, Bits}

-- NODES

-- a node with no immediate; m is the number of a load or a store
abbrev pub node_of : Op → ℕ → Scope → List FlowSource → List FlowSource → FlowNode
node_of o m g l r = record { op = o; imm = pos 0; number = m; guard = g; left = l; right = r }

-- a node with a constant, which carries no guard
abbrev pub constant_of : Op → ℕ → List FlowSource → FlowNode
constant_of o w l = record { op = o; imm = pos w; number = 0; guard = None; left = l; right = [] }

-- the word of an operand, where the scope is met
abbrev pub mov_of : Scope → List FlowSource → FlowNode
mov_of g l = node_of Mov 0 g l []

-- whether the word of an operand is not 0, where the scope is met
abbrev pub test_of : Scope → List FlowSource → FlowNode
test_of g l = node_of Tnei 0 g l []

-- CONSTANTS

-- nodes, and the number of the one that gives a word
pub record Chain : Type 0 where
  pub nodes : List FlowNode
  -- in the numbers of the block's nodes
  pub last : ℕ

-- one `app` after the nodes of the upper bits, unless the word has 16 bits
abbrev pub longer : Bool → ℕ → ℕ → Chain → Chain
longer true j w c = record { nodes = constant_of Genu w [] ∷ []; last = j }
longer false j w c = record {
  nodes = c.nodes ++ (constant_of App (w % 65536) (Node c.last ∷ []) ∷ []);
  last = j + length c.nodes;
}

-- `genu` and then at most d times `app`, from node j on
abbrev pub chain : ℕ → ℕ → ℕ → Chain
chain zero j w = record { nodes = constant_of Genu w [] ∷ []; last = j }
chain (suc d) j w = longer (nat_lt w 65536) j w (chain d j (w / 65536))

-- how often `app` follows in a constant of 64 bits
abbrev pub most_apps : ℕ
most_apps = 3

-- OPERANDS

-- nodes, and the sources of an operand that they serve
pub record Got : Type 0 where
  pub nodes : List FlowNode
  pub sources : List FlowSource

-- the register's own word, under each scope
abbrev pub movs : ℕ → List Scope → List FlowNode
movs r [] = []
movs r (g ∷ gs) = mov_of g (Read r ∷ []) ∷ movs r gs

-- those nodes as sources, the first being node j
abbrev pub froms : ℕ → List Scope → List FlowSource
froms j [] = []
froms j (g ∷ gs) = Node j ∷ froms (suc j) gs

-- a register that nothing has set is read, else its old word is a further source
abbrev pub read_of : ℕ → ℕ → List FlowSource → List Scope → Got
read_of j r [] kept = record { nodes = []; sources = Read r ∷ [] }
read_of j r (s ∷ ss) kept =
    record { nodes = movs r kept; sources = (s ∷ ss) ++ froms j kept }

-- the sources of an operand, with the nodes from j on that they need
abbrev pub operand : ℕ → Env → Source → Got
operand j env (Const w) =
    record { nodes = (chain most_apps j w).nodes; sources = Node (chain most_apps j w).last ∷ [] }
operand j env (Reg r) = read_of j r (env r).given (env r).kept

-- the second operand, where the operation takes it
abbrev pub second : Bool → ℕ → Env → Source → Got
second true j env b = operand j env b
second false j env b = record { nodes = []; sources = [] }

-- TESTS

-- whether an operation's word is 0 or 1
abbrev pub is_test : Op → Bool
is_test Teq = true
is_test Tne = true
is_test Tlt = true
is_test Tle = true
is_test Tgt = true
is_test Tge = true
is_test Tltu = true
is_test Tleu = true
is_test Tgtu = true
is_test Tgeu = true
is_test _ = false

-- node k, where its word is a bit
abbrev pub bit_of : Bool → ℕ → Option ℕ
bit_of true k = Some k
bit_of false k = None

-- whether an operation's word is that of its first operand
abbrev pub is_move : Op → Bool
is_move Mov = true
is_move _ = false

-- the bit that an operand has
abbrev pub bit_at : Bits → Source → Option ℕ
bit_at bits (Const w) = None
bit_at bits (Reg r) = bits r

-- the bit of a register that node k sets: a copied word keeps its bit, else it is the node itself, where that tests
abbrev pub bit_set : Op → Bits → Source → ℕ → Option ℕ
bit_set o bits a k = cond (is_move o) (bit_at bits a) (bit_of (is_test o) k)

-- `tnei 0` of an operand
abbrev pub fresh_test : Scope → ℕ → Got → Chain
fresh_test g j x = record {
  nodes = x.nodes ++ (test_of g x.sources ∷ []);
  last = j + length x.nodes;
}

-- a register's bit where it has one, else a fresh test
abbrev pub test_by : Scope → ℕ → Env → ℕ → Option ℕ → Chain
test_by g j env r (Some k) = record { nodes = []; last = k }
test_by g j env r None = fresh_test g j (operand j env (Reg r))

-- the node whose low bit decides an if
abbrev pub tested : Scope → ℕ → Env → Bits → Source → Chain
tested g j env bits (Const w) = fresh_test g j (operand j env (Const w))
tested g j env bits (Reg r) = test_by g j env r (bits r)
