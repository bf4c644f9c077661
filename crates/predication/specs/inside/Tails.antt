-- The nodes of a block's end: each exit is a branch under its scope.
use Rattle.std.specs.Prelude.{ℕ, suc, ◌+◌, ◌-◌, ◌/◌, ◌%◌, ◌^◌, nat_lt, cond, pos, true, false, List}
use Rattle.std.specs.Prelude.{[], ◌∷◌, ◌++◌, length}
use Rattle.trips_isa.specs.declared.op.Op.{Op}
use Rattle.trips_isa.specs.declared.op.Op.TheVariants.{Genu, App, Bro, Callo, Ret, Scall}
use Rattle.ir_forms.specs.declared.hyper.Source.TheVariants.{Reg}
use Rattle.ir_forms.specs.declared.hyper.Exit.{Exit}
use Rattle.ir_forms.specs.declared.hyper.Exit.TheVariants as exit
use Rattle.ir_forms.specs.declared.flow.FlowSource.{FlowSource}
use Rattle.ir_forms.specs.declared.flow.FlowSource.TheVariants.{Node}
use Rattle.ir_forms.specs.declared.flow.FlowNode.{FlowNode}
use Rattle.ir_forms.specs.inside.HyperCode.{Tail, Leave, Test, Block}
use Rattle.ir_forms.specs.inside.HyperRuns.{Layout}
use Rattle.hyper_narrow.specs.inside.NarrowedCode.{Narrowed}
use Rattle.predication.specs.inside.Environments.{Scope, Env, Bits, no_bits, under, put, from_node, distinct}
use Rattle.predication.specs.inside.Operands.{Chain, Got, constant_of, mov_of, operand, tested}
use Rattle.predication.specs.inside.Ifs.{Joined, join}

-- ADDRESSES OF BLOCKS

-- addresses have 32 bits, in two halves of 16
abbrev pub address_end : ℕ
address_end = 2 ^ 32

-- halves are below it
abbrev pub half_end : ℕ
half_end = 65536

-- The upper half of the address of a block to come back to. Where blocks are not laid out yet, a
-- number from 2^32 on is 2^32 and a label: its halves are held as 65,536 and the label, which no
-- field holds.
abbrev pub high_half : ℕ → ℕ
high_half w = cond (nat_lt w address_end) (w / half_end) (half_end + (w - address_end))

-- the lower half, held as 65,536 and the label where blocks are not laid out
abbrev pub low_half : ℕ → ℕ
low_half w = cond (nat_lt w address_end) (w % half_end) (half_end + (w - address_end))

-- an exit, with another number for the block to come back to
abbrev pub exit_with : (ℕ → ℕ) → Exit → Exit
exit_with f (exit.Jump l) = exit.Jump l
exit_with f (exit.Call l back) = exit.Call l (f back)
exit_with f exit.Return = exit.Return
exit_with f (exit.System l) = exit.System l

-- an end, in each of its exits
abbrev pub tail_with : (ℕ → ℕ) → Tail → Tail
tail_with f (Leave e) = Leave (exit_with f e)
tail_with f (Test t one other) = Test t (tail_with f one) (tail_with f other)

-- a block, in each exit of its end
abbrev pub block_with : (ℕ → ℕ) → Block → Block
block_with f b = record { items = b.items; tail = tail_with f b.tail }

-- a block whose labels to come back to are addresses, where the layout puts them
abbrev pub addressed_block : Layout → Block → Block
addressed_block at b = block_with at.address b

-- a block that holds its labels until the blocks are laid out
abbrev pub labelled_block : Block → Block
labelled_block b = block_with (λ l. address_end + l) b

-- the same of narrowed blocks, which the same registers outlast
abbrev pub addressed : Layout → Narrowed → Narrowed
addressed at c = record { block = addressed_block at c.block; lasting = c.lasting }

abbrev pub labelled : Narrowed → Narrowed
labelled c = record { block = labelled_block c.block; lasting = c.lasting }

-- EXITS

-- exit number e; where it names a block, w is its label
abbrev pub branch_of : Op → ℕ → ℕ → Scope → List FlowSource → FlowNode
branch_of o w e g l = record { op = o; imm = pos w; number = e; guard = g; left = l; right = [] }

-- a call sets register 2
abbrev pub exit_touched : Exit → List ℕ
exit_touched (exit.Call l back) = 2 ∷ []
exit_touched _ = []

-- the registers that exits set on some path
abbrev pub tail_touched : Tail → List ℕ
tail_touched (Leave e) = exit_touched e
tail_touched (Test t one other) = tail_touched one ++ tail_touched other

-- the nodes of an end, the entries after it, and the next number of an exit
pub record Ending : Type 0 where
  pub nodes : List FlowNode
  -- where each register's word comes from behind the end
  pub env : Env
  pub number : ℕ

-- the address of the block to come back to: always `genu` and `app`
abbrev pub address_nodes : ℕ → ℕ → List FlowNode
address_nodes j w =
    constant_of Genu (high_half w) [] ∷ constant_of App (low_half w) (Node j ∷ []) ∷ []

-- one exit: a call puts the address of the block to come back to into register 2
abbrev pub leaving : Scope → ℕ → ℕ → Env → Exit → Ending
leaving g j e env (exit.Jump l) =
    record { nodes = branch_of Bro l e g [] ∷ []; env = env; number = suc e }
leaving g j e env (exit.Call l back) = record {
  nodes = address_nodes j back
      ++ (mov_of g (Node (suc j) ∷ []) ∷ branch_of Callo l e g [] ∷ []);
  env = put env 2 (from_node (suc (suc j)));
  number = suc e;
}
leaving g j e env exit.Return =
    let x : Got = operand j env (Reg 2) in
    record { nodes = x.nodes ++ (branch_of Ret 0 e g x.sources ∷ []); env = env; number = suc e }
leaving g j e env (exit.System l) =
    record { nodes = branch_of Scall 0 e g [] ∷ []; env = env; number = suc e }

-- g is the scope, j the next node, e the next exit
abbrev pub tail : Scope → ℕ → ℕ → Env → Bits → Tail → Ending
tail g j e env bits (Leave x) = leaving g j e env x
tail g j e env bits (Test t one other) =
    let x : Chain = tested g j env bits t in
    let i : ℕ = j + length x.nodes in
    let y : Ending = tail (under x.last true) i e env no_bits one in
    let n : Ending = tail (under x.last false) (i + length y.nodes) y.number env no_bits other in
    let c : Joined = join x.last (i + length y.nodes + length n.nodes) env y.env n.env
    (tail_touched one) (tail_touched other) (distinct (tail_touched one ++ tail_touched other)) in
    record {
      nodes = x.nodes ++ (y.nodes ++ (n.nodes ++ c.nodes));
      env = c.env;
      number = n.number;
    }
