-- What the emitters add, and what their tables of names stand for.
use Rattle.std.specs.Prelude.{◌≡◌, ℕ, suc, ◌+◌, ◌%◌, ℤ, List, [], ◌∷◌, ◌++◌, map, Option, Some, None}
use Rattle.std.specs.Prelude.{cond, nat_eq, true, false, length}
use Rattle.trips_isa.specs.declared.op.Op.{Op}
use Rattle.trips_isa.specs.declared.op.Op.TheVariants.{App}
use Rattle.ir_forms.specs.declared.flow.FlowSource.{FlowSource}
use Rattle.ir_forms.specs.declared.flow.FlowSource.TheVariants.{Node}
use Rattle.ir_forms.specs.declared.flow.FlowNode.{FlowNode}
use Rattle.predication.specs.declared.work.Work.{Work}
use Rattle.predication.specs.declared.work.Named.{Named}
use Rattle.predication.specs.declared.work.Names.{Names}
use Rattle.predication.specs.declared.work.Noted.{Noted}
use Rattle.predication.specs.inside.Operands.{constant_of}
use Rattle.predication.specs.inside.Environments.{Scope, Entry, Env, Bits, put, note, at_start, no_bits}
use Rattle.predication.specs.inside.Environments.{under, both, member}
use Rattle.predication.specs.inside.Ifs.{Part, Joined, join, side_of}

-- NODES

-- a node of these parts
abbrev pub node : Op → ℤ → ℕ → Scope → List FlowSource → List FlowSource → FlowNode
node o i m g l r = record { op = o; imm = i; number = m; guard = g; left = l; right = r }

-- a node with its number in the field's width
abbrev pub low : FlowNode → FlowNode
low n = record n { number = n.number % 256 }

-- more nodes, and nothing else
abbrev pub Adds : Work → Work → List FlowNode → Type 0
Adds before after more = after ≡ record before { nodes = before.nodes ++ map low more }

-- one `app` after the nodes of the upper bits, the last of which is given
abbrev pub appended : ℕ → ℕ → List FlowNode
appended w upper = constant_of App (w % 65536) (Node upper ∷ []) ∷ []

-- ENTRIES

-- entries put one after another, those at the front last
abbrev pub puts : List Named → Env → Env
puts [] env = env
puts (n ∷ ns) env = put (puts ns env) n.register n.entry

-- the entry of each register: the first that is named, or as the block found it
abbrev pub env_of : List Named → Env
env_of ns = puts ns at_start

-- where a register is named first, the places being counted from a number on
abbrev pub place_from : ℕ → ℕ → List Named → Option ℕ
place_from at r [] = None
place_from at r (n ∷ ns) = cond (nat_eq n.register r) (Some at) (place_from (suc at) r ns)

-- BITS

-- the bit of each register: the first that is noted, or none
abbrev pub bits_of : List Noted → Bits
bits_of [] = no_bits
bits_of (n ∷ ns) = note (bits_of ns) n.register n.bit

-- where a register is noted first
abbrev pub noted_from : ℕ → ℕ → List Noted → Option ℕ
noted_from at r [] = None
noted_from at r (n ∷ ns) = cond (nat_eq n.register r) (Some at) (noted_from (suc at) r ns)

-- THE END OF AN IF

-- a register after one leg
abbrev pub leg_part : Scope → ℕ → List Named → Names → ℕ → Part
leg_part g j before leg r =
    side_of (member r leg.sets) g j r (env_of before r) (env_of leg.entries r)

-- the nodes of one register at the end of an if
abbrev pub both_nodes : ℕ → ℕ → List Named → Names → Names → ℕ → List FlowNode
both_nodes t j before one other r =
    (leg_part (under t true) j before one r).nodes
    ++ (leg_part (under t false) (j + length (leg_part (under t true) j before one r).nodes) before
    other r).nodes

-- its entry there
abbrev pub both_entry : ℕ → ℕ → List Named → Names → Names → ℕ → Entry
both_entry t j before one other r =
    both (leg_part (under t true) j before one r).entry
    (leg_part (under t false) (j + length (leg_part (under t true) j before one r).nodes) before
    other r).entry

-- some registers at the end of an if
abbrev pub joined_at : ℕ → ℕ → List Named → Names → Names → List ℕ → Joined
joined_at t j before one other rs =
    join t j (env_of before) (env_of one.entries) (env_of other.entries) one.sets other.sets rs
