-- Where the word of each register comes from at a place of a block, and under which scope its nodes
-- fire.
use Rattle.std.specs.Prelude.{ℕ, Bool, true, false, cond, nat_eq, List, [], ◌∷◌, ◌++◌, Option, Some}
use Rattle.std.specs.Prelude.{None}
use Rattle.trips_isa.specs.declared.block.Sense.{Sense}
use Rattle.trips_isa.specs.declared.block.Sense.TheVariants.{OnTrue, OnFalse}
use Rattle.ir_forms.specs.declared.flow.FlowSource.TheVariants.{Node}
use Rattle.ir_forms.specs.declared.flow.Guard.{Guard}
-- Where the word of a register comes from: exactly one of the sources that are given is there, or one
-- of the scopes is met under which the register is kept, as the block found it.
pub use Rattle.predication.specs.declared.work.Entry.{Entry}

-- SCOPES

-- where a node fires: always, or as the low bit of another node's word says
abbrev pub Scope : Type 0
Scope = Option Guard

-- the sense of a leg: the first is taken where the bit is 1
abbrev pub sense_on : Bool → Sense
sense_on true = OnTrue
sense_on false = OnFalse

-- the scope of a leg of the test whose bit node j gives
abbrev pub under : ℕ → Bool → Scope
under j s = Some (record { node = j; sense = sense_on s })

-- ENVIRONMENTS

-- the entry of each register
abbrev pub Env : Type 0
Env = ℕ → Entry

-- register r has an entry of its own, all others stay
abbrev pub put : Env → ℕ → Entry → Env
put env r e q = cond (nat_eq q r) e (env q)

-- one node gives the register's word, wherever the scope is met
abbrev pub from_node : ℕ → Entry
from_node j = record { given = Node j ∷ []; kept = [] }

-- each register is as the block found it
abbrev pub at_start : Env
at_start r = record { given = []; kept = None ∷ [] }

-- the sources and the scopes of two legs, of which one is taken
abbrev pub both : Entry → Entry → Entry
both a b = record { given = a.given ++ b.given; kept = a.kept ++ b.kept }

-- BITS

-- Of each register the node of this scope whose word it has, where that is a test operation's: its
-- low bit is the word. A node of an outer scope also fires where the leg is not taken.
abbrev pub Bits : Type 0
Bits = ℕ → Option ℕ

-- no register has a bit, as at the start of a leg
abbrev pub no_bits : Bits
no_bits r = None

-- register r has a bit or none, all others stay
abbrev pub note : Bits → ℕ → Option ℕ → Bits
note bits r b q = cond (nat_eq q r) b (bits q)

-- some registers have no bit, all others stay
abbrev pub left_bits : Bits → List ℕ → Bits
left_bits bits [] = bits
left_bits bits (r ∷ rs) = left_bits (note bits r None) rs

-- SETS OF REGISTERS

-- whether a register is among some
abbrev pub member : ℕ → List ℕ → Bool
member r [] = false
member r (q ∷ qs) = cond (nat_eq r q) true (member r qs)

-- registers, each where it stands last
abbrev pub distinct : List ℕ → List ℕ
distinct [] = []
distinct (r ∷ rs) = cond (member r rs) (distinct rs) (r ∷ distinct rs)
