-- The tables of a block: whatever its reads and loads are answered, and in an entry state. Own: the
-- definition by pulling (docs/MACHINE.md, "The step of a block"), over the rule of firing (specs/Rule).
use Rattle.std.specs.Prelude.{ℕ, zero, suc, ◌+◌, ◌-◌, Bool, true, false, nat_lt, List, length}
use Rattle.std.specs.Prelude.{Option, Some, None, slice_get, slice_index, slice_index_or}
use Rattle.trips_isa.specs.declared.form.Form.{Form}
use Rattle.trips_isa.specs.declared.form.Form.TheVariants.{General, Immediate, Load, Store, Branch, Constant}
use Rattle.trips_isa.specs.declared.block.Token.{Token}
use Rattle.trips_isa.specs.declared.block.Inst.{Inst}
use Rattle.trips_isa.specs.declared.block.ReadSlot.{ReadSlot}
use Rattle.trips_isa.specs.declared.block.Stored.{Stored}
use Rattle.trips_isa.specs.declared.block.Block.{Block}
use Rattle.trips_isa.specs.PlaceNumbers.{first_store, exit_place}
use Rattle.trips_isa.specs.Alu.{alu_of, word}
use Rattle.trips_isa.specs.Forms.{form_of, size_of}
use Rattle.trips_isa.specs.Rule.{Answer}
use Rattle.trips_isa.specs.Places.{nodes_of}
use Rattle.trips_isa.specs.Tables.{Computes, first, node_gives}
use Rattle.trips_isa.specs.Stores.{stored_of, load_of, bytes_seen}

-- what each node is answered at each address: a read its register's word at address 0, a load the
-- number that the bytes there make
abbrev pub Responses : Type 0
Responses = ℕ → ℕ → ℕ

-- the word of an instruction, of its operands' words: a store has its value, a branch its operand
abbrev pub form_computes : Form → Inst → (ℕ → ℕ) → ℕ → ℕ → ℕ
form_computes General i answer l r = alu_of i.op l r
form_computes Immediate i answer l r = alu_of i.op l (word i.imm)
form_computes Constant i answer l r = alu_of i.op l (word i.imm)
form_computes Load i answer l r = load_of i answer l
form_computes Store i answer l r = r
form_computes Branch i answer l r = l

-- the word of what a slot holds; an empty one gives none, so its word does not matter
abbrev pub slot_computes : Option Inst → (ℕ → ℕ) → ℕ → ℕ → ℕ
slot_computes None answer l r = 0
slot_computes (Some i) answer l r = form_computes (form_of i.op) i answer l r

-- whether node x is a read, and else what its slot holds
abbrev pub is_read : Block → ℕ → Bool
is_read b x = nat_lt x (length b.reads.items)

-- the slot of node x, where it is no read
abbrev pub slot_at : Block → ℕ → ℕ
slot_at b x = x - length b.reads.items

-- what the slot of node x holds
abbrev pub inst_at : Block → ℕ → Option Inst
inst_at b x = slice_index_or b.insts.items (slot_at b x) None

-- a read computes what it is answered, a slot the word of its instruction
abbrev pub computes_if_read : Bool → Block → (ℕ → ℕ) → ℕ → ℕ → ℕ → ℕ
computes_if_read true b answer x l r = answer 0
computes_if_read false b answer x l r = slot_computes (inst_at b x) answer l r

-- what each node of a block computes where reads and loads are answered so
abbrev pub computes : Block → Responses → Computes
computes b responses x l r = computes_if_read (is_read b x) b (responses x) x l r

-- the token at a place where g says what each node gives
abbrev pub at_place : Block → (ℕ → Answer) → ℕ → Answer
at_place b g q = first (nodes_of b) q g

-- what the instruction in slot j stores where it gives a token: it is taken at its number like one
abbrev pub stored_in : Block → (ℕ → Answer) → ℕ → Option Inst → Answer → Option Stored
stored_in b g j None t = None
stored_in b g j (Some i) None = None
stored_in b g j (Some i) (Some t) = stored_of i (at_place b g j) (at_place b g (128 + j))

-- a read stores nothing
abbrev pub stored_if_read : Bool → Block → (ℕ → Answer) → ℕ → Option Stored
stored_if_read true b g x = None
stored_if_read false b g x = stored_in b g (slot_at b x) (inst_at b x) (g x)

-- what node x stores where it fires
abbrev pub stored_by : Block → (ℕ → Answer) → ℕ → Option Stored
stored_by b g x = stored_if_read (is_read b x) b g x

-- the store of number n
abbrev pub store_of : Block → (ℕ → Answer) → ℕ → Option Stored
store_of b g n = first (nodes_of b) (first_store + n) (stored_by b g)

-- a branch that fires, with its token, and none where none does
abbrev pub Leaving : Type 0
Leaving = Option (Inst × Token)

-- the instruction of a slot with the token that it gives
abbrev pub leaves_with : Option Inst → Answer → Leaving
leaves_with None t = None
leaves_with (Some i) None = None
leaves_with (Some i) (Some t) = Some (i, t)

-- a read is no branch
abbrev pub leaves_if_read : Bool → Block → (ℕ → Answer) → ℕ → Leaving
leaves_if_read true b g x = None
leaves_if_read false b g x = leaves_with (inst_at b x) (g x)

-- the branch that fires, with its token: it is taken at the exit like one
abbrev pub leaving_of : Block → (ℕ → Answer) → Leaving
leaving_of b g = first (nodes_of b) exit_place (λ x. leaves_if_read (is_read b x) b g x)

-- what a read is answered in an entry state: the word of its register
abbrev pub read_word : List ℕ → Option ReadSlot → ℕ
read_word regs None = 0
read_word regs (Some r) = slice_index regs r.register

-- what a load is answered at an address: the bytes of the stores of lower numbers over memory
abbrev pub slot_answered : (ℕ → Option Stored) → List ℕ → Option Inst → ℕ → ℕ
slot_answered stores mem None address = 0
slot_answered stores mem (Some i) address =
    bytes_seen stores (slice_index mem) i.number address (size_of i.op)

-- what node x is answered at an address, as a read or as a load
abbrev pub answered_if_read : Bool → Block → List ℕ → List ℕ → (ℕ → Answer) → ℕ → ℕ → ℕ
answered_if_read true b regs mem g x address = read_word regs (slice_get b.reads.items x)
answered_if_read false b regs mem g x address =
    slot_answered (store_of b g) mem (inst_at b x) address

-- what each node of a block is answered in an entry state
abbrev pub responses_in : Block → List ℕ → List ℕ → (ℕ → Answer) → Responses
responses_in b regs mem g x address = answered_if_read (is_read b x) b regs mem g x address

-- what node x gives where its producers, and the stores that it sees, are as g says
unfoldable pub given : Block → List ℕ → List ℕ → (ℕ → Answer) → ℕ → Answer
given b regs mem g x = node_gives (slice_get (nodes_of b) x)
    (computes b (responses_in b regs mem g) x) (at_place b g)

-- what node x gives in an entry state where it asks at most k deep
abbrev pub token_of : Block → List ℕ → List ℕ → ℕ → ℕ → Answer
token_of b regs mem zero x = None
token_of b regs mem (suc k) x = given b regs mem (token_of b regs mem k) x
