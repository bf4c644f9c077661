-- What flow blocks do: each node pulls from the sources that it names, by the rule of a block's
-- instructions.
use Rattle.std.specs.Prelude.{◌≡◌, ℕ, suc, ◌+◌, Bool, cond, nat_eq, List, [], ◌∷◌, ◌++◌, Option}
use Rattle.std.specs.Prelude.{Some, None, slice_index}
use Rattle.trips_isa.specs.declared.form.Form.{Form}
use Rattle.trips_isa.specs.declared.form.Form.TheVariants.{Load, Store, Branch}
use Rattle.trips_isa.specs.declared.block.Token.{Token}
use Rattle.trips_isa.specs.declared.block.Token.TheVariants.{Null, Word}
use Rattle.trips_isa.specs.declared.block.Sense.{Sense}
use Rattle.trips_isa.specs.declared.block.Sense.TheVariants.{Always}
use Rattle.trips_isa.specs.declared.block.Inst.{Inst}
use Rattle.trips_isa.specs.declared.block.Stored.{Stored}
use Rattle.trips_isa.specs.Forms.{form_of, role_of, size_of}
use Rattle.trips_isa.specs.Rule.{Answer, matched, rule}
use Rattle.trips_isa.specs.Tables.{or_else}
use Rattle.trips_isa.specs.Blocks.{form_computes}
use Rattle.trips_isa.specs.Stores.{address_of, stored_of, bytes_seen, store_all, listed_below}
use Rattle.ir_forms.specs.declared.flow.FlowSource.{FlowSource}
use Rattle.ir_forms.specs.declared.flow.FlowSource.TheVariants.{Read, Node}
use Rattle.ir_forms.specs.declared.flow.Guard.{Guard}
use Rattle.ir_forms.specs.declared.flow.FlowNode.{FlowNode}
use Rattle.ir_forms.specs.declared.flow.FlowWrite.{FlowWrite}
use Rattle.ir_forms.specs.declared.flow.FlowBlock.{FlowBlock}
use Rattle.trips_isa.specs.Faults.{divides}
use Rattle.trips_isa.specs.inside.Acts.{Act, Divided, Accessed}

-- TOKENS

-- what a source gives, where the registers are so and node j gives h j
abbrev pub got : (ℕ → ℕ) → (ℕ → Answer) → FlowSource → Answer
got regs h (Read r) = Some (Word (regs r))
got regs h (Node j) = h j

-- the first that gives a token
abbrev pub first : (ℕ → ℕ) → (ℕ → Answer) → List FlowSource → Answer
first regs h [] = None
first regs h (s ∷ rest) = or_else (got regs h s) (first regs h rest)

-- the sense in which a node takes its predicate; one without a guard always fires
abbrev pub sense_of : Option Guard → Sense
sense_of None = Always
sense_of (Some g) = g.sense

-- the token at a node's predicate: that of its guard's node
abbrev pub guard_token : (ℕ → Answer) → Option Guard → Answer
guard_token h None = None
guard_token h (Some g) = h g.node

-- a node as an instruction that names no consumers
abbrev pub inst_of : FlowNode → Inst
inst_of n = record {
  op = n.op;
  sense = sense_of n.guard;
  imm = n.imm;
  number = n.number;
  first = None;
  second = None;
}

-- what a node gives, where `a` computes its word of its operands' words
abbrev pub gives : (ℕ → ℕ) → (ℕ → Answer) → (ℕ → ℕ → ℕ) → FlowNode → Answer
gives regs h a n =
    rule (role_of n.op) (sense_of n.guard) a (first regs h n.left) (first regs h n.right)
    (guard_token h n.guard)

-- whether a node fires by its guard alone
abbrev pub met : (ℕ → Answer) → Option Guard → Bool
met h g = matched (sense_of g) (guard_token h g)

-- What each node computes of its operands' words. On a path that is any function; in a start it is
-- what the operation means.
abbrev pub Computes : Type 0
Computes = ℕ → FlowNode → ℕ → ℕ → ℕ

-- h has the tokens of the nodes from number j on, and agrees with itself
abbrev pub Obeys : (ℕ → ℕ) → Computes → (ℕ → Answer) → ℕ → List FlowNode → Type 0
Obeys regs f h j [] = Unit {0}
Obeys regs f h j (n ∷ rest) = (h j ≡ gives regs h (f j n) n) × Obeys regs f h (suc j) rest

-- STORES

-- what a store does where it fires: a null operand and a bad address make a null store
abbrev pub stored_where : Bool → (ℕ → ℕ) → (ℕ → Answer) → FlowNode → Option Stored
stored_where met regs h n =
    cond met (stored_of (inst_of n) (first regs h n.left) (first regs h n.right)) None

-- what a node stores under number k: something only where it is a store of that number and fires
abbrev pub stored_in : Form → (ℕ → ℕ) → (ℕ → Answer) → FlowNode → ℕ → Option Stored
stored_in Store regs h n k = cond (nat_eq n.number k) (stored_where (met h n.guard) regs h n) None
stored_in _ regs h n k = None

-- the store of number k: the first that fires
abbrev pub stores : (ℕ → ℕ) → (ℕ → Answer) → List FlowNode → ℕ → Option Stored
stores regs h [] k = None
stores regs h (n ∷ rest) k = or_else (stored_in (form_of n.op) regs h n k) (stores regs h rest k)

-- in a start each byte of a load comes from the store of greatest lower number that covers it, else
-- from memory
abbrev pub meant : (ℕ → Option Stored) → List ℕ → Computes
meant st mem j n =
    form_computes (form_of n.op) (inst_of n) (λ a. bytes_seen st (slice_index mem) n.number a (size_of n.op))

-- PATHS AND STARTS

-- h is the table of a path: a word for each register and for each node that fires, whatever they
-- are
abbrev pub OnPath : (ℕ → ℕ) → Computes → (ℕ → Answer) → FlowBlock → Type 0
OnPath regs f h b = Obeys regs f h 0 b.nodes

-- h is the table of a start
abbrev pub AtStart : (ℕ → ℕ) → List ℕ → (ℕ → Answer) → FlowBlock → Type 0
AtStart regs mem h b = Obeys regs (meant (stores regs h b.nodes) mem) h 0 b.nodes

-- WHAT A TABLE COMES TO

-- the word of a token; in the place of a null or absent one, the second
abbrev pub word_or : Answer → ℕ → ℕ
word_or None w = w
word_or (Some Null) w = w
word_or (Some (Word v)) w = v

-- the registers after the block; a null write changes nothing
abbrev pub written : (ℕ → ℕ) → (ℕ → Answer) → List FlowWrite → ℕ → ℕ
written regs h [] r = regs r
written regs h (w ∷ rest) r =
    cond (nat_eq r w.register) (word_or (first regs h w.sources) (regs r)) (written regs h rest r)

-- the memory after the block, whose store numbers are below 32
unfoldable pub stored_all : (ℕ → ℕ) → (ℕ → Answer) → List FlowNode → List ℕ → List ℕ
stored_all regs h nodes mem = store_all mem (listed_below (stores regs h nodes) 32)

-- the branch that a node takes, with its token, where it is a branch and fires
abbrev pub leaving_in : Form → FlowNode → Answer → List (Inst × Token)
leaving_in Branch n (Some t) = (inst_of n, t) ∷ []
leaving_in _ n t = []

-- the exits that are taken, with their tokens
abbrev pub exits : (ℕ → Answer) → ℕ → List FlowNode → List (Inst × Token)
exits h j [] = []
exits h j (n ∷ rest) = leaving_in (form_of n.op) n (h j) ++ exits h (suc j) rest

-- what a node does that can fault, by its operands' words
abbrev pub act_words : Form → FlowNode → ℕ → ℕ → List Act
act_words Load n l r = Accessed (address_of (inst_of n) l) (size_of n.op) ∷ []
act_words Store n l r = Accessed (address_of (inst_of n) l) (size_of n.op) ∷ []
act_words _ n l r = cond (divides n.op) (Divided r ∷ []) []

-- a load has one operand
abbrev pub act_tokens : Form → FlowNode → Answer → Answer → List Act
act_tokens Load n (Some (Word l)) r = act_words Load n l 0
act_tokens form n (Some (Word l)) (Some (Word r)) = act_words form n l r
act_tokens form n l r = []

-- the nodes that fire and can fault, in order
abbrev pub fired : (ℕ → ℕ) → (ℕ → Answer) → List FlowNode → List Act
fired regs h [] = []
fired regs h (n ∷ rest) =
    cond (met h n.guard) (act_tokens (form_of n.op) n (first regs h n.left) (first regs h n.right))
    []
    ++ fired regs h rest

-- COUNTS

-- one token, a null one too, or none
abbrev pub present : Answer → ℕ
present None = 0
present (Some t) = 1

-- how many tokens come from sources
abbrev pub count : (ℕ → ℕ) → (ℕ → Answer) → List FlowSource → ℕ
count regs h [] = 0
count regs h (s ∷ rest) = present (got regs h s) + count regs h rest

-- how many tokens one node gives store number k
abbrev pub numbered : Form → FlowNode → Answer → ℕ → ℕ
numbered Store n t k = cond (nat_eq n.number k) (present t) 0
numbered _ n t k = 0

-- how many tokens the store number k gets
abbrev pub tokens : (ℕ → Answer) → ℕ → List FlowNode → ℕ → ℕ
tokens h j [] k = 0
tokens h j (n ∷ rest) k = numbered (form_of n.op) n (h j) k + tokens h (suc j) rest k
