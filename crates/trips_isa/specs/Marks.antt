-- Marks, pulled beside any fixed table of tokens, and the cause of a block (docs/MACHINE.md,
-- "Exceptions"). Source: an exception is taken at the block's boundary, TRIPS Processor Reference
-- Manual, UT Austin TR-05-19. Own: that the least mark of all outputs counts, and what null hides.
use Rattle.std.specs.Prelude.{ℕ, zero, suc, ◌+◌, cond, min, List, []}
use Rattle.std.specs.Prelude.{◌∷◌, ◌++◌, length, Option, Some, None, slice_get}
use Rattle.trips_isa.specs.declared.block.Block.{Block}
use Rattle.trips_isa.specs.declared.node.Node.{Node}
use Rattle.trips_isa.specs.Forms.{takes_left, takes_right}
use Rattle.trips_isa.specs.Rule.{Answer}
use Rattle.trips_isa.specs.PlaceNumbers.{first_write, first_store, exit_place}
use Rattle.trips_isa.specs.Places.{nodes_of, in_mask}
use Rattle.trips_isa.specs.Tables.{first, deepest}
use Rattle.trips_isa.specs.Blocks.{at_place}
use Rattle.trips_isa.specs.TrapCauses.{no_mark}
use Rattle.trips_isa.specs.Faults.{node_fault}
use Rattle.trips_isa.specs.declared.operands.Operands.{Operands}
use Rattle.trips_isa.specs.declared.operands.Operands.TheVariants.{Missing, Nulls, Words}
use Rattle.trips_isa.specs.Operands.{operands, is_guarded}

-- the least of two marks other than none, or none
abbrev pub least : ℕ → ℕ → ℕ
least zero n = n
least (suc m) zero = suc m
least (suc m) (suc n) = suc (min m n)

-- the mark of a token at an operand, where `own` says the own fault of the operands' words: with a
-- null operand the marks of the null operands and the predicate's, else those of all operands, the
-- predicate's and the own fault
abbrev pub mark_by : (ℕ → ℕ → ℕ) → Operands → ℕ → ℕ → ℕ → ℕ
mark_by own Missing ml mr mp = no_mark
mark_by own (Nulls a b) ml mr mp = least mp (least (cond a ml no_mark) (cond b mr no_mark))
mark_by own (Words l r) ml mr mp = least mp (least ml (least mr (own l r)))

-- a mark stands beside a token
abbrev pub beside : Answer → ℕ → Option ℕ
beside None m = None
beside (Some t) m = Some m

-- where nothing stands there is no mark
abbrev pub or_unmarked : Option ℕ → ℕ
or_unmarked None = no_mark
or_unmarked (Some m) = m

-- the mark at place q: of the first producer that gives a token, else none
abbrev pub mark_at : List Node → (ℕ → Answer) → (ℕ → ℕ) → ℕ → ℕ
mark_at ns g m q = or_unmarked (first ns q (λ y. beside (g y) (m y)))

-- the mark of a node that gives a token, where `pull` and `marks` say what stands at its places; an
-- operand or a predicate that it does not take has no mark
abbrev pub fired_mark : Node → (ℕ → ℕ → ℕ) → (ℕ → Answer) → (ℕ → ℕ) → ℕ
fired_mark n own pull marks = mark_by own (operands n.role (pull n.slot) (pull (128 + n.slot)))
    (cond (takes_left n.role) (marks n.slot) no_mark)
    (cond (takes_right n.role) (marks (128 + n.slot)) no_mark)
    (cond (is_guarded n.sense) (marks (256 + n.slot)) no_mark)

-- what gives no token has no mark
abbrev pub node_mark : Option Node → (ℕ → ℕ → ℕ) → (ℕ → Answer) → (ℕ → ℕ) → Answer → ℕ
node_mark None own pull marks t = no_mark
node_mark (Some n) own pull marks None = no_mark
node_mark (Some n) own pull marks (Some t) = fired_mark n own pull marks

-- the mark of node x where its producers' tokens are as g says, and their marks as m says
unfoldable pub mark_given : Block → (ℕ → Answer) → (ℕ → ℕ) → ℕ → ℕ
mark_given b g m x = node_mark (slice_get (nodes_of b) x) (node_fault b x) (at_place b g)
    (mark_at (nodes_of b) g m) (g x)

-- the mark of node x where it asks its producers at most k deep
abbrev pub mark_of : Block → (ℕ → Answer) → ℕ → ℕ → ℕ
mark_of b g zero x = no_mark
mark_of b g (suc k) x = mark_given b g (mark_of b g k) x

-- the cause ------------------------------------------------------------------------------------

-- the places of the first n writes
abbrev pub writes_to : ℕ → List ℕ
writes_to zero = []
writes_to (suc n) = writes_to n ++ (first_write + n) ∷ []

-- the places of the mask's numbers below n
abbrev pub numbers_to : ℕ → ℕ → List ℕ
numbers_to mask zero = []
numbers_to mask (suc n) = numbers_to mask n ++ cond (in_mask mask n) ((first_store + n) ∷ []) []

-- the places of the mask's numbers; not an `abbrev`, since the numeral unrolls the recursion in each
-- goal
unfoldable pub mask_places : ℕ → List ℕ
mask_places mask = numbers_to mask 32

-- the places at which a block owes an output: its declared writes, its mask's numbers and its exit
abbrev pub owed : Block → List ℕ
owed b = writes_to (length b.writes.items) ++ (mask_places b.mask ++ exit_place ∷ [])

-- the least mark over some places
abbrev pub least_at : (ℕ → ℕ) → List ℕ → ℕ
least_at f [] = no_mark
least_at f (q ∷ qs) = least (f q) (least_at f qs)

-- the cause of a block of whose nodes m says the marks, as a mark
abbrev pub cause_by : Block → (ℕ → Answer) → (ℕ → ℕ) → ℕ
cause_by b g m = least_at (mark_at (nodes_of b) g m) (owed b)

-- the cause of a block of whose nodes g says the tokens, as a mark, and no mark for none
abbrev pub cause : Block → (ℕ → Answer) → ℕ
cause b g = cause_by b g (mark_of b g deepest)
