-- Hyper programs whose self loops do several turns in one block.
use Rattle.std.specs.Prelude.{ℕ, zero, suc, ◌-◌, Bool, true, false, cond, not, ◌&&◌, ◌||◌, nat_eq, nat_lt, List}
use Rattle.std.specs.Prelude.{[], ◌∷◌, Option, Some, None}
use Rattle.trips_isa.specs.declared.op.Op.TheVariants.{Mov}
use Rattle.ir_forms.specs.declared.hyper.Source.{Source}
use Rattle.ir_forms.specs.declared.hyper.Source.TheVariants.{Const, Reg}
use Rattle.ir_forms.specs.declared.hyper.Exit.{Exit}
use Rattle.ir_forms.specs.declared.hyper.Exit.TheVariants as exit
-- the test of a self loop, and which of its legs jumps back; it leaves by the other
pub use Rattle.loop_unroll.specs.declared.loops.Loop.{Loop}
use Rattle.ir_forms.specs.inside.HyperCode.{Items, Done, Set, Load, Save, If, Tail, Leave, Test, Block}

-- ITEMS

-- items, and then others
abbrev pub before : Items → Items → Items
before Done k = k
before (Set to op a b rest) k = Set to op a b (before rest k)
before (Load to op a rest) k = Load to op a (before rest k)
before (Save op a v rest) k = Save op a v (before rest k)
before (If t one other rest) k = If t one other (before rest k)

-- items that are done where a test leads that way: where its word is not 0, or where it is 0
abbrev pub leg : Bool → Source → Items → Items
leg true t is = If t is Done Done
leg false t is = If t Done is Done

-- whether items set a register
abbrev pub sets : ℕ → Items → Bool
sets r Done = false
sets r (Set to op a b rest) = nat_eq r to || sets r rest
sets r (Load to op a rest) = nat_eq r to || sets r rest
sets r (Save op a v rest) = sets r rest
sets r (If t one other rest) = sets r one || (sets r other || sets r rest)

-- whether no item follows
abbrev pub is_last : Items → Bool
is_last Done = true
is_last _ = false

-- whether an if tests the register of a test, and neither of its legs sets it
abbrev pub keeps_test : Source → Source → Items → Items → Bool
keeps_test (Const w) u one other = false
keeps_test (Reg r) (Const w) one other = false
keeps_test (Reg r) (Reg s) one other = nat_eq r s && (not (sets r one) && not (sets r other))

-- an if, with more items at the end of the leg that is done where the test leads that way
abbrev pub in_leg : Bool → Source → Items → Items → Items → Items
in_leg true u one other k = If u (before one k) other Done
in_leg false u one other k = If u one (before other k) Done

-- Items, and more where a test behind them leads that way. Where the last of them is an if by that test, which stands
-- behind it as it stood before it, the others go to the end of its leg.
abbrev pub and_more : Bool → Source → Items → Items → Items
and_more way t Done k = leg way t k
and_more way t (Set to op a b rest) k = Set to op a b (and_more way t rest k)
and_more way t (Load to op a rest) k = Load to op a (and_more way t rest k)
and_more way t (Save op a v rest) k = Save op a v (and_more way t rest k)
and_more way t (If u one other rest) k =
    cond (is_last rest && keeps_test t u one other) (in_leg way u one other k)
    (If u one other (and_more way t rest k))

-- A turn, and at most n more, each where the test behind the one before it leads on. Each test stands where the turn
-- before left it, in the loop's own register.
abbrev pub turns : Bool → Source → Items → ℕ → Items
turns way t is zero = is
turns way t is (suc n) = and_more way t is (turns way t is n)

-- TURNS THAT HOLD

-- registers below r that items set, each set to itself, before others
abbrev pub holding : Items → ℕ → Items → Items
holding is zero k = k
holding is (suc r) k =
    cond (sets r is) (Set r Mov (Reg r) (Const 0) (holding is r k)) (holding is r k)

-- before others, each register that items set is set to itself; not an `abbrev`, since the numeral unrolls the
-- recursion in each goal
unfoldable pub held : Items → Items → Items
held is k = holding is 128 k

-- A turn and more, before which each register that a turn sets is set to itself: so the block has a word for it
-- wherever its turns end.
abbrev pub held_turns : Bool → Source → Items → ℕ → Items
held_turns way t is zero = is
held_turns way t is (suc n) = held is (turns way t is (suc n))

-- LOOPS

-- whether an exit jumps to block k
abbrev pub jumps_to : ℕ → Exit → Bool
jumps_to k (exit.Jump l) = nat_eq l k
jumps_to k _ = false

-- a loop, where one leg alone jumps back
abbrev pub loop_by : Source → Bool → Bool → Option Loop
loop_by t true true = None
loop_by t true false = Some (record { test = t; way = true })
loop_by t false true = Some (record { test = t; way = false })
loop_by t false false = None

-- Whether block k with such an end is a self loop: its tail is one test with one leg that jumps to the block itself
-- and one leg that leaves by another exit.
abbrev pub loop_between : ℕ → Source → Tail → Tail → Option Loop
loop_between k t (Leave x) (Leave y) = loop_by t (jumps_to k x) (jumps_to k y)
loop_between k t (Leave x) (Test u one other) = None
loop_between k t (Test u one other) y = None

-- by its whole end
abbrev pub loop_of : ℕ → Tail → Option Loop
loop_of k (Leave e) = None
loop_of k (Test t one other) = loop_between k t one other

-- PROGRAMS

-- a block, of which a self loop does n turns more than one; its end stays
abbrev pub unrolled_by : Option Loop → ℕ → Block → Block
unrolled_by None n b = b
unrolled_by (Some x) n b = record { items = held_turns x.way x.test b.items n; tail = b.tail }

-- how many turns more than one an entry asks for: 0 is read as 1, and what is above 8 as 8
abbrev pub more_turns : ℕ → ℕ
more_turns t = cond (nat_lt t 8) (t - 1) 7

-- entry k belongs to block k; a missing one is read as 1
abbrev pub asked : List ℕ → ℕ → ℕ
asked [] k = 0
asked (t ∷ ts) zero = more_turns t
asked (t ∷ ts) (suc k) = asked ts k

-- blocks, the first of which has the number k
abbrev pub unrolled_from : ℕ → (ℕ → ℕ) → List Block → List Block
unrolled_from k more [] = []
unrolled_from k more (b ∷ bs) =
    unrolled_by (loop_of k b.tail) (more k) b ∷ unrolled_from (suc k) more bs

-- each self loop of a program with the turns that its entry asks for; other blocks stay
abbrev pub unrolled : List ℕ → List Block → List Block
unrolled times P = unrolled_from 0 (asked times) P
