-- The records of a block slot by slot, of lists that tell of its tokens and marks.
use Rattle.std.proofs.Common.{◌≡◌, ℕ, zero, suc, ◌+◌, ◌<◌, ◌≤◌, List, [], ◌∷◌, ◌++◌, length, drop, get_or, Option}
use Rattle.std.proofs.Common.{Some, None}
use Rattle.std.proofs.Common.{slice_get, refl, sym, ap, ap₂, subst, ◌∙◌, arith, append_assoc}
use Rattle.std.proofs.Math.Seq.{drop-cons}
use Rattle.trips_isa.specs.declared.block.Inst.{Inst}
use Rattle.trips_isa.specs.declared.block.Block.{Block}
use Rattle.trips_isa.specs.Forms.{form_of}
use Rattle.trips_isa.specs.Rule.{Answer}
use Rattle.trips_isa.specs.Tables.{deepest}
use Rattle.trips_isa.specs.Marks.{mark_of}
use Rattle.trips_isa.specs.Machine.{State}
use Rattle.block_atomic.specs.Told.{TellsSlots}
use Rattle.trips_isa.specs.Blocks.{leaving_of}
use Rattle.trips_isa.specs.Outcomes.{exit_of}
use Rattle.trace_verify.specs.Spelling.{record_bytes, Listed, slot_bytes, listed_from, listed_by, listed_bytes}
use Rattle.trace_verify.specs.Spelling.{tokens_in}
use Rattle.trace_verify.specs.Spelling.{entry_with, entry_bytes, exit_taken, exit_in, listed_of, listed_in}

-- a slot, and those behind it
pub one_slot : (g : ℕ → Answer) (m : ℕ → ℕ) (j : ℕ) (i : Option Inst) (is : List (Option Inst))
    → listed_bytes (listed_from g m j (i ∷ is)) ≡ slot_bytes i (m j) (g j) ++ listed_bytes
    (listed_from g m (suc j) is)
one_slot g m j None is = refl
one_slot g m j (Some i) is = refl

-- the slot at which a list stands, and those behind it
pub next_slot : (g : ℕ → Answer) (m : ℕ → ℕ) (j k : ℕ) (is : List (Option Inst)) → j < length is → k ≡ suc j
    → listed_bytes (listed_from g m j (drop j is))
    ≡ slot_bytes (get_or is j None) (m j) (g j) ++ listed_bytes (listed_from g m k (drop k is))
next_slot g m j k is l e =
    ap (λ (xs : List (Option Inst)). listed_bytes (listed_from g m j xs)) (drop-cons is j None l)
    ∙ one_slot g m j (get_or is j None) (drop (suc j) is)
    ∙ ap (λ (n : ℕ). slot_bytes (get_or is j None) (m j) (g j) ++ listed_bytes (listed_from g m n (drop n is)))
    (sym e)

-- what agrees on the slots lists the same
same_listed : (g h : ℕ → Answer) (m n : ℕ → ℕ) (j : ℕ) (is : List (Option Inst)) → ((i : ℕ) → g i ≡ h i)
    → ((i : ℕ) → m i ≡ n i) → listed_from g m j is ≡ listed_from h n j is
same_listed g h m n j [] e f = refl
same_listed g h m n j (None ∷ is) e f = same_listed g h m n (suc j) is e f
same_listed g h m n j (Some i ∷ is) e f =
    ap₂ (λ (b : List ℕ) (ls : List Listed). (record { slot = j; bytes = b }) ∷ ls)
    (ap₂ (λ (k : ℕ) (t : Answer). record_bytes (form_of i.op) k t) (f j) (e j))
    (same_listed g h m n (suc j) is e f)

-- lists that tell of a block's slots list its records
pub told_listed : (b : Block) (s : State) (tokens : List Answer) (marks : List ℕ) (exit : ℕ)
    → TellsSlots b s.registers s.memory tokens marks exit
    → listed_from (λ j. get_or tokens j None) (λ j. get_or marks j 0) 0 b.insts.items ≡ listed_by b (tokens_in b s)
told_listed b s tokens marks exit told =
    same_listed (λ j. get_or tokens j None) (λ j. tokens_in b s (length b.reads.items + j))
    (λ j. get_or marks j 0) (λ j. mark_of b (tokens_in b s) deepest (length b.reads.items + j)) 0 b.insts.items
    told.given told.marked

-- the entry of a step, of the block and of what its slots give
pub entry_is : (blocks : List Block) (b : Block) (s : State) (exit : ℕ) → slice_get blocks s.next ≡ Some b
    → exit ≡ exit_of (leaving_of b (tokens_in b s))
    → entry_with s.next exit (listed_by b (tokens_in b s)) ≡ entry_bytes blocks s
unfolding exit_taken listed_of
entry_is blocks b s exit here left =
    ap (λ (e : ℕ). entry_with s.next e (listed_by b (tokens_in b s))) left
    ∙ ap (λ (o : Option Block). entry_with s.next (exit_in o s) (listed_in o s)) (sym here)
