-- The lists of a settled block tell of its slots.
use Rattle.std.proofs.Common.{◌≡◌, ℕ, ◌+◌, ◌<◌, ◌≤◌, List, length, get_or, Option}
use Rattle.std.proofs.Common.{Some, None, slice_get, sym, ap, subst, ◌∙◌}
use Rattle.trips_isa.specs.declared.block.Block.{Block}
use Rattle.trips_isa.specs.Fits.{FitsBlock}
use Rattle.trips_isa.specs.Rule.{Answer}
use Rattle.trips_isa.specs.Tables.{deepest}
use Rattle.trips_isa.specs.Blocks.{token_of, Leaving, leaving_of}
use Rattle.trips_isa.specs.Marks.{mark_of}
use Rattle.trips_isa.specs.Machine.{State}
use Rattle.block_atomic.specs.inside.MarkSlots.{IsTold}
use Rattle.trips_isa.specs.Outcomes.{exit_of}
use Rattle.block_atomic.specs.inside.Slots.{table_of, placed, slots_give, left_by, IsLive, IsUsedTo}
use Rattle.block_atomic.proofs.Bridge.{leaving_is}
use Rattle.std.proofs.Math.Path.{fun_ext}
use Rattle.block_atomic.specs.Told.{TellsSlots, tells_in, TellsNext}
use Rattle.block_atomic.proofs.Telling.{told}
use Rattle.block_atomic.proofs.MarkBounds.{mark_low}

pub slots_told : (blocks : List Block) (b : Block) (s : State) (used : ℕ) (table places : List Answer) (marks : List ℕ)
    → slice_get blocks s.next ≡ Some b → FitsBlock b → used ≤ 128 → IsUsedTo b.insts.items used
    → ((x : ℕ) → table_of b s.registers table x ≡ token_of b s.registers s.memory deepest x)
    → ((q : ℕ) → IsLive used q → get_or places q None ≡ placed b s.registers table q)
    → ((g : ℕ → Answer) → IsTold b table places g → (j : ℕ)
    → get_or marks j 0 ≡ mark_of b g deepest (length b.reads.items + j)) → (branch : Leaving) (exit : ℕ)
    → branch ≡ slots_give (left_by (λ j. get_or table j None)) 0 b.insts.items → exit ≡ exit_of branch
    → TellsNext blocks s table marks exit
slots_told blocks b s used table places marks here fits few empty answers filled value branch exit leaves left =
    let all : IsTold b table places (token_of b s.registers s.memory deepest) =
    told b s.registers s.memory used table places fits few empty answers filled in
    subst (λ (o : Option Block). tells_in o s table marks exit) (sym here) (record {
      given = λ j. sym (all.slots j);
      marked = λ j. value (token_of b s.registers s.memory deepest) all j;
      left = left ∙ ap exit_of (leaves ∙ sym (leaving_is b s.registers table fits)
          ∙ ap (leaving_of b) (fun_ext answers));
      causes = λ j l. subst (λ (m : ℕ). m < 4) (sym (value (token_of b s.registers s.memory deepest) all j))
          (mark_low b (token_of b s.registers s.memory deepest) deepest (length b.reads.items + j));
    })
