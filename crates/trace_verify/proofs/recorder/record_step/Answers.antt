use Rattle.std.proofs.Common.{◌≡◌, ℕ, ◌++◌, List, Some, slice_get, ap, sym, subst, ◌∙◌}
use Rattle.std.specs.Prelude.{Option}
use Rattle.trips_isa.specs.declared.block.Block.{Block}
use Rattle.trips_isa.specs.Machine.{State}
use Rattle.block_atomic.specs.Told.{TellsSlots, tells_in}
use Rattle.trace_verify.specs.Spelling.{entry_with, listed_by, tokens_in}
use Rattle.trace_verify.specs.Recorded.{kept_unless}
use Rattle.trace_verify.proofs.Listing.{entry_is}
use Rattle.trace_verify.proofs.recorder.record_step.Goals as goal

pub returns-clause-bytes : goal.returns-clause-bytes
returns-clause-bytes c =
    c.in_ok-put_step.ensures.ok s told
    ∙ ap (λ (n : ℕ). c.args.out.now.items ++ kept_unless c.step-answer.result
    (entry_with n c.tell-exit.result (listed_by b (tokens_in b s)))) c.next-number.ensures.value
    ∙ ap (λ (xs : List ℕ). c.args.out.now.items ++ kept_unless c.step-answer.result xs)
    (entry_is c.args.image.now.blocks b s c.tell-exit.result here told.left)
  where
    s : State
    s = c.args.arch.now.state

    b : Block
    b = c.block-block.result.now

    here : slice_get c.args.image.now.blocks s.next ≡ Some b
    here = ap (slice_get c.args.image.now.blocks) (sym c.next-number.ensures.value) ∙ c.at.ensures.value
        ∙ ap (λ (x : Block). Some x) (sym c.block-block.ensures.value)

    told : TellsSlots b s.registers s.memory c.tell-exit.new.tokens c.tell-exit.new.marks c.tell-exit.result
    told = subst (λ (o : Option Block). tells_in o s c.tell-exit.new.tokens c.tell-exit.new.marks c.tell-exit.result)
        here
        c.tell-exit.ensures.tells
