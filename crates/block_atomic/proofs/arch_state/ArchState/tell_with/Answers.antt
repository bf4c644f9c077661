use Rattle.std.proofs.Common.{◌∙◌, ap, sym, subst, ℕ, List, Some, drop}
use Rattle.std.specs.Prelude.{Option}
use Rattle.trips_isa.specs.declared.block.Block.{Block}
use Rattle.trips_isa.specs.declared.block.Inst.{Inst}
use Rattle.trips_isa.specs.Fits.{FitsBlock}
use Rattle.trips_isa.specs.Tables.{deepest}
use Rattle.trips_isa.specs.Blocks.{token_of}
use Rattle.trips_isa.specs.Machine.{Machine, State}
use Rattle.std.proofs.Common.{get_or}
use Rattle.std.specs.Prelude.{None}
use Rattle.block_atomic.specs.inside.Slots.{IsUsedTo, slots_give, left_by}
use Rattle.block_atomic.specs.Told.{TellsNext}
use Rattle.block_atomic.specs.inside.Held.{Held}
use Rattle.block_atomic.proofs.SlotsTold.{slots_told}
use Rattle.block_atomic.proofs.arch_state.ArchState.tell_with.Goals as goal

pub returns : goal.returns
returns c = record {
  tells = subst (λ (m : Held). TellsNext c.args.image.now.blocks m.machine.state c.settle.new.table
      c.slot_marks.new.marks c.exit.result)
      c.self.view_is
      (slots_told c.args.image.now.blocks c.block-block.result.now inside c.used_slots-used.result c.settle.new.table
      c.settle.new.places c.slot_marks.new.marks
      (c.at.ensures.value ∙ ap (λ (b : Block). Some b) (sym c.block-block.ensures.value))
      (subst FitsBlock (sym c.block-block.ensures.value) c.block-block.ensures.checked.fits)
      c.used_slots-used.ensures.bound
      (subst (λ (is : List (Option Inst)). IsUsedTo is c.used_slots-used.result)
      c.as_slice-insts.ensures.value c.used_slots-used.ensures.used)
      (λ x. c.settle.ensures.answers x
      ∙ ap (λ (mem : List ℕ). token_of c.block-block.result.now c.self.inside.registers mem deepest x)
      c.deref.ensures.value)
      c.settle.ensures.placed c.slot_marks.ensures.value c.leaving.result c.exit.result
      (c.leaving.ensures.value ∙ ap (slots_give (left_by (λ j. get_or c.settle.new.table j None)) 0)
      c.as_slice-insts.ensures.value) c.exit.ensures.value);
}
  where
    inside : State
    inside = record {
      registers = c.self.inside.registers;
      memory = c.self.inside.memory.items;
      next = c.self.inside.next;
      rest = drop c.self.inside.taken c.self.inside.input.items;
      output = c.self.inside.output.items;
      trace = c.self.inside.trace.items;
    }
