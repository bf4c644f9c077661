use Rattle.std.proofs.Common.{◌≡◌, ℕ, ◌<◌, ◌++◌, ◌∷◌, [], List, get_or, length, drop, ◌∙◌, ap, sym}
use Rattle.std.proofs.Common.{subst, arith, Some}
use Rattle.std.specs.Prelude.{None}
use Rattle.trips_isa.specs.declared.block.Block.{Block}
use Rattle.trips_isa.specs.declared.block.Inst.{Inst}
use Rattle.trips_isa.specs.declared.run.Traced.{Traced}
use Rattle.std.specs.Prelude.{Option}
use Rattle.trips_isa.specs.Fits.{FitsBlock}
use Rattle.trips_isa.specs.Tables.{deepest}
use Rattle.trips_isa.specs.Stores.{store_all}
use Rattle.trips_isa.specs.Blocks.{token_of}
use Rattle.trips_isa.specs.Outcomes.{all_stores, writes_from}
use Rattle.trips_isa.specs.Machine.{Machine, State, step_of, then_system, write_all}
use Rattle.trips_isa.specs.declared.run.Stepped.{Stepped}
use Rattle.block_atomic.proofs.Telling.{cause_is, step_goes, step_traps}
use Rattle.block_atomic.specs.inside.Bounds.{StoreFits}
use Rattle.block_atomic.specs.inside.Held.{Held}
use Rattle.block_atomic.specs.inside.Slots.{slots_give, left_by, IsUsedTo}
use Rattle.block_atomic.proofs.Storing.{stores_fit}
use Rattle.block_atomic.proofs.Stepping.{step_is}
use Rattle.block_atomic.proofs.arch_state.ArchState.step_with.Goals as goal

pub change-requires-clause-fits : goal.change-requires-clause-fits
change-requires-clause-fits c n h =
    subst StoreFits (sym (c.settle.ensures.kept n h))
    (stores_fit (λ q. get_or c.settle.new.places q None) n
    (λ j. get_or c.settle.new.table j None) 0 c.block-block.result.now.insts.items)

pub returns-then-fault-eq0-clause-step : goal.returns-then-fault-eq0-clause-step
returns-then-fault-eq0-clause-step c =
    step_goes c.args.image.now.blocks inside c.then_system.new.self.machine.state c.then_system.result
    c.cause-fault.result
    (cause_is c.args.image.now.blocks c.block-block.result.now inside c.used_slots-used.result
    c.settle.new.table c.settle.new.places c.cause-fault.result
    (c.at.ensures.value ∙ ap (λ (b : Block). Some b) (sym c.block-block.ensures.value))
    (subst FitsBlock (sym c.block-block.ensures.value) c.block-block.ensures.checked.fits)
    c.used_slots-used.ensures.bound
    (subst (λ (is : List (Option Inst)). IsUsedTo is c.used_slots-used.result)
    c.as_slice-insts.ensures.value c.used_slots-used.ensures.used)
    (λ x. c.settle.ensures.answers x
    ∙ ap (λ (mem : List ℕ). token_of c.block-block.result.now c.self.inside.registers mem
    deepest x) c.deref.ensures.value)
    c.settle.ensures.placed c.cause-fault.ensures.value)
    c.if-fault-eq0.true
    (step_is c.args.image.now.blocks c.block-block.result.now inside c.change.new.self.machine.state
    c.used_slots-used.result c.settle.new.places c.settle.new.table c.settle.new.stores
    c.leaving-branch.result c.exit.result c.successor-next.result
    (c.then_system.new.self.machine.state, c.then_system.result)
    (record {
      block = c.at.ensures.value ∙ ap (λ (b : Block). Some b) (sym c.block-block.ensures.value);
      fits = subst FitsBlock (sym c.block-block.ensures.value) c.block-block.ensures.checked.fits;
      bound = c.used_slots-used.ensures.bound;
      used_to = subst (λ (is : List (Option Inst)). IsUsedTo is c.used_slots-used.result)
          c.as_slice-insts.ensures.value c.used_slots-used.ensures.used;
      answers = λ x. c.settle.ensures.answers x
          ∙ ap (λ (mem : List ℕ). token_of c.block-block.result.now c.self.inside.registers mem
          deepest x) c.deref.ensures.value;
      placed = c.settle.ensures.placed;
      kept = c.settle.ensures.kept;
      left = c.leaving-branch.ensures.value
          ∙ ap (slots_give (left_by (λ j. get_or c.settle.new.table j None)) 0)
          c.as_slice-insts.ensures.value;
      successor = c.successor-next.ensures.value;
    })
    c.exit.ensures.value
    (record {
      registers =
          c.change.ensures.registers
          ∙ ap (λ (m : Held). write_all m.machine.state.registers c.as_slice.result.now
          (writes_from (λ q. get_or c.settle.new.places q None) 0 c.as_slice.result.now))
          (sym c.self.view_is)
          ∙ ap (λ (ws : List ℕ). write_all c.self.inside.registers ws
          (writes_from (λ q. get_or c.settle.new.places q None) 0 ws)) c.as_slice.ensures.value;
      memory = c.change.ensures.memory ∙ ap
          (λ (m : Held). store_all m.machine.state.memory
          (all_stores (λ n. get_or c.settle.new.stores n None))) (sym c.self.view_is);
      trace = c.change.ensures.trace ∙ ap
          (λ (m : Held). m.machine.state.trace ++
          (record { block = m.machine.state.next; exit = c.exit.result }) ∷ []) (sym c.self.view_is);
      next_is = c.change.ensures.next;
      rest = c.change.ensures.rest ∙ ap (λ (m : Held). m.machine.state.rest) (sym c.self.view_is);
      output = c.change.ensures.output ∙ ap (λ (m : Held). m.machine.state.output) (sym c.self.view_is);
    })
    (c.then_system.ensures.answer ∙ ap (λ v. then_system v c.change.new.self.machine.state)
    c.is_system.ensures.value))
    ∙ ap (λ (m : Held). step_of c.args.image.now.blocks m.machine.state) c.self.view_is
  where
    inside : State
    inside = record {
      registers = c.self.inside.registers;
      memory = c.self.inside.memory.items;
      next = c.self.inside.next;
      rest = drop c.self.inside.taken c.self.inside.input.items;
      output = c.self.inside.output.items;
      trace = c.self.inside.trace.items;
    }

pub returns-else-fault-eq0-clause-step : goal.returns-else-fault-eq0-clause-step
returns-else-fault-eq0-clause-step c =
    step_traps c.args.image.now.blocks inside c.args.self.now.machine.state c.cause-fault.result
    c.cause_of.result
    (cause_is c.args.image.now.blocks c.block-block.result.now inside c.used_slots-used.result
    c.settle.new.table c.settle.new.places c.cause-fault.result
    (c.at.ensures.value ∙ ap (λ (b : Block). Some b) (sym c.block-block.ensures.value))
    (subst FitsBlock (sym c.block-block.ensures.value) c.block-block.ensures.checked.fits)
    c.used_slots-used.ensures.bound
    (subst (λ (is : List (Option Inst)). IsUsedTo is c.used_slots-used.result)
    c.as_slice-insts.ensures.value c.used_slots-used.ensures.used)
    (λ x. c.settle.ensures.answers x
    ∙ ap (λ (mem : List ℕ). token_of c.block-block.result.now c.self.inside.registers mem
    deepest x) c.deref.ensures.value)
    c.settle.ensures.placed c.cause-fault.ensures.value)
    c.if-fault-eq0.false c.cause_of.ensures.value (ap (λ (m : Held). m.machine.state) (sym c.self.view_is))
    ∙ ap (λ (m : Held). step_of c.args.image.now.blocks m.machine.state) c.self.view_is
  where
    inside : State
    inside = record {
      registers = c.self.inside.registers;
      memory = c.self.inside.memory.items;
      next = c.self.inside.next;
      rest = drop c.self.inside.taken c.self.inside.input.items;
      output = c.self.inside.output.items;
      trace = c.self.inside.trace.items;
    }
