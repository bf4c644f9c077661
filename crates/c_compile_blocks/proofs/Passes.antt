-- One narrowed block through the passes.
use Rattle.std.proofs.Common.{◌≡◌, ℕ, ◌+◌, ◌≤◌, inl, inr, Bool, true, false, refl, sym, ap, subst, ◌∙◌, arith}
use Rattle.std.specs.Prelude.{Option, Some, None, Result, Err, IfErr, IfSome}
use Rattle.trips_isa.specs.declared.block.Block.{Block}
use Rattle.ir_forms.specs.inside.Limits.{label_count}
use Rattle.ir_forms.specs.declared.fault.FlowFault.{FlowFault}
use Rattle.ir_forms.specs.declared.fault.FlowFault.TheVariants.{Memory}
use Rattle.ir_forms.specs.declared.flow.FlowBlock.{FlowBlock}
use Rattle.ir_forms.specs.declared.hyper.Exit.{Exit}
use Rattle.ir_forms.specs.declared.hyper.Exit.TheVariants as exit
use Rattle.ir_forms.specs.inside.HyperCode.{Tail, Leave, Test}
use Rattle.ir_forms.specs.inside.HyperFits.{AllLeadOn, LeadsOn, filled_ifs}
use Rattle.hyper_narrow.specs.inside.NarrowedCode.{Narrowed}
use Rattle.predication.specs.inside.Tails.{labelled, address_end}
use Rattle.predication.specs.inside.Converted.{predicated}
use Rattle.predication.specs.inside.Outcomes.{HasRoomFor, counts_of, NamesLabel, NamesLabels}
use Rattle.predication.specs.inside.Outcomes as convert
use Rattle.predication.specs.inside.Laws as predication
use Rattle.null_outputs.specs.inside.Refusals.{IsWithinLimits}
use Rattle.null_outputs.specs.inside.Refusals as complete
use Rattle.null_outputs.specs.inside.Wants as wants
use Rattle.flow_ease.specs.inside.Eases.{Eases}
use Rattle.flow_ease.proofs.Standing.{eases_itself}
use Rattle.fan_out.specs.inside.Targeted.{IsTargeted}
use Rattle.fan_out.specs.inside.Refusals as target
use Rattle.grid_place.specs.declared.placed.Placing.{Placing}
use Rattle.c_compile_blocks.specs.inside.Limits.{FitsMachine}
use Rattle.c_compile_blocks.proofs.Cheap.{exits_with}
use Rattle.c_compile_blocks.specs.inside.Blocks.{flow_of, IsMachineBlock, IsPassed, StandsFor}
use Rattle.c_compile_blocks.specs.inside.Guarded.{sensed_nodes}
use Rattle.c_compile_blocks.specs.inside.Passing.{IsFlow, IsPlacedFlow}
use Rattle.c_compile_blocks.specs.inside.Refusals.{IsRefused}

-- LABELS

names_label : (k n : ℕ) (e : Exit) → n ≤ label_count → LeadsOn k n e → NamesLabel e
names_label k n (exit.Jump l) f h = omega (arith, f, h)
names_label k n (exit.Call l back) f h =
    let a = h.0 in
    let b = h.2 in (omega (arith, f, a), omega (arith, f, b))
names_label k n exit.Return f h = tt
names_label k n (exit.System l) f h = tt

-- labels that lead to blocks are below the number of blocks of an image
pub names_labels : (k n : ℕ) (t : Tail) → n ≤ label_count → AllLeadOn k n t → NamesLabels t
names_labels k n (Leave e) f h = names_label k n e f h
names_labels k n (Test t one other) f h = (names_labels k n one f h.0, names_labels k n other f h.1)

-- WHAT PASSES

pub has_room : (b : Narrowed) → HasRoomFor (counts_of (labelled b)) → predication.HasRoom b.block
unfolding counts_of
has_room b r =
    let e = exits_with (λ l. address_end + l) b.block.tail in
    let x = r.exits in
    record { numbers = r.numbers; exits = omega (arith, e, x) }

-- what predication and completing gave is the flow block
pub is_flow : (b : Narrowed) (f g : FlowBlock) → f ≡ predicated (labelled b) → HasRoomFor (counts_of (labelled b))
    → g ≡ wants.complete f → IsWithinLimits g → IsFlow b g
is_flow b f g is_f room is_g limits = record { is = is_g ∙ ap wants.complete is_f; room = room; limits = limits }

-- a flow block stands for itself
pub stands_itself : (b : Narrowed) (f : FlowBlock) → f ≡ flow_of b → StandsFor b f
stands_itself b f e = record {
  eases = subst (λ (g : FlowBlock). Eases (flow_of b) g) (sym e) (eases_itself (flow_of b));
  guards = inl e;
}

-- a block that went through all passes as it is has passed
pub plain_passed : (p : Placing) (b : Narrowed) (f : FlowBlock) (u : Block) → IsFlow b f → IsPlacedFlow p f u
    → IsPassed false p b u
plain_passed p b f u i h = record {
  numbers = has_room b i.room;
  flow = f;
  stands = stands_itself b f i.is;
  plain = λ z. i.is;
  room = h.room;
  target = h.target;
  targeted = h.targeted;
  placed = h.placed;
}

-- what is not eased may be where easing is asked for
pub either_passed : (t : Bool) (p : Placing) (b : Narrowed) (u : Block) → IsPassed false p b u → IsPassed t p b u
either_passed t p b u h = record {
  numbers = h.numbers;
  flow = h.flow;
  stands = h.stands;
  plain = λ z. h.plain refl;
  room = h.room;
  target = h.target;
  targeted = h.targeted;
  placed = h.placed;
}

-- a block whose flow block was eased has passed, where the guards are still enough
pub eased_passed : (p : Placing) (b : Narrowed) (f g : FlowBlock) (u : Block) → IsFlow b f → Eases f g
    → filled_ifs b.block.items ≤ sensed_nodes g.nodes → IsPlacedFlow p g u → IsPassed true p b u
eased_passed p b f g u i eases guards h = record {
  numbers = has_room b i.room;
  flow = g;
  stands = record {
    eases = subst (λ (x : FlowBlock). Eases x g) i.is eases;
    guards = inr guards;
  };
  plain = λ z. absurd (cc);
  room = h.room;
  target = h.target;
  targeted = h.targeted;
  placed = h.placed;
}

-- so of what is there, if something is
pub some_passed : (p : Placing) (b : Narrowed) (f g : FlowBlock) (o : Option Block) → IsFlow b f → Eases f g
    → filled_ifs b.block.items ≤ sensed_nodes g.nodes → IfSome o (λ u. IsPlacedFlow p g u)
    → IfSome o (λ u. IsPassed true p b u)
some_passed p b f g None i eases guards h = h
some_passed p b f g (Some u) i eases guards h = eased_passed p b f g u i eases guards h

-- what passes as it is is the machine block of a block within all limits
pub is_machine_block : (t : Bool) (p : Placing) (b : Narrowed) (u : Block) → IsPassed t p b u → t ≡ false
    → FitsMachine b → IsMachineBlock p b u
is_machine_block t p b u h e f = record {
  numbers = h.numbers;
  flow = h.flow;
  stands = h.stands;
  room = h.room;
  target = h.target;
  targeted = h.targeted;
  cases = f.cases h.target (subst (λ (g : FlowBlock). IsTargeted g h.target) (h.plain e) h.targeted);
  placed = h.placed;
}

-- WHAT IS REFUSED

-- the refusals of the first pass
pub by_first : (b : Narrowed) (e : FlowFault) → convert.IsRefusal (counts_of (labelled b)) e → IsRefused b e
by_first b e h = record { first = inl h }

-- the refusals of the second and the third pass
pub by_second : (b : Narrowed) (f : FlowBlock) (e : FlowFault) → f ≡ predicated (labelled b)
    → HasRoomFor (counts_of (labelled b)) → complete.IsRefusal f e → IsRefused b e
by_second b f e is_f room h = record {
  first = inr (inl (record {
    room = room;
    refused = subst (λ (g : FlowBlock). complete.IsRefusal g e) is_f h;
  }));
}

-- a block that the third pass refuses is refused
pub by_third : (b : Narrowed) (f : FlowBlock) (e : FlowFault) → IsFlow b f → target.IsRefusal f e → IsRefused b e
by_third b f e i h = record {
  first = inr (inr (record {
    room = i.room;
    limits = subst IsWithinLimits i.is i.limits;
    refused = subst (λ (x : FlowBlock). target.IsRefusal x e) i.is h;
  }));
}

-- want of memory is always a refusal
pub by_memory : (b : Narrowed) (e : FlowFault) → e ≡ Memory → IsRefused b e
by_memory b e m = subst (IsRefused b) (sym m) (by_first b Memory tt)

-- a refusal is handed on
pub handed_on : {X : Type 0} (P : FlowFault → Type 0) (r : Result X FlowFault) (e : FlowFault) → r ≡ Err e → P e
    → IfErr r P
handed_on P r e q h = subst (λ s. IfErr s P) (sym q) h
