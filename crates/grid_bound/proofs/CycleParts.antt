-- Every cycle keeps the rule.
use Rattle.std.proofs.Common.{◌≡◌, ℕ, zero, suc, ◌≤◌, refl, sym, subst, List}
use Rattle.trips_isa.specs.declared.block.Block.{Block}
use Rattle.trips_isa.specs.declared.run.Stepped.{Stepped}
use Rattle.trips_isa.specs.declared.run.Stepped.TheVariants as stepped
use Rattle.commit_flush_spec.specs.inside.Invariant.{AllGood}
use Rattle.commit_flush_spec.specs.inside.Laws.{WindowOk}
use Rattle.grid_cycle_spec.specs.Grid.{Grid}
use Rattle.grid_cycle_spec.specs.Ends.{ends}
use Rattle.grid_cycle_spec.specs.Fetches.{fetches}
use Rattle.grid_cycle_spec.specs.Banks.{reads_answered}
use Rattle.grid_cycle_spec.specs.DataTiles.{answers}
use Rattle.grid_cycle_spec.specs.Cycles.{acts, counted, Eager, Follows}
use Rattle.grid_cycle_spec.specs.inside.Cycles.{AfterCycles}
use Rattle.grid_bound.specs.inside.Rule.{GridRule}
use Rattle.grid_bound.proofs.Ties.{rule_of, ties_of}
use Rattle.grid_bound.proofs.EndParts.{Ruled, ends_ruled}
use Rattle.grid_bound.proofs.FetchParts.{fetches_going}
use Rattle.grid_bound.proofs.BankParts.{banks_going}
use Rattle.grid_bound.proofs.DataParts.{answers_going}
use Rattle.grid_bound.proofs.UnitParts.{works_going}
use Rattle.grid_bound.proofs.TickParts.{moves_going}
use Rattle.grid_bound.proofs.GoingGrids.{Going}

module _ {W : Type 0} (blocks : List Block) (good : AllGood blocks) (budget : ℕ) where
  -- parts (2) to (5)
  pub acts_going : (g : Grid W) → Going blocks budget 1 g → Going blocks budget 1 (acts blocks budget g)
  acts_going g r =
      let a : Grid W = fetches blocks budget g in
      let b : Grid W = reads_answered blocks budget a in
      works_going blocks good budget 1 (answers blocks budget b)
      (answers_going blocks good budget 1 b (banks_going blocks good budget 1 a
      (fetches_going blocks good budget 1 g r)))

  counted_ruled : (g h : Grid W) → h ≡ counted g → Ruled blocks budget 1 g → Ruled blocks budget 1 h
  counted_ruled g h e r = subst (Ruled blocks budget 1) (sym e) (record { ok = r.ok; ties = r.ties; fetch = r.fetch })

  module _ (next : W → ℕ) (follows : W → W → Type 0) (bound : (w : W) → next w ≤ 3) where
    follows_ruled : (o : Stepped) (g h : Grid W) → g.window.over ≡ o → Follows o next follows blocks budget g h
        → Ruled blocks budget 1 g → Ruled blocks budget 1 h
    follows_ruled stepped.Went g h e moves r =
        let k = moves_going blocks good budget next follows bound (acts blocks budget g) h
        (acts_going g (record { ok = r.ok; went = e; ties = r.ties; fetch = r.fetch })) moves in
        record { ok = k.ok; ties = k.ties; fetch = k.fetch }
    follows_ruled stepped.Ended g h e is r = counted_ruled g h is r
    follows_ruled stepped.StackFull g h e is r = counted_ruled g h is r
    follows_ruled (stepped.Trap c) g h e is r = counted_ruled g h is r

    eager_ruled : (g h : Grid W) → Eager next follows blocks budget g h → Ruled blocks budget 1 g
        → Ruled blocks budget 1 h
    eager_ruled g h cycle r = follows_ruled (ends blocks budget g).window.over (ends blocks budget g) h refl cycle
        (ends_ruled blocks good budget 1 g r)

    cycles_ruled : (n : ℕ) (g h : Grid W) → AfterCycles next follows blocks budget n g h → Ruled blocks budget 1 g
        → Ruled blocks budget 1 h
    cycles_ruled zero g h e r = subst (Ruled blocks budget 1) (sym e) r
    cycles_ruled (suc n) g h cycles r =
        eager_ruled cycles.between h cycles.after (cycles_ruled n g cycles.between cycles.before r)

    -- an eager cycle keeps the grid's rule
    pub cycle_rule : (g h : Grid W) → WindowOk blocks budget g.window → GridRule g
        → Eager next follows blocks budget g h → GridRule h
    cycle_rule g h ok rule cycle =
        let k = eager_ruled g h cycle (record { ok = ok; ties = ties_of 1 g rule; fetch = rule.fetch }) in
        rule_of 1 h k.ties k.fetch

    -- eager cycles keep the grid's rule
    pub cycles_rule : (n : ℕ) (g h : Grid W) → WindowOk blocks budget g.window → GridRule g
        → AfterCycles next follows blocks budget n g h → GridRule h
    cycles_rule n g h ok rule cycles =
        let k = cycles_ruled n g h cycles (record { ok = ok; ties = ties_of 1 g rule; fetch = rule.fetch }) in
        rule_of 1 h k.ties k.fetch

    -- cycles one after another keep the window's invariant
    pub cycles_window : (n : ℕ) (g h : Grid W) → WindowOk blocks budget g.window → GridRule g
        → AfterCycles next follows blocks budget n g h → WindowOk blocks budget h.window
    cycles_window n g h ok rule cycles =
        (cycles_ruled n g h cycles (record { ok = ok; ties = ties_of 1 g rule; fetch = rule.fetch })).ok
