-- What each primitive change of the grid keeps, each part of a cycle keeps, and every run of cycles.
use Rattle.std.proofs.Common.{◌≡◌, ℕ, zero, suc, ◌==◌, cond, List, Option, Some, None, sym, subst}
use Rattle.trips_isa.specs.declared.block.Block.{Block}
use Rattle.trips_isa.specs.declared.run.Stepped.{Stepped}
use Rattle.trips_isa.specs.declared.run.Stepped.TheVariants as stepped
use Rattle.commit_flush_spec.specs.Frames.{numbers}
use Rattle.grid_cycle_spec.specs.Stations.{banks, data_tiles, tiles}
use Rattle.grid_cycle_spec.specs.Grid.{Grid, numbers_of}
use Rattle.grid_cycle_spec.specs.Choosing.{eldest, each, slots, reads}
use Rattle.grid_cycle_spec.specs.Ends.{ends}
use Rattle.grid_cycle_spec.specs.Fetches.{fetches}
use Rattle.grid_cycle_spec.specs.Banks.{answers_read, read_chosen, bank_turn, reads_answered}
use Rattle.grid_cycle_spec.specs.DataTiles.{answers_request, answer_chosen, data_turn, answers}
use Rattle.grid_cycle_spec.specs.Units.{result_chosen, in_unit, unit_on, ready, issue_chosen, issues}
use Rattle.grid_cycle_spec.specs.Units.{unit_turn, works_on}
use Rattle.grid_cycle_spec.specs.inside.Arrivals.{arrivals}
use Rattle.grid_cycle_spec.specs.Cycles.{acts, counted, Moves, Follows, Eager}
use Rattle.grid_cycle_spec.specs.inside.Cycles.{AfterCycles}
use Rattle.grid_cycle_spec.proofs.KeptChanges.{Kinds, every, Keeps}
use Rattle.grid_cycle_spec.proofs.KeptByTurns.{either, ends_keep, fetches_keep, result_kept}
use Rattle.grid_cycle_spec.proofs.KeptByTurns.{answer_keeps, read_keeps, issue_keeps}
use Rattle.grid_cycle_spec.proofs.KeptByTurns
use Rattle.grid_cycle_spec.proofs.KeptByArrivals.{arrivals_keep}

module _ {W : Type 0} {s : Kinds} (blocks : List Block) (budget : ℕ) (R : Grid W → Grid W → Type 0)
    (k : Keeps s blocks budget R) where
  -- turns one after another keep what each of them keeps
  abbrev each_keeps : (turn : ℕ → Grid W → Grid W) → ((n : ℕ) (x : Grid W) → R x (turn n x)) → (n : ℕ) (g : Grid W)
      → R g (each turn n g)
  each_keeps = KeptByTurns.each_keeps blocks budget R k

  module _ (all : (n : ℕ) → s.of n) where
    module _ (sending : s.sending) where
      banked : (bank : ℕ) (o : Option (ℕ × ℕ)) (g : Grid W) → R g (read_chosen blocks budget bank o g)
      banked bank None g = k.same g
      banked bank (Some q) g = read_keeps blocks budget R k sending bank q (all q.0) g

      -- the turn of one bank keeps the relation
      pub bank_keeps : (bank : ℕ) (g : Grid W) → R g (bank_turn blocks budget bank g)
      bank_keeps bank g = banked bank (eldest (answers_read blocks budget g bank) reads g.window.frames) g

      -- part (3), the banks, keeps the relation
      pub banks_keep : (g : Grid W) → R g (reads_answered blocks budget g)
      banks_keep g = each_keeps (bank_turn blocks budget) bank_keeps banks g

      told : (tile : ℕ) (o : Option (ℕ × ℕ)) (g : Grid W) → R g (answer_chosen blocks budget tile o g)
      told tile None g = k.same g
      told tile (Some q) g = answer_keeps blocks budget R k sending tile q (all q.0) g

      -- the turn of one data tile keeps the relation
      pub data_keeps : (tile : ℕ) (g : Grid W) → R g (data_turn blocks budget tile g)
      data_keeps tile g = told tile (eldest (answers_request g tile) numbers g.window.frames) g

      -- part (4), the data tiles, keeps the relation
      pub answers_keep : (g : Grid W) → R g (answers blocks budget g)
      answers_keep g = each_keeps (data_turn blocks budget) data_keeps data_tiles g

      module _ (turning : s.turning) where
        finished : (o : Option (ℕ × ℕ)) (g : Grid W) → R g (result_chosen o g)
        finished None g = k.same g
        finished (Some q) g = result_kept blocks budget R k sending q (all q.0) g

        -- that a unit goes on keeps the relation
        pub unit_keeps : (tile left : ℕ) (g : Grid W) → R g (unit_on tile left g)
        unit_keeps tile zero g = k.same g
        unit_keeps tile (suc zero) g =
            let m : Grid W = record g { units = λ t. cond (t == tile) 0 (g.units t) } in
            k.chain g m (unit_on tile 1 g) (k.turning turning tile 0 g)
            (finished (eldest (in_unit g tile) slots g.window.frames) m)
        unit_keeps tile (suc (suc left)) g = k.turning turning tile (suc left) g

        issued_keeps : (tile : ℕ) (o : Option (ℕ × ℕ)) (g : Grid W) → R g (issue_chosen blocks budget tile o g)
        issued_keeps tile None g = k.same g
        issued_keeps tile (Some q) g = issue_keeps blocks budget R k turning tile q (all q.0) g

        -- that a unit issues keeps the relation
        pub issues_keep : (tile : ℕ) (g : Grid W) → R g (issues blocks budget tile g)
        issues_keep tile g =
            let o : Option (ℕ × ℕ) = eldest (ready blocks budget g tile) slots g.window.frames in
            either blocks budget R k g (issue_chosen blocks budget tile o g) g (g.units tile == 0)
            (issued_keeps tile o g) (k.same g)

        -- the turn of one unit keeps the relation
        pub turn_keeps : (tile : ℕ) (g : Grid W) → R g (unit_turn blocks budget tile g)
        turn_keeps tile g =
            let m : Grid W = unit_on tile (g.units tile) g in
            k.chain g m (issues blocks budget tile m) (unit_keeps tile (g.units tile) g) (issues_keep tile m)

        -- part (5), the units, keeps the relation
        pub works_keep : (g : Grid W) → R g (works_on blocks budget g)
        works_keep g = each_keeps (unit_turn blocks budget) turn_keeps tiles g

        -- parts (3) to (5) keep the relation
        pub worked_keep : (g : Grid W)
            → R g (works_on blocks budget (answers blocks budget (reads_answered blocks budget g)))
        worked_keep g =
            let a : Grid W = reads_answered blocks budget g in
            let b : Grid W = answers blocks budget a in
            k.chain g a (works_on blocks budget b) (banks_keep g)
            (k.chain a b (works_on blocks budget b) (answers_keep a) (works_keep b))

        -- parts (2) to (5) keep the relation
        pub acts_keep : s.filling → (g : Grid W) → R g (acts blocks budget g)
        acts_keep filling g =
            let a : Grid W = fetches blocks budget g in
            k.chain g a (acts blocks budget g) (fetches_keep blocks budget R k filling g) (worked_keep a)

-- cycles -------------------------------------------------------------------------------------------

module _ {W : Type 0} {s : Kinds} (blocks : List Block) (budget : ℕ) (R : Grid W → Grid W → Type 0)
    (k : Keeps s blocks budget R) (all : (n : ℕ) → s.of n) (filling : s.filling) (sending : s.sending)
    (turning : s.turning) (ticking : s.ticking) (counting : s.counting) (next : W → ℕ)
    (follows : W → W → Type 0) where
  moves_keep : (m h : Grid W) → Moves next follows blocks budget m h → R m h
  moves_keep m h moves =
      let g : Grid W = record m { parcels = moves.parcels; weather = moves.weather } in
      let a : Grid W = arrivals blocks budget (numbers_of m.window.frames) g in
      subst (λ x. R m x) (sym moves.arrived)
      (k.chain m g (counted a) (k.ticking ticking moves.parcels moves.weather m)
      (k.chain g a (counted a) (arrivals_keep blocks budget R k all (numbers_of m.window.frames) g)
      (k.counting counting a)))

  ended_keeps : (m h : Grid W) → h ≡ counted m → R m h
  ended_keeps m h e = subst (λ x. R m x) (sym e) (k.counting counting m)

  -- what follows part (1) keeps the relation
  pub follows_keep : (o : Stepped) (m h : Grid W) → Follows o next follows blocks budget m h → R m h
  follows_keep stepped.Went m h moves =
      k.chain m (acts blocks budget m) h (acts_keep blocks budget R k all sending turning filling m)
      (moves_keep (acts blocks budget m) h moves)
  follows_keep stepped.Ended m h e = ended_keeps m h e
  follows_keep stepped.StackFull m h e = ended_keeps m h e
  follows_keep (stepped.Trap c) m h e = ended_keeps m h e

module _ {W : Type 0} (blocks : List Block) (budget : ℕ) (R : Grid W → Grid W → Type 0)
    (k : Keeps every blocks budget R) (next : W → ℕ) (follows : W → W → Type 0) where
  -- an eager cycle keeps the relation
  pub eager_keeps : (g h : Grid W) → Eager next follows blocks budget g h → R g h
  eager_keeps g h cycle = k.chain g (ends blocks budget g) h (ends_keep blocks budget R k tt tt g)
      (follows_keep blocks budget R k (λ n. tt) tt tt tt tt tt next follows (ends blocks budget g).window.over
      (ends blocks budget g) h cycle)

  -- cycles one after another keep the relation
  pub cycles_keep : (n : ℕ) (g h : Grid W) → AfterCycles next follows blocks budget n g h → R g h
  cycles_keep zero g h e = subst (λ x. R g x) (sym e) (k.same g)
  cycles_keep (suc n) g h cycles = k.chain g cycles.between h (cycles_keep n g cycles.between cycles.before)
      (eager_keeps cycles.between h cycles.after)
