-- What each part of a cycle counts: the frames add up, part (2) fetches one frame at most, the other parts none.
use Rattle.std.proofs.Common.{◌≡◌, ℕ, ◌+◌, ◌≤◌, List, refl, sym, ap, ◌∙◌, subst, arith}
use Rattle.trips_isa.specs.declared.block.Block.{Block}
use Rattle.trips_isa.specs.declared.run.Stepped.TheVariants.{Went}
use Rattle.grid_cycle_spec.specs.Grid.{Grid}
use Rattle.grid_cycle_spec.specs.Laws.{AddsUp}
use Rattle.grid_cycle_spec.specs.Ends.{ends}
use Rattle.grid_cycle_spec.specs.Fetches.{fetches}
use Rattle.grid_cycle_spec.specs.Banks.{reads_answered}
use Rattle.grid_cycle_spec.specs.DataTiles.{answers}
use Rattle.grid_cycle_spec.specs.Units.{works_on}
use Rattle.grid_cycle_spec.specs.inside.Arrivals.{arrivals}
use Rattle.grid_cycle_spec.specs.Cycles.{acts, Moves, Eager}
use Rattle.grid_cycle_spec.proofs.KeptByCycles.{banks_keep, answers_keep, works_keep, follows_keep}
use Rattle.grid_cycle_spec.proofs.KeptByCycles.{eager_keeps}
use Rattle.grid_cycle_spec.proofs.KeptByTurns.{ends_keep, fetches_keep}
use Rattle.grid_cycle_spec.proofs.KeptByArrivals.{arrivals_keep}
use Rattle.grid_cycle_spec.proofs.Counting.{Adds, keeps}
use Rattle.grid_cycle_spec.proofs.FetchedOnce.{Uncounted, OneMore, OneCycle, Silent, silent, fetches_more}
use Rattle.grid_cycle_spec.proofs.FetchedOnce.{follows_once, eager_once}
use Rattle.grid_machine.specs.inside.Counted.{IsCounted}

-- the frames add up, at most so many have been fetched, and so many cycles have been made
pub record Room {W : Type 0} (most made : ℕ) (g : Grid W) : Type 0 where
  pub adds : AddsUp g
  pub fetched : g.counts.fetched ≤ most
  pub cycles : g.counts.cycles ≡ made

module _ {W : Type 0} where
  -- at most as many frames have been flushed as have been fetched
  pub flushed_fit : (most made : ℕ) (g : Grid W) → Room most made g → g.counts.flushed ≤ most
  flushed_fit most made g r = let a = r.adds in let f = r.fetched in omega (arith, a, f)

  -- a grid that counts right has room for as many frames as cycles have been made
  pub room_of : (g : Grid W) → IsCounted g → Room g.counts.cycles g.counts.cycles g
  room_of g c = record { adds = c.adds; fetched = c.fetched; cycles = refl }

module _ {W : Type 0} (blocks : List Block) (budget : ℕ) where
  -- a part that keeps the sum, and counts neither
  kept : (most made : ℕ) (g h k : Grid W) → k ≡ h → (AddsUp g → AddsUp h) → Uncounted g h → Room most made g
      → Room most made k
  kept most made g h k e adds quiet r = subst (λ x. Room most made x) (sym e) (record {
    adds = adds r.adds;
    fetched = let f = r.fetched in let q = quiet.0 in omega (arith, f, q);
    cycles = quiet.1 ∙ r.cycles;
  })

  module _ (most made : ℕ) (g k : Grid W) where
    -- part (3) of a cycle leaves the room for frames
    pub after_banks : k ≡ reads_answered blocks budget g → Room most made g → Room most made k
    after_banks e = kept most made g (reads_answered blocks budget g) k e
        (banks_keep blocks budget (Adds blocks budget) (keeps blocks budget) (λ n. tt) tt g)
        (banks_keep blocks budget (Silent blocks budget) (silent blocks budget) (λ n. tt) tt g)

    -- part (4) of a cycle leaves the room for frames
    pub after_answers : k ≡ answers blocks budget g → Room most made g → Room most made k
    after_answers e = kept most made g (answers blocks budget g) k e
        (answers_keep blocks budget (Adds blocks budget) (keeps blocks budget) (λ n. tt) tt g)
        (answers_keep blocks budget (Silent blocks budget) (silent blocks budget) (λ n. tt) tt g)

    -- part (5) of a cycle leaves the room for frames
    pub after_works : k ≡ works_on blocks budget g → Room most made g → Room most made k
    after_works e = kept most made g (works_on blocks budget g) k e
        (works_keep blocks budget (Adds blocks budget) (keeps blocks budget) (λ n. tt) tt tt g)
        (works_keep blocks budget (Silent blocks budget) (silent blocks budget) (λ n. tt) tt tt g)

    -- part (2) fetches one frame at most
    pub after_fetches : k ≡ fetches blocks budget g → Room most made g → Room (most + 1) made k
    after_fetches e r =
        let more : OneMore g (fetches blocks budget g) = fetches_more blocks budget g in
        subst (λ x. Room (most + 1) made x) (sym e) (record {
          adds = fetches_keep blocks budget (Adds blocks budget) (keeps blocks budget) tt g r.adds;
          fetched = let f = r.fetched in let m = more.0 in omega (arith, f, m);
          cycles = more.1 ∙ r.cycles;
        })

  -- part (1) counts neither a fetched frame nor a cycle
  pub ends_counted : (g k : Grid W) → k ≡ ends blocks budget g → IsCounted g → IsCounted k
  ends_counted g k e c =
      let quiet : Uncounted g (ends blocks budget g) =
      ends_keep blocks budget (Silent blocks budget) (silent blocks budget) tt tt g in
      subst (λ x. IsCounted x) (sym e) (record {
        adds = ends_keep blocks budget (Adds blocks budget) (keeps blocks budget) tt tt g c.adds;
        fetched = let f = c.fetched in let q = quiet.0 in let r = quiet.1 in omega (arith, f, q, r);
      })

  -- the end of a cycle does not count it
  pub ends_cycles : (g k : Grid W) → k ≡ ends blocks budget g → k.counts.cycles ≡ g.counts.cycles
  ends_cycles g k e = ap (λ (x : Grid W). x.counts.cycles) e
      ∙ (ends_keep blocks budget (Silent blocks budget) (silent blocks budget) tt tt g).1

  -- arrivals make no cycle
  pub arrivals_cycles : (ns : List ℕ) (g k : Grid W) → k ≡ arrivals blocks budget ns g
      → k.counts.cycles ≡ g.counts.cycles
  arrivals_cycles ns g k e = ap (λ (x : Grid W). x.counts.cycles) e
      ∙ (arrivals_keep blocks budget (Silent blocks budget) (silent blocks budget) (λ n. tt) ns g).1

-- behind parts (2) and (3), each over the image and the budget that it finds
pub after_reads : {W : Type 0} (bs cs : List Block) (b d : ℕ) (g x y : Grid W) → x ≡ fetches bs b g
    → y ≡ reads_answered cs d x → IsCounted g → Room (g.counts.cycles + 1) g.counts.cycles y
after_reads bs cs b d g x y e f c = after_banks cs d (g.counts.cycles + 1) g.counts.cycles x y f
    (after_fetches bs b g.counts.cycles g.counts.cycles g x e (room_of g c))

-- behind parts (4) and (5)
pub after_units : {W : Type 0} (bs cs : List Block) (b d most made : ℕ) (g x y : Grid W) → x ≡ answers bs b g
    → y ≡ works_on cs d x → Room most made g → Room most made y
after_units bs cs b d most made g x y e f r =
    after_works cs d most made x y f (after_answers bs b most made g x e r)

-- a whole cycle ----------------------------------------------------------------------------------

module _ {W : Type 0} (next : W → ℕ) (follows : W → W → Type 0) (blocks : List Block) (budget : ℕ)
    (g h : Grid W) where
  counted_by : IsCounted g → (AddsUp g → AddsUp h) → OneCycle g h → IsCounted h
  counted_by c adds one = record {
    adds = adds c.adds;
    fetched = let f = c.fetched in let a = one.0 in let b = one.1 in omega (arith, f, a, b);
  }

  -- what follows part (1) leaves room for a cycle more, and is counted
  pub moves_counted : IsCounted g → Moves next follows blocks budget (acts blocks budget g) h → IsCounted h
  moves_counted c moves = counted_by c (follows_keep blocks budget (Adds blocks budget) (keeps blocks budget)
      (λ n. tt) tt tt tt tt tt next follows Went g h moves) (follows_once blocks budget next follows Went g h moves)

  -- what follows the acts of a cycle counts it
  pub moves_cycles : Moves next follows blocks budget (acts blocks budget g) h
      → h.counts.cycles ≡ g.counts.cycles + 1
  moves_cycles moves = (follows_once blocks budget next follows Went g h moves).1

  -- so does a whole cycle
  pub eager_counted : IsCounted g → Eager next follows blocks budget g h → IsCounted h
  eager_counted c cycle = counted_by c
      (eager_keeps blocks budget (Adds blocks budget) (keeps blocks budget) next follows g h cycle)
      (eager_once blocks budget next follows g h cycle)

  -- a cycle with all its parts counts itself
  pub eager_cycles : Eager next follows blocks budget g h → h.counts.cycles ≡ g.counts.cycles + 1
  eager_cycles cycle = (eager_once blocks budget next follows g h cycle).1
