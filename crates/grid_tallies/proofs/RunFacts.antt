-- What is heard of cycles, one after another, and of the end of a run.
use Rattle.std.proofs.Common.{◌≡◌, ◌<◌, ℕ, suc, ◌+◌, ◌^◌, ◌==◌, cond, true, List, [], ◌∷◌, ◌++◌, length, refl}
use Rattle.std.proofs.Common.{sym, ap, ◌∙◌, subst, arith}
use Rattle.std.proofs.Common.{add-one}
use Rattle.trips_isa.specs.declared.block.Block.{Block}
use Rattle.commit_flush_spec.specs.Frames.{Frame}
use Rattle.grid_cycle_spec.specs.Grid.{Grid}
use Rattle.grid_cycle_spec.specs.Cycles.{closed}
use Rattle.grid_events.specs.Notes.{Note, End}
use Rattle.grid_events.specs.Counts.{tally, flushed, one_if}
use Rattle.grid_events.specs.Turns.{flushes, gives_up}
use Rattle.grid_events.specs.Cycles.{NotedCycles, closing, told}
use Rattle.grid_events.specs.Laws.{Tells}
use Rattle.grid_events.proofs.Runs.{cycles_tell}
use Rattle.grid_machine.specs.inside.Counted.{IsCounted as HasRoom}
use Rattle.grid_machine.specs.Endings.{is_going}
use Rattle.grid_tallies.specs.declared.statistic.Statistic.TheVariants as statistic
use Rattle.grid_tallies.specs.declared.counters.Counters.{Counters}
use Rattle.grid_tallies.specs.declared.flights.Flights.{Flights}
use Rattle.grid_tallies.specs.declared.tallies.Tallies.{Tallies}
use Rattle.grid_tallies.specs.Counters.{Hears}
use Rattle.grid_tallies.specs.Flights.{Flown, begun_with, in_flight, number_with}
use Rattle.grid_tallies.specs.Cycles.{IsCounted}
use Rattle.grid_tallies.specs.Runs.{AreCounted, NotedGoes}
use Rattle.grid_tallies.specs.inside.Adding.{Adds, Only}
use Rattle.grid_tallies.proofs.Guessing.{guessed_none}
use Rattle.grid_tallies.proofs.Hearing.{hears_both}
use Rattle.grid_tallies.proofs.Quiet.{quiet_closing}
use Rattle.grid_tallies.proofs.Tallying.{heard_adds, joined}
use Rattle.grid_tallies.proofs.Weighed.{flushes_both, flushes_given, flushes_only, none_given}

module _ {W : Type 0} (next : W → ℕ) (follows : W → W → Type 0) (blocks : List Block) (budget : ℕ) where
  -- cycles of a run are cycles
  goes_are : (ess : List (List Note)) (g h : Grid W) → NotedGoes next follows blocks budget ess g h
      → NotedCycles next follows blocks budget g ess h
  goes_are [] g h e = e
  goes_are (es ∷ ess) g h c =
      record { between = c.between; before = goes_are ess g c.between (c.before).0; after = c.after }

  -- how many frames are in flight is told by the notes
  flying : (ess : List (List Note)) (g m : Grid W) → NotedGoes next follows blocks budget ess g m → HasRoom g
      → HasRoom m → in_flight (length g.window.frames) (told ess) ≡ length m.window.frames
  flying ess g m cycles here there =
      let t : Tells blocks budget g (told ess) m =
      cycles_tell next follows blocks budget g ess m (goes_are ess g m cycles) in
      let f = t.fetched in
      let d = t.committed in
      let s = t.flushed in
      let one = here.adds in
      let two = there.adds in
      omega (arith, f, d, s, one, two)

  -- the frames in flight are counted as one cycle more begins
  one_flown : (before k : ℕ) (es : List Note) (ess : List (List Note)) (p q r : Flights)
      → in_flight before (told ess) ≡ k → Flown p before ess q
      → ((n : ℕ) → number_with n q + cond (n == k) 1 0 < 2 ^ 64 → number_with n r ≡ number_with n q + cond (n == k) 1 0)
      → Flown p before (es ∷ ess) r
  one_flown before k es ess p q r is flown begins = λ n less room.
      let one : one_if (n == in_flight before (told ess)) ≡ cond (n == k) 1 0 =
      ap (λ m. one_if (n == m)) is in
      let first : number_with n q ≡ number_with n p + begun_with n before ess =
      flown n less (omega (arith, room)) in
      let last : number_with n r ≡ number_with n q + cond (n == k) 1 0 =
      begins n (omega (arith, room, one, first)) in
      omega (arith, one, first, last)

  -- one cycle more, over another image and budget that are these
  pub one_more : (bs : List Block) (b n : ℕ) (g m h : Grid W) (x y z : Counters) → bs ≡ blocks → b ≡ budget
      → (p q r : Flights) (k : ℕ) → k ≡ length m.window.frames → k < 9 → HasRoom g → HasRoom m
      → ((n : ℕ) → number_with n q + cond (n == k) 1 0 < 2 ^ 64 → number_with n r ≡ number_with n q + cond (n == k) 1 0)
      → is_going budget m.window ≡ true → AreCounted next follows blocks budget n g m x y p q
      → IsCounted next follows bs b m h y z → AreCounted next follows blocks budget (n + 1) g h x z p r
  one_more bs b n g m h x y z e f p q r k many small here there begins on before last =
      let c : IsCounted next follows blocks budget m h y z =
      subst (λ k. IsCounted next follows blocks k m h y z) f (subst (λ k. IsCounted next follows k b m h y z) e last)
      in
      record {
        notes = c.notes ∷ before.notes;
        many = ap suc before.many ∙ sym (add-one n);
        cycles = record { between = m; before = (before.cycles, on); after = c.noted };
        heard = hears_both x y z (told before.notes) c.notes before.heard c.heard;
        flown = one_flown (length g.window.frames) k c.notes before.notes p q r
            (flying before.notes g m before.cycles here there ∙ sym many) before.flown begins;
        few = (let e = flying before.notes g m before.cycles here there in omega (arith, e, many, small), before.few);
      }

-- as many flushes are noted as there are frames
flushed_all : (fs : List Frame) → tally flushed (flushes End fs) ≡ length fs
flushed_all [] = refl
flushed_all (f ∷ fs) = let e = flushed_all fs in omega (arith, e)

-- the end of a run is heard where the frames in flight are counted
pub closing_heard : {W : Type 0} (g : Grid W) (by : ℕ) (a : Counters) (b : Tallies) → by ≡ length g.window.frames
    → Adds statistic.Ends by a.tallies b → Hears a (closing g) (record { tallies = b; guesses = a.guesses })
closing_heard g by a b is adds =
    let fs : List Frame = g.window.frames in
    let us : List Note = gives_up g.fetching (closed g).fetching in
    let only = flushes_both statistic.Ends (flushes End fs) us (flushes_only End fs)
    (flushes_given statistic.Ends g.fetching (closed g).fetching) in
    let both = joined flushed (flushes End fs) us in
    let all = flushed_all fs in
    let none = none_given g.fetching (closed g).fetching in
    let many : tally flushed (closing g) ≡ by = omega (arith, both, all, none, is) in
    record {
      tallies = heard_adds statistic.Ends by a.tallies b (closing g) adds
          (subst (λ n. Only statistic.Ends n (closing g)) many only);
      guesses = guessed_none a.guesses (closing g) (quiet_closing g);
    }
