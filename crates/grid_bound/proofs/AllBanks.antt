-- Part (3) as a whole: the banks answer the reads of the oldest frame that the lane picks.
use Rattle.std.proofs.Common.{◌≡◌, ℕ, zero, suc, ◌<◌, ◌&&◌, Bool, true, false, cond, nat_lt, List, ◌∷◌}
use Rattle.std.proofs.Common.{refl, sym, ap, ◌∙◌, arith}
use Rattle.std.proofs.Math.Path.{fun_ext}
use Rattle.std.proofs.lemmas.Bool.{cond-false, and_parts, and_right, lt-ltb, le-ltb}
use Rattle.trips_isa.specs.declared.block.Block.{Block}
use Rattle.trips_isa.specs.declared.run.Stepped.TheVariants as stepped
use Rattle.trips_isa.specs.Rule.{Answer}
use Rattle.commit_flush_spec.specs.Frames.{Frame}
use Rattle.commit_flush_spec.specs.inside.Invariant.{AllGood}
use Rattle.commit_flush_spec.specs.inside.Laws.{WindowOk}
use Rattle.grid_cycle_spec.specs.Stations.{bank_of}
use Rattle.grid_cycle_spec.specs.Grid.{Grid}
use Rattle.grid_cycle_spec.specs.Choosing.{each}
use Rattle.grid_cycle_spec.specs.Banks.{bank_turn, reads_answered}
use Rattle.grid_bound.specs.inside.Course.{Task}
use Rattle.grid_bound.specs.inside.Lane.{Front, unread}
use Rattle.grid_bound.specs.inside.Sending.{pick, none_busy, station_of, sent_from, reads_front}
use Rattle.grid_bound.specs.inside.Blocks.{read_task, course_of}
use Rattle.grid_bound.specs.inside.Seen.{front_of}
use Rattle.grid_bound.proofs.Sizes.{read_is}
use Rattle.grid_bound.specs.inside.Shows.{Shows, QuietReads}
use Rattle.grid_cycle_spec.proofs.KeptByCycles.{bank_keeps}
use Rattle.grid_cycle_spec.proofs.KeptByTurns.{each_keeps}
use Rattle.grid_bound.proofs.Steady.{Onward, On, steady}
use Rattle.grid_bound.proofs.Fronts.{same_front}
use Rattle.grid_bound.proofs.BankAnswers.{Unread, AtBank, read_front, unread_is}
use Rattle.grid_bound.proofs.AnsweredReads.{bank_turns}

module _ {W : Type 0} (blocks : List Block) (good : AllGood blocks) (budget : ℕ) (t : ℕ → Answer) (f : Frame)
    (g : Grid W) (fs : List Frame) (i : g.window.frames ≡ f ∷ fs) (ok : WindowOk blocks budget g.window)
    (went : g.window.over ≡ stepped.Went) (runs : f.sealed ≡ false) (quiet : QuietReads g f) where
  abbrev F : Front
  F = front_of (course_of f.code t) g f

  begins : AtBank blocks good budget t f g 0 g
  begins = record {
    frame = f;
    younger = fs;
    frames = i;
    number = refl;
    code = refl;
    stores = refl;
    runs = runs;
    front = sym (same_front (read_front blocks good budget t f g 0) (front_of (course_of f.code t) g f) refl refl
        (fun_ext (λ x. cond-false _ _ _ (and_right (pick (unread F) (station_of F) none_busy x) _
        (le-ltb (station_of F x) 0 (omega arith))))) refl refl);
    quiet = quiet;
  }

  onward : (k : ℕ) → Onward blocks budget g.window (each (bank_turn blocks budget) k g).window
  onward k = each_keeps blocks budget (On blocks budget) (steady blocks budget good) (bank_turn blocks budget)
      (bank_keeps blocks budget (On blocks budget) (steady blocks budget good) (λ n. tt) tt) k g

  after : (k : ℕ) → AtBank blocks good budget t f g k (each (bank_turn blocks budget) k g)
  after zero = begins
  after (suc k) = bank_turns blocks good budget t f g k (each (bank_turn blocks budget) k g) (after k)
      ((onward k).ok ok) ((onward k).over ∙ went)

  -- each read is of one of the four banks
  all_banks : read_front blocks good budget t f g 4 ≡ reads_front (front_of (course_of f.code t) g f)
  all_banks = same_front (read_front blocks good budget t f g 4) (reads_front (front_of (course_of f.code t) g f))
      refl refl (fun_ext each_task) refl refl
    where
      within : (b : Bool) (n : ℕ) → (b ≡ true → n < 4) → (b && nat_lt n 4) ≡ b
      within false n h = refl
      within true n h = lt-ltb n 4 (h refl)

      each_task : (x : ℕ) → (read_front blocks good budget t f g 4).at x
          ≡ (reads_front (front_of (course_of f.code t) g f)).at x
      each_task x = ap (λ b. cond b (sent_from (front_of (course_of f.code t) g f).generation
          ((course_of f.code t).task x).here ((course_of f.code t).task x))
          ((front_of (course_of f.code t) g f).at x))
          (within _ (station_of (front_of (course_of f.code t) g f) x) (λ p.
          let q : Unread blocks good budget t f g x = unread_is blocks good budget t f g x (and_parts
          (unread (front_of (course_of f.code t) g f) x) _ p).0 in
          let st : station_of (front_of (course_of f.code t) g f) x ≡ bank_of q.slot.register =
          ap (station_of (front_of (course_of f.code t) g f)) q.is_number
          ∙ ap (λ (k : Task). k.station) (read_is f.code t q.number ∙ ap (read_task f.code) q.is_slot) in
          omega (arith, st)))

  -- the banks serve the oldest frame
  pub banks_serve : Shows (course_of f.code t) f (reads_answered blocks budget g)
      (reads_front (front_of (course_of f.code t) g f))
  banks_serve = let a : AtBank blocks good budget t f g 4 (each (bank_turn blocks budget) 4 g) = after 4 in record {
    frame = a.frame;
    younger = a.younger;
    frames = a.frames;
    number = a.number;
    code = a.code;
    stores = a.stores;
    runs = a.runs;
    front = a.front ∙ all_banks;
  }
