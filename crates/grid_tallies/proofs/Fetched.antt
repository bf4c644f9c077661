-- What is noted of fetches that end and begin is told by what is seen of the grid before and behind.
use Rattle.std.proofs.Common.{◌≡◌, ℕ, zero, suc, ◌==◌, Bool, true, false, cond, List, [], ◌∷◌, ◌++◌, is_none}
use Rattle.std.proofs.Common.{Option, Some, None, refl, sym, ap, ap₂, ◌∙◌, subst, arith}
use Rattle.std.proofs.lemmas.Bool.{eq-eqb, ne_eqb}
use Rattle.trips_isa.specs.declared.block.Block.{Block}
use Rattle.block_predict.specs.Predicts.{predicted}
use Rattle.commit_flush_spec.specs.Frames.{Exit, Frame}
use Rattle.commit_flush_spec.specs.Window.{Window, lowest_empty}
use Rattle.commit_flush_spec.specs.Window as window
use Rattle.grid_cycle_spec.specs.Grid.{Grid, Fetching}
use Rattle.grid_cycle_spec.specs.Acting.{may}
use Rattle.grid_cycle_spec.specs.Fetches.{begins, begun_after, begun_behind, begun_guess, begun_predicted, fetch_begins}
use Rattle.grid_cycle_spec.specs.Fetches.{fetch_ends, filled, may_begin, stands}
use Rattle.grid_parts.specs.inside.Asked.{number_of}
use Rattle.grid_parts.specs.inside.Fetches.{due}
use Rattle.grid_parts.specs.inside.Youngest.{IsYoungest}
use Rattle.grid_events.specs.Notes.{Note}
use Rattle.grid_events.specs.Notes as note
use Rattle.grid_events.specs.Plays.{block_of}
use Rattle.grid_events.specs.FetchNotes as part
use Rattle.grid_tallies.specs.declared.counters.Counters.{Counters}
use Rattle.grid_tallies.specs.Counters.{Hears}
use Rattle.grid_tallies.specs.inside.Adding.{Nothing}
use Rattle.grid_tallies.specs.inside.Fetching.{begun_if, begun_notes, due_notes, guesses, may_fill, open_youngest}
use Rattle.grid_tallies.proofs.Hearing.{hears_both}

-- the number of an open frame that is told by its exit
pub open_none : (o : Option Exit) (n : ℕ) → None ≡ number_of o → Some n ≡ cond (is_none o) (Some n) None
open_none None n e = refl
open_none (Some x) n e = absurd (let z = e in cc)

pub open_some : (o : Option Exit) (n k : ℕ) → Some k ≡ number_of o → None ≡ cond (is_none o) (Some n) None
open_some None n k e = absurd (let z = e in cc)
open_some (Some x) n k e = refl

-- the youngest frame says whether some frames are open
pub open_is : (f : Frame) (fs : List Frame) → IsYoungest f fs
    → open_youngest fs ≡ cond (is_none f.exit) (Some f.number) None
open_is f [] y = absurd y
open_is f (h ∷ []) y = ap (λ (x : Frame). cond (is_none x.exit) (Some x.number) None) y
open_is f (h ∷ (i ∷ fs)) y = open_is f (i ∷ fs) y

-- nothing is predicted behind no open frame
no_guess : (o : Option ℕ) → guesses o None ≡ None
no_guess None = refl
no_guess (Some k) = refl

module _ {W : Type 0} (blocks : List Block) where
  after_predicted : (f : Frame) (o : Option ℕ) (g : Grid W) → g.fetching ≡ None
      → begun_notes (Some f.number) (block_of (begun_predicted blocks f.block o g).fetching)
      ≡ part.predicted_notes f.number o
  after_predicted f None g e = ap (λ o. begun_notes (Some f.number) (block_of o)) e
  after_predicted f (Some k) g e = refl

  after_guess : (o : Option ℕ) (f : Frame) (g : Grid W) → g.fetching ≡ None
      → begun_notes (guesses o (Some f.number)) (block_of (begun_guess blocks o f g).fetching)
      ≡ part.guess_notes blocks o f g
  after_guess (Some k) f g e = refl
  after_guess None f g e = after_predicted f (predicted blocks g.predictor f.block) g e

  after_behind : (f : Frame) (o : Option Exit) (g : Grid W) → g.fetching ≡ None
      → begun_notes (guesses g.standing (cond (is_none o) (Some f.number) None))
      (block_of (begun_behind blocks f o g).fetching) ≡ part.behind_notes blocks f o g
  after_behind f (Some x) g e =
      ap (λ o. begun_notes o (block_of (begun_behind blocks f (Some x) g).fetching)) (no_guess g.standing)
  after_behind f None g e = after_guess g.standing f g e

  after_all : (fs : List Frame) (g : Grid W) → g.fetching ≡ None
      → begun_notes (guesses g.standing (open_youngest fs)) (block_of (begun_after blocks fs g).fetching)
      ≡ part.after_notes blocks fs g
  after_all [] g e = ap (λ o. begun_notes o (block_of (begun_after blocks [] g).fetching)) (no_guess g.standing)
  after_all (f ∷ []) g e = after_behind f f.exit g e
  after_all (f ∷ (h ∷ fs)) g e = after_all (h ∷ fs) g e

  begin_is : (o : Option Fetching) (g : Grid W) → g.fetching ≡ o
      → begun_if (is_none o) (guesses g.standing (open_youngest g.window.frames))
      (block_of (fetch_begins blocks o g).fetching) ≡ part.begin_notes blocks o g
  begin_is (Some f) g e = refl
  begin_is None g e = go (may_begin g)
    where
      go : (b : Bool) → begun_notes (guesses g.standing (open_youngest g.window.frames))
          (block_of (cond b (begun_after blocks g.window.frames g) g).fetching)
          ≡ cond b (part.after_notes blocks g.window.frames g) []
      go true = after_all g.window.frames g e
      go false = ap (λ o. begun_notes (guesses g.standing (open_youngest g.window.frames)) (block_of o)) e

  -- the begin of a fetch, of what is seen before and behind
  pub begins_are : (g h : Grid W) (idle : Bool) (behind : Option ℕ) (after : Option (ℕ × Bool))
      → h ≡ begins blocks g → idle ≡ is_none g.fetching
      → behind ≡ guesses g.standing (open_youngest g.window.frames) → after ≡ block_of h.fetching
      → begun_if idle behind after ≡ part.begin_notes blocks g.fetching g
  begins_are g h idle behind after is i f t =
      ap (λ k. begun_if k behind after) i ∙ ap (λ o. begun_if (is_none g.fetching) o after) f
      ∙ ap (begun_if (is_none g.fetching) (guesses g.standing (open_youngest g.window.frames)))
      (t ∙ ap (λ (x : Grid W). block_of x.fetching) is)
      ∙ begin_is g.fetching g refl

  module _ (budget : ℕ) where
    filled_is : (b : Bool) (f : Fetching) (g : Grid W)
        → cond b (note.Fetches (filled (lowest_empty 8 0 g.window.frames)) f.block ∷ []) (note.GivesUp f.block ∷ [])
        ≡ part.fill_notes b f g
    filled_is true f g = refl
    filled_is false f g = refl

    fetch_is : (o : Option Fetching) (g : Grid W)
        → due_notes (due o) (may_fill blocks budget (due o) g.window) (lowest_empty 8 0 g.window.frames)
        ≡ part.fetch_notes blocks budget o g
    fetch_is None g = refl
    fetch_is (Some f) g = go f.left refl
      where
        told : (d : Option ℕ) → due (Some f) ≡ d
            → due_notes (due (Some f)) (may_fill blocks budget (due (Some f)) g.window)
            (lowest_empty 8 0 g.window.frames)
            ≡ due_notes d (may_fill blocks budget d g.window) (lowest_empty 8 0 g.window.frames)
        told d e = ap (λ o. due_notes o (may_fill blocks budget o g.window) (lowest_empty 8 0 g.window.frames)) e

        go : (left : ℕ) → f.left ≡ left → due_notes (due (Some f)) (may_fill blocks budget (due (Some f)) g.window)
            (lowest_empty 8 0 g.window.frames) ≡ part.on_notes blocks budget left f g
        go zero e = told (Some f.block) (ap (λ b. cond b (Some f.block) None) (eq-eqb f.left 0 e))
            ∙ filled_is (may blocks budget (window.Fetch f.block) g) f g
        go (suc left) e = told None (ap (λ b. cond b (Some f.block) None)
            (ne_eqb f.left 0 (λ z. absurd (omega (arith, e, z)))))

    -- the end of a fetch, of what is seen before
    pub fetch_ends_are : (g : Grid W) (d : Option ℕ) (may : Bool) (room : Option ℕ) → d ≡ due g.fetching
        → may ≡ may_fill blocks budget d g.window → room ≡ lowest_empty 8 0 g.window.frames
        → due_notes d may room ≡ part.fetch_notes blocks budget g.fetching g
    fetch_ends_are g d may room is m r =
        ap₂ (due_notes d) m r
        ∙ ap (λ o. due_notes o (may_fill blocks budget o g.window) (lowest_empty 8 0 g.window.frames)) is
        ∙ fetch_is g.fetching g

    nothing_filled : (b : Bool) (f : Fetching) (g : Grid W) → Nothing (part.fill_notes b f g)
    nothing_filled true f g = λ s. refl
    nothing_filled false f g = λ s. refl

    -- no statistic counts the end of a fetch by itself
    pub nothing_fetched : (o : Option Fetching) (g : Grid W) → Nothing (part.fetch_notes blocks budget o g)
    nothing_fetched None g = λ s. refl
    nothing_fetched (Some f) g = go f.left
      where
        go : (left : ℕ) → Nothing (part.on_notes blocks budget left f g)
        go zero = nothing_filled (may blocks budget (window.Fetch f.block) g) f g
        go (suc left) = λ s. refl

    -- part (2)
    pub fetches_hear : (g m : Grid W) (a x b : Counters) → m ≡ fetch_ends blocks budget g.fetching g
        → Hears a (part.fetch_notes blocks budget g.fetching g) x
        → Hears x (part.begin_notes blocks m.fetching m) b → Hears a (part.fetches_notes blocks budget g) b
    fetches_hear g m a x b is one rest =
        let k : Grid W = fetch_ends blocks budget g.fetching g in
        hears_both a x b (part.fetch_notes blocks budget g.fetching g) (part.begin_notes blocks k.fetching k) one
        (subst (λ (y : Grid W). Hears x (part.begin_notes blocks y.fetching y) b) is rest)

abbrev pub number_or : Option ℕ → ℕ
number_or None = 0
number_or (Some k) = k

-- what is told of a fetch that is under way
pub fetched_by : (o : Option Fetching) (r : Option ℕ) (k : ℕ) (careful : Bool)
    → ((f : Fetching) → o ≡ Some f → r ≡ Some f.block) → (o ≡ None → r ≡ None)
    → ((f : Fetching) → o ≡ Some f → careful ≡ f.careful) → r ≡ Some k → Some (k, careful) ≡ block_of o
fetched_by None r k careful some none is e = absurd (let x = none refl in cc)
fetched_by (Some f) r k careful some none is e =
    ap₂ (λ (n : ℕ) (b : Bool). Some (n, b)) (ap number_or (sym e ∙ some f refl)) (is f refl)

-- and of none
pub fetched_none : (o : Option Fetching) (r : Option ℕ) → ((f : Fetching) → o ≡ Some f → r ≡ Some f.block)
    → r ≡ None → None ≡ block_of o
fetched_none None r some e = refl
fetched_none (Some f) r some e = absurd (let x = some f refl in cc)
