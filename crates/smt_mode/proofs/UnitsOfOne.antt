-- An issue of one program on a unit that all share.
use Rattle.std.proofs.Common.{◌≡◌, ℕ, ◌==◌, ◌<◌, Bool, true, false, cond, List, [], ◌∷◌, Some}
use Rattle.std.proofs.Common.{length, set, slice_get, slice_index_or, refl, sym, ap, ap₂, ◌∙◌}
use Rattle.std.proofs.Math.Path.{fun_ext}
use Rattle.std.proofs.lemmas.Bool.{eqb-true, eq-eqb}
use Rattle.trips_isa.specs.declared.block.Block.{Block}
use Rattle.block_cases.specs.Orders.{slot_of}
use Rattle.commit_flush_spec.specs.Frames.{Frame}
use Rattle.grid_cycle_spec.specs.Grid.{Grid}
use Rattle.grid_cycle_spec.specs.Choosing.{with_frame}
use Rattle.grid_cycle_spec.specs.Units.{issue_chosen, issued, issues, takes}
use Rattle.smt_spec.specs.Programs.{Four, alone, grid_of, own_of, put}
use Rattle.smt_mode.specs.Machines.{Program, four_by, seen_of}
use Rattle.smt_mode.specs.inside.Issues.{IsIssued, chosen, freed}
use Rattle.grid_parts.proofs.RowFacts.{set_row}
use Rattle.smt_mode.proofs.OneProgram.{sees, written_among}

-- units of which one is busy for so long
abbrev pub with_unit : ℕ → ℕ → (ℕ → ℕ) → ℕ → ℕ
with_unit tile time u t = cond (t == tile) time (u t)

module _ {V W : Type 0} (blocks : List Block) (budget tile : ℕ) (u : ℕ → ℕ) (w : W) (c : ℕ) where
  -- a grid's own parts among these
  abbrev amid : (ℕ → ℕ) → Grid V → Grid W
  amid v g = grid_of (own_of g) v w c

  -- the unit of the tile is as busy as it has made it
  abbrev after : Grid V → ℕ → ℕ
  after h = with_unit tile (h.units tile) u

  same_units : (g : Grid V) → g.units tile ≡ u tile → u ≡ after g
  same_units g e = fun_ext (λ t. by t (t == tile) refl)
    where
      by : (t : ℕ) (b : Bool) → (t == tile) ≡ b → u t ≡ cond b (g.units tile) (u t)
      by t true i = ap u (eqb-true t tile i) ∙ sym e
      by t false i = refl

  frame_alike : (q : ℕ × ℕ) (fs : List Frame) (g : Grid V) → g.units tile ≡ u tile
      → with_frame q.0 (λ f h. issued blocks budget tile q.0 q.1 (takes (slot_of f.code q.1)) h) fs (amid u g)
      ≡ amid (after (with_frame q.0 (λ f h. issued blocks budget tile q.0 q.1 (takes (slot_of f.code q.1)) h) fs g))
      (with_frame q.0 (λ f h. issued blocks budget tile q.0 q.1 (takes (slot_of f.code q.1)) h) fs g)
  frame_alike q [] g e = ap (λ v. amid v g) (same_units g e)
  frame_alike q (f ∷ fs) g e = by (f.number == q.0) (frame_alike q fs g e)
    where
      does : {X : Type 0} → Frame → Grid X → Grid X
      does f h = issued blocks budget tile q.0 q.1 (takes (slot_of f.code q.1)) h

      it : does f (amid u g) ≡ amid (after (does f g)) (does f g)
      it = ap (λ b. amid (with_unit tile (cond b (takes (slot_of f.code q.1)) (g.units tile)) u) (does f g))
          (sym (eq-eqb tile tile refl))

      by : (b : Bool) → with_frame q.0 does fs (amid u g)
          ≡ amid (after (with_frame q.0 does fs g)) (with_frame q.0 does fs g)
          → cond b (does f (amid u g)) (with_frame q.0 does fs (amid u g))
          ≡ amid (after (cond b (does f g) (with_frame q.0 does fs g))) (cond b (does f g) (with_frame q.0 does fs g))
      by true rest = it
      by false rest = rest

  -- an issue on a unit that is as busy for both makes both as busy
  pub issue_alike : (q : ℕ × ℕ) (g : Grid V) → g.units tile ≡ u tile
      → issue_chosen blocks budget tile (Some q) (amid u g)
      ≡ amid (after (issue_chosen blocks budget tile (Some q) g)) (issue_chosen blocks budget tile (Some q) g)
  issue_alike q g e = frame_alike q g.window.frames g e

module _ (programs : List Program) (p : ℕ) (x y : Program) (l : p < length programs)
    (is : slice_get programs p ≡ Some x) (bs : List Block) (b tile : ℕ) (q : ℕ × ℕ) (time : ℕ)
    (it : IsIssued bs b tile (seen_of x) (seen_of y) q time) where
  module _ {W : Type 0} (units : List ℕ) (inside : tile < length units) (free : slice_index_or units tile 0 ≡ 0)
      (weather : W) (cycles : ℕ) where
    abbrev before : Four W
    before = four_by programs units weather cycles

    -- the program among what all share
    abbrev own_grid : Grid (Unit {0}) → (ℕ → ℕ) → Grid W
    own_grid g u = grid_of (own_of g) u weather cycles

    row : with_unit tile time before.units ≡ (λ t. slice_index_or (set units tile time) t 0)
    row = sym (set_row units tile time 0 inside)

    same_time : (issue_chosen bs b tile (Some q) (freed tile (seen_of x))).units tile ≡ time
    same_time = ap (λ (h : Grid (Unit {0})). h.units tile) (sym it.issued) ∙ sym it.busy

    made : issues bs b tile (alone p before)
        ≡ own_grid (seen_of y) (λ t. slice_index_or (set units tile time) t 0)
    made =
        ap (issues bs b tile) (sees programs p x y l is units weather cycles)
        ∙ ap (λ n. cond (n == 0) (issue_chosen bs b tile (chosen bs b tile (seen_of x))
        (own_grid (seen_of x) before.units)) (own_grid (seen_of x) before.units)) free
        ∙ ap (λ o. issue_chosen bs b tile o (own_grid (seen_of x) before.units)) it.chose
        ∙ issue_alike bs b tile before.units weather cycles q (freed tile (seen_of x))
        (ap (λ c. cond c 0 ((seen_of x).units tile)) (eq-eqb tile tile refl) ∙ sym free)
        ∙ ap (λ n. own_grid (issue_chosen bs b tile (Some q) (freed tile (seen_of x)))
        (with_unit tile n before.units))
        same_time
        ∙ ap₂ (λ g u. own_grid g u) (sym it.issued) row

    -- a program that issues on a free unit does what it does alone, and the unit is as busy for all
    pub issued_one : four_by (set programs p y) (set units tile time) weather cycles
        ≡ put p (issues bs b tile (alone p before)) before
    issued_one = written_among programs p x y l is units (set units tile time) weather cycles
        (issues bs b tile (alone p before)) made
