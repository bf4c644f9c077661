-- Units: a cycle less, results that are given, and slots that are issued.
use Rattle.std.proofs.Common.{◌≡◌, ◌≢◌, ℕ, zero, suc, ◌-◌, ◌==◌, true, false, cond, List}
use Rattle.std.proofs.Common.{Option, Some, None, is_some, ◌⊎◌, inl, inr, refl, sym, ap, ◌∙◌, arith}
use Rattle.std.proofs.Math.Path.{fun_ext}
use Rattle.std.proofs.lemmas.Bool.{cases_eq, eq-eqb, ne_eqb, false≢true}
use Rattle.trips_isa.specs.declared.block.Inst.{Inst}
use Rattle.trips_isa.specs.declared.block.Block.{Block}
use Rattle.trips_isa.specs.Forms.{form_of}
use Rattle.block_cases.specs.Orders.{slot_of}
use Rattle.commit_flush_spec.specs.Frames.{Frame}
use Rattle.grid_cycle_spec.specs.Grid.{Grid}
use Rattle.grid_cycle_spec.specs.Choosing.{eldest, slots}
use Rattle.grid_cycle_spec.specs.Units.{in_unit, result_chosen, unit_on, rests, slot_enters, result_enters}
use Rattle.grid_cycle_spec.specs.Units.{issued, issue_chosen, issues, ready, takes}
use Rattle.grid_parts.specs.inside.Changes.{less_busy}
use Rattle.grid_parts.proofs.PartFacts.{with_units}
use Rattle.grid_parts.specs.inside.Asked.{frame_of, found_in}
use Rattle.grid_parts.proofs.FrameFacts.{by_frame, with_frame_is}

-- frames -------------------------------------------------------------------------------------------

-- a frame that has a block is in flight
pub some_frame : (o : Option Frame) → is_some (found_in (λ f. Some f.block) o) ≡ true → (f : Frame) × (o ≡ Some f)
some_frame None e = absurd (false≢true e)
some_frame (Some f) e = (f, refl)

-- a number of which no block is told has no frame in flight
pub no_frame : (o : Option Frame) → is_some (found_in (λ f. Some f.block) o) ≡ false → o ≡ None
no_frame None e = refl
no_frame (Some f) e = absurd (false≢true (sym e))

module _ {W : Type 0} where
  -- time -------------------------------------------------------------------------------------------

  abbrev with_unit : ℕ → ℕ → Grid W → Grid W
  with_unit tile n g = record g { units = λ t. cond (t == tile) n (g.units t) }

  -- the grid once a tile's unit has given the result of the eldest frame that is in it
  abbrev pub result_given : ℕ → Grid W → Grid W
  result_given tile g = result_chosen (eldest (in_unit g tile) slots g.window.frames) g

  -- in its last cycle a unit gives its result
  pub last_cycle : (tile n : ℕ) (g : Grid W) → g.units tile ≡ n → n ≡ 1
      → result_given tile (less_busy tile g) ≡ unit_on tile n g
  last_cycle tile n g e one =
      let none : g.units tile - 1 ≡ 0 = omega (arith, e, one) in
      ap (λ k. result_given tile (with_unit tile k g)) none ∙ ap (λ k. unit_on tile k g) (sym one)

  -- in any other cycle a unit is only busy for a cycle less
  pub other_cycle : (tile n : ℕ) (g : Grid W) → g.units tile ≡ n → n ≢ 1 → less_busy tile g ≡ unit_on tile n g
  other_cycle tile zero g e ne =
      let none : g.units tile - 1 ≡ 0 = omega (arith, e) in
      ap (λ k. with_unit tile k g) none
      ∙ ap (λ u. with_units u g) (fun_ext (λ t. go t (cases_eq t tile)))
    where
      go : (t : ℕ) → (t ≡ tile) ⊎ (t ≢ tile) → cond (t == tile) 0 (g.units t) ≡ g.units t
      go t (inl d) = ap (λ b. cond b 0 (g.units t)) (eq-eqb t tile d) ∙ sym (ap g.units d ∙ e)
      go t (inr d) = ap (λ b. cond b 0 (g.units t)) (ne_eqb t tile d)
  other_cycle tile (suc zero) g e ne = absurd (ne refl)
  other_cycle tile (suc (suc n)) g e ne =
      let less : g.units tile - 1 ≡ suc n = omega (arith, e) in ap (λ k. with_unit tile k g) less

  -- results ----------------------------------------------------------------------------------------

  module _ (n s : ℕ) (g : Grid W) where
    abbrev gives : Frame → Grid W → Grid W
    gives f h = slot_enters (slot_of f.code s) s f (rests n s h)

    -- where the frame is not in flight, no result is given
    pub given_none : frame_of n g.window.frames ≡ None → g ≡ result_chosen (Some (n, s)) g
    given_none e = sym (with_frame_is n gives g.window.frames g ∙ ap (by_frame gives g) e)

    -- where the slot is empty, the unit rests and nothing enters the grid
    pub given_rest : (f : Frame) → frame_of n g.window.frames ≡ Some f → slot_of f.code s ≡ None
        → rests n s g ≡ result_chosen (Some (n, s)) g
    given_rest f e none = sym (with_frame_is n gives g.window.frames g ∙ ap (by_frame gives g) e
        ∙ ap (λ o. slot_enters o s f (rests n s g)) none)

    -- the result of an instruction enters the grid as the form of the instruction has it
    pub given : (f : Frame) (i : Inst) → frame_of n g.window.frames ≡ Some f → slot_of f.code s ≡ Some i
        → result_enters (form_of i.op) i s f (rests n s g) ≡ result_chosen (Some (n, s)) g
    given f i e some = sym (with_frame_is n gives g.window.frames g ∙ ap (by_frame gives g) e
        ∙ ap (λ o. slot_enters o s f (rests n s g)) some)

  -- issues -----------------------------------------------------------------------------------------

  module _ (blocks : List Block) (budget tile n s : ℕ) (g : Grid W) where
    abbrev issues_it : Frame → Grid W → Grid W
    issues_it f h = issued blocks budget tile n s (takes (slot_of f.code s)) h

    -- where the frame is not in flight, nothing is issued
    pub issued_none : frame_of n g.window.frames ≡ None → g ≡ issue_chosen blocks budget tile (Some (n, s)) g
    issued_none e = sym (with_frame_is n issues_it g.window.frames g ∙ ap (by_frame issues_it g) e)

    -- a slot of a frame in flight is issued, and takes as many cycles as its instruction does
    pub issued_is : (f : Frame) → frame_of n g.window.frames ≡ Some f
        → issued blocks budget tile n s (takes (slot_of f.code s)) g ≡ issue_chosen blocks budget tile (Some (n, s)) g
    issued_is f e = sym (with_frame_is n issues_it g.window.frames g ∙ ap (by_frame issues_it g) e)

    abbrev chosen : Grid W
    chosen = issue_chosen blocks budget tile (eldest (ready blocks budget g tile) slots g.window.frames) g

    -- a tile whose unit is free issues the eldest slot that is ready
    pub issues_free : g.units tile ≡ 0
        → issue_chosen blocks budget tile (eldest (ready blocks budget g tile) slots g.window.frames) g
        ≡ issues blocks budget tile g
    issues_free e = ap (λ b. cond b chosen g) (sym (eq-eqb (g.units tile) 0 e))

    -- a tile whose unit is busy issues nothing
    pub issues_busy : g.units tile ≢ 0 → g ≡ issues blocks budget tile g
    issues_busy ne = ap (λ b. cond b chosen g) (sym (ne_eqb (g.units tile) 0 ne))
