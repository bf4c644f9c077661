-- Part (5) of a cycle, the units, keeps the rule.
use Rattle.std.proofs.Common.{◌≡◌, ◌≢◌, ℕ, zero, suc, ◌<◌, ◌==◌, ◌&&◌, Bool, true, false}
use Rattle.std.proofs.Common.{cond, List, [], ◌∷◌, Option, Some, None, get_or, length}
use Rattle.std.proofs.Common.{refl, sym, ap, ap₂, ◌∙◌, subst, true≢false, arith}
use Rattle.trips_isa.specs.declared.block.Block.{Block}
use Rattle.block_cases.specs.Orders.{slot_of}
use Rattle.commit_flush_spec.specs.Frames.{Frame}
use Rattle.commit_flush_spec.specs.Causes.{Done}
use Rattle.commit_flush_spec.specs.Window.{Fire, can, in_flight}
use Rattle.commit_flush_spec.specs.inside.Invariant.{AllGood}
use Rattle.commit_flush_spec.proofs.Committing.{both_true}
use Rattle.grid_cycle_spec.specs.Stations.{tile_of}
use Rattle.grid_cycle_spec.specs.Grid.{Grid}
use Rattle.grid_cycle_spec.specs.Choosing.{eldest, each, slots}
use Rattle.grid_cycle_spec.specs.Units.{slot_enters, rests, result_chosen, in_unit, unit_on, ready, takes}
use Rattle.grid_cycle_spec.specs.Units.{issued, issue_chosen, issues, unit_turn, works_on}
use Rattle.grid_bound.specs.inside.Rule.{EachFrame, runs_in}
use Rattle.grid_bound.proofs.EachFrame.{Chosen, each_rest, eldest_is, eldest_none, equal}
use Rattle.grid_bound.proofs.EachFrame.{find_at, runs_are, same, with_at}
use Rattle.grid_bound.proofs.GoingGrids.{Going, awake, done_is, each_going, frame_ok}
use Rattle.grid_bound.proofs.Units.{goes_on, had_none, out_going, slots_are, units_to}
use Rattle.grid_bound.proofs.IssueRule.{fire_going}
use Rattle.grid_bound.proofs.GoingGrids.{frame_tied}

-- turns ------------------------------------------------------------------------------------------

-- the number of a flag that is set is below the count of flags
pub flag_below : (xs : List Bool) (s : ℕ) → get_or xs s false ≡ true → s < length xs
flag_below [] s e = absurd (true≢false (sym e))
flag_below (x ∷ xs) zero e = omega arith
flag_below (x ∷ xs) (suc s) e = let l = flag_below xs s e in omega (arith, l)

module _ {W : Type 0} (blocks : List Block) (good : AllGood blocks) (budget least : ℕ) where
  -- where no result is chosen, none is in the unit
  none_chosen : (tile : ℕ) (g : Grid W) → Going blocks budget least g
      → eldest (in_unit g tile) slots g.window.frames ≡ None → (n s : ℕ) → g.works n s ≡ true → tile_of s ≢ tile
  none_chosen tile g go e n s w on = go_on (runs_in n g.window.frames) refl
    where
      test : Frame → Type 0
      test f = (j : ℕ) → j < slots → in_unit g tile f j ≡ false

      go_on : (b : Bool) → runs_in n g.window.frames ≡ b → ⊥
      go_on false i = true≢false (sym w ∙ (go.ties.nothing n i).none_works s)
      go_on true i =
          let there : in_flight n g.window.frames ≡ true = runs_are n g.window.frames i in
          let a = find_at n g.window.frames go.ok.numbers there in
          let runs = awake blocks good budget g n a least go.ties (λ h. true≢false (sym w ∙ h.none_works s)) in
          let u = (frame_tied blocks good budget g n a least go.ties runs).working s w in
          let ok = frame_ok blocks good budget g n a go.ok in
          let all : length a.frame.fired ≡ 128 = ok.sized.fired in
          let low = flag_below a.frame.fired s u.fired in
          let small : s < slots = subst (λ k. s < k) (sym slots_are) (omega (arith, low, all)) in
          let none : test a.frame = (each_rest test a.older (a.frame ∷ a.younger)
          (subst (EachFrame test) a.split (eldest_none (in_unit g tile) slots g.window.frames e))).0 in
          true≢false (sym (ap₂ (λ x y. x && y) (ap (λ k. g.works k s) a.number ∙ w) (ap (λ k. k == tile) on
          ∙ same tile))
          ∙ none s small)

  result_going : (tile : ℕ) (o : Option (ℕ × ℕ)) (g : Grid W) → Going blocks budget least g
      → eldest (in_unit g tile) slots g.window.frames ≡ o
      → Going blocks budget least (result_chosen o (record g { units = units_to g.units tile 0 }))
  result_going tile None g go e = record {
    ok = go.ok;
    went = go.went;
    ties = record {
      frames = go.ties.frames;
      tied = go.ties.tied;
      unguessed = go.ties.unguessed;
      nothing = go.ties.nothing;
      busy = had_none g.units g.works tile (none_chosen tile g go e) go.ties.busy;
      mesh = go.ties.mesh;
    };
    fetch = go.fetch;
  }
  result_going tile (Some q) g go e =
      let k : Chosen (in_unit g tile) slots g.window.frames q =
      eldest_is (in_unit g tile) slots g.window.frames q go.ok.numbers e in
      let a = k.there in
      let p = both_true _ _ k.passes in
      let h : Grid W = record g { units = units_to g.units tile 0 } in
      let low : q.1 < 128 = subst (λ j. q.1 < j) slots_are k.below in
      subst (Going blocks budget least)
      (sym (with_at q.0 (λ f x. slot_enters (slot_of f.code q.1) q.1 f (rests q.0 q.1 x)) g.window.frames a h))
      (subst (λ n. Going blocks budget least (slot_enters (slot_of a.frame.code q.1) q.1 a.frame (rests n q.1 h)))
      a.number (out_going blocks good budget least g go tile q.0 q.1 a p.0 (equal (tile_of q.1) tile p.1) low))

  -- that a unit goes on, and gives its result where its time is over, keeps the rule
  pub unit_going : (tile left : ℕ) (g : Grid W) → g.units tile ≡ left → Going blocks budget least g
      → Going blocks budget least (unit_on tile left g)
  unit_going tile zero g e go = go
  unit_going tile (suc zero) g e go =
      result_going tile (eldest (in_unit g tile) slots g.window.frames) g go refl
  unit_going tile (suc (suc left)) g e go = record {
    ok = go.ok;
    went = go.went;
    ties = record {
      frames = go.ties.frames;
      tied = go.ties.tied;
      unguessed = go.ties.unguessed;
      nothing = go.ties.nothing;
      busy = goes_on g.units g.works tile left e go.ties.busy;
      mesh = go.ties.mesh;
    };
    fetch = go.fetch;
  }

  issue_chosen_going : (tile : ℕ) (o : Option (ℕ × ℕ)) (g : Grid W) → Going blocks budget least g → g.units tile ≡ 0
      → eldest (ready blocks budget g tile) slots g.window.frames ≡ o
      → Going blocks budget least (issue_chosen blocks budget tile o g)
  issue_chosen_going tile None g go free e = go
  issue_chosen_going tile (Some q) g go free e =
      let k : Chosen (ready blocks budget g tile) slots g.window.frames q =
      eldest_is (ready blocks budget g tile) slots g.window.frames q go.ok.numbers e in
      let a = k.there in
      let p = both_true _ _ k.passes in
      let d : can blocks budget (Fire a.frame.number q.1) g.window ≡ Done =
      done_is (can blocks budget (Fire a.frame.number q.1) g.window) p.1 in
      subst (Going blocks budget least)
      (sym (with_at q.0 (λ f h. issued blocks budget tile q.0 q.1 (takes (slot_of f.code q.1)) h) g.window.frames a
      g))
      (subst (λ n. Going blocks budget least (issued blocks budget tile n q.1 (takes (slot_of a.frame.code q.1)) g))
      a.number (fire_going blocks good budget least g go tile free q.0 q.1 a (equal (tile_of q.1) tile p.0) d))

  -- that a free unit issues keeps the rule
  pub issues_going : (tile : ℕ) (g : Grid W) → Going blocks budget least g
      → Going blocks budget least (issues blocks budget tile g)
  issues_going tile g go = by (g.units tile == 0) refl
    where
      by : (b : Bool) → (g.units tile == 0) ≡ b → Going blocks budget least (cond b
          (issue_chosen blocks budget tile (eldest (ready blocks budget g tile) slots g.window.frames) g) g)
      by false e = go
      by true e = issue_chosen_going tile (eldest (ready blocks budget g tile) slots g.window.frames) g go
          (equal (g.units tile) 0 e) refl

  turn_going : (tile : ℕ) (g : Grid W) → Going blocks budget least g
      → Going blocks budget least (unit_turn blocks budget tile g)
  turn_going tile g go = issues_going tile (unit_on tile (g.units tile) g) (unit_going tile (g.units tile) g refl go)

  -- turns of units keep the rule
  pub unit_turns_going : (k : ℕ) (g : Grid W) → Going blocks budget least g
      → Going blocks budget least (each (unit_turn blocks budget) k g)
  unit_turns_going k g go = each_going blocks budget least (unit_turn blocks budget) k
      (λ tile low x r. turn_going tile x r) k (omega arith) g go

  -- part (5) keeps the rule
  pub works_going : (g : Grid W) → Going blocks budget least g → Going blocks budget least (works_on blocks budget g)
  works_going = unit_turns_going 16
