-- What is heard of the turn of a tile.
use Rattle.std.proofs.Common.{◌≡◌, ◌≢◌, ℕ, ◌==◌, Bool, true, false, cond, List, []}
use Rattle.std.proofs.Common.{Option, Some, None, is_some, true≢false, refl, sym, subst}
use Rattle.std.proofs.lemmas.Bool.{eq-eqb, ne_eqb}
use Rattle.trips_isa.specs.declared.block.Block.{Block}
use Rattle.grid_cycle_spec.specs.Grid.{Grid}
use Rattle.grid_cycle_spec.specs.Choosing.{eldest, slots}
use Rattle.grid_cycle_spec.specs.Units.{ready, unit_on}
use Rattle.grid_parts.specs.inside.EldestChoices.{lowest_slot}
use Rattle.grid_parts.specs.inside.Marked.{SlotsMarked}
use Rattle.grid_parts.proofs.MarkFacts.{none_issued}
use Rattle.grid_events.specs.UnitNotes.{issue_notes, issues_notes, turn_notes, unit_notes}
use Rattle.grid_tallies.specs.declared.tallies.Tallies.{Tallies}
use Rattle.grid_tallies.specs.declared.statistic.Statistic.TheVariants as statistic
use Rattle.grid_tallies.specs.Statistics.{Heard}
use Rattle.grid_tallies.specs.inside.Adding.{Adds}
use Rattle.grid_tallies.specs.inside.Entering.{given}
use Rattle.grid_tallies.proofs.Entered.{unit_heard}
use Rattle.grid_tallies.proofs.Tallying.{heard_both, heard_none}

module _ {W : Type 0} (blocks : List Block) (budget tile : ℕ) (g : Grid W) (a b : Tallies) where
  -- a free unit issues
  pub free_heard : g.units tile ≡ 0
      → Heard a (issue_notes tile (eldest (ready blocks budget g tile) slots g.window.frames) g) b
      → Heard a (issues_notes blocks budget tile g) b
  free_heard e heard = subst (λ c. Heard a (cond c
      (issue_notes tile (eldest (ready blocks budget g tile) slots g.window.frames) g) []) b)
      (sym (eq-eqb (g.units tile) 0 e)) heard

  -- a unit that is busy issues nothing
  pub busy_heard : g.units tile ≢ 0 → Heard a (issues_notes blocks budget tile g) a
  busy_heard ne = subst (λ c. Heard a (cond c
      (issue_notes tile (eldest (ready blocks budget g tile) slots g.window.frames) g) []) a)
      (sym (ne_eqb (g.units tile) 0 ne)) (heard_none a [] (λ s. refl))

  -- nor does a tile without a marked slot
  pub unmarked_heard : (marks : ℕ) → SlotsMarked blocks budget g.window marks
      → false ≡ is_some (lowest_slot marks tile) → Heard a (issues_notes blocks budget tile g) a
  unmarked_heard marks marked off = go (g.units tile == 0)
    where
      no_some : (o : Option ℕ) → false ≡ is_some o → o ≡ None
      no_some None e = refl
      no_some (Some s) e = absurd (true≢false (sym e))

      go : (c : Bool) → Heard a (cond c
          (issue_notes tile (eldest (ready blocks budget g tile) slots g.window.frames) g) []) a
      go true = subst (λ o. Heard a (issue_notes tile o g) a)
          (sym (none_issued blocks budget g.window marks tile marked (no_some (lowest_slot marks tile) off)))
          (heard_none a [] (λ s. refl))
      go false = heard_none a [] (λ s. refl)

  -- a unit that is busy counts for its tile, and for what it gives, before what it issues
  pub turn_heard : (one two : Tallies) (m : Grid W) → m ≡ unit_on tile (g.units tile) g
      → Adds (statistic.Station tile) (cond (g.units tile == 0) 0 1) a one
      → Adds statistic.Parcels (given tile (g.units tile) g) one two
      → Heard two (issues_notes blocks budget tile m) b → Heard a (turn_notes blocks budget tile g) b
  turn_heard one two m e works gives heard = heard_both a two b (unit_notes tile (g.units tile) g)
      (issues_notes blocks budget tile (unit_on tile (g.units tile) g))
      (unit_heard tile (g.units tile) g a one two works gives)
      (subst (λ (x : Grid W). Heard two (issues_notes blocks budget tile x) b) e heard)
