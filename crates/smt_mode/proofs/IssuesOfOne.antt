-- What one program issues on a free unit of a tile.
use Rattle.std.proofs.Common.{◌≡◌, ℕ, ◌==◌, false, cond, List, Option, Some, None, is_some, refl, sym, ap}
use Rattle.std.proofs.Common.{◌∙◌, subst}
use Rattle.std.proofs.lemmas.Bool.{eq-eqb, false≢true}
use Rattle.trips_isa.specs.declared.block.Block.{Block}
use Rattle.grid_cycle_spec.specs.Grid.{Grid}
use Rattle.grid_cycle_spec.specs.Units.{issue_chosen, issues}
use Rattle.grid_parts.specs.inside.EldestChoices.{lowest_slot}
use Rattle.grid_parts.specs.inside.Marked.{SlotsMarked}
use Rattle.grid_parts.proofs.MarkFacts.{none_issued}
use Rattle.grid_parts.proofs.MarkedFacts.{slots_kept}
use Rattle.smt_mode.specs.inside.Issues.{IsIssue, chosen, freed}
use Rattle.smt_mode.proofs.TurnCounts.{IsQuiet, issue_quiet}

module _ {W : Type 0} (blocks : List Block) (budget tile : ℕ) (g : Grid W) where
  -- on a free unit what is chosen is what the unit issues
  issued_is : (q : ℕ × ℕ) → chosen blocks budget tile g ≡ Some q
      → issue_chosen blocks budget tile (Some q) (freed tile g) ≡ issues blocks budget tile (freed tile g)
  issued_is q e =
      ap (λ o. issue_chosen blocks budget tile o (freed tile g)) (sym e)
      ∙ sym (ap (λ b. cond (cond b 0 (g.units tile) == 0)
      (issue_chosen blocks budget tile (chosen blocks budget tile g) (freed tile g)) (freed tile g))
      (eq-eqb tile tile refl))

  -- marks of slots that may fire stay right
  pub marks_kept : (q : ℕ × ℕ) (marks : ℕ) → chosen blocks budget tile g ≡ Some q
      → SlotsMarked blocks budget g.window marks
      → SlotsMarked blocks budget (issue_chosen blocks budget tile (Some q) (freed tile g)).window marks
  marks_kept q marks e m = subst (λ (h : Grid W). SlotsMarked blocks budget h.window marks) (sym (issued_is q e))
      (slots_kept blocks budget tile (freed tile g) marks m)

  -- the counts are those of before
  pub issued_quiet : (q : ℕ × ℕ) → IsQuiet g (issue_chosen blocks budget tile (Some q) (freed tile g))
  issued_quiet q =
      let k = issue_quiet blocks budget (freed tile g) tile q in record { adds = k.adds; few = k.few }

  none_some : (o : Option ℕ) → false ≡ is_some o → o ≡ None
  none_some None e = refl
  none_some (Some s) e = absurd (false≢true e)

  -- where no slot of the tile is marked nothing is issued
  pub none_marked : (marks : ℕ) → SlotsMarked blocks budget g.window marks → false ≡ is_some (lowest_slot marks tile)
      → IsIssue blocks budget tile g g None
  none_marked marks m off = (
    none_issued blocks budget g.window marks tile m
        (none_some (lowest_slot marks tile) off),
    refl,
  )
