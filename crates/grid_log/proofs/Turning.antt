-- What is logged of the turns of stations.
use Rattle.std.proofs.Common.{◌≡◌, ◌≢◌, ℕ, ◌+◌, ◌*◌, ◌==◌, Bool, true, false, cond, List, [], ◌∷◌, ◌++◌}
use Rattle.std.proofs.Common.{Option, Some, None, is_some, refl, sym, ap, ◌∙◌, subst, true≢false, add-one}
use Rattle.std.proofs.lemmas.Bool.{eq-eqb, ne_eqb}
use Rattle.trips_isa.specs.declared.block.Block.{Block}
use Rattle.trips_isa.specs.declared.block.Inst.{Inst}
use Rattle.block_cases.specs.Orders.{slot_of}
use Rattle.commit_flush_spec.specs.Frames.{Frame, first_read_place}
use Rattle.commit_flush_spec.specs.Window.{Window, happens}
use Rattle.commit_flush_spec.specs.Window as window
use Rattle.grid_cycle_spec.specs.Grid.{Grid}
use Rattle.grid_cycle_spec.specs.Choosing.{each, eldest, slots}
use Rattle.grid_cycle_spec.specs.Stations.{bank_node}
use Rattle.grid_cycle_spec.specs.Units.{ready, unit_on}
use Rattle.grid_parts.specs.inside.Asked.{frame_of, found_in, block_of, inst_of}
use Rattle.grid_events.specs.Notes.{Note}
use Rattle.grid_events.specs.Notes as note
use Rattle.grid_events.specs.Turns.{of_each, of_frame}
use Rattle.grid_events.specs.StationNotes.{both_notes, read_notes}
use Rattle.grid_events.specs.UnitNotes.{issue_notes, issues_notes, operation, turn_notes, unit_notes}
use Rattle.grid_log.specs.declared.log.Log.{Log}
use Rattle.grid_log.specs.Logs.{Logged}
use Rattle.grid_log.proofs.Logging.{Nothing, logged_both, logged_first, logged_none}
use Rattle.grid_log.proofs.Silent.{nothing_enter_both, nothing_frame, nothing_unit}

-- the same notes over another image and budget that are these
pub same_logged : (notes : List Block → ℕ → List Note) (bs cs : List Block) (b d : ℕ) (x y : Log) → bs ≡ cs → b ≡ d
    → Logged x (notes bs b) y → Logged x (notes cs d) y
same_logged notes bs cs b d x y e f told =
    subst (λ k. Logged x (notes cs k) y) f (subst (λ k. Logged x (notes k b) y) e told)

-- one station more
pub each_logged : {A : Type 0} (turn : ℕ → A → A) (notes : ℕ → A → List Note) (n : ℕ) (start g : A) (a b c : Log)
    → g ≡ each turn n start → Logged a (of_each turn notes n start) b → Logged b (notes n g) c
    → Logged a (of_each turn notes (n + 1) start) c
each_logged turn notes n start g a b c is first last =
    subst (λ k. Logged a (of_each turn notes k start) c) (sym (add-one n))
    (logged_both a b c (of_each turn notes n start) (notes n (each turn n start)) first
    (subst (λ x. Logged b (notes n x) c) is last))

-- units ------------------------------------------------------------------------------------------

module _ {W : Type 0} (blocks : List Block) (budget tile : ℕ) (g : Grid W) (a b : Log) where
  -- a free unit issues
  pub free_logged : g.units tile ≡ 0
      → Logged a (issue_notes tile (eldest (ready blocks budget g tile) slots g.window.frames) g) b
      → Logged a (issues_notes blocks budget tile g) b
  free_logged e told = subst (λ c. Logged a (cond c
      (issue_notes tile (eldest (ready blocks budget g tile) slots g.window.frames) g) []) b)
      (sym (eq-eqb (g.units tile) 0 e)) told

  -- a unit that is busy issues nothing
  pub busy_logged : g.units tile ≢ 0 → Logged a (issues_notes blocks budget tile g) a
  busy_logged ne = subst (λ c. Logged a (cond c
      (issue_notes tile (eldest (ready blocks budget g tile) slots g.window.frames) g) []) a)
      (sym (ne_eqb (g.units tile) 0 ne)) (logged_none a [] (λ s. refl))

  -- what a unit does before it issues is not counted
  pub turn_logged : (m : Grid W) → m ≡ unit_on tile (g.units tile) g
      → Logged a (issues_notes blocks budget tile m) b → Logged a (turn_notes blocks budget tile g) b
  turn_logged m e told = logged_both a a b (unit_notes tile (g.units tile) g)
      (issues_notes blocks budget tile (unit_on tile (g.units tile) g))
      (logged_none a (unit_notes tile (g.units tile) g) (nothing_unit tile (g.units tile) g))
      (subst (λ (x : Grid W). Logged a (issues_notes blocks budget tile x) b) e told)

-- a slot fires -----------------------------------------------------------------------------------

module _ (tile n s : ℕ) (a b : Log) where
  abbrev fired : Frame → List Note
  fired f = note.Fires tile n s (operation (slot_of f.code s)) ∷ []

  -- what a slot of a frame in flight holds fires
  pub fired_logged : (fs : List Frame) (o : Option Inst) → is_some (block_of n fs) ≡ true → o ≡ inst_of n s fs
      → Logged a (note.Fires tile n s (operation o) ∷ []) b → Logged a (of_frame n fired fs) b
  fired_logged [] o flies e told = absurd (true≢false (sym flies))
  fired_logged (f ∷ fs) o flies e told = step (f.number == n) flies e
      (λ (x : is_some (block_of n fs) ≡ true) (y : o ≡ inst_of n s fs). fired_logged fs o x y told)
    where
      step : (c : Bool) → is_some (found_in (λ k. Some k.block) (cond c (Some f) (frame_of n fs))) ≡ true
          → o ≡ found_in (λ k. slot_of k.code s) (cond c (Some f) (frame_of n fs))
          → (is_some (block_of n fs) ≡ true → o ≡ inst_of n s fs → Logged a (of_frame n fired fs) b)
          → Logged a (cond c (fired f) (of_frame n fired fs)) b
      step true flies e rest =
          subst (λ x. Logged a (note.Fires tile n s (operation x) ∷ []) b) e told
      step false flies e rest = rest flies e

  -- no slot of a frame that is not in flight fires
  none_fired : (fs : List Frame) → is_some (block_of n fs) ≡ false → Nothing (of_frame n fired fs)
  none_fired [] off = λ k. refl
  none_fired (f ∷ fs) off = step (f.number == n) off (λ (x : is_some (block_of n fs) ≡ false). none_fired fs x)
    where
      step : (c : Bool) → is_some (found_in (λ k. Some k.block) (cond c (Some f) (frame_of n fs))) ≡ false
          → (is_some (block_of n fs) ≡ false → Nothing (of_frame n fired fs))
          → Nothing (cond c (fired f) (of_frame n fired fs))
      step true off rest = absurd (true≢false off)
      step false off rest = rest off

  -- so nothing is logged
  pub unfired_logged : (fs : List Frame) → is_some (block_of n fs) ≡ false → Logged a (of_frame n fired fs) a
  unfired_logged fs off = logged_none a (of_frame n fired fs) (none_fired fs off)

-- banks ------------------------------------------------------------------------------------------

-- a bank answers a read, of which its tokens that enter the mesh are not kept
pub read_logged : {W : Type 0} (blocks : List Block) (budget bank n r : ℕ) (g : Grid W) (a b : Log)
    → Logged a (note.Reads bank n r ∷ []) b → Logged a (read_notes blocks budget bank (Some (n, r)) g) b
read_logged blocks budget bank n r g a b told =
    let w : Window = happens blocks budget (window.Read n r) g.window in
    let place : ℕ = first_read_place + 2 * r in
    logged_first a b (note.Reads bank n r) (of_frame n (λ f. both_notes (bank_node bank) f place) w.frames)
    (nothing_frame n (λ f. both_notes (bank_node bank) f place) (λ f. nothing_enter_both (bank_node bank) f place)
    w.frames) told
