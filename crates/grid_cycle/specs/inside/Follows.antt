-- Which block the fetch unit begins to fetch, case by case, as the code tells it. That this is what part (2) of a
-- cycle begins is proved in proofs/FetchFacts.antt and proofs/DueFacts.antt.
use Rattle.std.specs.Prelude.{ℕ, zero, suc, ◌==◌, Bool, true, false, cond, not, ◌&&◌, ◌||◌, List, [], ◌∷◌}
use Rattle.std.specs.Prelude.{Option, Some, None, length, nat_lt}
use Rattle.trips_isa.specs.declared.block.Block.{Block}
use Rattle.trips_isa.specs.Machine.{State}
use Rattle.block_predict.specs.Predicts.{Holding, predicted}
use Rattle.commit_flush_spec.specs.Frames.{Exit, Frame}
use Rattle.commit_flush_spec.specs.InFlight.{in_flight}
use Rattle.commit_flush_spec.specs.Older.{is_serial}
use Rattle.grid_cycle_spec.specs.Fetches.{begins}
use Rattle.grid_cycle_spec.specs.Grid.{Grid}
use Rattle.grid_cycle.specs.Nexts.{block_in}

-- behind block k, whose exit has not come: the flushed block that stands, else what is predicted
abbrev pub guess : List Block → Holding → ℕ → Option ℕ → Option ℕ
guess blocks p k None = predicted blocks p k
guess blocks p k (Some standing) = Some standing

-- behind the youngest frame: the block that its exit names, else a guess
abbrev pub behind : List Block → Holding → Option ℕ → Frame → Option Exit → Option ℕ
behind blocks p standing f (Some e) = Some e.successor
behind blocks p standing f None = guess blocks p f.block standing

-- behind some frames; with none in flight the committed next block
abbrev pub after : List Block → Holding → Option ℕ → State → List Frame → Option ℕ
after blocks p standing s [] = Some s.next
after blocks p standing s (f ∷ []) = behind blocks p standing f f.exit
after blocks p standing s (f ∷ (h ∷ fs)) = after blocks p standing s (h ∷ fs)

-- the block whose fetch an idle fetch unit would begin
abbrev pub idle_fetch : {W : Type 0} → List Block → Grid W → Option ℕ
idle_fetch blocks g = block_in (begins blocks (record g { fetching = None })).fetching

-- where a fetch is due ---------------------------------------------------------------------------

-- whether a frame is not empty once frame m is filled
abbrev pub is_taken : ℕ → List Frame → ℕ → Bool
is_taken m fs k = in_flight k fs || (m == k)

-- whether one of n frames from number k on is empty once frame m is filled
abbrev pub any_empty : ℕ → List Frame → ℕ → ℕ → Bool
any_empty m fs zero k = false
any_empty m fs (suc n) k = cond (is_taken m fs k) (any_empty m fs n (suc k)) true

-- behind block k, which is fetched into frame m: what is predicted, where one more frame is empty, the block makes no
-- system call, and one more may be in flight
abbrev pub behind_fetched : List Block → Holding → ℕ → ℕ → Block → List Frame → Option ℕ
behind_fetched blocks p k m b fs =
    cond ((any_empty m fs 8 0 && not (is_serial b)) && nat_lt (length fs) p.ahead) (predicted blocks p k) None
