-- Part (6), the tick: the parcels of the oldest frame wait for no others.
use Rattle.std.proofs.Common.{ℕ, suc, ◌+◌, ◌≤◌, List, ◌∷◌, arith}
use Rattle.operand_net.specs.Places.{Places}
use Rattle.operand_net.specs.Tick.{Ticked, RowTicked, frames_want}
use Rattle.grid_bound.specs.inside.Parts.{RowMoves}

-- in a tick the parcels of the oldest frame move as if there were no others
pub oldest_ticks : {W : Type 0} (next : W → ℕ) (follows : W → W → Type 0) → ((w : W) → next w ≤ 3)
    → (n k : ℕ) (ns : List ℕ) (before after : Places) (v w : W)
    → Ticked next follows (n ∷ ns) before after v w (suc k) → RowMoves (before n) (after n)
oldest_ticks next follows bound n k ns before after v w t =
    let r : RowTicked next follows (frames_want 0 before (n ∷ ns)) (before n) (after n) (t.states 0)
    (t.states (0 + 1)) =
    t.frames 0 (omega arith) in
    record {
      hold = λ p. next (r.states p);
      holds = λ p. bound (r.states p);
      moves = λ p l. (r.turns p l).stands;
    }
