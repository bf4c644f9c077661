-- One cycle more has been made.
use Rattle.std.proofs.Common.{ℕ, ◌+◌, ◌<◌, ◌^◌, List, arith}
use Rattle.smt_mode.specs.Machines.{Program}
use Rattle.smt_mode.specs.inside.Rooms.{AreReady}

-- with one cycle more no program has fetched more frames than cycles have been made
pub ready_more : (programs : List Program) (budget cycles : ℕ) → cycles + 1 < 2 ^ 63
    → AreReady 4 programs budget cycles
    → AreReady 0 programs budget (cycles + 1)
ready_more programs budget cycles l r = record {
  four = r.four;
  within = r.within;
  few = λ p x e. let f = r.few p x e in omega (arith, f);
  fewer = λ p x e z. r.few p x e;
  cycles = l;
}
