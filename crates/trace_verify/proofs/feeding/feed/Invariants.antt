use Rattle.std.proofs.Common.{◌≡◌, ℕ, ◌+◌, ◌-◌, ◌<◌, ◌≤◌, drop, length}
use Rattle.trace_verify.specs.Reading.{feeds}
use Rattle.trace_verify.specs.inside.Verifying.{reading_of, IsHeld}
use Rattle.trace_verify.specs.inside.Within.{IsWithin}
use Rattle.trace_verify.proofs.feeding.feed.Given as goal

abbrev pub invariant-loop-done : goal.invariant-loop-done
invariant-loop-done l = record {
  bound : l.done ≤ length l.piece;
  held : IsHeld l.parts;
  within : IsWithin l.parts;
  image : l.parts.image ≡ l.fn.parts.image;
  budget : l.parts.budget ≡ l.fn.parts.budget;
  read : feeds l.fn.parts.image.blocks l.fn.parts.budget (reading_of l.parts) (drop l.done l.piece)
      ≡ feeds l.fn.parts.image.blocks l.fn.parts.budget (reading_of l.fn.parts) l.piece;
}

abbrev pub decreases-loop-done : goal.decreases-loop-done
decreases-loop-done l = length l.piece - l.done
