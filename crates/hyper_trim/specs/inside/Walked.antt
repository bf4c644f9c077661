-- What a walk over items, from the last to the first, holds: the trimmed items, the last first.
use Rattle.std.specs.Prelude.{◌≡◌, reverse}
use Rattle.ir_forms.specs.inside.HyperFits.{is_filled}
use Rattle.ir_forms.specs.inside.HyperViews.{items_of}
use Rattle.hyper_trim.specs.declared.walking.Walk.{Walk}
use Rattle.hyper_trim.specs.inside.Trim.{Trimmed}

-- a walk that stands before these items
pub record Holds (t : Trimmed) (w : Walk) : Type 0 where
  pub live : w.live ≡ t.live
  -- so that a leg keeps its last item
  pub filled : w.filled ≡ is_filled t.items
  pub items : items_of (reverse w.kept) ≡ t.items
