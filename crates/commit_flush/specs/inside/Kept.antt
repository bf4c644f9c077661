-- Frames in flight kept by number, with an order of their numbers by age, and banks of registers beside them.
use Rattle.std.specs.Prelude.{◌≡◌, ℕ, ◌==◌, Bool, true, false, List, length, Option, Some, None}
use Rattle.std.specs.List.{list_any}
use Rattle.commit_flush_spec.specs.Frames.{Frame, at}
use Rattle.commit_flush_spec.specs.inside.Numbered.{by_age, AllThere}
use Rattle.commit_flush_spec.specs.inside.Laws.{AreNumbers}
use Rattle.reg_bank.specs.inside.Ages.{Ages}
use Rattle.commit_flush.specs.inside.Banked.{banked}

-- whether a number is in an order
abbrev pub is_in : ℕ → List ℕ → Bool
is_in n order = list_any (λ m. m == n) order

-- frames by number, an order and banks that fit together
pub record AreKept (slots : List (Option Frame)) (order : List ℕ) (registers : Ages) : Type 0 where
  -- there is room for eight frames, and each stands at its number
  pub eight : length slots ≡ 8
  -- a frame stands where its own number says
  pub numbered : (n : ℕ) (f : Frame) → at slots n ≡ Some f → f.number ≡ n
  -- the order names the frames in flight, each once, and no other
  pub there : AllThere slots order
  pub once : AreNumbers order
  -- a number that is not in the order has no frame in flight
  pub empty : (n : ℕ) → is_in n order ≡ false → at slots n ≡ None
  -- the banks say what the frames hold of registers
  pub banks : (a r : ℕ) → registers a r ≡ banked (by_age slots order) a r

-- no number of the one order is in the other
abbrev pub AreApart : List ℕ → List ℕ → Type 0
AreApart xs ys = (n : ℕ) → is_in n xs ≡ true → is_in n ys ≡ false
