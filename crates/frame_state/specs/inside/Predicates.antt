-- Which predicates have come, as flags by slot beside the tokens: a frame's ready slots are read off them.
use Rattle.std.specs.Prelude.{◌≡◌, ℕ, ◌+◌, ◌<◌, Bool, false, List, slice_index_or, length}
use Rattle.trips_isa.specs.declared.block.Sense.TheVariants.{OnTrue, OnFalse}
use Rattle.trips_isa.specs.Rule.{Answer, matched}
use Rattle.commit_flush_spec.specs.Frames.{at}

-- the flags say of each slot whether the token at its predicate lets it fire on true, and on false
pub record Tells (spots : List Answer) (odd even : List Bool) : Type 0 where
  -- operands, predicates and writes, the places below the store numbers
  pub size : length spots ≡ 416
  -- a word whose low bit is 1 has come to the predicate
  pub on_true : (s : ℕ) → s < 128 → slice_index_or odd s false ≡ matched OnTrue (at spots (256 + s))
  -- a word whose low bit is 0 has come; a null token matches neither
  pub on_false : (s : ℕ) → s < 128 → slice_index_or even s false ≡ matched OnFalse (at spots (256 + s))
