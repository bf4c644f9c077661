-- Beside what is believed of Places.antt: targets, read.
use Rattle.std.specs.Prelude.{ℕ, ℤ, List, Option, Some, None, codes}
use Rattle.target_asm_spec.specs.declared.spelled.SpelledTarget.{SpelledTarget}
use Rattle.target_asm_spec.specs.declared.spelled.SpelledTarget.TheVariants as spelled
use Rattle.target_asm_spec.specs.Reading.{◌>>=◌}
use Rattle.target_asm_spec.specs.inside.Reading.{or_else, after_in, number_in, index_in}

-- a left operand, by what follows the number of its slot
abbrev pub left_in : ℤ → List ℕ → Option (SpelledTarget × List ℕ)
left_in n text = after_in (codes ",0]") text >>= λ rest. Some (spelled.Left n, rest)

-- a right operand, in the same way
abbrev pub right_in : ℤ → List ℕ → Option (SpelledTarget × List ℕ)
right_in n text = after_in (codes ",1]") text >>= λ rest. Some (spelled.Right n, rest)

-- a predicate, in the same way
abbrev pub pred_in : ℤ → List ℕ → Option (SpelledTarget × List ℕ)
pred_in n text = after_in (codes ",p]") text >>= λ rest. Some (spelled.Pred n, rest)

-- the place of a slot, after its number
unfoldable pub place_in : ℤ → List ℕ → Option (SpelledTarget × List ℕ)
place_in n text = or_else (left_in n text) (or_else (right_in n text) (pred_in n text))

-- a place of a slot, after its `N[`
unfoldable pub slot_in : List ℕ → Option (SpelledTarget × List ℕ)
slot_in text = number_in text >>= λ n. place_in n.0 n.1

-- a write, with its `W[`
unfoldable pub write_in : List ℕ → Option (SpelledTarget × List ℕ)
write_in text = index_in (codes "W[") text >>= λ n. Some (spelled.Write n.0, n.1)

-- a target by what follows an `N[`, or, where the text begins with none, as a write
abbrev pub target_by : Option (List ℕ) → List ℕ → Option (SpelledTarget × List ℕ)
target_by (Some rest) text = slot_in rest
target_by None text = write_in text

-- a target: `W[3]`, `N[5,p]`, `N[5,0]` or `N[5,1]`
unfoldable pub target_in : List ℕ → Option (SpelledTarget × List ℕ)
target_in text = target_by (after_in (codes "N[") text) text

-- a target after a space, if there is one
abbrev pub next_by : Option (List ℕ) → List ℕ → Option (Option SpelledTarget × List ℕ)
next_by None text = Some (None, text)
next_by (Some rest) text = target_in rest >>= λ t. Some (Some t.0, t.1)

-- a target after a space; where no space follows there is none, and nothing was read
unfoldable pub next_in : List ℕ → Option (Option SpelledTarget × List ℕ)
next_in text = next_by (after_in (codes " ") text) text
