-- The movs of a slot that lead on.
use Rattle.std.specs.Prelude.{◌≡◌, ℕ, zero, suc, ◌≤◌, Bool, false, ◌||◌, ◌&&◌, ◌==◌, List, [], ◌∷◌}
use Rattle.std.specs.Prelude.{Option, Some, None, slice_get}
use Rattle.trips_isa.specs.declared.node.Node.{Node}
use Rattle.block_cases.specs.Nodes.{targets}
use Rattle.block_cases.specs.Choosers.{is_copy, names_predicate, leads_from}
use Rattle.block_cases.specs.Cases.{bit}

-- whether a mov of slot s is one that f marks
abbrev pub at_slot : List Node → ℕ → (ℕ → Bool) → Bool
at_slot [] s f = false
at_slot (m ∷ ms) s f = (is_copy m.role && ((m.slot == s) && f 0)) || at_slot ms s (λ y. f (suc y))

-- whether a node leads to a predicate, where `left` says whose left operand leads on
abbrev pub leads_on : Node → (ℕ → Bool) → Bool
leads_on n left = names_predicate (targets n) || (left n.first || left n.second)

-- the same of a node that may not be there
abbrev pub leads_at : Option Node → (ℕ → Bool) → Bool
leads_at None left = false
leads_at (Some n) left = leads_on n left

-- no bit is 1 from `used` on
abbrev pub FalseFrom : ℕ → List Bool → Type 0
FalseFrom used l = (x : ℕ) → used ≤ x → bit l x ≡ false

-- k steps along the chains from what f says of each node
abbrev pub led_from : List Node → (ℕ → Bool) → ℕ → ℕ → Bool
led_from ns f zero x = f x
led_from ns f (suc k) x = leads_from ns (slice_get ns x) (led_from ns f k)

-- no node names a predicate
abbrev pub NoneNamesPredicate : List Node → Type 0
NoneNamesPredicate ns = (x : ℕ) (n : Node) → slice_get ns x ≡ Some n →
    names_predicate (targets n) ≡ false
