-- Beside what is believed of Tables.antt: tables of tokens.
use Rattle.std.specs.Prelude.{◌≡◌, ℕ, zero, suc}
use Rattle.std.specs.Prelude.{List, None, slice_get}
use Rattle.trips_isa.specs.declared.node.Node.{Node}
use Rattle.trips_isa.specs.Rule.{Answer}
use Rattle.trips_isa.specs.Tables.{first, node_gives, Computes}

-- g gives each node's token
abbrev pub IsTable : List Node → Computes → (ℕ → Answer) → Type 0
IsTable ns a g = (x : ℕ) → g x ≡ node_gives (slice_get ns x) (a x) (λ q. first ns q g)

-- what node x gives where it asks its producers at most k deep
abbrev pub pulled : List Node → Computes → ℕ → ℕ → Answer
pulled ns a zero x = None
pulled ns a (suc k) x = node_gives (slice_get ns x) (a x) (λ q. first ns q (pulled ns a k))
