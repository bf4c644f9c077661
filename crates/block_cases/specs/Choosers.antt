-- Choosers: the nodes from which a chain of targets, through `mov` only, leads to a predicate. Own
-- (docs/MACHINE.md, "Good blocks").
use Rattle.std.specs.Prelude.{ℕ, zero, suc, Bool, true, false, ◌&&◌, ◌||◌, nat_lt, nat_le, List, []}
use Rattle.std.specs.Prelude.{◌∷◌, Option, Some, None, slice_get}
use Rattle.trips_isa.specs.declared.form.Role.{Role}
use Rattle.trips_isa.specs.declared.form.Role.TheVariants.{Copy}
use Rattle.trips_isa.specs.declared.node.Node.{Node}
use Rattle.trips_isa.specs.PlaceNumbers.{first_write}
use Rattle.trips_isa.specs.Tables.{deepest}
use Rattle.block_cases.specs.Nodes.{targets, names}
use Rattle.block_cases.specs.CaseRule.{no}

-- whether one of some places is the predicate of a slot
abbrev pub names_predicate : List ℕ → Bool
names_predicate [] = false
names_predicate (t ∷ ts) = (nat_le 256 t && nat_lt t first_write) || names_predicate ts

-- whether a role is that of `mov`, which gives on the token that it takes
abbrev pub is_copy : Role → Bool
is_copy Copy = true
is_copy _ = false

-- only a `mov` that is named is asked
abbrev pub asks : Bool → (ℕ → Bool) → Bool
asks true f = f 0
asks false f = false

-- whether one of the places `ts` is the operand of a `mov` of which f holds
abbrev pub through : List Node → List ℕ → (ℕ → Bool) → Bool
through [] ts f = false
through (m ∷ ms) ts f = asks (is_copy m.role && names ts m.slot) f || through ms ts (λ y. f (suc y))

-- whether a node names a predicate, or a `mov` of which f holds
abbrev pub leads_from : List Node → Option Node → (ℕ → Bool) → Bool
leads_from ns None f = false
leads_from ns (Some n) f = names_predicate (targets n) || through ns (targets n) f

-- whether a chain of at most k targets leads from node x to a predicate
abbrev pub leads : List Node → ℕ → ℕ → Bool
leads ns zero x = false
leads ns (suc k) x = leads_from ns (slice_get ns x) (leads ns k)

-- whether node x, which is no `mov`, leads to a predicate
abbrev pub is_chooser : List Node → ℕ → Option Node → Bool
is_chooser ns x None = false
is_chooser ns x (Some n) = no (is_copy n.role) && leads ns deepest x
