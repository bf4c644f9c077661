-- Hyper blocks that the passes take: the fields that they name, and what they hold.
use Rattle.std.specs.Prelude.{◌≡◌, ℕ, suc, ◌+◌, ◌^◌, ◌<◌, ◌≤◌, Bool, true, false, ◌||◌, cond, List}
use Rattle.std.specs.Prelude.{[], ◌∷◌, length, Some, slice_get}
use Rattle.ir_forms.specs.declared.hyper.Source.{Source}
use Rattle.ir_forms.specs.declared.hyper.Source.TheVariants.{Const, Reg}
use Rattle.ir_forms.specs.declared.hyper.Exit.{Exit}
use Rattle.ir_forms.specs.declared.hyper.Exit.TheVariants as exit
use Rattle.ir_forms.specs.inside.Limits.{label_count}
use Rattle.ir_forms.specs.inside.HyperCode.{Items, Done, Set, Load, Save, If, Tail, Leave, Test, Block}
use Rattle.ir_forms.specs.inside.FlatFits.{operates, loads, stores}

-- a constant is a word
abbrev pub FitsSource : Source → Type 0
FitsSource (Const w) = w < 2 ^ 64
FitsSource (Reg r) = r < 128

-- each item has an operation of its kind, and registers that there are
abbrev pub FitsItems : Items → Type 0
FitsItems Done = Unit {0}
FitsItems (Set to op a b rest) =
    (to < 128) × (operates op ≡ true) × FitsSource a × FitsSource b × FitsItems rest
FitsItems (Load to op a rest) = (to < 128) × (loads op ≡ true) × FitsSource a × FitsItems rest
FitsItems (Save op a v rest) = (stores op ≡ true) × FitsSource a × FitsSource v × FitsItems rest
FitsItems (If t one other rest) = FitsSource t × FitsItems one × FitsItems other × FitsItems rest

-- a label is below their number; a block to come back to may be named by its address, of 32 bits
abbrev pub FitsExit : Exit → Type 0
FitsExit (exit.Jump l) = l < label_count
FitsExit (exit.Call l back) = (l < label_count) × (back < 2 ^ 32)
FitsExit exit.Return = Unit {0}
FitsExit (exit.System l) = l < label_count

-- each exit of a tail fits, and each test
abbrev pub FitsTail : Tail → Type 0
FitsTail (Leave e) = FitsExit e
FitsTail (Test t one other) = FitsSource t × FitsTail one × FitsTail other

-- a block fits by its items and its tail
pub record FitsHyper (b : Block) : Type 0 where
  pub items : FitsItems b.items
  pub tail : FitsTail b.tail

-- WHERE EXITS LEAD

-- an exit of block k leads to one of n blocks, a system call to the block that follows, and a call
-- comes back to the block that follows
abbrev pub LeadsOn : ℕ → ℕ → Exit → Type 0
LeadsOn k n (exit.Jump l) = l < n
LeadsOn k n (exit.Call l back) = (l < n) × (back ≡ suc k) × (back < n)
LeadsOn k n exit.Return = Unit {0}
LeadsOn k n (exit.System l) = (l ≡ suc k) × (l < n)

-- each exit of a tail of block k leads to one of n blocks
abbrev pub AllLeadOn : ℕ → ℕ → Tail → Type 0
AllLeadOn k n (Leave e) = LeadsOn k n e
AllLeadOn k n (Test t one other) = AllLeadOn k n one × AllLeadOn k n other

-- each exit of a program leads to a block of it, and what comes back comes to the block that follows
abbrev pub IsFollowed : List Block → Type 0
IsFollowed P = (k : ℕ) (b : Block) → slice_get P k ≡ Some b → AllLeadOn k (length P) b.tail

-- COUNTS

-- the items that do something, those in legs among them
abbrev pub items_in : Items → ℕ
items_in Done = 0
items_in (Set to op a b rest) = 1 + items_in rest
items_in (Load to op a rest) = 1 + items_in rest
items_in (Save op a v rest) = 1 + items_in rest
items_in (If t one other rest) = items_in one + items_in other + items_in rest

-- the if-items, those in legs among them
abbrev pub ifs_in : Items → ℕ
ifs_in Done = 0
ifs_in (Set to op a b rest) = ifs_in rest
ifs_in (Load to op a rest) = ifs_in rest
ifs_in (Save op a v rest) = ifs_in rest
ifs_in (If t one other rest) = 1 + (ifs_in one + ifs_in other + ifs_in rest)

-- the tests of a tail
abbrev pub tests_in : Tail → ℕ
tests_in (Leave e) = 0
tests_in (Test t one other) = 1 + (tests_in one + tests_in other)

-- the exits of a tail
abbrev pub exits_in : Tail → ℕ
exits_in (Leave e) = 1
exits_in (Test t one other) = exits_in one + exits_in other

-- a small block: at most three items that do something, one test, and two exits
pub record IsSmall (b : Block) : Type 0 where
  pub items : items_in b.items ≤ 3
  pub tests : ifs_in b.items + tests_in b.tail ≤ 1
  pub exits : exits_in b.tail ≤ 2

-- whether an item of the leg itself does something
abbrev pub is_filled : Items → Bool
is_filled Done = false
is_filled (Set to op a b rest) = true
is_filled (Load to op a rest) = true
is_filled (Save op a v rest) = true
is_filled (If t one other rest) = is_filled rest

-- the if-items with a leg that is filled
abbrev pub filled_ifs : Items → ℕ
filled_ifs Done = 0
filled_ifs (Set to op a b rest) = filled_ifs rest
filled_ifs (Load to op a rest) = filled_ifs rest
filled_ifs (Save op a v rest) = filled_ifs rest
filled_ifs (If t one other rest) =
    cond (is_filled one || is_filled other) 1 0 +
    (filled_ifs one + filled_ifs other + filled_ifs rest)

-- those of a program
abbrev pub filled_in : List Block → ℕ
filled_in [] = 0
filled_in (b ∷ rest) = filled_ifs b.items + filled_in rest
