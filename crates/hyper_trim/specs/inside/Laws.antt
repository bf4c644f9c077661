-- What is said of a hyper program that is trimmed.
use Rattle.std.specs.Prelude.{◌≡◌, ℕ, ◌≤◌, Bool, List, length, map, Some, slice_get}
use Rattle.ir_forms.specs.inside.HyperCode.{Block}
use Rattle.ir_forms.specs.inside.HyperFits.{FitsHyper, AllLeadOn, IsFollowed, filled_ifs, filled_in, items_in}
use Rattle.ir_forms.specs.inside.HyperFits.{ifs_in, tests_in, exits_in}
use Rattle.ir_forms.specs.inside.HyperRuns.{Layout, Machine, after_items, acts, exit_of, hyper_run}
use Rattle.hyper_trim.specs.inside.Alive.{IsClosed, narrow_block}
use Rattle.hyper_trim.specs.inside.Forward.{forward_block}
use Rattle.hyper_trim.specs.inside.Narrows.{Narrows}

-- A block and what is left of it: no more items, the same ifs, tests and exits, and as many filled ifs.
pub record Shaped (b c : Block) : Type 0 where
  pub fits : FitsHyper b → FitsHyper c
  -- its exits lead to the same blocks
  pub leads : (k n : ℕ) → AllLeadOn k n b.tail → AllLeadOn k n c.tail
  pub fewer : items_in c.items ≤ items_in b.items
  pub ifs : ifs_in c.items ≡ ifs_in b.items
  pub tests : tests_in c.tail ≡ tests_in b.tail
  pub exits : exits_in c.tail ≡ exits_in b.tail
  -- an if with a filled leg stays one
  pub filled : filled_ifs c.items ≡ filled_ifs b.items

-- Q is what is left of P: it does the same, block by block.
pub record Trims (P Q : List Block) : Type 0 where
  -- the same standing after each number of blocks, on each input, in each layout, with or without the check of
  -- faults: what faulted still does
  pub runs : (check : Bool) (at : Layout) (bytes input : List ℕ) (n : ℕ)
      → hyper_run check at Q bytes input n ≡ hyper_run check at P bytes input n
  -- as many blocks
  pub count : length Q ≡ length P
  pub each : (k : ℕ) (b c : Block) → slice_get P k ≡ Some b → slice_get Q k ≡ Some c → Shaped b c
  pub followed : IsFollowed P → IsFollowed Q
  pub filled : filled_in Q ≡ filled_in P

-- what a closed table leaves of a program, with what outlasts each block, does the same
abbrev pub ClosedTablesNarrow : Type 0
ClosedTablesNarrow =
    (T : List ℕ) (ret : ℕ) (P : List Block) → IsClosed T ret P → Narrows P (map (narrow_block T ret) P)

-- c does the same as b from every machine, with the same acts.
pub record SameBlock (b c : Block) : Type 0 where
  pub after : (m : Machine) → after_items c.items m ≡ after_items b.items m
  pub acts : (m : Machine) → acts c.items m ≡ acts b.items m
  -- as the items left the registers
  pub exit : (m : Machine) → exit_of c.tail (after_items b.items m).registers
      ≡ exit_of b.tail (after_items b.items m).registers

-- so is a block whose copies and constants are forwarded
abbrev pub ForwardingIsSame : Type 0
ForwardingIsSame = (b : Block) → SameBlock b (forward_block b)

-- so programs are trimmed whose blocks are changed so
abbrev pub ForwardingTrims : Type 0
ForwardingTrims = (P : List Block) → Trims P (map forward_block P)

-- and what is left of what is left is what is left
abbrev pub TrimsCompose : Type 0
TrimsCompose = (P Q R : List Block) → Trims P Q → Trims Q R → Trims P R
