-- What stands of a machine between two changes: there are four programs within one budget, and their counts have
-- room.
use Rattle.std.specs.Prelude.{◌≡◌, ℕ, ◌+◌, ◌^◌, ◌<◌, ◌≤◌, List, Some, length, slice_get}
use Rattle.commit_flush_spec.specs.inside.Laws.{AreNumbers}
use Rattle.grid_cycle_spec.specs.Grid.{numbers_of}
use Rattle.grid_cycle_spec.specs.Laws.{AddsUp}
use Rattle.smt_bound.specs.inside.FourRule.{AllTwo}
use Rattle.smt_mode.specs.declared.machine.Machine.{Machine}
use Rattle.smt_mode.specs.Machines.{Program, blocks_of, four_of, images_by, seen_of}

-- the frames of a program add up, and at most so many have been fetched
pub record HasRoom (most : ℕ) (x : Program) : Type 0 where
  pub adds : AddsUp (seen_of x)
  pub few : x.state.counts.fetched ≤ most

-- a program stays on its image and within its budget, its frames add up as before, and at most so many more have
-- been fetched
pub record Stays (more : ℕ) (x y : Program) : Type 0 where
  pub image : blocks_of y ≡ blocks_of x
  pub budget : y.window.budget ≡ x.window.budget
  pub adds : AddsUp (seen_of x) → AddsUp (seen_of y)
  pub few : y.state.counts.fetched ≤ x.state.counts.fetched + more

-- a program has this budget, and its frames add up
pub record IsWithin (most : ℕ) (x : Program) : Type 0 where
  pub budget : x.window.budget ≡ most
  pub adds : AddsUp (seen_of x)

-- there are four programs of this budget; each has fetched at most as many frames as cycles have been made, but that
-- each of the first `gone`, whose fetches have gone on in this cycle, may have fetched one more
pub record AreReady (gone : ℕ) (programs : List Program) (most made : ℕ) : Type 0 where
  pub four : length programs ≡ 4
  pub within : (p : ℕ) (x : Program) → slice_get programs p ≡ Some x → IsWithin most x
  pub few : (p : ℕ) (x : Program) → slice_get programs p ≡ Some x → x.state.counts.fetched ≤ made + 1
  pub fewer : (p : ℕ) (x : Program) → slice_get programs p ≡ Some x → gone ≤ p → x.state.counts.fetched ≤ made
  pub cycles : made < 2 ^ 63

-- programs, their budget and the cycles made behind some change: the same images and budget, and no cycle more
pub record AreKept (gone : ℕ) (programs : List Program) (most made : ℕ) (later : List Program)
    (most_later made_later : ℕ) : Type 0 where
  pub images : images_by later ≡ images_by programs
  pub budget : most_later ≡ most
  pub cycles : made_later ≡ made
  pub ready : AreReady gone later most_later made_later

-- a machine is ready for a change
abbrev pub IsReady : {W : Type 0} → ℕ → Machine W → Type 0
IsReady gone m = AreReady gone m.programs.items m.budget m.cycles

-- a change keeps that
abbrev pub Keeps : {W : Type 0} → ℕ → Machine W → Machine W → Type 0
Keeps gone m h = AreKept gone m.programs.items m.budget m.cycles h.programs.items h.budget h.cycles

-- each program has frames 0 and 1 alone
abbrev pub HaveTwo : {W : Type 0} → Machine W → Type 0
HaveTwo m = (p : ℕ) → AllTwo (numbers_of ((four_of m).own p).window.frames)

-- no two frames of a program have the same number
abbrev pub AreApart : {W : Type 0} → Machine W → ℕ → Type 0
AreApart m p = AreNumbers (numbers_of ((four_of m).own p).window.frames)
