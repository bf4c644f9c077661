-- Machines that have words, and layouts whose addresses are words.
use Rattle.std.specs.Prelude.{◌≡◌, ℕ, ◌^◌, ◌<◌, List, All, length}
use Rattle.trips_isa.specs.Stores.{data_size}
use Rattle.ir_forms.specs.inside.HyperCode.{Block}
use Rattle.ir_forms.specs.inside.HyperRuns.{Machine, Layout, after_block}

-- each number of a list is a byte
abbrev pub AreBytes : List ℕ → Type 0
AreBytes bytes = All (λ b. b < 256) bytes

-- registers hold words, and memory and the input bytes; memory has its size
pub record HasWords (m : Machine) : Type 0 where
  pub registers : (r : ℕ) → m.registers r < 2 ^ 64
  pub memory : AreBytes m.memory
  pub input : AreBytes m.input
  pub size : length m.memory ≡ data_size

-- every address is a word
abbrev pub HasAddresses : Layout → Type 0
HasAddresses at = (l : ℕ) → at.address l < 2 ^ 64

-- a block leaves words where it begins with words
abbrev pub LeavesWords : Layout → Block → Type 0
LeavesWords at b = (m : Machine) → HasWords m → HasWords (after_block at b m)

-- each of the first n labels is found again by its address, which is a word
pub record IsFaithful (at : Layout) (n : ℕ) : Type 0 where
  -- so that a return finds the block which the call named
  pub again : (l : ℕ) → l < n → at.label (at.address l) ≡ l
  pub word : (l : ℕ) → l < n → at.address l < 2 ^ 64
