-- What a source of named bytes and a sink of bytes tell, and when they may fail.
use Rattle.std.specs.Prelude.{◌≡◌, ℕ, ◌+◌, ◌^◌, ◌-◌, ◌≤◌, ◌<◌, min, List, [], ◌++◌, length, take}
use Rattle.std.specs.Prelude.{⊤, None, Some, Option, option_map, Result, IfSome, OnErr}

-- one more, at most the greatest 64-bit number
abbrev pub next_count : ℕ → ℕ
next_count n = min (n + 1) (2 ^ 64 - 1)

-- A count of faults rose: it is greater than before, or stands at the greatest 64-bit number.
abbrev pub Rose : ℕ → ℕ → Type 0
Rose before now = next_count before ≤ now

-- The count does not fall, and a failure comes only where it rose.
pub record HasCause {T E : Type 0} (before now : ℕ) (result : Result T E) : Type 0 where
  -- no fault is taken back
  pub later : before ≤ now
  -- an error has a fault behind it that was counted
  pub failed : OnErr result (Rose before now)

-- No fault of the files and none of the sink was counted in a call.
pub record Undisturbed (files_before files_after sink_before sink_after : ℕ) : Type 0 where
  pub read : Rose files_before files_after → ⊥
  pub written : Rose sink_before sink_after → ⊥

-- These are the bytes, where they are told.
abbrev pub Holds : Option (List ℕ) → List ℕ → Type 0
Holds told bytes = IfSome told (λ held. bytes ≡ held)

-- What was ahead before are the first k bytes that were given and what is ahead after, where either is told, and
-- none were given only at the end.
abbrev pub Gives : Option (List ℕ) → Option (List ℕ) → List ℕ → ℕ → Type 0
Gives before after into k =
    (before ≡ option_map (λ left. take k into ++ left) after)
    × IfSome before (λ left. k ≡ 0 → 0 < length into → left ≡ [])

-- Bytes were appended, where the bytes after are told: then those before were told too.
abbrev pub Appended : Option (List ℕ) → Option (List ℕ) → List ℕ → Type 0
Appended old None bytes = ⊤
Appended None (Some new) bytes = ⊥
Appended (Some old) (Some new) bytes = new ≡ old ++ bytes

-- Some first part of the bytes was appended.
abbrev pub AppendedPart : Option (List ℕ) → Option (List ℕ) → List ℕ → Type 0
AppendedPart old new bytes = (k : ℕ) × (k ≤ length bytes) × Appended old new (take k bytes)
