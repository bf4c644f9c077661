-- How many bytes a verifier can have read, for the code: so few that their number fits.
use Rattle.std.specs.Prelude.{ℕ, ◌+◌, ◌*◌, ◌^◌, ◌<◌, ◌≤◌, length}
use Rattle.block_check.specs.inside.Images.{IsCheckedImage}
use Rattle.trace_verify.specs.declared.parts.Parts.{Parts}
use Rattle.trace_verify.specs.Reading.{Place, Front, Number, Exit, Records, Whole, Stopped, Progress, Reading}
use Rattle.trace_verify.specs.inside.Verifying.{reading_of}

-- 12 bytes stand before the entries, and an entry has at most 1157: 4 of its number, its exit, and 9 of each of 128
-- records; k bytes of the field that is read have come
abbrev pub bounded : Place → Progress → ℕ → Type 0
bounded Front c k = c.at ≤ k
bounded Number c k = c.at ≤ 12 + (c.count * 1157 + k)
bounded Exit c k = c.at ≤ 16 + c.count * 1157
bounded (Records exit here later) c k = c.at + length later * 9 ≤ 1160 + (c.count * 1157 + k)
bounded Whole c k = c.at ≤ 16 + c.count * 1157
bounded (Stopped f) c k = c.at ≤ 1169 + c.count * 1157

-- the bytes that have come are no more than those of the entries so far, and of the one that is read
abbrev pub IsBounded : Reading → Type 0
IsBounded r = bounded r.place r.progress (length r.seen)

-- the same of the parts, whose image was checked, and whose budget fits
pub record IsWithin (p : Parts) : Type 0 where
  pub image : IsCheckedImage p.image
  pub range : p.budget < 2 ^ 32
  pub bytes : IsBounded (reading_of p)
