-- What the window tells of a frame beforehand, a bit for each slot, read and number.
use Rattle.std.specs.Prelude.{ℕ, Bool, false, ◌&&◌, ◌||◌, not, is_some, slice_get, slice_index_or}
use Rattle.trips_isa.specs.declared.form.Form.{Form}
use Rattle.trips_isa.specs.Forms.{is_load, is_store}
use Rattle.block_cases.specs.Orders.{slot_of}
use Rattle.commit_flush_spec.specs.Frames.{Frame, slot_node}
use Rattle.commit_flush_spec.specs.Sending.{token_with}
use Rattle.commit_flush_spec.specs.Memory.{request, is_request}

-- whether slot s may fire: it holds an instruction that has not fired and whose operands and predicate have come
abbrev pub is_ready : Frame → ℕ → Bool
is_ready f s = not f.sealed && (is_some (slot_of f.code s) && (not (slice_index_or f.fired s false)
    && is_some (token_with f (slot_node f.code s) 0)))

-- whether read r is declared and not answered
abbrev pub is_unread : Frame → ℕ → Bool
is_unread f r = not f.sealed && (is_some (slice_get f.code.reads.items r) && not (slice_index_or f.reads r false))

-- loads and stores have numbers
abbrev pub has_number : Form → Bool
has_number t = is_load t || is_store t

-- whether a load or a store waits with number n
abbrev pub is_asked : Frame → ℕ → Bool
is_asked f n = not f.sealed && is_request has_number (request f n)
