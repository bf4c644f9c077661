-- Beside what is believed of Observed.antt: what is told of a frame that runs.
use Rattle.std.specs.Prelude.{ℕ, Bool, false, cond, ◌&&◌, ◌||◌, not, Option, Some, None, is_none}
use Rattle.std.specs.Prelude.{slice_get, slice_index_or}
use Rattle.trips_isa.specs.declared.block.Token.TheVariants.{Null, Word}
use Rattle.trips_isa.specs.declared.block.Inst.{Inst}
use Rattle.trips_isa.specs.declared.form.Form.{Form}
use Rattle.trips_isa.specs.Forms.{form_of, is_load, is_store}
use Rattle.trips_isa.specs.Rule.{Answer}
use Rattle.trips_isa.specs.Stores.{address_of}
use Rattle.commit_flush_spec.specs.Frames.{Frame, at}
use Rattle.commit_flush_spec.specs.Memory.{is_request, request}

-- whether a form is that of loads or of stores
abbrev pub is_access : Form → Bool
is_access t = is_load t || is_store t

-- whether a load or a store waits with number n
abbrev pub waits_in : ℕ → Option Frame → Bool
waits_in n None = false
waits_in n (Some f) = not f.sealed && is_request is_access (request f n)

-- the address of a load or a store, of the token at its left operand: of a null one it is null
abbrev pub token_address : Inst → Answer → Answer
token_address i None = None
token_address i (Some Null) = Some Null
token_address i (Some (Word left)) = Some (Word (address_of i left))

-- the address of what waits in a frame, where that is a load or a store
abbrev pub address_by : Frame → Option (ℕ × Inst) → Answer
address_by f None = None
address_by f (Some q) = cond (is_access (form_of (q.1).op)) (token_address q.1 (at f.spots q.0)) None

-- the address of the load or the store that waits with number n
abbrev pub address_in : ℕ → Option Frame → Answer
address_in n None = None
address_in n (Some f) = cond f.sealed None (address_by f (request f n))

-- whether read r is declared and not answered
abbrev pub unread_in : ℕ → Option Frame → Bool
unread_in r None = false
unread_in r (Some f) =
    not f.sealed && not (is_none (slice_get f.code.reads.items r) || slice_index_or f.reads r false)
