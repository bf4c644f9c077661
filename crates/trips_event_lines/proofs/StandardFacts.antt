-- Worked rows: the lines of some entries.
use Rattle.std.proofs.Common.{◌≡◌, true, false, None, Some, codes, refl, ◌++◌, [], ◌∷◌}
use Rattle.std.specs.Fmt.{digits}
use Rattle.isa_table.specs.Mnemonics.{mnemonic_of}
use Rattle.trips_isa.specs.declared.op.Op.TheVariants.{Addi}
use Rattle.grid_log.specs.declared.event.Event.TheVariants as event
use Rattle.grid_log.specs.declared.event.Cause.TheVariants as cause
use Rattle.trips_event_lines.specs.Lines.{event_text, line}

pub fetch : line (record { cycle = 12; event = event.Fetches 3 7 }) ≡ codes "cycle 12 fetch frame 3 block 7" ++ 10 ∷ []
unfolding line digits
fetch = refl

pub read : event_text (event.Reads 1 0 5) ≡ codes " read bank 1 frame 0 read 5"
unfolding digits
read = refl

pub fire : event_text (event.Fires 3 0 19 (Some Addi)) ≡ codes " fire frame 0 slot 19 addi"
unfolding mnemonic_of digits
fire = refl

pub null_store : event_text (event.Stores 2 0 4 true) ≡ codes " store tile 2 frame 0 number 4 null"
unfolding digits
null_store = refl

pub store : event_text (event.Stores 2 0 4 false) ≡ codes " store tile 2 frame 0 number 4"
unfolding digits
store = refl

pub no_block : event_text (event.Leaves 6 None) ≡ codes " exit frame 6"
unfolding digits
no_block = refl

pub predict : event_text (event.Predicts 5 9) ≡ codes " predict block 9 behind frame 5"
unfolding digits
predict = refl

pub wrong : event_text (event.Flushes 2 cause.WrongExit) ≡ codes " flush frame 2 cause wrong exit"
unfolding digits
wrong = refl
