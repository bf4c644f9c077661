-- The reports on traces: `refused trace NUMBER NAME`, and where, and how many blocks a trace has.
use Rattle.std.specs.Prelude.{ℕ, List, ◌++◌, codes, decimal}
use Rattle.isa_table.specs.Spots.{spot_text}
use Rattle.trace_verify.specs.declared.fault.VerifyFault.{VerifyFault}
use Rattle.trace_verify.specs.declared.fault.VerifyFault.TheVariants as trace
use Rattle.trips_report.specs.Refusals.{at_place}

-- a fault's number and name, and the number of its entry
abbrev pub at_entry : List ℕ → ℕ → List ℕ
at_entry name entry = name ++ (codes " entry " ++ (decimal entry ++ codes "\n"))

-- of bytes that are no trace of the run
abbrev pub trace_text : VerifyFault → List ℕ
trace_text trace.Magic = codes "refused trace 1 Magic\n"
trace_text trace.Version = codes "refused trace 2 Version\n"
trace_text (trace.Truncated at) = at_place (codes "refused trace 3 Truncated") at
trace_text (trace.Trailing at) = at_place (codes "refused trace 4 Trailing") at
trace_text (trace.Past entry) = at_entry (codes "refused trace 5 Past") entry
trace_text (trace.WrongToken entry spot) = at_entry (codes "refused trace 6 WrongToken " ++ spot_text spot) entry
trace_text (trace.WrongBlock entry) = at_entry (codes "refused trace 7 WrongBlock") entry
trace_text (trace.WrongExit entry) = at_entry (codes "refused trace 8 WrongExit") entry
trace_text (trace.Faulting entry) = at_entry (codes "refused trace 9 Faulting") entry
trace_text (trace.TooLong entry) = at_entry (codes "refused trace 10 TooLong") entry

-- of a trace of so many blocks
abbrev pub verified_report : ℕ → List ℕ
verified_report blocks = codes "verified " ++ (decimal blocks ++ codes " blocks\n")
