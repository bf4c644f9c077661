-- What is read behind a byte of the front or of a number, by how it was judged.
use Rattle.std.specs.Prelude.{ℕ, List}
use Rattle.trace_verify.specs.declared.fault.VerifyFault.TheVariants as faults
use Rattle.trace_verify.specs.declared.fronts.Fronted.{Fronted}
use Rattle.trace_verify.specs.declared.fronts.Fronted.TheVariants as fronted
use Rattle.trace_verify.specs.declared.fronts.Numbered.{Numbered}
use Rattle.trace_verify.specs.declared.fronts.Numbered.TheVariants as numbered
use Rattle.trace_verify.specs.Reading.{Front, Number, Exit, Whole, Stopped, Progress, Reading, before, within}

abbrev pub by_front : Progress → List ℕ → Fronted → Reading
by_front c seen fronted.More = within Front seen c
by_front c seen fronted.Whole = before Number c
by_front c seen fronted.NoMagic = before (Stopped faults.Magic) c
by_front c seen fronted.NoVersion = before (Stopped faults.Version) c

abbrev pub by_number : List ℕ → Progress → Numbered → Reading
by_number seen c numbered.More = within Number seen c
by_number seen c numbered.Whole = before Whole c
by_number seen c numbered.Begins = before Exit c
by_number seen c numbered.Past = before (Stopped (faults.Past c.count)) c
by_number seen c numbered.WrongBlock = before (Stopped (faults.WrongBlock c.count)) c
by_number seen c numbered.TooLong = before (Stopped (faults.TooLong c.count)) c
