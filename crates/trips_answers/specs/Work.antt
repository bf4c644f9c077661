-- What is done with a file.
use Rattle.std.specs.Prelude.{ℕ, List}
use Rattle.trips_requests.specs.declared.commands.Command.{Command}
use Rattle.trips_requests.specs.declared.commands.Command.TheVariants as command

-- What is done. An explanation says the name of the file in what it tells, and so does one that tells of a trap too. A
-- run goes on from a saved state where its file is read as one.
pub data Work : Type 0 where
  Run : Work
  Evaluate : Work
  Compile : Work
  Listing : Work
  Assemble : Work
  Disassemble : Work
  Check : Work
  Explain : (file : List ℕ) → Work
  Trap : (file : List ℕ) → Work
  Record : Work
  Verify : Work
  Save : Work
  Four : Work
  Draw : Work

-- the work of a command with the file of this name
abbrev pub work_on : Command → List ℕ → Work
work_on command.Run file = Run
work_on command.Evaluate file = Evaluate
work_on command.Compile file = Compile
work_on command.List file = Listing
work_on command.Assemble file = Assemble
work_on command.Disassemble file = Disassemble
work_on command.Check file = Check
work_on command.Explain file = Explain file
work_on command.Trap file = Trap file
work_on command.Record file = Record
work_on command.Verify file = Verify
work_on command.Save file = Save
work_on command.Resume file = Run
work_on command.Four file = Four
work_on command.Draw file = Draw
