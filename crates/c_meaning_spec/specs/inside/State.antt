-- Beside what is believed of State.antt: what an evaluation goes over.
use Rattle.c_meaning_spec.specs.declared.signal.Signal.{Signal}
use Rattle.c_meaning_spec.specs.State.{State, Result, Go, Over}

-- a part, and then what follows it
abbrev pub then : Result → (Signal → State → Result) → Result
then (Go v s) next = next v s
then (Over why s) next = Over why s
