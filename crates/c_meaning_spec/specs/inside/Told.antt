-- Beside what is believed of Telling.antt: a result without what is told of where it stopped.
use Rattle.c_meaning_spec.specs.State.{Result, Go, Over, nothing_told}

-- a result of which nothing is told
abbrev pub bared : Result → Result
bared (Go v s) = Go v s
bared (Over why s) = Over why (record s { told = nothing_told })
