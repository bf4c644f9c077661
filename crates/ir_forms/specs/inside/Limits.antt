-- The limits of the forms, and the numbers of a flat function's variables. Own.
use Rattle.std.specs.Prelude.{ℕ}
use Rattle.trips_isa.specs.Limits.{most_chunks}

-- the bytes that the frames of all active calls may take (docs/LANGUAGE.md: above them a run is Deep)
abbrev pub stack_bytes : ℕ
stack_bytes = 1048576

-- how many labels there are: a label is below this, as is the number of chunks that an offset goes on
abbrev pub label_count : ℕ
label_count = most_chunks

-- the statements that a flat program may have, each function counting one
abbrev pub most_statements : ℕ
most_statements = 16777216

-- the number of temporary 0; temporary t is `first_temporary + t`, and scalars are below it
abbrev pub first_temporary : ℕ
first_temporary = 64

-- the number of scratch variable 0; scratch variable s is `first_scratch + s`
abbrev pub first_scratch : ℕ
first_scratch = 80

-- how many variables there are: 64 scalars, 16 temporaries and 8 scratch variables
abbrev pub variable_count : ℕ
variable_count = 88
