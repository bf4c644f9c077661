-- How the end of a program is told: a word stands in register 3, which is its result, or says that it has aborted.
use Rattle.std.specs.Prelude.{ℕ, ℤ, ◌^◌, ◌==◌, if◌then◌else◌, List, ◌++◌, codes}
use Rattle.std.specs.Fmt.{signed_decimal}
use Rattle.std.specs.Int.{w64, cast_unsigned}
use Rattle.trips_requests.specs.declared.status.Status.{Status}
use Rattle.trips_requests.specs.declared.status.Status.TheVariants as status

-- the word that says that a program has aborted: that of the least long, which no int is
abbrev pub aborted_word : ℕ
aborted_word = 2 ^ 63

-- the status of a program that has ended with a word
abbrev pub end_status : ℕ → Status
end_status word = if word == aborted_word then status.Aborted else status.Ended

-- the line of its end, by the digits of the word's number
abbrev pub end_line : ℕ → List ℕ → List ℕ
end_line word digits = if word == aborted_word then codes "aborted" else codes "result " ++ digits

-- the status of a program that has ended with a number
abbrev pub result_status : ℤ → Status
result_status value = end_status (cast_unsigned w64 value)

-- the line of its end
abbrev pub result_line : ℤ → List ℕ
result_line value = end_line (cast_unsigned w64 value) (signed_decimal value)
