-- Strings, lines and objects, worked by hand.
use Rattle.std.proofs.Common.{◌≡◌, [], ◌∷◌, ◌++◌, refl, codes, true, false, None, Some}
use Rattle.std.specs.Fmt.{digits}
use Rattle.trips_requests.specs.declared.status.Status.TheVariants as status
use Rattle.trips_json.specs.Strings.{escape, string_of, unescaped}
use Rattle.trips_json.specs.Lines.{is_value, line_size, lines_of, name_size, output_size, size_told}
use Rattle.trips_json.specs.Objects.{all_lines, answered, ended, json_text, member, others, shown, told, values}
use Rattle.trips_json.specs.Words.{has_output, is_json, without_json}

quoted : string_of (codes "a\"b\\c\n\t") ≡ codes "\"a\\\"b\\\\c\\n\\t\""
unfolding escape string_of
quoted = refl

by_number : string_of (0 ∷ 31 ∷ 127 ∷ 255 ∷ []) ≡ codes "\"\\u0000\\u001f\\u007f\\u00ff\""
unfolding escape string_of
by_number = refl

read : unescaped (codes "a\\\"\\\\\\n\\t\\u00e9") ≡ 97 ∷ 34 ∷ 92 ∷ 10 ∷ 9 ∷ 233 ∷ []
read = refl

three_lines : lines_of (codes "a\n\nb") ≡ codes "a" ∷ [] ∷ codes "b" ∷ []
three_lines = refl

-- a line feed ends a line, and begins none
two_lines : lines_of (codes "a\n\n") ≡ codes "a" ∷ [] ∷ []
two_lines = refl

value : is_value (codes "station_3_1 170") ≡ true
unfolding is_value name_size
value = refl

zero_in_front : is_value (codes "cycles 07") ≡ false
unfolding is_value name_size
zero_in_front = refl

block_line : is_value (codes "block 0 exit 1") ≡ false
unfolding is_value name_size
block_line = refl

two_bytes : output_size (codes "output 2\n3\n\nresult 3\n") ≡ Some 2
unfolding line_size size_told
two_bytes = refl

too_few : output_size (codes "output 9\n3\n\nresult 3\n") ≡ None
unfolding line_size size_told
too_few = refl

-- an output that looks like the line of an end, and the line `more` behind that
run_told : json_text true status.Ended (codes "output 9\nresult 1\n\nresult 3\nblocks 12\nblock 0 exit 1\nmore\n")
    ≡ codes "{\"answer\":\"ended\",\"exit\":0,\"output\":\"result 1\\n\",\"ending\":\"result 3\","
    ++ codes "\"values\":{\"blocks\":12},\"lines\":[\"block 0 exit 1\",\"more\"]}\n"
unfolding digits json_text answered told ended shown values others member string_of escape line_size name_size
    is_value size_told
run_told = refl

refusal_told : json_text true status.Refused (codes "refused type 5 NoMain\n")
    ≡ codes "{\"answer\":\"refused\",\"exit\":4,\"values\":{},\"lines\":[\"refused type 5 NoMain\"]}\n"
unfolding digits json_text answered told all_lines string_of escape line_size size_told
refusal_told = refl

asked : is_json (codes "run" ∷ codes "--json" ∷ []) ≡ true
asked = refl

not_asked : is_json (codes "run" ∷ codes "--json=1" ∷ []) ≡ false
not_asked = refl

left : without_json (codes "--json" ∷ codes "run" ∷ codes "--json" ∷ codes "a.c" ∷ []) ≡ codes "run" ∷ codes "a.c" ∷ []
left = refl

of_resume : has_output (codes "resume" ∷ codes "a.save" ∷ []) ≡ true
of_resume = refl

of_four : has_output (codes "four" ∷ []) ≡ false
of_four = refl
