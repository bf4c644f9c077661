-- The object that tells a status and a report.
use Rattle.std.specs.Prelude.{◌≡◌, ℕ, ◌+◌, Bool, not, if◌then◌else◌, List, [], ◌∷◌, ◌++◌, take, drop, map}
use Rattle.std.specs.Prelude.{Option, None, Some, codes, decimal, filter}
use Rattle.std.specs.List.{join_with_byte}
use Rattle.trips_requests.specs.declared.status.Status.{Status}
use Rattle.trips_requests.specs.declared.status.Status.TheVariants as status
use Rattle.trips_requests.specs.inside.ExitCodes.{number_of}
use Rattle.trips_json.specs.Strings.{string_of}
use Rattle.trips_json.specs.Lines.{lines_of, first_line, behind_line, name_size, is_value, output_size}

-- a word for each status
abbrev pub word_of : Status → List ℕ
word_of status.Ended = codes "ended"
word_of status.Usage = codes "usage"
word_of status.ReadFault = codes "read_fault"
word_of status.Refused = codes "refused"
word_of status.Budget = codes "budget"
word_of status.StackFull = codes "stack_full"
word_of status.WriteFault = codes "write_fault"
word_of status.Memory = codes "memory"
word_of status.Trap = codes "trap"
word_of status.Undefined = codes "undefined"
word_of status.Aborted = codes "aborted"

-- the member of a line that is a name with a number, as `"cycles":345`
unfoldable pub member : List ℕ → List ℕ
member line = string_of (take (name_size line) line) ++ 58 ∷ drop (name_size line + 1) line

-- the members of all such lines of a text
unfoldable pub values : List ℕ → List ℕ
values text = join_with_byte 44 (map member (filter is_value (lines_of text)))

-- the strings of its other lines
unfoldable pub others : List ℕ → List ℕ
others text = join_with_byte 44 (map string_of (filter (λ line. not (is_value line)) (lines_of text)))

-- the strings of all its lines
unfoldable pub all_lines : List ℕ → List ℕ
all_lines text = join_with_byte 44 (map string_of (lines_of text))

-- the values and the other lines of what stands behind the line of an end
unfoldable pub shown : List ℕ → List ℕ
shown text = codes ",\"values\":{" ++ (values text ++ (codes "},\"lines\":[" ++ (others text ++ 93 ∷ [])))

-- the line of an end and what stands behind it
unfoldable pub ended : List ℕ → List ℕ
ended text = codes ",\"ending\":" ++ (string_of (first_line text) ++ shown (behind_line text))

-- what is told of a report by how many bytes the program put out of which it tells
unfoldable pub told : Option ℕ → List ℕ → List ℕ
told None report = codes ",\"values\":{},\"lines\":[" ++ (all_lines report ++ 93 ∷ [])
told (Some size) report = codes ",\"output\":"
    ++ (string_of (take size (behind_line report)) ++ ended (drop (size + 1) (behind_line report)))

-- the status by its word and its number
unfoldable pub answered : Status → List ℕ
answered s = codes "{\"answer\":\"" ++ (word_of s ++ (codes "\",\"exit\":" ++ decimal (number_of s)))

-- The object of a status and a report, on one line. In parts a report is told that begins with what the program put
-- out: the output, the line of the end, and of what stands behind it the values and the other lines.
unfoldable pub json_text : Bool → Status → List ℕ → List ℕ
json_text parts s report =
    answered s ++ (told (if parts then output_size report else None) report ++ codes "}\n")

-- This text with this status is the object of a status and a report.
abbrev pub IsObjectOf : Bool → Status → List ℕ → Status → List ℕ → Type 0
IsObjectOf parts told report s text = (s ≡ told) × (text ≡ json_text parts told report)

-- what is told of an output, of the line of an end, and of what stands behind that
abbrev pub told_in_parts : List ℕ → List ℕ → List ℕ → List ℕ
told_in_parts output line rest = codes ",\"output\":"
    ++ (string_of output ++ (codes ",\"ending\":" ++ (string_of line ++ shown rest)))
