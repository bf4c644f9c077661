-- What is told of a refusal: the place, the stage and the fault, the word at the place with what is said of it, and
-- the line with a mark under the byte.
use Rattle.std.specs.Prelude.{ℕ, Bool, false, if◌then◌else◌, nat_eq, List, [], ◌∷◌, ◌++◌, take, drop}
use Rattle.std.specs.Prelude.{codes, decimal}
use Rattle.std.specs.List.{flat_map}
use Rattle.trips_messages.specs.declared.fault.Fault.{Fault}
use Rattle.trips_messages.specs.declared.fault.Fault.TheVariants as fault
use Rattle.trips_messages.specs.Words.{word_length, is_seen, is_call}
use Rattle.trips_messages.specs.Places.{line_length, front, column}
use Rattle.trips_messages.specs.Texts.{sentence, title}
use Rattle.trips_messages.specs.declared.saying.Saying.{Saying}
use Rattle.trips_messages.specs.Classes.{Tokens}
use Rattle.trips_messages.specs.Nearest.{nearest}
use Rattle.trips_messages.specs.Choices.{saying}
use Rattle.trips_messages.specs.Hints.{said_at, ending}

-- a mark's line has a tab under a tab, and a blank under each other byte
abbrev pub under : ℕ → List ℕ
under b = (if nat_eq b 9 then 9 else 32) ∷ []

-- the line, and below it a mark under the byte before which the front stands
abbrev pub marked : List ℕ → List ℕ → List ℕ
marked front back = front ++ (back ++ (codes "\n" ++ (flat_map under front ++ codes "^\n")))

-- how many bytes the word at fault has: the whole line of a directive
abbrev pub word_size : Fault → List ℕ → ℕ
word_size fault.Directive rest = line_length rest
word_size fault.Unbalanced rest = line_length rest
word_size fault.BadDefine rest = line_length rest
word_size _ rest = word_length rest

-- a word as it is shown: a byte that is no character by its number
abbrev pub shown : List ℕ → List ℕ
shown (b ∷ []) = if is_seen b then b ∷ [] else decimal b
shown word = word

-- a word, and a sentence, which may end with the nearest name
abbrev pub sentence_of : List ℕ → Saying → List ℕ → List ℕ
sentence_of word s name =
    codes "'" ++ (shown word ++ (codes "' " ++ (sentence s ++ ending s name)))

-- a word at an offset, and what is said of it, where it may be called
abbrev pub said_of : Fault → List ℕ → Bool → ℕ → Tokens → List ℕ
said_of f word called o ts = sentence_of word (said_at f word called o ts) (nearest word o ts)

-- the word of so many bytes at the front of the rest, and what is said of it
abbrev pub said : Fault → List ℕ → ℕ → ℕ → Tokens → List ℕ
said f rest size o ts = said_of f (take size rest) (is_call (drop size rest)) o ts

-- what is told behind the title, of a byte with these bytes before it on its line and these from it on
abbrev pub told : Fault → List ℕ → List ℕ → ℕ → Tokens → List ℕ
told f front rest o ts =
    said f rest (word_size f rest) o ts ++ (codes "\n" ++ marked front (take (line_length rest) rest))

-- the place, and the title
abbrev pub headed : List ℕ → ℕ → ℕ → List ℕ → List ℕ
headed file line at name =
    file ++ (codes ":" ++ (decimal line ++ (codes ":" ++ (decimal at ++ (codes ": " ++ (name ++ codes ": "))))))

-- what is told of a fault at a byte of a text, which stands on this line and has these tokens
abbrev pub message : List ℕ → List ℕ → Tokens → ℕ → Fault → ℕ → List ℕ
message file text tokens line f offset =
    headed file line (column text offset) (title f) ++ told f (front text offset) (drop offset text) offset tokens

-- the file, a title and a sentence
abbrev pub line_text : List ℕ → List ℕ → List ℕ → List ℕ
line_text file name says = file ++ (codes ": " ++ (name ++ (codes ": " ++ (says ++ codes "\n"))))

-- what is told of a fault without a place
abbrev pub message_without_place : List ℕ → Fault → List ℕ
message_without_place file f = line_text file (title f) (sentence (saying f [] false))

-- what is told of a text that is accepted
abbrev pub accepted : List ℕ → ℕ → ℕ → ℕ → List ℕ
accepted file functions lines tokens =
    file ++ (codes ": accepted, functions " ++ (decimal functions ++ (codes ", lines " ++ (decimal lines
    ++ (codes ", tokens " ++ (decimal tokens ++ codes "\n"))))))
