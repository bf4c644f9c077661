-- What the words behind a command's name say (README.md of this crate): `--name value` or
-- `--name=value`, `--name` alone for a flag, and words without a name, before or behind the options.
use Rattle.std.specs.Prelude.{ℕ, Bool, false, ◌&&◌, ◌==◌, if◌then◌else◌, List, [], ◌∷◌, ◌++◌, codes}
use Rattle.std.specs.Prelude.{Option, None, Some, option_map, option_and_then, find}
use Rattle.std.specs.List.{list_any, before_first, after_first}
use Rattle.std.specs.Str.{bytes_eq}

-- a word of the command line, as its bytes
abbrev pub Text : Type 0
Text = List ℕ

-- an option of a command, by its name without the dashes: a value belongs to it, or none does
pub data Named : Type 0 where
  valued : Text → Named
  flag : Text → Named

-- the name alone
abbrev pub name_of : Named → Text
name_of (valued name) = name
name_of (flag name) = name

-- the option of this name
abbrev pub named : Text → List Named → Option Named
named name options = find (λ o. bytes_eq (name_of o) name) options

-- what words say, in their order, each under its name: an option with its value, a flag with
-- `true`, and a word that stands alone under the name of its place, as `FILE`
abbrev pub Said : Type 0
Said = List (Text × Text)

-- the name of the file
abbrev pub file_name : Text
file_name = codes "FILE"

-- the name of a second word that stands alone, as of a second file
abbrev pub second_name : Text
second_name = codes "SECOND"

-- those of a third and of a fourth file
abbrev pub third_name : Text
third_name = codes "THIRD"

abbrev pub fourth_name : Text
fourth_name = codes "FOURTH"

-- something is said under this name
abbrev pub is_said : Text → Said → Bool
is_said name said = list_any (λ s. bytes_eq s.0 name) said

-- what is said under it
abbrev pub value_said : Text → Said → Option Text
value_said name said = option_map (λ s. s.1) (find (λ s. bytes_eq s.0 name) said)

-- one thing more, and none under a name that was said before
abbrev pub and_said : Text → Text → Said → Option Said
and_said name value said = if is_said name said then None else Some (said ++ (name, value) ∷ [])

-- words -------------------------------------------------------------------------------------------

-- the word begins with a dash and has more than this one byte
abbrev pub is_dashed : Text → Bool
is_dashed (x ∷ y ∷ rest) = x == 45
is_dashed word = false

-- what follows two dashes, where something does
abbrev pub behind_dashes : Text → Option Text
behind_dashes (x ∷ y ∷ z ∷ rest) = if x == 45 && y == 45 then Some (z ∷ rest) else None
behind_dashes word = None

-- what stands before a first `=`, and what stands behind it if there is one
abbrev pub name_in : Text → Text
name_in text = before_first (λ x. x == 61) text

-- what stands behind a first `=`, which may be nothing
abbrev pub value_in : Text → Option Text
value_in text =
    if list_any (λ x. x == 61) text then Some (after_first (λ x. x == 61) text) else None

-- reading -----------------------------------------------------------------------------------------

-- How the words that follow are read, from the places that are left for words that stand alone, from
-- the option that waits for its value, if one does, and from what was said before.
abbrev pub Rest : Type 0
Rest = List Text → Option Text → Said → Option Said

-- they are read where one thing more could be said
abbrev pub goes_on : Rest → List Text → Option Said → Option Said
goes_on rest places said = option_and_then (rest places None) said

-- a word that stands alone is said under the name of the first place that is left
abbrev pub placed : List Text → Text → Said → (List Text → Said → Option Said) → Option Said
placed [] word said rest = None
placed (place ∷ places) word said rest = rest places (said ++ (place, word) ∷ [])

-- an option, with the value behind its `=`
abbrev pub option_read : Option Named → Option Text → List Text → Said → Rest → Option Said
option_read None value places said rest = None
option_read (Some (valued name)) (Some value) places said rest =
    goes_on rest places (and_said name value said)
option_read (Some (valued name)) None places said rest = rest places (Some name) said
option_read (Some (flag name)) (Some value) places said rest = None
option_read (Some (flag name)) None places said rest =
    goes_on rest places (and_said name (codes "true") said)

-- a word, by what follows its two dashes: an option, or a word that stands alone
abbrev pub word_read : List Named → Text → Option Text → List Text → Said → Rest → Option Said
word_read options word (Some text) places said rest =
    option_read (named (name_in text) options) (value_in text) places said rest
word_read options word None places said rest =
    if is_dashed word then None else placed places word said (λ left more. rest left None more)

-- words behind `--`, each of which stands alone
abbrev pub alone_read : List Text → Said → List Text → Option Said
alone_read places said [] = Some said
alone_read places said (word ∷ words) = placed places word said (λ left more. alone_read left more words)

-- What the words say where a command has these options, from the places that are left, from the
-- option that waits for its value and from what was said before; none where a word says nothing.
abbrev pub words_read : List Named → List Text → Option Text → Said → List Text → Option Said
words_read options places None said [] = Some said
words_read options places (Some name) said [] = None
words_read options places (Some name) said (word ∷ words) =
    if is_dashed word then None
    else option_and_then (λ more. words_read options places None more words) (and_said name word said)
words_read options places None said (word ∷ words) =
    if bytes_eq word (codes "--") then alone_read places said words
    else word_read options word (behind_dashes word) places said
    (λ left waits more. words_read options left waits more words)
