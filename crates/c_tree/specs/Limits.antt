-- The limits of the profile. Each is said in docs/LANGUAGE.md, in the section that the line above it names.
use Rattle.std.specs.Prelude.{ℕ}

-- "What `trips run` and `trips eval` accept": how many bytes a source text may have
unfoldable pub most_source_bytes : ℕ
most_source_bytes = 262144

-- "Tokens": how many tokens a source text may have
abbrev pub most_tokens : ℕ
most_tokens = 8192

-- "Grammar": the greatest depth that a construct may have
abbrev pub most_nesting : ℕ
most_nesting = 64

-- "Limits" of the typing: how many parameters a function may have
abbrev pub most_parameters : ℕ
most_parameters = 8

-- "Limits" of the typing: how many scalars a function may have, its parameters and switches among them
abbrev pub most_scalars : ℕ
most_scalars = 64

-- "Limits" of the typing: the greatest need of a full expression
abbrev pub most_need : ℕ
most_need = 16

-- "Arrays" of the typing: how many bytes an array may have, and all globals together
abbrev pub most_object_bytes : ℕ
most_object_bytes = 1048576

-- "Frames and steps" of the meaning: how many bytes the frames of the active functions may have
abbrev pub most_frame_bytes : ℕ
most_frame_bytes = 1048576
