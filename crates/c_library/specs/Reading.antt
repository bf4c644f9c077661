-- Formats (C17 7.21.6.1, paragraphs 3 and 4): the characters and conversions that they have.
use Rattle.std.specs.Prelude.{ℕ, if◌then◌else◌, nat_eq, List, [], ◌∷◌, ◌++◌, Option, Some, None}
use Rattle.c_lex.specs.Bytes.{Bytes}
use Rattle.c_library.specs.Conversions.{nothing_said, is_defined, with_flag, with_width, with_point}
use Rattle.c_library.specs.Conversions.{with_precision, with_size}
use Rattle.c_library.specs.declared.conversion.Conversion.{Conversion}
use Rattle.c_library.specs.declared.reading.Item.{Item}
use Rattle.c_library.specs.declared.reading.Item.TheVariants as item
use Rattle.c_library.specs.declared.reading.Part.{Part}
use Rattle.c_library.specs.declared.reading.Part.TheVariants as part

-- the byte of `%`, which begins a conversion
abbrev pub percent : ℕ
percent = 37

-- what a byte does: the part that it belongs to, and the item that it ends
abbrev pub Move : Type 0
Move = Part × Option Item

-- within this part, where the conversion goes on so, or else this
abbrev pub going_on : (Conversion → Part) → Option Conversion → Move → Move
going_on within (Some c) other = (within c, None)
going_on within None other = other

-- the conversion whole, if it is one
abbrev pub whole : Conversion → Move
whole c = if is_defined c then (part.Text, Some (item.Conversion c)) else (part.Bad, None)

-- the letter of a conversion
abbrev pub at_letter : ℕ → Conversion → Move
at_letter b c = whole (record c { letter = b })

-- the length modifier may go on, or the letter comes
abbrev pub at_size : ℕ → Conversion → Move
at_size b c = going_on (λ c. part.Size c) (with_size b c) (at_letter b c)

-- the precision may go on, or what follows it
abbrev pub at_precision : ℕ → Conversion → Move
at_precision b c = going_on (λ c. part.Precision c) (with_precision b c) (at_size b c)

-- a precision may begin, or what follows it
abbrev pub at_point : ℕ → Conversion → Move
at_point b c = going_on (λ c. part.Precision c) (with_point b c) (at_size b c)

-- the width may go on, or what follows it
abbrev pub at_width : ℕ → Conversion → Move
at_width b c = going_on (λ c. part.Width c) (with_width b c) (at_point b c)

-- the flags may go on, or what follows them
abbrev pub at_flags : ℕ → Conversion → Move
at_flags b c = going_on (λ c. part.Flags c) (with_flag b c) (at_width b c)

-- A byte behind this part. `%%` writes a `%` (paragraph 8).
abbrev pub moved : Part → ℕ → Move
moved part.Text b = if nat_eq b percent then (part.Percent, None) else (part.Text, Some (item.Byte b))
moved part.Percent b = if nat_eq b percent then (part.Text, Some (item.Byte b)) else at_flags b nothing_said
moved (part.Flags c) b = at_flags b c
moved (part.Width c) b = at_width b c
moved (part.Precision c) b = at_precision b c
moved (part.Size c) b = at_size b c
moved part.Bad b = (part.Bad, None)

-- the item, if there is one
abbrev pub listed : Option Item → List Item
listed (Some i) = i ∷ []
listed None = []

-- the items of a format that ends within this part
abbrev pub ended : Part → List Item → Option (List Item)
ended part.Text is = Some is
ended _ is = None

-- the items of a format, behind these, where so much of it is left behind this part
abbrev pub read : Part → List Item → Bytes → Option (List Item)
read p is [] = ended p is
read p is (b ∷ bs) = read (moved p b).0 (is ++ listed (moved p b).1) bs

-- the characters and conversions of a format, if it is one
abbrev pub items_of : Bytes → Option (List Item)
items_of format = read part.Text [] format
