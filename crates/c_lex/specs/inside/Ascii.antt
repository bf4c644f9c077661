-- Beside what is believed of Ascii.antt: the bytes that the rules name (the basic character set, C17 5.2.1, in
-- ASCII).
use Rattle.std.specs.Prelude.{ℕ}

-- the byte of `&`, which may be doubled
abbrev pub ampersand : ℕ
ampersand = 38

-- the byte of `%`, the second of a digraph
abbrev pub percent : ℕ
percent = 37

-- the byte of `:`, the second of a digraph
abbrev pub colon : ℕ
colon = 58

-- the byte of `<`, which may be doubled
abbrev pub less : ℕ
less = 60

-- the byte of `=`, which ends an operator of assignment
abbrev pub equal : ℕ
equal = 61

-- the byte of `>`, which may be doubled
abbrev pub greater : ℕ
greater = 62

-- the byte of `|`, which may be doubled
abbrev pub bar : ℕ
bar = 124
