-- The bytes that the rules name (the basic character set, C17 5.2.1, in ASCII).
use Rattle.std.specs.Prelude.{ℕ}

-- what the escape `\a` stands for
abbrev pub alert : ℕ
alert = 7

-- what the escape `\b` stands for
abbrev pub backspace : ℕ
backspace = 8

-- what the escape `\t` stands for: the first byte of white space
abbrev pub tab : ℕ
tab = 9

-- what the escape `\n` stands for: the byte that ends a line
abbrev pub line_feed : ℕ
line_feed = 10

-- what the escape `\v` stands for: white space
abbrev pub vertical_tab : ℕ
vertical_tab = 11

-- what the escape `\f` stands for: white space
abbrev pub form_feed : ℕ
form_feed = 12

-- what the escape `\r` stands for: the last byte of white space but the blank
abbrev pub carriage_return : ℕ
carriage_return = 13

-- the blank, the first byte that is printed
abbrev pub space : ℕ
space = 32

-- the byte of `"`, around a string literal
abbrev pub double_quote : ℕ
double_quote = 34

-- the byte of `#`, which begins a directive
abbrev pub hash : ℕ
hash = 35

-- the byte of `'`, around a character
abbrev pub quote : ℕ
quote = 39

-- the byte of `*`, the second of `/*`
abbrev pub star : ℕ
star = 42

-- the byte of `+`, which may be doubled, and the sign of an exponent
abbrev pub plus : ℕ
plus = 43

-- the byte of `-`, which may be doubled, and the sign of an exponent
abbrev pub minus : ℕ
minus = 45

-- the byte of `.`, which a preprocessing number may hold
abbrev pub point : ℕ
point = 46

-- the byte of `/`, the first of `//` and of `/*`
abbrev pub slash : ℕ
slash = 47

-- the byte of `0`, the first of an octal constant
abbrev pub digit_0 : ℕ
digit_0 = 48

-- the byte of `1`, the least that a decimal constant begins with
abbrev pub digit_1 : ℕ
digit_1 = 49

-- the byte of `9`, the greatest decimal digit
abbrev pub digit_9 : ℕ
digit_9 = 57

-- the byte of `?`, which an escape may name
abbrev pub question : ℕ
question = 63

-- the byte of `A`, the first capital letter
abbrev pub upper_a : ℕ
upper_a = 65

-- the byte of `E`, before the exponent of a decimal number
abbrev pub upper_e : ℕ
upper_e = 69

-- the byte of `F`, the last capital hexadecimal digit
abbrev pub upper_f : ℕ
upper_f = 70

-- the byte of `L`, a suffix for long
abbrev pub upper_l : ℕ
upper_l = 76

-- the byte of `P`, before the exponent of a hexadecimal number
abbrev pub upper_p : ℕ
upper_p = 80

-- the byte of `U`, a suffix for unsigned
abbrev pub upper_u : ℕ
upper_u = 85

-- the byte of `X`, the second of a hexadecimal constant
abbrev pub upper_x : ℕ
upper_x = 88

-- the byte of `Z`, the last capital letter
abbrev pub upper_z : ℕ
upper_z = 90

-- the byte of `\`, which begins an escape
abbrev pub backslash : ℕ
backslash = 92

-- the byte of `_`, which a word may hold
abbrev pub underscore : ℕ
underscore = 95

-- the byte of `a`, the first small letter, and of the escape `\a`
abbrev pub lower_a : ℕ
lower_a = 97

-- the byte of `b`, of the escape `\b`
abbrev pub lower_b : ℕ
lower_b = 98

-- the byte of `e`, before the exponent of a decimal number
abbrev pub lower_e : ℕ
lower_e = 101

-- the byte of `f`, the last small hexadecimal digit, and of the escape `\f`
abbrev pub lower_f : ℕ
lower_f = 102

-- the byte of `l`, a suffix for long
abbrev pub lower_l : ℕ
lower_l = 108

-- the byte of `n`, of the escape `\n`
abbrev pub lower_n : ℕ
lower_n = 110

-- the byte of `p`, before the exponent of a hexadecimal number
abbrev pub lower_p : ℕ
lower_p = 112

-- the byte of `r`, of the escape `\r`
abbrev pub lower_r : ℕ
lower_r = 114

-- the byte of `t`, of the escape `\t`
abbrev pub lower_t : ℕ
lower_t = 116

-- the byte of `u`, a suffix for unsigned
abbrev pub lower_u : ℕ
lower_u = 117

-- the byte of `v`, of the escape `\v`
abbrev pub lower_v : ℕ
lower_v = 118

-- the byte of `x`, the second of a hexadecimal constant, and of an escape by hexadecimal digits
abbrev pub lower_x : ℕ
lower_x = 120

-- the byte of `z`, the last small letter
abbrev pub lower_z : ℕ
lower_z = 122

-- the byte of `~`, the last one that is printed
abbrev pub tilde : ℕ
tilde = 126
