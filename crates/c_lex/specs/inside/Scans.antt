-- What the scanning functions compute, as functions on lists.
use Rattle.std.specs.Prelude.{ℕ, zero, suc, ◌+◌, min, Bool, true, false, ◌&&◌, ◌||◌, if◌then◌else◌}
use Rattle.std.specs.Prelude.{nat_eq, [], ◌∷◌, length, take, drop, Option, Some, None}
use Rattle.std.specs.Prelude.{codes}
use Rattle.std.specs.Str.{bytes_eq}
use Rattle.c_tree.specs.declared.Kind.{Kind}
use Rattle.c_tree.specs.declared.Kind.TheVariants.{Int}
use Rattle.c_tree.specs.declared.Mark.{Mark}
use Rattle.c_lex.specs.declared.number.Suffix.{Suffix}
use Rattle.c_lex.specs.declared.directive.DirectiveKind.{DirectiveKind}
use Rattle.c_lex.specs.declared.directive.Header.{Header}
use Rattle.c_lex.specs.Directives.{words, headers}
use Rattle.c_lex.specs.Ascii as ascii
use Rattle.c_lex.specs.inside.Ascii as inside_ascii
use Rattle.c_lex.specs.Bytes.{Bytes, by_class, is_blank, is_digit, is_word}
use Rattle.c_lex.specs.inside.Runs.{run_len, not_blank}
use Rattle.c_lex.specs.Tables.{lookup, marks}
use Rattle.c_lex.specs.Constants.{is_digit_in, is_x, number_of, suffix_of, may_be, first_holding}
use Rattle.c_lex.specs.Constants.{worth}
use Rattle.c_lex.specs.Pieces.{begins_with}

-- where the first `*/` stands, `i` being the number of the first byte
abbrev pub close_from : ℕ → Bytes → Option ℕ
close_from i [] = None
close_from i (b ∷ bs) =
    if nat_eq b ascii.star && begins_with ascii.slash bs then Some i else close_from (suc i) bs

-- the mark of so many bytes, or else a shorter one
abbrev pub or_else : ℕ → Option Mark → Option (ℕ × Mark) → Option (ℕ × Mark)
or_else n None other = other
or_else n (Some m) other = Some (n, m)

-- the longest mark of at most so many bytes
abbrev pub mark_from : ℕ → Bytes → Option (ℕ × Mark)
mark_from zero text = None
mark_from (suc n) text = or_else (suc n) (lookup (take (suc n) text) marks) (mark_from n text)

-- May a mark go on with this byte?
abbrev pub goes_on : ℕ → Bool
goes_on b =
    (nat_eq b inside_ascii.less || (nat_eq b inside_ascii.equal || nat_eq b inside_ascii.greater))
    || ((nat_eq b inside_ascii.ampersand || nat_eq b inside_ascii.bar)
    || ((nat_eq b ascii.plus || nat_eq b ascii.minus)
    || (nat_eq b inside_ascii.percent || nat_eq b inside_ascii.colon)))

-- the longest mark at the front, with its length
abbrev pub mark_of : Bytes → Option (ℕ × Mark)
mark_of text = mark_from (min (length text) 3) text

-- what follows the spaces and tabs at the front
abbrev pub after_blanks : Bytes → Bytes
after_blanks bs = drop (run_len (by_class is_blank) 0 bs) bs

-- Does the second begin with the first?
abbrev pub strips : Bytes → Bytes → Bool
strips w bs = bytes_eq (take (length w) bs) w

-- is no byte left?
abbrev pub is_empty : Bytes → Bool
is_empty [] = true
is_empty (b ∷ bs) = false

-- the header that an include line names, behind its `#`
abbrev pub include_at : Bytes → Option Header
include_at line =
    let a = after_blanks line in
    let b = after_blanks (drop 7 a) in
    let n = run_len (by_class not_blank) 0 b in
    if strips (codes "include") a && is_empty (after_blanks (drop n b)) then lookup (take n b) headers else None

-- the first word of a line behind its blanks
abbrev pub first_word : Bytes → Bytes
first_word line =
    let a = after_blanks line in take (run_len (by_class is_word) 0 a) a

-- a directive with so many bytes
abbrev pub with_length : ℕ → Option DirectiveKind → Option (ℕ × DirectiveKind)
with_length n None = None
with_length n (Some k) = Some (n, k)

-- the directive that a line behind its `#` begins with, and how many bytes that takes
abbrev pub directive_at : Bytes → Option (ℕ × DirectiveKind)
directive_at line =
    with_length (run_len (by_class is_blank) 0 line + run_len (by_class is_word) 0 (after_blanks line))
    (lookup (first_word line) words)

-- the base in which the run is to be read
abbrev pub radix_of : Bytes → ℕ
radix_of [] = 10
radix_of (a ∷ []) = if nat_eq a ascii.digit_0 then 8 else 10
radix_of (a ∷ b ∷ bs) = if nat_eq a ascii.digit_0 then (if is_x b then 16 else 8) else 10

-- the value with its type, if one holds it
abbrev pub with_kind : ℕ → Option Kind → Option (ℕ × Kind)
with_kind v None = None
with_kind v (Some k) = Some (v, k)

-- the constant of these digits and this suffix
abbrev pub with_suffix : ℕ → Bytes → Option Suffix → Option (ℕ × Kind)
with_suffix radix digits None = None
with_suffix radix digits (Some says) =
    with_kind (number_of radix digits)
    (first_holding (number_of radix digits) (may_be (nat_eq radix 10) says))

-- the constant whose digits and suffix these are
abbrev pub digits_of : ℕ → Bytes → Option (ℕ × Kind)
digits_of radix body =
    let n = run_len (by_class (is_digit_in radix)) 0 body in
    if nat_eq n 0 then None else with_suffix radix (take n body) (suffix_of (drop n body))

-- the constant that the run is: its value and type
abbrev pub constant_of : Bytes → Option (ℕ × Kind)
constant_of run =
    digits_of (radix_of run) (if nat_eq (radix_of run) 16 then drop 2 run else run)

-- the constant that the byte is
abbrev pub short_constant : ℕ → Option (ℕ × Kind)
short_constant b = if is_digit b then Some (worth b, Int) else None
