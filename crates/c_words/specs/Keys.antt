-- The keywords of declarations (C17 6.7.1 to 6.7.4), and runs of them.
use Rattle.std.specs.Prelude.{ℕ, ◌+◌, Bool, not, ◌&&◌, ◌||◌, nat_eq, nat_le, if◌then◌else◌, [], ◌∷◌}
use Rattle.c_tree.specs.declared.Form.{Form}
use Rattle.c_tree.specs.declared.Form.TheVariants as form
use Rattle.c_tree.specs.declared.Key.{Key}
use Rattle.c_tree.specs.declared.Key.TheVariants as key
use Rattle.c_lex.specs.Lexes.{Tokens}

-- the number of a keyword of declarations, by which they are told apart; another keyword has 0
abbrev pub key_number : Key → ℕ
key_number key.Void = 1
key_number key.Bool = 2
key_number key.Char = 3
key_number key.Short = 4
key_number key.Int = 5
key_number key.Long = 6
key_number key.Signed = 7
key_number key.Unsigned = 8
key_number key.Const = 9
key_number key.Volatile = 10
key_number key.Register = 11
key_number key.Static = 12
key_number key.Extern = 13
key_number key.Inline = 14
key_number key.Auto = 15
key_number _ = 0

-- the number of a token, which is 0 but for these keywords
abbrev pub number : Form → ℕ
number (form.Key k) = key_number k
number _ = 0

-- is it this one of these keywords?
abbrev pub is_key : Key → Form → Bool
is_key k f = nat_eq (number f) (key_number k)

-- is it one of them?
abbrev pub is_word : Form → Bool
is_word f = not (nat_eq (number f) 0)

-- is it one that names a type (6.7.2)?
abbrev pub is_type_word : Form → Bool
is_type_word f = is_word f && nat_le (number f) 8

-- is it a storage class (6.7.1)?
abbrev pub is_storage : Form → Bool
is_storage f = is_key key.Static f || (is_key key.Extern f || (is_key key.Register f || is_key key.Auto f))

-- the run of these keywords that the tokens begin with
abbrev pub run : Tokens → Tokens
run [] = []
run (t ∷ ts) = if is_word t.form then t ∷ run ts else []

-- the tokens behind it
abbrev pub behind : Tokens → Tokens
behind [] = []
behind (t ∷ ts) = if is_word t.form then behind ts else t ∷ ts

-- how many times the keyword stands among these
abbrev pub count : Key → Tokens → ℕ
count k [] = 0
count k (t ∷ ts) = if is_key k t.form then 1 + count k ts else count k ts

-- how many storage classes
abbrev pub storages : Tokens → ℕ
storages [] = 0
storages (t ∷ ts) = if is_storage t.form then 1 + storages ts else storages ts

-- does it stand there not at all, once, or once at most?
abbrev pub none : Key → Tokens → Bool
none k ws = nat_eq (count k ws) 0

abbrev pub one : Key → Tokens → Bool
one k ws = nat_eq (count k ws) 1

abbrev pub few : Key → Tokens → Bool
few k ws = nat_le (count k ws) 1
