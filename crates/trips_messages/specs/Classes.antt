-- Classes of tokens, by which what stands around a fault is told.
use Rattle.std.specs.Prelude.{ℕ, suc, ◌-◌, if◌then◌else◌, nat_lt, List}
use Rattle.c_tree.specs.declared.token.Lexeme.{Lexeme}
use Rattle.c_tree.specs.declared.token.Form.{Form}
use Rattle.c_tree.specs.declared.token.Form.TheVariants as form
use Rattle.c_tree.specs.declared.token.Key.{Key}
use Rattle.c_tree.specs.declared.token.Key.TheVariants as key
use Rattle.c_tree.specs.declared.token.Mark.{Mark}
use Rattle.c_tree.specs.declared.token.Mark.TheVariants as mark
use Rattle.trips_messages.specs.declared.class.Class.{Class}
use Rattle.trips_messages.specs.declared.class.Class.TheVariants as class

-- what the lexer gives
abbrev pub Tokens : Type 0
Tokens = List Lexeme

-- the class of a keyword
abbrev pub key_class : Key → Class
key_class key.Bool = class.Type
key_class key.Char = class.Type
key_class key.Int = class.Type
key_class key.Long = class.Type
key_class key.Short = class.Type
key_class key.Signed = class.Type
key_class key.Unsigned = class.Type
key_class key.Void = class.Type
key_class key.If = class.Starts
key_class key.While = class.Starts
key_class key.For = class.Starts
key_class key.Do = class.Starts
key_class key.Switch = class.Starts
key_class key.Case = class.Asks
key_class key.Default = class.Asks
key_class key.Break = class.Leaves
key_class key.Continue = class.Leaves
key_class key.Return = class.Return
key_class key.Else = class.Else
key_class _ = class.Other

-- the class of a punctuator
abbrev pub mark_class : Mark → Class
mark_class mark.LeftParen = class.OpenRound
mark_class mark.RightParen = class.CloseRound
mark_class mark.LeftBracket = class.OpenSquare
mark_class mark.RightBracket = class.CloseSquare
mark_class mark.LeftBrace = class.OpenCurly
mark_class mark.RightBrace = class.CloseCurly
mark_class mark.Semicolon = class.Semicolon
mark_class mark.Comma = class.Comma
mark_class mark.Colon = class.Colon
mark_class mark.Question = class.Asks
mark_class mark.Assign = class.Assign
mark_class mark.PlusPlus = class.Bump
mark_class mark.MinusMinus = class.Bump
mark_class _ = class.Other

-- the class of a token
abbrev pub class_of : Form → Class
class_of form.Include = class.Include
class_of (form.Key k) = key_class k
class_of (form.Name w) = class.Name
class_of (form.Number v k) = class.Number
class_of (form.Mark m) = mark_class m

-- one more that is open, of which 1,000 at most are counted
abbrev pub one_more : ℕ → ℕ
one_more n = if nat_lt n 1000 then suc n else n

-- one less, or none
abbrev pub one_less : ℕ → ℕ
one_less n = n - 1
