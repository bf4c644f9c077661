-- Numbers of the marks and the keywords, by which they are told apart.
use Rattle.std.specs.Prelude.{ℕ, Bool, false, nat_eq}
use Rattle.c_tree.specs.declared.token.Form.{Form}
use Rattle.c_tree.specs.declared.token.Form.TheVariants as form
use Rattle.c_tree.specs.declared.token.Mark.{Mark}
use Rattle.c_tree.specs.declared.token.Key.{Key}
use Rattle.c_tree.specs.declared.token.Key.TheVariants as key
pub use Rattle.c_tree.specs.Marks.{mark_number}

-- each keyword has its number
abbrev pub key_number : Key → ℕ
key_number key.Auto = 0
key_number key.Break = 1
key_number key.Case = 2
key_number key.Char = 3
key_number key.Const = 4
key_number key.Continue = 5
key_number key.Default = 6
key_number key.Do = 7
key_number key.Double = 8
key_number key.Else = 9
key_number key.Enum = 10
key_number key.Extern = 11
key_number key.Float = 12
key_number key.For = 13
key_number key.Goto = 14
key_number key.If = 15
key_number key.Inline = 16
key_number key.Int = 17
key_number key.Long = 18
key_number key.Register = 19
key_number key.Restrict = 20
key_number key.Return = 21
key_number key.Short = 22
key_number key.Signed = 23
key_number key.Sizeof = 24
key_number key.Static = 25
key_number key.Struct = 26
key_number key.Switch = 27
key_number key.Typedef = 28
key_number key.Union = 29
key_number key.Unsigned = 30
key_number key.Void = 31
key_number key.Volatile = 32
key_number key.While = 33
key_number key.Alignas = 34
key_number key.Alignof = 35
key_number key.Atomic = 36
key_number key.Bool = 37
key_number key.Complex = 38
key_number key.Generic = 39
key_number key.Imaginary = 40
key_number key.Noreturn = 41
key_number key.StaticAssert = 42
key_number key.ThreadLocal = 43

-- is it the mark?
abbrev pub is_mark : Mark → Form → Bool
is_mark k (form.Mark m) = nat_eq (mark_number k) (mark_number m)
is_mark k _ = false

-- is it the keyword?
abbrev pub is_key : Key → Form → Bool
is_key k (form.Key m) = nat_eq (key_number k) (key_number m)
is_key k _ = false
