-- When two forms of tokens are one, by which two bodies are compared (C17 6.10.3, paragraph 2).
use Rattle.std.specs.Prelude.{ℕ, Bool, true, false, ◌&&◌, nat_eq, List, [], ◌∷◌}
use Rattle.std.specs.Str.{bytes_eq}
use Rattle.c_tree.specs.declared.Form.{Form}
use Rattle.c_tree.specs.declared.Form.TheVariants as form
use Rattle.c_tree.specs.declared.Key.{Key}
use Rattle.c_tree.specs.declared.Key.TheVariants as key
use Rattle.c_tree.specs.declared.Kind.{Kind}
use Rattle.c_tree.specs.declared.Kind.TheVariants as kind
use Rattle.c_tree.specs.Marks.{mark_number}

-- the place of a keyword in C17 6.4.1, by which keywords are told apart
abbrev pub key_number : Key → ℕ
key_number key.Auto = 0
key_number key.Break = 1
key_number key.Case = 2
key_number key.Char = 3
key_number key.Const = 4
key_number key.Continue = 5
key_number key.Default = 6
key_number key.Do = 7
key_number key.Double = 8
key_number key.Else = 9
key_number key.Enum = 10
key_number key.Extern = 11
key_number key.Float = 12
key_number key.For = 13
key_number key.Goto = 14
key_number key.If = 15
key_number key.Inline = 16
key_number key.Int = 17
key_number key.Long = 18
key_number key.Register = 19
key_number key.Restrict = 20
key_number key.Return = 21
key_number key.Short = 22
key_number key.Signed = 23
key_number key.Sizeof = 24
key_number key.Static = 25
key_number key.Struct = 26
key_number key.Switch = 27
key_number key.Typedef = 28
key_number key.Union = 29
key_number key.Unsigned = 30
key_number key.Void = 31
key_number key.Volatile = 32
key_number key.While = 33
key_number key.Alignas = 34
key_number key.Alignof = 35
key_number key.Atomic = 36
key_number key.Bool = 37
key_number key.Complex = 38
key_number key.Generic = 39
key_number key.Imaginary = 40
key_number key.Noreturn = 41
key_number key.StaticAssert = 42
key_number key.ThreadLocal = 43

-- the place of a type among the types, by which types are told apart
abbrev pub kind_number : Kind → ℕ
kind_number kind.Char = 0
kind_number kind.UChar = 1
kind_number kind.Short = 2
kind_number kind.UShort = 3
kind_number kind.Int = 4
kind_number kind.UInt = 5
kind_number kind.Long = 6
kind_number kind.ULong = 7
kind_number kind.Bool = 8

-- are two forms one?
abbrev pub same_form : Form → Form → Bool
same_form form.Include form.Include = true
same_form (form.Key a) (form.Key b) = nat_eq (key_number a) (key_number b)
same_form (form.Name a) (form.Name b) = bytes_eq a b
same_form (form.Number v j) (form.Number w k) = nat_eq v w && nat_eq (kind_number j) (kind_number k)
same_form (form.Mark a) (form.Mark b) = nat_eq (mark_number a) (mark_number b)
same_form _ _ = false

-- are two bodies one?
abbrev pub same_forms : List Form → List Form → Bool
same_forms [] [] = true
same_forms (a ∷ fs) (b ∷ gs) = same_form a b && same_forms fs gs
same_forms _ _ = false
