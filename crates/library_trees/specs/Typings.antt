-- The tokens of the library's functions that print numbers spell items, and these are typed as `library_laws` has them.
use Rattle.std.specs.Prelude.{◌≡◌, ℕ, true, false, List, [], ◌∷◌, ◌++◌, map, Some, None, codes}
use Rattle.c_tree.specs.declared.token.Form.{Form}
use Rattle.c_tree.specs.Limits.{most_nesting}
use Rattle.c_tree.specs.declared.token.Kind.TheVariants.{Int, Long, ULong}
use Rattle.c_tree.specs.declared.tree.Top.{Top}
use Rattle.c_tree.specs.declared.typed.Callee.TheVariants as callee
use Rattle.c_tree.specs.declared.typed.Slot.{Slot}
use Rattle.c_tree.specs.declared.typed.Slot.TheVariants as slot
use Rattle.c_tree.specs.declared.typed.TypedFunc.{TypedFunc}
use Rattle.c_tree.specs.declared.typed.TypedGlobal.{TypedGlobal}
use Rattle.c_grammar.specs.Tokens.{Tokens, token, within}
use Rattle.c_grammar.specs.Units.{Units, item}
use Rattle.c_type_expr.specs.declared.meaning.Meaning.TheVariants as meaning
use Rattle.c_type_expr.specs.Scope.{Frame, look_up, bound}
use Rattle.c_type_expr.specs.declared.meaning.Binding.{Binding}
use Rattle.c_type.specs.declared.file_scope.FileScope.{FileScope}
use Rattle.c_type.specs.FileScopes.{putchar_name, put_char}
use Rattle.c_type.specs.States.{is_end}
use Rattle.c_type_rules.specs.Definitions.{CallsIn}
use Rattle.c_type_rules.specs.Units.{Item}
use Rattle.library_trees.specs.Tokens.{unsigned_tokens, signed_tokens, hexadecimal_tokens, digits_tokens, fill_tokens}
use Rattle.library_trees.specs.Tokens.{size_tokens}
use Rattle.library_laws.specs.Printers.{unsigned_printer, signed_printer, hexadecimal_printer}
use Rattle.library_laws.specs.FieldPrinters.{digits_printer, fill_printer, size_counter}

-- a text by its bytes
abbrev pub Bytes : Type 0
Bytes = List ℕ

-- the file scope of these names and functions
abbrev pub file : Frame → List TypedGlobal → ℕ → List TypedFunc → FileScope
file names globals bytes functions =
    record { names = names ∷ []; globals = globals; bytes = bytes; functions = functions }

-- what a name of these that means nothing yet means behind the definition
abbrev pub defined : Bytes → List Slot → ℕ → Frame → Frame
defined w slots f names = bound w (meaning.Function (Some Int) slots (Some (callee.Func f)) true) ∷ names

-- none of these names stands for `EOF`
abbrev pub AreFree : Frame → List Bytes → Type 0
AreFree names [] = Unit {0}
AreFree names (w ∷ ws) = (is_end (look_up (names ∷ []) w) ≡ false) × AreFree names ws

-- each of these names has its meaning
abbrev pub Mean : Frame → List Binding → Type 0
Mean names [] = Unit {0}
Mean names (b ∷ bs) = (look_up (names ∷ []) b.name ≡ Some b.meaning) × Mean names bs

-- `putchar` is that of the include
abbrev pub with_putchar : Binding
with_putchar = bound putchar_name put_char

-- these tokens, all at the place l, are the definition of w, of these parameters, as function f of its program: the
-- typed function F
pub record IsTyped (forms : List Form) (w : Bytes) (slots : List Slot) (needed : List Binding) (locals : List Bytes)
    (l f : ℕ) (F : TypedFunc) : Type 0 where
  pub item_of : Top
  -- whatever stands behind it
  pub spelled : (t : Tokens) → Units (within most_nesting) (item (item_of ∷ [])) (map (token l) forms ++ t) t
  -- in a unit that has it as its definition number f, where its name is new, what it needs is there, and no name of
  -- a parameter or a local is `EOF`
  pub typed : (unit : List Top) (names : Frame) (globals : List TypedGlobal) (bytes : ℕ) (functions : List TypedFunc)
      → CallsIn unit w (Some (callee.Func f)) → look_up (names ∷ []) w ≡ None → Mean names needed
      → AreFree names locals
      → Item unit (file names globals bytes functions) item_of.node
      (file (defined w slots f names) globals bytes (functions ++ F ∷ []))

-- a parameter of type int
abbrev pub int : Slot
int = slot.Scalar Int

-- `print.u` as function f
abbrev pub with_unsigned : ℕ → Binding
with_unsigned f =
    bound (codes "print.u") (meaning.Function (Some Int) (slot.Scalar ULong ∷ []) (Some (callee.Func f)) true)

-- `print.u`
abbrev pub UnsignedIsTyped : Type 0
UnsignedIsTyped =
    (l f : ℕ) → IsTyped unsigned_tokens (codes "print.u") (slot.Scalar ULong ∷ []) (with_putchar ∷ [])
    (codes "n" ∷ codes "k" ∷ []) l f (unsigned_printer (λ j. l) f)

-- `print.d`, where `print.u` is function f
abbrev pub SignedIsTyped : Type 0
SignedIsTyped =
    (l f g : ℕ) → IsTyped signed_tokens (codes "print.d") (slot.Scalar Long ∷ []) (with_putchar ∷ with_unsigned f ∷ [])
    (codes "n" ∷ []) l g (signed_printer (λ j. l) f)

-- `print.x`
abbrev pub HexadecimalIsTyped : Type 0
HexadecimalIsTyped =
    (l f : ℕ) → IsTyped hexadecimal_tokens (codes "print.x") (slot.Scalar ULong ∷ []) (with_putchar ∷ [])
    (codes "n" ∷ codes "k" ∷ codes "d" ∷ []) l f (hexadecimal_printer (λ j. l) f)

-- `print.digits`
abbrev pub DigitsIsTyped : Type 0
DigitsIsTyped =
    (l f : ℕ) → IsTyped digits_tokens (codes "print.digits") (slot.Scalar ULong ∷ int ∷ int ∷ []) (with_putchar ∷ [])
    (codes "n" ∷ codes "base" ∷ codes "letters" ∷ codes "k" ∷ codes "d" ∷ []) l f (digits_printer (λ j. l) f)

-- `print.fill`
abbrev pub FillIsTyped : Type 0
FillIsTyped =
    (l f : ℕ) → IsTyped fill_tokens (codes "print.fill") (int ∷ int ∷ []) (with_putchar ∷ [])
    (codes "c" ∷ codes "count" ∷ codes "k" ∷ []) l f (fill_printer (λ j. l))

-- `print.size`
abbrev pub SizeIsTyped : Type 0
SizeIsTyped =
    (l f : ℕ) → IsTyped size_tokens (codes "print.size") (slot.Scalar ULong ∷ int ∷ []) []
    (codes "n" ∷ codes "base" ∷ codes "k" ∷ []) l f (size_counter (λ j. l))
