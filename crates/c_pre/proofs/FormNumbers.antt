-- Keywords and types are known by their numbers.
use Rattle.std.proofs.Common.{◌≡◌, ◌↔◌, ℕ, Bool, true, false, nat_eq, get_or, List, [], ◌∷◌, refl, sym, ap, ◌∙◌}
use Rattle.std.specs.Prelude.{IsTrue}
use Rattle.c_tree.specs.declared.Key.{Key}
use Rattle.c_tree.specs.declared.Key.TheVariants as key
use Rattle.c_tree.specs.declared.Kind.{Kind}
use Rattle.c_tree.specs.declared.Kind.TheVariants as kind
use Rattle.c_pre.specs.Forms.{key_number, kind_number}

-- the keywords by their numbers
abbrev keys : List Key
keys =
    key.Auto ∷ key.Break ∷ key.Case ∷ key.Char ∷ key.Const ∷ key.Continue ∷ key.Default ∷ key.Do
    ∷ key.Double ∷ key.Else ∷ key.Enum ∷ key.Extern ∷ key.Float ∷ key.For ∷ key.Goto ∷ key.If
    ∷ key.Inline ∷ key.Int ∷ key.Long ∷ key.Register ∷ key.Restrict ∷ key.Return ∷ key.Short ∷ key.Signed
    ∷ key.Sizeof ∷ key.Static ∷ key.Struct ∷ key.Switch ∷ key.Typedef ∷ key.Union ∷ key.Unsigned ∷ key.Void
    ∷ key.Volatile ∷ key.While ∷ key.Alignas ∷ key.Alignof ∷ key.Atomic ∷ key.Bool ∷ key.Complex ∷ key.Generic
    ∷ key.Imaginary ∷ key.Noreturn ∷ key.StaticAssert ∷ key.ThreadLocal ∷ []

key_at : (k : Key) → get_or keys (key_number k) key.Auto ≡ k
key_at key.Auto = refl
key_at _ = refl

-- keywords of one number are one
pub same_key : (a b : Key) → key_number a ≡ key_number b → a ≡ b
same_key a b e = sym (key_at a) ∙ ap (λ (n : ℕ). get_or keys n key.Auto) e ∙ key_at b

-- the types by their numbers
abbrev kinds : List Kind
kinds = kind.Char ∷ kind.UChar ∷ kind.Short ∷ kind.UShort ∷ kind.Int ∷ kind.UInt ∷ kind.Long ∷ kind.ULong
    ∷ kind.Bool ∷ []

kind_at : (k : Kind) → get_or kinds (kind_number k) kind.Char ≡ k
kind_at kind.Char = refl
kind_at _ = refl

-- types of one number are one
pub same_kind : (a b : Kind) → kind_number a ≡ kind_number b → a ≡ b
same_kind a b e = sym (kind_at a) ∙ ap (λ (n : ℕ). get_or kinds n kind.Char) e ∙ kind_at b
