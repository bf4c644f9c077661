-- A mark or a keyword is known by its number.
use Rattle.std.proofs.Common.{◌≡◌, ℕ, zero, suc, true, List, [], ◌∷◌, refl, sym, ap, ◌∙◌}
use Rattle.std.proofs.lemmas.Bool.{eqb-true, false≢true, eq-eqb}
use Rattle.c_tree.specs.declared.token.Form.{Form}
use Rattle.c_tree.specs.declared.token.Form.TheVariants as form
use Rattle.c_tree.specs.declared.token.Mark.{Mark}
use Rattle.c_tree.specs.declared.token.Key.{Key}
use Rattle.c_tree.specs.declared.token.Key.TheVariants as key
use Rattle.c_tree.specs.Marks.{mark_number}
use Rattle.c_tree.proofs.MarkLemmas.{same_mark}
use Rattle.c_grammar.specs.inside.Numbers.{key_number, is_mark, is_key}

abbrev pick : {A : Type 0} → A → List A → ℕ → A
pick x [] n = x
pick x (a ∷ as') zero = a
pick x (a ∷ as') (suc n) = pick x as' n

abbrev keys : List Key
keys =
    key.Auto ∷ key.Break ∷ key.Case ∷ key.Char ∷ key.Const ∷ key.Continue ∷ key.Default ∷ key.Do ∷
    key.Double ∷ key.Else ∷ key.Enum ∷ key.Extern ∷ key.Float ∷ key.For ∷ key.Goto ∷ key.If ∷
    key.Inline ∷ key.Int ∷ key.Long ∷ key.Register ∷ key.Restrict ∷ key.Return ∷ key.Short ∷
    key.Signed ∷ key.Sizeof ∷ key.Static ∷ key.Struct ∷ key.Switch ∷ key.Typedef ∷ key.Union ∷
    key.Unsigned ∷ key.Void ∷ key.Volatile ∷ key.While ∷ key.Alignas ∷ key.Alignof ∷ key.Atomic ∷
    key.Bool ∷ key.Complex ∷ key.Generic ∷ key.Imaginary ∷ key.Noreturn ∷ key.StaticAssert ∷
    key.ThreadLocal ∷ []

key_at : (k : Key) → pick key.Auto keys (key_number k) ≡ k
key_at key.Auto = refl
key_at _ = refl

same_key : (k m : Key) → key_number k ≡ key_number m → m ≡ k
same_key k m e = sym (key_at m) ∙ ap (pick key.Auto keys) (sym e) ∙ key_at k

-- A form that is found to be a punctuator is that punctuator.
pub mark_is : (k : Mark) (f : Form) → is_mark k f ≡ true → f ≡ form.Mark k
mark_is k (form.Mark m) e = ap (λ (m : Mark). form.Mark m)
    (same_mark k m (eqb-true (mark_number k) (mark_number m) e))
mark_is k _ e = absurd (false≢true e)

-- A form that is found to be a keyword is that keyword.
pub key_is : (k : Key) (f : Form) → is_key k f ≡ true → f ≡ form.Key k
key_is k (form.Key m) e = ap (λ (m : Key). form.Key m)
    (same_key k m (eqb-true (key_number k) (key_number m) e))
key_is k _ e = absurd (false≢true e)

-- A punctuator is found to be itself.
pub mark_self : (k : Mark) → is_mark k (form.Mark k) ≡ true
mark_self k = eq-eqb (mark_number k) (mark_number k) refl

-- a keyword is known as itself
pub key_self : (k : Key) → is_key k (form.Key k) ≡ true
key_self k = eq-eqb (key_number k) (key_number k) refl
