-- A literal's token is known by its values.
use Rattle.std.proofs.Common.{◌≡◌, ℕ, Bool, true, false, cond, nat_eq, List, [], ◌∷◌, Option, Some, None}
use Rattle.std.proofs.Common.{refl, ap, arith}
use Rattle.std.specs.Prelude.{is_none, ◌&&◌}
use Rattle.std.proofs.lemmas.Bool.Decides.{nat_tests}
use Rattle.c_tree.specs.declared.Form.{Form}
use Rattle.c_tree.specs.declared.Form.TheVariants as form
use Rattle.c_tree.specs.declared.Lexeme.{Lexeme}
use Rattle.c_lex.specs.Bytes.{Bytes}
use Rattle.c_lex.specs.Strings.{string_name, string_named, string_of}
use Rattle.c_library.specs.Joined.{literal}

is_quote : (b : ℕ) → nat_eq b 34 ≡ true → b ≡ 34
is_quote b e = grind (arith, nat_tests)

name_by : (b : ℕ) (w v : Bytes) (t : Bool) → nat_eq b 34 ≡ t → cond t (Some w) None ≡ Some v → b ∷ w ≡ string_name v
name_by b w v true e h =
    let quote : b ≡ 34 = is_quote b e in
    let same : w ≡ v = cc in
    cc
name_by b w v false e h = absurd (cc)

name_is : (w v : Bytes) → string_named w ≡ Some v → w ≡ string_name v
name_is [] v e = absurd (cc)
name_is (b ∷ w) v e = name_by b w v (nat_eq b 34) refl e

-- a form with these values is their name
pub form_is : (f : Form) (v : Bytes) → string_of f ≡ Some v → f ≡ form.Name (string_name v)
form_is (form.Name w) v e = ap (λ (n : Bytes). form.Name n) (name_is w v e)
form_is _ v e = absurd (cc)

-- a token with these values is their literal at its place
pub token_is : (t : Lexeme) (v : Bytes) → string_of t.form ≡ Some v → t ≡ literal t.offset v
token_is t v e = ap (λ (f : Form). record t { form = f }) (form_is t.form v e)

-- of two tests that hold both, each does
pub both_hold : (a b : Bool) → (a && b) ≡ true → (a ≡ true) × (b ≡ true)
both_hold true true e = (refl, refl)
both_hold true false e = absurd (cc)
both_hold false true e = absurd (cc)
both_hold false false e = absurd (cc)

-- what is not there is none
pub none_is : (o : Option Bytes) → is_none o ≡ true → o ≡ None
none_is None e = refl
none_is (Some v) e = absurd (cc)
