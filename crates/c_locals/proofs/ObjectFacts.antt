-- What is known of units whose blocks have objects that the grammar knows.
use Rattle.std.proofs.Common.{◌≡◌, ◌≤◌, length, ℕ, Bool, true, false, [], ◌∷◌, refl, ap, ap₂, ◌∙◌}
use Rattle.std.specs.Prelude.{Ok, not, ◌&&◌, ◌||◌}
use Rattle.c_lex.specs.Lexes.{Tokens}
use Rattle.c_library.specs.Within.{within}
use Rattle.c_locals.proofs.PutBehind.{few_stay}
use Rattle.c_library.proofs.Holds.{Fact, EachToken, Allows}
use Rattle.c_library.proofs.LiteralForms.{both_hold}
use Rattle.c_locals.specs.Values.{sets_list, with_values, no_values_from}
use Rattle.c_locals.specs.Walks.{blocks_past}
use Rattle.c_locals.specs.Statics.{with_statics}
use Rattle.c_locals.specs.Stages.{is_static}
use Rattle.c_locals.specs.Objects.{with_objects, no_objects_from, has_no_objects}
use Rattle.c_locals.proofs.StaticFacts.{AllPlain, statics_stay}
use Rattle.c_locals.proofs.ValueFacts.{values_stay}
use Rattle.c_locals.proofs.KeptStatics.{statics_keep}
use Rattle.c_locals.proofs.KeptValues.{values_keep}

neither : (a b : Bool) → not (a || b) ≡ true → (a ≡ false) × (b ≡ false)
neither true b e = absurd (cc)
neither false true e = absurd (cc)
neither false false e = (refl, refl)

no_static : (n : ℕ) (ts : Tokens) → no_objects_from n ts ≡ true → AllPlain ts
no_static n [] e = tt
no_static n (t ∷ ts) e =
    let both = both_hold (not (is_static t.form || sets_list n t ts)) (no_objects_from (blocks_past n t.form) ts) e in
    ((neither (is_static t.form) (sets_list n t ts) both.0).0, no_static (blocks_past n t.form) ts both.1)

no_values : (n : ℕ) (ts : Tokens) → no_objects_from n ts ≡ true → no_values_from n ts ≡ true
no_values n [] e = refl
no_values n (t ∷ ts) e =
    let both = both_hold (not (is_static t.form || sets_list n t ts)) (no_objects_from (blocks_past n t.form) ts) e in
    ap₂ (λ (x y : Bool). not x && y) (neither (is_static t.form) (sets_list n t ts) both.0).1
    (no_values (blocks_past n t.form) ts both.1)

-- a unit that has neither static objects nor local arrays with values is its own
pub objects_stay : (ts : Tokens) → has_no_objects ts ≡ true → with_objects ts ≡ ts
objects_stay ts e = ap with_values (statics_stay ts (no_static 0 ts e)) ∙ values_stay ts (no_values 0 ts e)

-- what holds of all tokens and of all that may be added holds of each that comes out
pub objects_keep : (P : Fact) (ts : Tokens) → Allows P → EachToken P ts → EachToken P (with_objects ts)
objects_keep P ts a h = values_keep P (with_statics ts) a (statics_keep P ts a h)

-- a unit that has neither is its own, if it is small enough
pub objects_within : (most : ℕ) (ts : Tokens) → has_no_objects ts ≡ true → length ts ≤ most
    → within most (with_objects ts) ≡ Ok ts
objects_within most ts e h = ap (within most) (objects_stay ts e) ∙ few_stay most ts h
