-- The operator that binds lowest stands among the tokens.
use Rattle.std.proofs.Common.{◌≡◌, ◌≤◌, ◌<◌, ◌+◌, ℕ, Bool, true, false, cond, [], ◌∷◌, length, refl, sym, subst, arith}
use Rattle.std.specs.Prelude.{nat_eq, ◌&&◌, Some, None, IfSome}
use Rattle.c_tree.specs.declared.Form.{Form}
use Rattle.c_tree.specs.declared.Form.TheVariants as form
use Rattle.c_lex.specs.Lexes.{Tokens}
use Rattle.c_sizes.specs.declared.behind.Behind.{Behind}
use Rattle.c_sizes.specs.Behinds.{start, past, is_operand}
use Rattle.c_sizes.specs.Counts.{depth_past}
use Rattle.c_sizes.specs.Operators.{Found, is_lower, lower, lowest_from, lowest}

-- fewer tokens than this stand before it, if there is one
abbrev Within : ℕ → Found → Type 0
Within most l = IfSome l (λ p. p.1 < most)

-- one of both
one : (most : ℕ) (b : Bool) (x y : Found) → Within most x → Within most y → Within most (cond b x y)
one most true x y h k = h
one most false x y h k = k

lower_within : (most n d : ℕ) (b : Behind) (f : Form) (l : Found) → n < most → Within most l
    → Within most (lower n d b f l)
lower_within most n d b (form.Mark m) l few h =
    one most (nat_eq d 0 && (is_operand b && is_lower m l)) (Some (m, n)) l few h
lower_within most n d b _ l few h = h

from_within : (most n d : ℕ) (b : Behind) (l : Found) (ts : Tokens) → n + length ts ≤ most → Within most l
    → Within most (lowest_from n d b l ts)
from_within most n d b l [] few h = h
from_within most n d b l (t ∷ ts) few h =
    from_within most (n + 1) (depth_past d t.form) (past b t.form) (lower n d b t.form l) ts (omega arith)
    (lower_within most n d b t.form l (omega arith) h)

-- the one that is found
found_within : (ts : Tokens) (o : Found) → o ≡ lowest ts → Within (length ts) o
found_within ts o e =
    subst (λ (x : Found). Within (length ts) x) (sym e) (from_within (length ts) 0 0 start None ts (omega arith) tt)

-- so the one that is left where no token is
pub end_within : (ts us : Tokens) (n d : ℕ) (b : Behind) (l : Found) → lowest ts ≡ lowest_from n d b l us
    → length us < 1 → Within (length ts) l
end_within ts [] n d b l e h = found_within ts l (sym e)
end_within ts (t ∷ us) n d b l e h = absurd (omega arith)
