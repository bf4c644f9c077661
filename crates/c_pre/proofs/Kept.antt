-- What holds of each raw token and of each constant of a header holds of each token of the program; and these are
-- as few as there may be.
use Rattle.std.proofs.Common.{◌≡◌, ◌≤◌, ◌<◌, ℕ, zero, suc, ◌+◌, Bool, true, false, cond, List, [], ◌∷◌, ◌++◌, map}
use Rattle.std.proofs.Common.{length, refl, arith, length-append}
use Rattle.std.specs.Prelude.{nat_lt, Option, Some, None, Result, Ok, Err}
use Rattle.std.specs.Str.{bytes_eq}
use Rattle.std.proofs.lemmas.Bool.Decides.{nat_tests}
use Rattle.c_tree.specs.declared.Form.{Form}
use Rattle.c_tree.specs.declared.Lexeme.{Lexeme}
pub use Rattle.c_library.proofs.Holds.{Fact, EachForm, EachToken, Allows, is_wide}
use Rattle.c_pre.specs.declared.fault.PreFault.{PreFault}
use Rattle.c_pre.specs.declared.fault.PreFault.TheVariants as fault
use Rattle.c_pre.specs.declared.macros.Macro.{Macro}
use Rattle.c_pre.specs.declared.output.Output.{Output}
use Rattle.c_pre.specs.Macros.{Name, Turn, name_of, last_body, body_of, is_hidden, live_body, each, turns_by}
use Rattle.c_pre.specs.Macros.{turns_of, turns}
use Rattle.c_pre.specs.Outputs.{◌>>=◌, with_token, taken, all_taken}

-- it holds of a body, if there is one
abbrev pub BodyHas : Fact → Option (List Form) → Type 0
BodyHas P None = Unit {0}
BodyHas P (Some body) = EachForm P body

abbrev pub EachMacro : Fact → List Macro → Type 0
EachMacro P [] = Unit {0}
EachMacro P (m ∷ ms) = BodyHas P m.body × EachMacro P ms

abbrev TurnHas : Fact → Turn → Type 0
TurnHas P None = Unit {0}
TurnHas P (Some f) = P f

abbrev EachTurn : Fact → List Turn → Type 0
EachTurn P [] = Unit {0}
EachTurn P (t ∷ ts) = TurnHas P t × EachTurn P ts

-- what an answer gives has a property
abbrev pub OkHas : {A : Type 0} → (A → Type 0) → Result A PreFault → Type 0
OkHas Q (Ok x) = Q x
OkHas Q (Err e) = Unit {0}

-- one step after another
pub bound : {A B : Type 0} (Q : A → Type 0) (R : B → Type 0) (m : Result A PreFault) (f : A → Result B PreFault)
    → OkHas Q m → ((x : A) → Q x → OkHas R (f x)) → OkHas R (m >>= f)
bound Q R (Ok x) f h g = g x h
bound Q R (Err e) f h g = tt

-- TOKENS

pub token_end : (P : Fact) (ts : List Lexeme) (t : Lexeme) → EachToken P ts → P t.form → EachToken P (ts ++ t ∷ [])
token_end P [] t h p = (p, tt)
token_end P (u ∷ us) t h p = (h.0, token_end P us t h.1 p)

-- MACROS

pub macro_end : (P : Fact) (ms : List Macro) (m : Macro) → EachMacro P ms → BodyHas P m.body
    → EachMacro P (ms ++ m ∷ [])
macro_end P [] m h p = (p, tt)
macro_end P (n ∷ ns) m h p = (h.0, macro_end P ns m h.1 p)

pub forms_have : (P : Fact) (ts : List Lexeme) → EachToken P ts → EachForm P (map (λ (t : Lexeme). t.form) ts)
forms_have P [] h = tt
forms_have P (t ∷ ts) h = (h.0, forms_have P ts h.1)

turns_append : (P : Fact) (xs ys : List Turn) → EachTurn P xs → EachTurn P ys → EachTurn P (xs ++ ys)
turns_append P [] ys h k = k
turns_append P (x ∷ xs) ys h k = (h.0, turns_append P xs ys h.1 k)

each_has : (P : Fact) (f : Form → List Turn) (xs : List Form) → ((x : Form) → P x → EachTurn P (f x))
    → EachForm P xs → EachTurn P (each f xs)
each_has P f [] g h = tt
each_has P f (x ∷ xs) g h = turns_append P (f x) (each f xs) (g x h.0) (each_has P f xs g h.1)

one_of : (P : Fact) (b : Bool) (x y : Option (List Form)) → BodyHas P x → BodyHas P y → BodyHas P (cond b x y)
one_of P true x y h k = h
one_of P false x y h k = k

last_has : (P : Fact) (w : Name) (ms : List Macro) (b : Option (List Form)) → EachMacro P ms → BodyHas P b
    → BodyHas P (last_body w ms b)
last_has P w [] b h k = k
last_has P w (m ∷ ms) b h k =
    last_has P w ms (cond (bytes_eq m.name w) m.body b) h.1 (one_of P (bytes_eq m.name w) m.body b h.0 k)

-- the body of a macro
pub body_has : (P : Fact) (w : Name) (ms : List Macro) → EachMacro P ms → BodyHas P (body_of w ms)
body_has P w ms h = last_has P w ms None h tt

live_has : (P : Fact) (ms : List Macro) (hs : List Name) (w : Name) → EachMacro P ms → BodyHas P (live_body ms hs w)
live_has P ms hs w h = one_of P (is_hidden w hs) None (body_of w ms) tt (body_has P w ms h)

by_body : (P : Fact) (rec : List Name → Form → List Turn) (hs : List Name) (f : Form) (w : Name)
    (b : Option (List Form)) → P f → BodyHas P b → ((hs : List Name) (x : Form) → P x → EachTurn P (rec hs x))
    → EachTurn P (turns_by rec hs f w b)
by_body P rec hs f w None p h g = (p, tt)
by_body P rec hs f w (Some body) p h g = (tt, each_has P (rec (hs ++ w ∷ [])) body (g (hs ++ w ∷ [])) h)

by_name : (P : Fact) (rec : List Name → Form → List Turn) (ms : List Macro) (hs : List Name) (f : Form)
    (o : Option Name) → P f → EachMacro P ms → ((hs : List Name) (x : Form) → P x → EachTurn P (rec hs x))
    → EachTurn P (turns_of rec ms hs f o)
by_name P rec ms hs f None p h g = (p, tt)
by_name P rec ms hs f (Some w) p h g = by_body P rec hs f w (live_body ms hs w) p (live_has P ms hs w h) g

turns_have : (P : Fact) (n : ℕ) (ms : List Macro) (hs : List Name) (f : Form) → P f → EachMacro P ms
    → EachTurn P (turns n ms hs f)
turns_have P zero ms hs f p h = (p, tt)
turns_have P (suc n) ms hs f p h =
    by_name P (λ hs f. turns n ms hs f) ms hs f (name_of f) p h (λ hs x q. turns_have P n ms hs x q h)

-- OUTPUT

-- the tokens so far, and how many there are
pub record Out (P : Fact) (most : ℕ) (o : Output) : Type 0 where
  pub forms : EachToken P o.tokens
  pub many : length o.tokens ≤ o.count
  pub few : o.count ≤ most

is_less : (n m : ℕ) → nat_lt n m ≡ true → n < m
is_less n m e = grind (arith, nat_tests)

one_longer : (ts : List Lexeme) (t : Lexeme) (n : ℕ) → length ts ≤ n → length (ts ++ t ∷ []) ≤ n + 1
one_longer ts t n h = omega (arith, length-append ts (t ∷ []))

name_counted : (P : Fact) (most at : ℕ) (o : Output) (b : Bool) → nat_lt o.count most ≡ b → Out P most o
    → OkHas (Out P most) (cond b (Ok (record o { count = o.count + 1 })) (Err (fault.TooManyTokens at)))
name_counted P most at o true e h =
    let less : o.count < most = is_less o.count most e in
    let many : length o.tokens ≤ o.count = h.many in
    record { forms = h.forms; many = omega arith; few = omega arith }
name_counted P most at o false e h = tt

token_counted : (P : Fact) (most at : ℕ) (f : Form) (o : Output) (b : Bool) → nat_lt o.count most ≡ b
    → Out P most o → P f
    → OkHas (Out P most) ((cond b (Ok (record o { count = o.count + 1 })) (Err (fault.TooManyTokens at)))
    >>= λ (o : Output). Ok (with_token at f o))
token_counted P most at f o true e h p =
    let less : o.count < most = is_less o.count most e in
    let t : Lexeme = record { offset = at; form = f } in
    record {
      forms = token_end P o.tokens t h.forms p;
      many = one_longer o.tokens t o.count h.many;
      few = omega arith;
    }
token_counted P most at f o false e h p = tt

taken_has : (P : Fact) (most at : ℕ) (t : Turn) (o : Output) → Out P most o → TurnHas P t
    → OkHas (Out P most) (taken most at t o)
taken_has P most at None o h p = name_counted P most at o (nat_lt o.count most) refl h
taken_has P most at (Some f) o h p = token_counted P most at f o (nat_lt o.count most) refl h p

all_have : (P : Fact) (most at : ℕ) (ts : List Turn) (o : Output) → Out P most o → EachTurn P ts
    → OkHas (Out P most) (all_taken most at ts o)
all_have P most at [] o h p = h
all_have P most at (t ∷ ts) o h p =
    bound (Out P most) (Out P most) (taken most at t o) (all_taken most at ts) (taken_has P most at t o h p.0)
    (λ x q. all_have P most at ts x q p.1)

-- a token that stays
pub token_has : (P : Fact) (most at : ℕ) (f : Form) (o : Output) → Out P most o → P f
    → OkHas (Out P most) (taken most at (Some f) o)
token_has P most at f o h p = token_counted P most at f o (nat_lt o.count most) refl h p

-- what a form comes to
pub form_has : (P : Fact) (most at n : ℕ) (ms : List Macro) (f : Form) (o : Output) → P f → EachMacro P ms
    → Out P most o → OkHas (Out P most) (all_taken most at (turns n ms [] f) o)
form_has P most at n ms f o p h k = all_have P most at (turns n ms [] f) o k (turns_have P n ms [] f p h)
