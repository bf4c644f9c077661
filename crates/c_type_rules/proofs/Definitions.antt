-- What a call calls is what the table of definitions has.
use Rattle.std.proofs.Common.{◌≡◌, ℕ, Bool, true, false, List, [], ◌∷◌, Option, Some, None, refl, sym, ap, ◌∙◌, subst}
use Rattle.std.specs.Prelude.{◌&&◌, cond, nat_eq}
use Rattle.std.proofs.lemmas.Bool.{false≢true, eqb-true}
use Rattle.std.proofs.Common.{eq-eqb}
use Rattle.c_tree.specs.declared.token.Kind.{Kind}
use Rattle.c_tree.specs.declared.tree.Param.{Param}
use Rattle.c_tree.specs.declared.tree.Stmt.{Stmt}
use Rattle.c_tree.specs.declared.tree.Top.{Top}
use Rattle.c_tree.specs.declared.tree.TopNode.{TopNode}
use Rattle.c_tree.specs.declared.tree.TopNode.TheVariants.{Include, Global, Func}
use Rattle.c_tree.specs.declared.typed.Callee.{Callee}
use Rattle.c_type_expr.specs.declared.meaning.Meaning.{Meaning}
use Rattle.c_type_expr.specs.Scope.{Scope, same_name, look_up, or_else, find, declared_in, bound}
use Rattle.c_type.specs.FileScopes.{getchar_name, putchar_name, exit_name, get_char, put_char, exit_now, count_after}
use Rattle.c_type.specs.Functions.{callee_in}
use Rattle.c_type.specs.Programs.{noted, definitions, table}
use Rattle.c_type_rules.specs.Definitions.{Defines, Calls, CallsIn, function, input, output, exit}
use Rattle.c_type_rules.specs.Definitions.{no_item, defined, defined_later, not_defined}
use Rattle.c_type_rules.proofs.Tests.{both_hold}

-- names that are the same by the test
names_are : (v w : List ℕ) → same_name v w ≡ true → v ≡ w
names_are [] [] h = refl
names_are [] (y ∷ w) h = absurd (false≢true h)
names_are (x ∷ v) [] h = absurd (false≢true h)
names_are (x ∷ v) (y ∷ w) h =
    let q = both_hold (nat_eq x y) (same_name v w) h in
    ap (λ x. x ∷ v) (eqb-true x y q.0) ∙ ap (λ v. y ∷ v) (names_are v w q.1)

name_itself : (w : List ℕ) → same_name w w ≡ true
name_itself [] = refl
name_itself (x ∷ w) = ap (λ b. b && same_name w w) (eq-eqb x x refl) ∙ name_itself w

-- a name that was declared last is found
declared_there : (v w : List ℕ) (m : Meaning) (T : Scope) → same_name v w ≡ true
    → look_up (declared_in (bound v m) T) w ≡ Some m
declared_there v w m [] h = ap (λ b. or_else (cond b (Some m) None) None) h
declared_there v w m (f ∷ T) h = ap (λ b. or_else (cond b (Some m) (find f w)) (look_up T w)) h

-- another one is passed by
passed_by : (v w : List ℕ) (m : Meaning) (T : Scope) → same_name v w ≡ false
    → look_up (declared_in (bound v m) T) w ≡ look_up T w
passed_by v w m [] h = ap (λ b. or_else (cond b (Some m) None) None) h
passed_by v w m (f ∷ T) h = ap (λ b. or_else (cond b (Some m) (find f w)) (look_up T w)) h

-- the names with those of `getchar` and `putchar`
abbrev after_writing : Scope → Scope
after_writing T = declared_in (bound putchar_name put_char) (declared_in (bound getchar_name get_char) T)

-- what an item defines is noted
noted_as : (n : ℕ) (x : TopNode) (w : List ℕ) (c : Callee) (T : Scope) → Defines n x w c
    → callee_in (look_up (noted x n T) w) ≡ Some c
noted_as n _ _ _ T (function {w = w}) = ap callee_in (declared_there w w _ T (name_itself w))
noted_as n _ _ _ T exit = ap callee_in (declared_there exit_name exit_name exit_now _ refl)
noted_as n _ _ _ T output =
    ap callee_in (passed_by exit_name putchar_name exit_now (after_writing T) refl
    ∙ declared_there putchar_name putchar_name put_char _ refl)
noted_as n _ _ _ T input =
    ap callee_in (passed_by exit_name getchar_name exit_now (after_writing T) refl
    ∙ passed_by putchar_name getchar_name put_char (declared_in (bound getchar_name get_char) T) refl
    ∙ declared_there getchar_name getchar_name get_char T refl)

-- a name of no function of the include
neither : (n : ℕ) (w : List ℕ) (c : Callee) → same_name getchar_name w ≡ false → same_name putchar_name w ≡ false
    → same_name exit_name w ≡ false → Defines n Include w c → ⊥
neither n _ _ g p x input = false≢true (sym g)
neither n _ _ g p x output = false≢true (sym p)
neither n _ _ g p x exit = false≢true (sym x)

-- a name of another function
another : (n : ℕ) (v w : List ℕ) (given : Option Kind) (params : List Param) (body : Stmt) (c : Callee)
    → same_name v w ≡ false → Defines n (Func given v params (Some body)) w c → ⊥
another n v _ given params body _ h function = false≢true (sym h ∙ name_itself v)

-- the item defines the name, or keeps what is noted of it
data Notes (n : ℕ) (x : TopNode) (w : List ℕ) : Type 0 where
  notes : (c : Callee) → Defines n x w c → Notes n x w
  keeps : ((c : Callee) → Defines n x w c → ⊥)
      → ((T : Scope) → look_up (noted x n T) w ≡ look_up T w) → Notes n x w

no_global : (n : ℕ) (x : TopNode) (w : List ℕ) → ((c : Callee) → Defines n x w c → ⊥)
    → ((T : Scope) → noted x n T ≡ T) → Notes n x w
no_global n x w d e = keeps d (λ T. ap (λ T. look_up T w) (e T))

by_include : (n : ℕ) (w : List ℕ) (g p x : Bool) → same_name getchar_name w ≡ g → same_name putchar_name w ≡ p
    → same_name exit_name w ≡ x → Notes n Include w
by_include n w true p x h i j = subst (Notes n Include) (names_are _ w h) (notes _ input)
by_include n w false true x h i j = subst (Notes n Include) (names_are _ w i) (notes _ output)
by_include n w false false true h i j = subst (Notes n Include) (names_are _ w j) (notes _ exit)
by_include n w false false false h i j =
    keeps (λ c. neither n w c h i j)
    (λ T. passed_by exit_name w exit_now (after_writing T) j
    ∙ passed_by putchar_name w put_char (declared_in (bound getchar_name get_char) T) i
    ∙ passed_by getchar_name w get_char T h)

by_function : (n : ℕ) (v w : List ℕ) (given : Option Kind) (params : List Param) (body : Stmt) (b : Bool)
    → same_name v w ≡ b → Notes n (Func given v params (Some body)) w
by_function n v w given params body true h =
    subst (Notes n (Func given v params (Some body))) (names_are v w h) (notes _ function)
by_function n v w given params body false h =
    keeps (λ c. another n v w given params body c h) (λ T. passed_by v w _ T h)

no_object : (n : ℕ) (k : Kind) (v : List ℕ) (s : _) (i : _) (w : List ℕ) (c : Callee)
    → Defines n (Global k v s i) w c → ⊥
no_object n k v s i w c d = elim d [ ]

no_body : (n : ℕ) (given : Option Kind) (v : List ℕ) (params : List Param) (w : List ℕ) (c : Callee)
    → Defines n (Func given v params None) w c → ⊥
no_body n given v params w c d = elim d [ ]

-- an item defines a name or not
which : (n : ℕ) (x : TopNode) (w : List ℕ) → Notes n x w
which n Include w =
    by_include n w (same_name getchar_name w) (same_name putchar_name w) (same_name exit_name w) refl refl refl
which n (Global k v s i) w = keeps (no_object n k v s i w) (λ T. refl)
which n (Func given v params None) w = keeps (no_body n given v params w) (λ T. refl)
which n (Func given v params (Some body)) w = by_function n v w given params body (same_name v w) refl

-- the first of two callees
over : Option Callee → Option Callee → Option Callee
over (Some c) d = Some c
over None d = d

-- what items call is what the table has after them
calls_table : (w : List ℕ) (n : ℕ) (ts : List Top) (o : Option Callee) (T : Scope) → Calls w n ts o
    → callee_in (look_up (definitions ts n T) w) ≡ over o (callee_in (look_up T w))
unfolding over
calls_table w _ _ _ T no_item = refl
calls_table w _ _ _ T (defined {n = n} {t = t} {ts = ts} {c = c} d k) =
    calls_table w (count_after t.node n) ts None (noted t.node n T) k ∙ noted_as n t.node w c T d
calls_table w _ _ _ T (defined_later {n = n} {t = t} {ts = ts} {c = c} k) =
    calls_table w (count_after t.node n) ts (Some c) (noted t.node n T) k
calls_table w _ _ _ T (not_defined {n = n} {t = t} {ts = ts} no_def k) =
    calls_table w (count_after t.node n) ts None (noted t.node n T) k ∙ kept (which n t.node w)
  where
    kept : Notes n t.node w → callee_in (look_up (noted t.node n T) w) ≡ callee_in (look_up T w)
    kept (notes c d) = absurd (no_def c d)
    kept (keeps d e) = ap callee_in (e T)

-- items call one callee or none
record Found (w : List ℕ) (n : ℕ) (ts : List Top) : Type 0 where
  called : Option Callee
  calls : Calls w n ts called

behind : (w : List ℕ) (n : ℕ) (t : Top) (ts : List Top) → Found w (count_after t.node n) ts → Notes n t.node w
    → Found w n (t ∷ ts)
behind w n t ts f d = by f.called f.calls d
  where
    by : (o : Option Callee) → Calls w (count_after t.node n) ts o → Notes n t.node w → Found w n (t ∷ ts)
    by (Some c) k d = record { called = Some c; calls = defined_later k }
    by None k (notes c d) = record { called = Some c; calls = defined d k }
    by None k (keeps d e) = record { called = None; calls = not_defined d k }

find_calls : (w : List ℕ) (n : ℕ) (ts : List Top) → Found w n ts
find_calls w n [] = record { called = None; calls = no_item }
find_calls w n (t ∷ ts) = behind w n t ts (find_calls w (count_after t.node n) ts) (which n t.node w)

over_none : (o : Option Callee) → over o None ≡ o
unfolding over
over_none None = refl
over_none (Some c) = refl

-- what a call calls in a unit is what the unit's table has
pub calls_is : (unit : List Top) (w : List ℕ) (c : Option Callee) → CallsIn unit w c
    → c ≡ callee_in (look_up (table unit) w)
calls_is unit w c k = sym (calls_table w 0 unit c ([] ∷ []) k ∙ over_none c)

-- and what the table has is called
pub called : (unit : List Top) (w : List ℕ) → CallsIn unit w (callee_in (look_up (table unit) w))
called unit w =
    let f = find_calls w 0 unit in subst (λ c. CallsIn unit w c) (calls_is unit w f.called f.calls) f.calls
