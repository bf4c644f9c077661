-- Which tokens go on with a phrase of a level, and which operator a token is.
use Rattle.std.proofs.Common.{◌≡◌, ℕ, suc, ◌<◌, ◌≤◌, Bool, true, false, eqb, [], ◌∷◌, Option, Some}
use Rattle.std.proofs.Common.{None, refl, sym, ap, ◌∙◌, subst, arith}
use Rattle.std.proofs.lemmas.Bool.{eqb-true, eq-eqb}
use Rattle.c_tree.specs.declared.token.Form.{Form}
use Rattle.c_tree.specs.declared.token.Form.TheVariants as form
use Rattle.c_tree.specs.declared.token.Mark.{Mark}
use Rattle.c_tree.specs.declared.token.Mark.TheVariants as mark
use Rattle.c_tree.specs.declared.tree.Expr.{Expr}
use Rattle.c_tree.specs.declared.tree.UnaryOp.TheVariants as unary
use Rattle.c_tree.specs.declared.tree.BinaryOp.{BinaryOp}
use Rattle.c_tree.specs.declared.tree.BinaryOp.TheVariants as binary
use Rattle.c_tree.specs.Marks.{operator, Holds}
use Rattle.c_tree.specs.ByMark.{marked_operator, assigned_by}
use Rattle.c_tree.proofs.MarkLemmas.{operator_is, assigned_is, compound_self, held_is}
use Rattle.c_grammar.specs.Tokens.{Tokens, token, punct}
use Rattle.c_grammar.specs.Operators.{Joiner, op, comma, joiner_mark, below, Prefix, sign, increase}
use Rattle.c_grammar.specs.Operators.{decrease, prefix_mark, Suffix, increased, decreased}
use Rattle.c_grammar.specs.Operators.{suffix_mark, Assigner, simple, compound, assigner_mark}
use Rattle.c_grammar.specs.inside.Numbers.{is_mark}
use Rattle.c_grammar.specs.inside.Parsing.{by_option, tail, offset_of, is_next}
use Rattle.c_grammar.specs.inside.ModelOperators.{joiner_of, marked_joiner, if_below, joiner, prefix_of}
use Rattle.c_grammar.specs.inside.ModelOperators.{suffix_of, holding, assigner_with, assigner_of}
use Rattle.c_grammar.specs.inside.ModelOperators.{assigner_for, is_unary, seen}
use Rattle.c_grammar.proofs.Numbers.{mark_is}
use Rattle.c_grammar.proofs.Agree.{split_if, is_false, if_true, Tied, end, at_cut, alike}

-- the level of phrases that an operator goes on with, or that of an assignment
abbrev bind_by : Option BinaryOp → Option (Option BinaryOp) → ℕ
bind_by (Some o) a = suc (below (op o))
bind_by None (Some a) = 15
bind_by None None = 17

-- the level of phrases that a mark goes on with
abbrev bind_mark : Mark → ℕ
bind_mark mark.LeftParen = 0
bind_mark mark.LeftBracket = 0
bind_mark mark.PlusPlus = 1
bind_mark mark.MinusMinus = 1
bind_mark mark.Question = 14
bind_mark mark.Comma = 16
bind_mark m = bind_by (marked_operator m) (assigned_by m)

-- how tightly a form binds: the level that it goes on with, 17 where with none
abbrev pub bind : Form → ℕ
bind (form.Mark m) = bind_mark m
bind _ = 17

-- the first token does not go on with an expression of the level
abbrev pub Stops : ℕ → Tokens → Type 0
Stops n [] = Unit {0}
Stops n (t ∷ ts) = n < bind t.form

-- Tokens that stop a level stop each lower one.
pub lower : (n n' : ℕ) (ts : Tokens) → n ≤ n' → Stops n' ts → Stops n ts
lower n n' [] le s = tt
lower n n' (t ∷ ts) le s = omega (arith, le, s)

gap_mark : (m : Mark) → 2 < bind_mark m → 3 < bind_mark m
gap_mark mark.LeftParen h = omega (arith, h)
gap_mark _ h = omega (arith, h)

gap_form : (f : Form) → 2 < bind f → 3 < bind f
gap_form (form.Mark m) h = gap_mark m h
gap_form _ h = omega arith

-- no token goes on with a cast alone
pub gap : (ts : Tokens) → Stops 2 ts → Stops 3 ts
gap [] s = tt
gap (t ∷ ts) s = gap_form t.form s

-- tied lists of tokens go on with a level alike
pub tied_stops : {cut : Bool} {g g' : Tokens} (n : ℕ) {ts ts' : Tokens} → Tied cut g g' ts ts'
    → Stops n ts' → Stops n ts
tied_stops n (end c) s = s
tied_stops n (at_cut t c) s = s
tied_stops n (alike t x) s = s

-- Tokens that stop a level do not begin with a punctuator that binds at it or below.
pub not_next : (x : Mark) (n : ℕ) (ts : Tokens) → Stops n ts → bind (form.Mark x) ≤ n
    → is_next x ts ≡ false
not_next x n [] s le = refl
not_next x n (t ∷ ts) s le =
    is_false (is_mark x t.form) (λ e. let h = ap bind (mark_is x t.form e) in omega (arith, h, s, le))

-- Tokens stop a level that begin with a punctuator which binds above it.
pub mark_stops : (n : ℕ) (k : Mark) → n < bind (form.Mark k) → (l : ℕ) (v u : Tokens)
    → u ≡ punct l k ∷ v → Stops n u
mark_stops n k lt l v u e = subst (Stops n) (sym e) lt

-- ---- what a token is

-- tied lists of tokens begin alike, whatever is looked for
pub tied_seen : {A : Type 0} {cut : Bool} {g g' : Tokens} (f : Form → Option A) {ts ts' : Tokens}
    → Tied cut g g' ts ts' → seen f ts ≡ seen f ts'
tied_seen f (end c) = refl
tied_seen f (at_cut t c) = refl
tied_seen f (alike t x) = refl

-- where a look at a form knows marks only, tokens of which it sees one begin with its mark
pub seen_is : {A : Type 0} (look : Form → Option A) (k : A → Mark)
    → ((f : Form) (a : A) → look f ≡ Some a → f ≡ form.Mark (k a)) → (ts : Tokens) (a : A)
    → seen look ts ≡ Some a → ts ≡ punct (offset_of ts) (k a) ∷ tail ts
seen_is look k h [] a e = absurd cc
seen_is look k h (t ∷ ts) a e = ap (λ (f : Form). token t.offset f ∷ ts) (h t.form a e)

-- A choice by what is there is its first leg where nothing is.
pub by_none : {A B : Type 0} (o : Option A) (x : B) (f : A → B) → o ≡ None → by_option o x f ≡ x
by_none None x f e = refl
by_none (Some a) x f e = absurd cc

abbrev some_of : {A : Type 0} → A → Option A
some_of x = Some x

some_is : {A : Type 0} (x y : A) → some_of x ≡ some_of y → x ≡ y
some_is x y e = cc

-- A choice by what is there is its second leg, of that, where something is.
pub by_some : {A B : Type 0} (o : Option A) (a : A) (x : B) (f : A → B) → o ≡ Some a
    → by_option o x f ≡ f a
by_some None a x f e = absurd cc
by_some (Some b) a x f e = ap f (some_is b a e)

-- what holds with and without an option that is given holds by the option
pub by_step : {A B : Type 0} (P : B → Type 0) (o : Option A) (x : B) (f : A → B) → (o ≡ None → P x)
    → ((a : A) → o ≡ Some a → P (f a)) → P (by_option o x f)
by_step P None x f p q = p refl
by_step P (Some a) x f p q = q a refl

is_none : {A : Type 0} (o : Option A) → ((x : A) → o ≡ Some x → ⊥) → o ≡ None
is_none None h = refl
is_none (Some x) h = absurd (h x refl)

-- ---- joiners

-- a joiner binds at the level above its operands
pub bind_joiner : (j : Joiner) → bind (form.Mark (joiner_mark j)) ≡ suc (below j)
bind_joiner (op binary.LogicalOr) = refl
bind_joiner (op _) = refl
bind_joiner comma = refl

marked_self : (j : Joiner) → marked_joiner (joiner_mark j) ≡ Some j
marked_self (op binary.LogicalOr) = refl
marked_self (op _) = refl
marked_self comma = refl

-- a joiner is known by its own mark, at its level
pub joiner_self : (j : Joiner) (k : ℕ) → below j ≡ k → joiner k (form.Mark (joiner_mark j)) ≡ Some j
joiner_self j k e = ap (if_below k) (marked_self j)
    ∙ if_true (eqb (below j) k) (Some j) None (eq-eqb (below j) k e)

joiner_has : (m : Mark) (x : Option BinaryOp) (j : Joiner) → marked_operator m ≡ x
    → joiner_of x ≡ Some j → m ≡ joiner_mark j
joiner_has m None j i e = absurd cc
joiner_has m (Some o) j i e = operator_is m o i ∙ ap joiner_mark (some_is (op o) j e)

marked_is : (m : Mark) (j : Joiner) → marked_joiner m ≡ Some j → m ≡ joiner_mark j
marked_is mark.Comma j e = ap joiner_mark (some_is _ _ e)
marked_is m j e = joiner_has m (marked_operator m) j refl e

if_below_is : (k : ℕ) (o : Option Joiner) (j : Joiner) → if_below k o ≡ Some j
    → (o ≡ Some j) × (below j ≡ k)
if_below_is k None j e = absurd cc
if_below_is k (Some i) j e =
    split_if (λ (r : Option Joiner). r ≡ Some j → (Some i ≡ Some j) × (below j ≡ k))
    (eqb (below i) k) (Some i) None
    (λ t h. (h, ap below (sym (some_is i j h)) ∙ eqb-true (below i) k t)) (λ t h. absurd cc) e

-- what is known as a joiner is its mark, at its level
pub joiner_is : (k : ℕ) (f : Form) (j : Joiner) → joiner k f ≡ Some j
    → (f ≡ form.Mark (joiner_mark j)) × (below j ≡ k)
joiner_is k (form.Mark m) j e =
    let h = if_below_is k (marked_joiner m) j e in (ap (λ (m : Mark). form.Mark m) (marked_is m j h.0), h.1)
joiner_is k _ j e = absurd cc

-- a joiner that is seen is one of the level
pub joiner_below : (k : ℕ) (ts : Tokens) (j : Joiner) → seen (joiner k) ts ≡ Some j → below j ≡ k
joiner_below k [] j e = absurd cc
joiner_below k (t ∷ ts) j e = (joiner_is k t.form j e).1

-- no joiner of a level is seen where tokens do not go on with the level above
pub joiner_none : (k : ℕ) (ts : Tokens) → Stops (suc k) ts → seen (joiner k) ts ≡ None
joiner_none k [] s = refl
joiner_none k (t ∷ ts) s =
    is_none (joiner k t.form)
    (λ j e. let h = joiner_is k t.form j e in let b = ap bind h.0 ∙ bind_joiner j in omega (arith, b, h.1, s))

-- the levels at which phrases are joined
pub record Joining (k : ℕ) : Type 0 where
  pub many : 2 < k
  pub not_choice : k ≡ 13 → ⊥
  pub not_assign : k ≡ 14 → ⊥

-- joiners stand on the levels that join
pub below_joins : (j : Joiner) → Joining (below j)
below_joins (op binary.LogicalOr) = record {
  many = omega arith;
  not_choice = λ e. omega (arith, e);
  not_assign = λ e. omega (arith, e);
}
below_joins (op _) = record {
  many = omega arith;
  not_choice = λ e. omega (arith, e);
  not_assign = λ e. omega (arith, e);
}
below_joins comma = record {
  many = omega arith;
  not_choice = λ e. omega (arith, e);
  not_assign = λ e. omega (arith, e);
}

-- ---- prefixes, suffixes, assignments

-- a prefix is known by its own mark
pub prefix_self : (p : Prefix) → prefix_of (form.Mark (prefix_mark p)) ≡ Some p
prefix_self (sign unary.Plus) = refl
prefix_self (sign _) = refl
prefix_self increase = refl
prefix_self decrease = refl

pub prefix_is : (f : Form) (p : Prefix) → prefix_of f ≡ Some p → f ≡ form.Mark (prefix_mark p)
prefix_is (form.Mark mark.Plus) p e = ap (λ p. form.Mark (prefix_mark p)) (some_is _ _ e)
prefix_is (form.Mark mark.Minus) p e = ap (λ p. form.Mark (prefix_mark p)) (some_is _ _ e)
prefix_is (form.Mark mark.Tilde) p e = ap (λ p. form.Mark (prefix_mark p)) (some_is _ _ e)
prefix_is (form.Mark mark.Not) p e = ap (λ p. form.Mark (prefix_mark p)) (some_is _ _ e)
prefix_is (form.Mark mark.PlusPlus) p e = ap (λ p. form.Mark (prefix_mark p)) (some_is _ _ e)
prefix_is (form.Mark mark.MinusMinus) p e = ap (λ p. form.Mark (prefix_mark p)) (some_is _ _ e)
prefix_is _ p e = absurd cc

-- a suffix is known by its own mark
pub suffix_self : (s : Suffix) → suffix_of (form.Mark (suffix_mark s)) ≡ Some s
suffix_self increased = refl
suffix_self decreased = refl

-- what is known as a suffix is its mark
pub suffix_is : (f : Form) (s : Suffix) → suffix_of f ≡ Some s → f ≡ form.Mark (suffix_mark s)
suffix_is (form.Mark mark.PlusPlus) s e = ap (λ s. form.Mark (suffix_mark s)) (some_is _ _ e)
suffix_is (form.Mark mark.MinusMinus) s e = ap (λ s. form.Mark (suffix_mark s)) (some_is _ _ e)
suffix_is _ s e = absurd cc

-- a suffix binds at level 1
pub bind_suffix : (s : Suffix) → bind (form.Mark (suffix_mark s)) ≡ 1
bind_suffix increased = refl
bind_suffix decreased = refl

-- no suffix is seen where tokens do not go on with a postfix expression
pub suffix_none : (ts : Tokens) → Stops 1 ts → seen suffix_of ts ≡ None
suffix_none [] s = refl
suffix_none (t ∷ ts) s =
    is_none (suffix_of t.form) (λ x e. let h = ap bind (suffix_is t.form x e) ∙ bind_suffix x in omega (arith, h, s))

holding_self : {A : Type 0} (x : Option Mark) (f : Holds x → A) (c : Holds x) → holding x f ≡ Some (f c)
holding_self None f c = absurd c
holding_self (Some m) f c = refl

-- what is made of a mark that is held is made of one
pub holding_is : {A : Type 0} (x : Option Mark) (f : Holds x → A) (a : A) → holding x f ≡ Some a
    → (c : Holds x) × (f c ≡ a)
holding_is None f a e = absurd cc
holding_is (Some m) f a e = (tt, some_is (f tt) a e)

pub assigner_self : (s : Assigner) → assigner_of (form.Mark (assigner_mark s)) ≡ Some s
assigner_self simple = refl
assigner_self (compound o c) =
    ap assigner_with (compound_self o c) ∙ holding_self (operator o).compound (compound o) c

-- an assignment operator binds at level 15
pub bind_assigner : (s : Assigner) → bind (form.Mark (assigner_mark s)) ≡ 15
bind_assigner simple = refl
bind_assigner (compound binary.LogicalOr c) = absurd c
bind_assigner (compound binary.LogicalAnd c) = absurd c
bind_assigner (compound binary.Equal c) = absurd c
bind_assigner (compound binary.NotEqual c) = absurd c
bind_assigner (compound binary.Less c) = absurd c
bind_assigner (compound binary.Greater c) = absurd c
bind_assigner (compound binary.LessEqual c) = absurd c
bind_assigner (compound binary.GreaterEqual c) = absurd c
bind_assigner (compound _ c) = refl

assigner_has : (m : Mark) (x : Option (Option BinaryOp)) (s : Assigner) → assigned_by m ≡ x
    → assigner_with x ≡ Some s → m ≡ assigner_mark s
assigner_has m None s i e = absurd cc
assigner_has m (Some None) s i e = assigned_is m None i ∙ ap assigner_mark (some_is simple s e)
assigner_has m (Some (Some o)) s i e =
    let h = holding_is (operator o).compound (compound o) s e in
    sym (held_is (operator o).compound h.0 m (assigned_is m (Some o) i)) ∙ ap assigner_mark h.1

assigner_is : (f : Form) (s : Assigner) → assigner_of f ≡ Some s → f ≡ form.Mark (assigner_mark s)
assigner_is (form.Mark m) s e =
    ap (λ (m : Mark). form.Mark m) (assigner_has m (assigned_by m) s refl e)
assigner_is _ s e = absurd cc

-- where the left side may be assigned to
pub assigner_for_is : (a : Expr) (f : Form) (s : Assigner) → assigner_for a f ≡ Some s
    → (f ≡ form.Mark (assigner_mark s)) × (is_unary a ≡ true)
assigner_for_is a f s e =
    split_if (λ (o : Option Assigner). o ≡ Some s
    → (f ≡ form.Mark (assigner_mark s)) × (is_unary a ≡ true)) (is_unary a) (assigner_of f) None
    (λ t h. (assigner_is f s h, t)) (λ t h. absurd cc) e

-- behind a unary expression, an assignment operator is known by its own mark
pub assigner_for_self : (a : Expr) (s : Assigner) → is_unary a ≡ true
    → assigner_for a (form.Mark (assigner_mark s)) ≡ Some s
assigner_for_self a s e = if_true (is_unary a) _ _ e ∙ assigner_self s

-- where an assignment operator is seen, the expression before it is unary
pub assigner_unary : (a : Expr) (ts : Tokens) (s : Assigner) → seen (assigner_for a) ts ≡ Some s
    → is_unary a ≡ true
assigner_unary a [] s e = absurd cc
assigner_unary a (t ∷ ts) s e = (assigner_for_is a t.form s e).1

-- no assignment operator is seen where tokens do not go on with an assignment
pub assigner_none : (a : Expr) (ts : Tokens) → Stops 15 ts → seen (assigner_for a) ts ≡ None
assigner_none a [] s = refl
assigner_none a (t ∷ ts) s =
    is_none (assigner_for a t.form)
    (λ x e. let h = ap bind (assigner_for_is a t.form x e).0 ∙ bind_assigner x in omega (arith, h, s))
