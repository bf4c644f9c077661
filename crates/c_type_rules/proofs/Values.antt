-- A typed expression is well formed where the names in scope name what exists.
use Rattle.std.proofs.Common.{◌≡◌, ℕ, Bool, true, false, List, Option, Some, None, cond, refl, sym, ap, ◌∙◌, subst}
use Rattle.std.specs.Prelude.{◌&&◌}
use Rattle.std.proofs.lemmas.Bool.{false≢true, eqb-true}
use Rattle.c_tree.specs.declared.token.Kind.{Kind}
use Rattle.c_tree.specs.declared.token.Kind.TheVariants.{Int}
use Rattle.c_tree.specs.declared.tree.Expr.{Expr}
use Rattle.c_tree.specs.declared.typed.Place.{Place}
use Rattle.c_tree.specs.declared.typed.Slot.{Slot}
use Rattle.c_tree.specs.declared.typed.TypedExpr.{TypedExpr}
use Rattle.c_tree.specs.declared.typed.TypedNode.{TypedNode, out-TypedNode, roll-TypedNode, out-roll-TypedNode}
use Rattle.c_tree.specs.declared.typed.TypedNode.TheVariants as typed
use Rattle.c_tree.specs.declared.typed.TypedNode.TheOpen.{Name}
use Rattle.c_tree.specs.declared.typed.TypedFunc.{TypedFunc}
use Rattle.c_tree.specs.declared.typed.TypedProgram.{TypedProgram}
use Rattle.c_type_expr.specs.declared.meaning.Meaning.{Meaning}
use Rattle.c_type_expr.specs.declared.meaning.Meaning.TheVariants as meaning
use Rattle.c_type_expr.specs.Scope.{Scope, look_up}
use Rattle.c_constant.specs.Kinds.{same_kind, common}
use Rattle.c_constant.specs.Operation.{left_at, right_at, result_of, unary_at, unary_result}
use Rattle.c_type_expr.specs.declared.role.Role.{Role}
use Rattle.c_type_expr.specs.declared.role.Role.TheVariants.{Value, Free, Written, Array, Surplus}
use Rattle.c_type_expr.specs.Roles.{takes_value, takes_element, takes_array, same_row, takes_result}
use Rattle.c_type_expr.specs.Conversions.{a, kind_of, kind_in, with_convert, comma}
use Rattle.c_type_expr.specs.Typed.{Typed, Passed}
use Rattle.c_type_expr.specs.Typed as typing
use Rattle.c_type_rules.specs.inside.Objects.{scalar_at, array_at, shape, signature, signature_of}
use Rattle.c_tree.specs.TypedTrees.{Node, node_of}
use Rattle.c_type_rules.specs.inside.Expressions.{Gives, Has, IsObject, Passes, itself, named, indexed}
use Rattle.c_type_rules.specs.inside.Expressions.{row_indexed}
use Rattle.c_type_rules.specs.inside.Expressions as rule
use Rattle.c_constant.proofs.SameKinds.{kinds_are}
use Rattle.c_type_rules.proofs.Conversions.{commons, unary_settled, settled}

-- what a name means is in the program
abbrev pub Exists : TypedProgram → TypedFunc → Meaning → Type 0
Exists P f (meaning.Scalar k p) = scalar_at P f p ≡ Some k
Exists P f (meaning.Array k q p) = array_at P f p ≡ Some (shape k q)
Exists P f (meaning.Function result slots None d) = Unit {0}
Exists P f (meaning.Function result slots (Some c) d) = signature_of P c ≡ Some (signature result slots)
Exists P f meaning.EndOfFile = Unit {0}

-- so for all names in scope
abbrev pub Knows : TypedProgram → TypedFunc → Scope → Type 0
Knows P f G = (w : List ℕ) (m : Meaning) → look_up G w ≡ Some m → Exists P f m

-- two tests that both hold
pub both : (a b : Bool) → (a && b) ≡ true → (a ≡ true) × (b ≡ true)
both true b h = (refl, h)
both false b h = absurd (false≢true h)

-- equal second sizes are one
pub rows_are : (p q : Option ℕ) → same_row p q ≡ true → p ≡ q
rows_are None None h = refl
rows_are (Some m) (Some n) h = ap Some (eqb-true m n h)
rows_are None (Some n) h = absurd (false≢true h)
rows_are (Some m) None h = absurd (false≢true h)

-- a node that is built is open again
pub opened : (n : TypedNode) (x : Node) → roll-TypedNode x ≡ n → out-TypedNode n ≡ x
opened n x e = ap out-TypedNode (sym e) ∙ out-roll-TypedNode x

module _ (P : TypedProgram) (f : TypedFunc) where
  -- a value of a type that no conversion gives
  pub record Plain (t : TypedExpr) : Type 0 where
    pub kind : Kind
    pub is : t.kind ≡ Some kind
    pub gives : Gives P f (Some kind) (node_of t)

  pub record Writes (t : TypedExpr) : Type 0 where
    pub kind : Kind
    pub is : t.kind ≡ Some kind
    pub object : IsObject P f kind t

  -- the name of an array
  pub record Names (k : Kind) (q : Option ℕ) (t : TypedExpr) : Type 0 where
    pub place : Place
    pub is : t.kind ≡ Some k
    pub node : node_of t ≡ Name place
    pub array : array_at P f place ≡ Some (shape k q)

  -- the typed tree is what the role wants
  abbrev pub Fits : Role → TypedExpr → Type 0
  Fits Value t = Plain t
  Fits Free t = Gives P f t.kind (node_of t)
  Fits Written t = Writes t
  Fits (Array k q) t = Names k q t
  Fits Surplus t = Unit {0}

  -- what a node gives, where the node is closed
  closed : (r : Option Kind) (n : TypedNode) (x : Node) → roll-TypedNode x ≡ n → Gives P f r x
      → Gives P f r (out-TypedNode n)
  closed r n x e g = subst (Gives P f r) (sym (opened n x e)) g

  -- a value that is no object fits where a value may stand
  value_fits : (l : ℕ) (r : Role) (k : Kind) (n : TypedNode) → takes_value r ≡ true
      → Gives P f (Some k) (out-TypedNode n)
      → Fits r (a l (Some k) n)
  value_fits l Value k n h g = record { kind = k; is = refl; gives = g }
  value_fits l Free k n h g = g
  value_fits l Written k n h g = absurd (false≢true h)
  value_fits l (Array j q) k n h g = absurd (false≢true h)
  value_fits l Surplus k n h g = tt

  -- the name of a scalar
  scalar_fits : (l : ℕ) (r : Role) (k : Kind) (p : Place) → takes_element r ≡ true → scalar_at P f p ≡ Some k
      → Fits r (a l (Some k) (typed.Name p))
  scalar_fits l Value k p h s = record
      { kind = k; is = refl; gives = closed _ _ _ (typed.rolls-Name p) (rule.scalar s) }
  scalar_fits l Free k p h s = closed _ _ _ (typed.rolls-Name p) (rule.scalar s)
  scalar_fits l Written k p h s = record
      { kind = k; is = refl; object = named refl (opened _ _ (typed.rolls-Name p)) s }
  scalar_fits l (Array j q) k p h s = absurd (false≢true h)
  scalar_fits l Surplus k p h s = tt

  -- the name of an array
  array_fits : (l : ℕ) (r : Role) (k : Kind) (q : Option ℕ) (p : Place) → takes_array k q r ≡ true
      → array_at P f p ≡ Some (shape k q) → Fits r (a l (Some k) (typed.Name p))
  array_fits l Value k q p h s = absurd (false≢true h)
  array_fits l Free k q p h s = absurd (false≢true h)
  array_fits l Written k q p h s = absurd (false≢true h)
  array_fits l (Array j o) k q p h s =
      let b = both _ (same_row q o) h in
      let e = kinds_are k j b.0 in
      record {
        place = p;
        is = ap Some e;
        node = opened _ _ (typed.rolls-Name p);
        array = s ∙ ap (λ k. Some (shape k q)) e ∙ ap (λ q. Some (shape j q)) (rows_are q o b.1);
      }
  array_fits l Surplus k q p h s = tt

  -- an element
  element_fits : (m : ℕ) (r : Role) (k j : Kind) (p : Place) (i : TypedExpr) → takes_element r ≡ true
      → array_at P f p ≡ Some (shape k None) → Has P f j i → Fits r (a m (Some k) (typed.Element p None i))
  element_fits m Value k j p i h s g =
      record { kind = k; is = refl; gives = closed _ _ _ (typed.rolls-Element p None i) (rule.element s g) }
  element_fits m Free k j p i h s g = closed _ _ _ (typed.rolls-Element p None i) (rule.element s g)
  element_fits m Written k j p i h s g =
      record { kind = k; is = refl; object = indexed refl (opened _ _ (typed.rolls-Element p None i)) s g }
  element_fits m (Array l q) k j p i h s g = absurd (false≢true h)
  element_fits m Surplus k j p i h s g = tt

  -- an element by two indexes
  row_element_fits : (m : ℕ) (r : Role) (k i j : Kind) (n : ℕ) (p : Place) (x y : TypedExpr) → takes_element r ≡ true
      → array_at P f p ≡ Some (shape k (Some n)) → Has P f i x → Has P f j y
      → Fits r (a m (Some k) (typed.Element p (Some x) y))
  row_element_fits m Value k i j n p x y h s g g' = record {
    kind = k;
    is = refl;
    gives = closed _ _ _ (typed.rolls-Element p (Some x) y) (rule.row_element s g g');
  }
  row_element_fits m Free k i j n p x y h s g g' =
      closed _ _ _ (typed.rolls-Element p (Some x) y) (rule.row_element s g g')
  row_element_fits m Written k i j n p x y h s g g' = record {
    kind = k;
    is = refl;
    object = row_indexed refl (opened _ _ (typed.rolls-Element p (Some x) y)) s g g';
  }
  row_element_fits m (Array l q) k i j n p x y h s g g' = absurd (false≢true h)
  row_element_fits m Surplus k i j n p x y h s g g' = tt

  -- a call without a value
  void_fits : (l : ℕ) (r : Role) (n : TypedNode) → takes_result None r ≡ true → Gives P f None (out-TypedNode n)
      → Fits r (a l None n)
  void_fits l Value n h g = absurd (false≢true h)
  void_fits l Free n h g = g
  void_fits l Written n h g = absurd (false≢true h)
  void_fits l (Array j q) n h g = absurd (false≢true h)
  void_fits l Surplus n h g = absurd (false≢true h)

  -- a call
  call_fits : (l : ℕ) (r : Role) (result : Option Kind) (n : TypedNode) → takes_result result r ≡ true
      → Gives P f result (out-TypedNode n) → Fits r (a l result n)
  call_fits l r None n h g = void_fits l r n h g
  call_fits l r (Some k) n h g = value_fits l r k n h g

  -- a value that no conversion gives has its type
  pub plain_has : (t : TypedExpr) (p : Plain t) → Has P f p.kind t
  plain_has t p = itself p.is p.gives

  -- a converted value has the type to which it is converted
  pub converted_has : (k : Kind) (t : TypedExpr) (p : Plain t) → Has P f k (with_convert k t)
  converted_has k t p = by (same_kind (kind_of t) k) refl
    where
      is : kind_of t ≡ p.kind
      is = ap kind_in p.is

      by : (b : Bool) → same_kind (kind_of t) k ≡ b → Has P f k (cond b t (a t.at (Some k) (typed.Convert k t)))
      by true e = itself (p.is ∙ ap Some (sym is ∙ kinds_are _ _ e))
          (subst (λ j. Gives P f (Some j) (node_of t)) (sym is ∙ kinds_are _ _ e) p.gives)
      by false e = rule.converted refl (opened _ _ (typed.rolls-Convert k t)) p.is
          (sym (ap (λ j. same_kind j k) is) ∙ e) p.gives

  -- what may be written to is of the type that it is said to be of
  object : (t : TypedExpr) → Writes t → IsObject P f (kind_of t) t
  object t w = subst (λ k. IsObject P f k t) (sym (ap kind_in w.is)) w.object

  -- a comma has the type of its right side
  sequence : (l : ℕ) (r : Role) (s t : TypedExpr) → takes_value r ≡ true → Gives P f s.kind (node_of s) → Plain t
      → Fits r (comma l s t)
  sequence l r s t h g p =
      subst (λ k. Fits r (a l k (typed.Comma s t))) (sym p.is)
      (value_fits l r p.kind _ h (closed _ _ _ (typed.rolls-Comma s t) (rule.comma g (plain_has t p))))

  module _ (G : Scope) (knows : Knows P f G) where
    mutual
      -- a typed expression is what its role wants
      pub fits : (r : Role) (e : Expr) (t : TypedExpr) → Typed G r e t → Fits r t
      fits _ _ _ (typing.number {r = r} {v = v} {k = k} h) =
          value_fits _ r k _ h (closed _ _ _ (typed.rolls-Number v) rule.number)
      fits _ _ _ (typing.scalar {r = r} {w = w} {k = k} {p = p} m h) = scalar_fits _ r k p h (knows w _ m)
      fits _ _ _ (typing.array {r = r} {w = w} {k = k} {q = q} {p = p} m h) = array_fits _ r k q p h (knows w _ m)
      fits _ _ _ (typing.ending {r = r} m h) = value_fits _ r Int _ h (closed _ _ _ (typed.rolls-Number _) rule.number)
      fits _ _ _ (typing.element {r = r} {w = w} {k = k} {p = p} {i = i} {j = j} d m h) =
          let x = fits Value i j d in element_fits _ r k x.kind p j h (knows w _ m) (plain_has j x)
      fits _ _ _ (typing.row_element {r = r} {n = n} {w = w} {k = k} {p = p} {x = x} {i = i} {y = y} {j = j} d d' m
          h) =
          let c = fits Value x y d in
          let e = fits Value i j d' in
          row_element_fits _ r k c.kind e.kind n p y j h (knows w _ m) (plain_has y c) (plain_has j e)
      fits _ _ _ (typing.call {r = r} {w = w} {result = result} {slots = slots} {c = c} {es = es} {ts = ts} m ps h) =
          call_fits _ r result _ h (closed _ _ _ (typed.rolls-Call c ts)
          (rule.call (knows w _ m) (passes slots es ts ps)))
      fits _ _ _ (typing.group {r = r} {e = e} {t = t} d) = fits r e t d
      fits _ _ _ (typing.operator {r = r} {op = op} {e = e} {t = t} d h) =
          let k = unary_at op (kind_of t) in
          value_fits _ r (unary_result op k) _ h
          (closed _ _ _ (typed.rolls-Unary op (with_convert k t))
          (rule.unary (converted_has k t (fits Value e t d)) (unary_settled op (kind_of t)) refl))
      fits _ _ _ (typing.conversion {r = r} {to = to} {e = e} {t = t} d h) =
          value_fits _ r to _ h (closed _ _ _ (typed.rolls-Cast to t) (rule.cast (plain_has t (fits Value e t d))))
      fits _ _ _ (typing.step {r = r} {op = op} {e = e} {t = t} p d h) =
          value_fits _ r (kind_of t) _ h
          (closed _ _ _ (typed.rolls-Bump op t) (rule.bump (object t (fits Written e t d))))
      fits _ _ _ (typing.operation {r = r} {op = op} {x = x} {y = y} {s = s} {t = t} d d' h) =
          let j = left_at op (kind_of s) (kind_of t) in
          let k = right_at op (kind_of s) (kind_of t) in
          let c = settled op (kind_of s) (kind_of t) in
          value_fits _ r (result_of op j) _ h
          (closed _ _ _ (typed.rolls-Binary op (with_convert j s) (with_convert k t))
          (rule.binary (converted_has j s (fits Value x s d))
          (converted_has k t (fits Value y t d')) c.left c.right refl))
      fits _ _ _ (typing.either {r = r} {c = c} {x = x} {y = y} {d = d} {s = s} {t = t} d1 d2 d3 h) =
          let k = common (kind_of s) (kind_of t) in
          value_fits _ r k _ h
          (closed _ _ _ (typed.rolls-Choice d (with_convert k s) (with_convert k t))
          (rule.choice (plain_has d (fits Value c d d1)) (converted_has k s (fits Value x s d2))
          (converted_has k t (fits Value y t d3)) (commons (kind_of s) (kind_of t)).itself))
      fits _ _ _ (typing.assignment {r = r} {op = None} {x = x} {y = y} {s = s} {t = t} p d d' h) =
          let k = kind_of s in
          value_fits _ r k _ h
          (closed _ _ _ (typed.rolls-Assign None k s (with_convert k t))
          (rule.assign (object s (fits Written x s d)) (converted_has k t (fits Value y t d'))))
      fits _ _ _ (typing.assignment {r = r} {op = Some op} {x = x} {y = y} {s = s} {t = t} p d d' h) =
          let j = left_at op (kind_of s) (kind_of t) in
          let k = right_at op (kind_of s) (kind_of t) in
          let c = settled op (kind_of s) (kind_of t) in
          value_fits _ r (kind_of s) _ h
          (closed _ _ _ (typed.rolls-Assign (Some op) j s (with_convert k t))
          (rule.compound (object s (fits Written x s d)) (converted_has k t (fits Value y t d')) c.at c.from))
      fits _ _ _ (typing.sequence {r = r} {x = x} {y = y} {s = s} {t = t} d d' h) =
          sequence _ r s t h (fits Free x s d) (fits Value y t d')

      passes : (slots : List Slot) (es : List Expr) (ts : List TypedExpr) → Passed G slots es ts → Passes P f slots ts
      passes _ _ _ typing.none = rule.end
      passes _ _ _ (typing.value {k = k} {e = e} {t = t} {slots = slots} {es = es} {ts = ts} d ds) =
          rule.value (converted_has k t (fits Value e t d)) (passes slots es ts ds)
      passes _ _ _ (typing.address {k = k} {q = q} {e = e} {t = t} {slots = slots} {es = es} {ts = ts} d ds) =
          let n = fits (Array k q) e t d in rule.address n.is n.node n.array (passes slots es ts ds)
