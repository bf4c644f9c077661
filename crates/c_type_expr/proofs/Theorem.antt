-- An expression has a typed tree exactly where no node of it fails.
use Rattle.std.proofs.Common.{◌≡◌, ℕ, suc, Bool, true, false, List, [], ◌∷◌, map, length, nat_eq}
use Rattle.std.proofs.Common.{Option, Some, None, refl, sym, ap, ◌∙◌, subst, arith, eq-eqb}
use Rattle.std.proofs.lemmas.Bool.{false≢true, eqb-true}
use Rattle.c_tree.specs.declared.token.Kind.{Kind}
use Rattle.c_tree.specs.declared.tree.Expr.{Expr, Expr-F, ind-Expr, roll-Expr}
use Rattle.c_tree.specs.declared.tree.ExprNode.{ExprNode, roll-ExprNode, map-ExprNode}
use Rattle.c_tree.specs.declared.tree.ExprNode.TheOpen.{ExprNode-F}
use Rattle.c_tree.specs.declared.tree.ExprNode.TheVariants as node
use Rattle.c_tree.specs.declared.typed.TypedExpr.{TypedExpr}
use Rattle.c_tree.specs.declared.typed.TypedNode.TheVariants as typed
use Rattle.c_tree.specs.declared.typed.Callee.{Callee}
use Rattle.c_tree.specs.declared.typed.Slot.{Slot}
use Rattle.c_tree.specs.declared.typed.Slot.TheVariants as slot
use Rattle.c_type_expr.specs.declared.meaning.Meaning.{Meaning}
use Rattle.c_type_expr.specs.declared.meaning.Meaning.TheVariants as meaning
use Rattle.c_type_expr.specs.Scope.{Scope, look_up}
use Rattle.c_type_expr.specs.declared.fault.TypeFault.{TypeFault}
use Rattle.c_type_expr.specs.declared.fault.TypeFault.TheVariants.{Mismatch, Arity}
use Rattle.c_type_expr.specs.declared.spot.Spot.{Spot}
use Rattle.c_type_expr.specs.declared.role.Role.{Role}
use Rattle.c_type_expr.specs.declared.role.Role.TheVariants.{Value, Free, Written, Array}
use Rattle.c_type_expr.specs.Roles.{takes_element, takes_array, takes_value, takes_result, at}
use Rattle.c_type_expr.specs.Blames.{Blame, first, unless}
use Rattle.c_type_expr.specs.Faults.{fault, is_place, name_fault, element_fault, left_role}
use Rattle.c_type_expr.specs.Faults.{call_fault, slots_of}
use Rattle.c_type_expr.specs.inside.Faults.{args_fault}
use Rattle.c_type_expr.specs.Trees.{tree, name_tree, array_kind, array_place, result_kind, callee_of}
use Rattle.c_type_expr.specs.inside.Trees.{args_tree}
use Rattle.c_type_expr.specs.Conversions.{a, with_convert, unary, cast, bump, binary, choice, assign, comma}
use Rattle.c_type_expr.specs.Typed.{Typed, Passed, number, scalar, array, ending, element, call}
use Rattle.c_type_expr.specs.Typed.{row_element}
use Rattle.c_type_expr.specs.Typed.{group, operator, conversion, step, operation, either}
use Rattle.c_type_expr.specs.Typed.{assignment, sequence, none, value, address}
use Rattle.c_type_expr.proofs.Nodes.{fault-Number, tree-Number, fault-Name, tree-Name}
use Rattle.c_type_expr.proofs.Nodes.{fault-Row, tree-Row}
use Rattle.c_type_expr.proofs.Nodes.{fault-Element, tree-Element, fault-Call, tree-Call}
use Rattle.c_type_expr.proofs.Nodes.{fault-Group, tree-Group, fault-Unary, tree-Unary, fault-Cast}
use Rattle.c_type_expr.proofs.Nodes.{tree-Cast, fault-Bump, tree-Bump, fault-Binary, tree-Binary}
use Rattle.c_type_expr.proofs.Nodes.{fault-Choice, tree-Choice, fault-Assign, tree-Assign}
use Rattle.c_type_expr.proofs.Nodes.{fault-Comma, tree-Comma}
use Rattle.c_type_expr.proofs.PlaceTests.{place_passes, passes_place}

abbrev Sound : Scope → Role → Expr → TypedExpr → Type 0
Sound G r e t = (fault e G r ≡ None) × (t ≡ tree e G)

both : (f g : Blame) → f ≡ None → g ≡ None → first f g ≡ None
both f g p q = ap (λ (f : Blame). first f g) p ∙ q

fine : (b : Bool) (f : TypeFault) → b ≡ true → unless b f ≡ None
fine b f e = ap (λ b. unless b f) e

-- a left side that may be written to is judged as such
written : (e : Expr) (G : Scope) → is_place e ≡ true → fault e G Written ≡ None
    → fault e G (left_role (is_place e)) ≡ None
written e G p h = ap (λ b. fault e G (left_role b)) p ∙ h

abbrev Fits : Scope → List Slot → List Expr → List TypedExpr → Type 0
Fits G slots es ts = (args_fault slots es G ≡ None) × (length es ≡ length slots)
    × (ts ≡ args_tree slots es G)

call_fits : (m : Option Meaning) (result : Option Kind) (slots : List Slot) (c : Callee) (d : Bool)
    (n : ℕ) (r : Role) (l : ℕ) → m ≡ Some (meaning.Function result slots (Some c) d)
    → takes_result result r ≡ true → n ≡ length slots → call_fault m n r l ≡ None
call_fits m result slots c d n r l e h len =
    ap (λ m. call_fault m n r l) e ∙ both _ _ (fine (takes_result result r) (Mismatch l) h)
    (fine (nat_eq n (length slots)) (Arity l) (eq-eqb n (length slots) len))

mutual
  -- An expression to which the rules give a typed tree has no fault, and that tree.
  pub sound : (G : Scope) (r : Role) (e : Expr) (t : TypedExpr) → Typed G r e t → Sound G r e t
  sound G _ _ _ (number {r = r} {l = l} {v = v} {k = k} h) =
      (fault-Number G r l v k ∙ fine _ _ h, sym (tree-Number G l v k))
  sound G _ _ _ (scalar {r = r} {l = l} {w = w} {k = k} {p = p} m h) = (
    fault-Name G r l w ∙ ap (λ m. name_fault m r l.offset) m ∙ fine (takes_element r) (Mismatch l.offset) h,
    sym (tree-Name G l w ∙ ap (name_tree l.at) m),
  )
  sound G _ _ _ (array {r = r} {l = l} {w = w} {k = k} {q = q} {p = p} m h) = (
    fault-Name G r l w ∙ ap (λ m. name_fault m r l.offset) m ∙ fine (takes_array k q r) (Mismatch l.offset) h,
    sym (tree-Name G l w ∙ ap (name_tree l.at) m),
  )
  sound G _ _ _ (ending {r = r} {l = l} {w = w} m h) = (
    fault-Name G r l w ∙ ap (λ m. name_fault m r l.offset) m ∙ fine (takes_value r) (Mismatch l.offset) h,
    sym (tree-Name G l w ∙ ap (name_tree l.at) m),
  )
  sound G _ _ _ (element {r = r} {l = l} {w = w} {k = k} {p = p} {i = i} {j = j} d m h) =
      let s = sound G Value i j d in (
        fault-Element G r l w i ∙ both _ _ s.0
            (ap (λ m. element_fault m false r l.offset) m ∙ fine (takes_element r) (Mismatch l.offset) h),
        sym (tree-Element G l w i ∙ ap (λ m. a l.at (Some (array_kind m))
            (typed.Element (array_place m) None (tree i G))) m
            ∙ ap (λ (j : TypedExpr). a l.at (Some k) (typed.Element p None j)) (sym s.1)),
      )
  sound G _ _ _ (row_element {r = r} {l = l} {n = n} {w = w} {k = k} {p = p} {x = x} {i = i} {y = y}
      {j = j} c d m h) =
      let u = sound G Value x y c in let s = sound G Value i j d in (
        fault-Row G r l w x i ∙ both _ _ u.0 (both _ _ s.0
            (ap (λ m. element_fault m true r l.offset) m ∙ fine (takes_element r) (Mismatch l.offset) h)),
        sym (tree-Row G l w x i ∙ ap (λ m. a l.at (Some (array_kind m))
            (typed.Element (array_place m) (Some (tree x G)) (tree i G))) m
            ∙ ap (λ (y : TypedExpr). a l.at (Some k) (typed.Element p (Some y) (tree i G))) (sym u.1)
            ∙ ap (λ (j : TypedExpr). a l.at (Some k) (typed.Element p (Some y) j)) (sym s.1)),
      )
  sound G _ _ _ (call {r = r} {l = l} {w = w} {result = result} {slots = slots} {c = c} {d = d}
      {es = es} {ts = ts} m p h) =
      let s = passed G slots es ts p in (
        fault-Call G r l w es
            ∙ both _ _ (ap (λ m. args_fault (slots_of m) es G) m ∙ s.0)
            (call_fits (look_up G w) result slots c d (length es) r l.offset m h s.1),
        sym (tree-Call G l w es
            ∙ ap (λ m. a l.at (result_kind m) (typed.Call (callee_of m) (args_tree (slots_of m) es G))) m
            ∙ ap (λ (ts : List TypedExpr). a l.at result (typed.Call c ts)) (sym s.2)),
      )
  sound G _ _ _ (group {r = r} {l = l} {e = e} {t = t} d) =
      let s = sound G r e t d in (fault-Group G r l e ∙ s.0, s.1 ∙ sym (tree-Group G l e))
  sound G _ _ _ (operator {r = r} {l = l} {op = op} {e = e} {t = t} d h) =
      let s = sound G Value e t d in (
        fault-Unary G r l op e ∙ both _ _ s.0 (fine _ _ h),
        ap (λ (t : TypedExpr). unary l.at op t) s.1
            ∙ sym (tree-Unary G l op e),
      )
  sound G _ _ _ (conversion {r = r} {l = l} {to = to} {e = e} {t = t} d h) =
      let s = sound G Value e t d in (
        fault-Cast G r l to e ∙ both _ _ s.0 (fine _ _ h),
        ap (λ (t : TypedExpr). cast l.at to t) s.1
            ∙ sym (tree-Cast G l to e),
      )
  sound G _ _ _ (step {r = r} {l = l} {op = op} {e = e} {t = t} p d h) =
      let s = sound G Written e t d in let q = place_passes e p in (
        fault-Bump G r l op e ∙ both _ _ (written e G q s.0) (both _ _ (fine _ _ q) (fine _ _ h)),
        ap (λ (t : TypedExpr). bump l.at op t) s.1 ∙ sym (tree-Bump G l op e),
      )
  sound G _ _ _ (operation {r = r} {l = l} {op = op} {x = x} {y = y} {s = s} {t = t} d d' h) =
      let p = sound G Value x s d in let q = sound G Value y t d' in (
        fault-Binary G r l op x y ∙ both _ _ p.0 (both _ _ q.0 (fine _ _ h)),
        ap (λ (s : TypedExpr). binary l.at op s t) p.1
            ∙ ap (λ (t : TypedExpr). binary l.at op (tree x G) t) q.1 ∙ sym (tree-Binary G l op x y),
      )
  sound G _ _ _ (either {r = r} {l = l} {c = c} {x = x} {y = y} {d = d} {s = s}
      {t = t} d1 d2 d3 h) =
      let o = sound G Value c d d1 in let p = sound G Value x s d2 in let q = sound G Value y t d3 in (
        fault-Choice G r l c x y ∙ both _ _ o.0 (both _ _ p.0 (both _ _ q.0 (fine _ _ h))),
        ap (λ (d : TypedExpr). choice l.at d s t) o.1 ∙ ap (λ (s : TypedExpr). choice l.at (tree c G) s t) p.1
            ∙ ap (λ (t : TypedExpr). choice l.at (tree c G) (tree x G) t) q.1
            ∙ sym (tree-Choice G l c x y),
      )
  sound G _ _ _ (assignment {r = r} {l = l} {op = op} {x = x} {y = y} {s = s} {t = t} w d d' h) =
      let p = sound G Written x s d in let q = sound G Value y t d' in let u = place_passes x w in (
        fault-Assign G r l op x y ∙ both _ _ (written x G u p.0)
            (both _ _ q.0 (both _ _ (fine _ _ u) (fine _ _ h))),
        ap (λ (s : TypedExpr). assign l.at op s t) p.1
            ∙ ap (λ (t : TypedExpr). assign l.at op (tree x G) t) q.1 ∙ sym (tree-Assign G l op x y),
      )
  sound G _ _ _ (sequence {r = r} {l = l} {x = x} {y = y} {s = s} {t = t} d d' h) =
      let p = sound G Free x s d in let q = sound G Value y t d' in (
        fault-Comma G r l x y ∙ both _ _ p.0 (both _ _ q.0 (fine _ _ h)),
        ap (λ (s : TypedExpr). comma l.at s t) p.1 ∙ ap (λ (t : TypedExpr). comma l.at (tree x G) t) q.1
            ∙ sym (tree-Comma G l x y),
      )

  passed : (G : Scope) (slots : List Slot) (es : List Expr) (ts : List TypedExpr)
      → Passed G slots es ts → Fits G slots es ts
  passed G _ _ _ none = (refl, refl, refl)
  passed G _ _ _ (value {k = k} {e = e} {t = t} {slots = slots} {es = es} {ts = ts} d ds) =
      let s = sound G Value e t d in let p = passed G slots es ts ds in (
        both _ _ s.0 p.0,
        ap suc p.1,
        ap (λ (t : TypedExpr). with_convert k t ∷ ts) s.1
            ∙ ap (λ (ts : List TypedExpr). with_convert k (tree e G) ∷ ts) p.2,
      )
  passed G _ _ _ (address {k = k} {q = q} {e = e} {t = t} {slots = slots} {es = es} {ts = ts} d ds) =
      let s = sound G (Array k q) e t d in let p = passed G slots es ts ds in (
        both _ _ s.0 p.0,
        ap suc p.1,
        ap (λ (t : TypedExpr). t ∷ ts) s.1
            ∙ ap (λ (ts : List TypedExpr). tree e G ∷ ts) p.2,
      )

abbrev Whole : Expr → Type 0
Whole e = (G : Scope) (r : Role) → fault e G r ≡ None → Typed G r e (tree e G)

abbrev WholeNode : ExprNode → Type 0
WholeNode n = (l : Spot) → Whole (at l n)

split : (f g : Blame) → first f g ≡ None → (f ≡ None) × (g ≡ None)
split None g e = (refl, e)
split (Some f) g e = absurd (cc)

held : (b : Bool) (f : TypeFault) → unless b f ≡ None → b ≡ true
held true f e = refl
held false f e = absurd (cc)

name_typed : (G : Scope) (r : Role) (l : Spot) (w : List ℕ) (m : Option Meaning) → look_up G w ≡ m
    → name_fault m r l.offset ≡ None
    → Typed G r (at l (node.Name w)) (name_tree l.at m)
name_typed G r l w None e h = absurd (cc)
name_typed G r l w (Some (meaning.Scalar k p)) e h = scalar e (held _ _ h)
name_typed G r l w (Some (meaning.Array k q p)) e h = array e (held _ _ h)
name_typed G r l w (Some (meaning.Function result slots c d)) e h = absurd (false≢true (held _ _ h))
name_typed G r l w (Some meaning.EndOfFile) e h = ending e (held _ _ h)

element_typed : (G : Scope) (r : Role) (l : Spot) (w : List ℕ) (i : Expr) (j : TypedExpr)
    (m : Option Meaning) → look_up G w ≡ m → Typed G Value i j → element_fault m false r l.offset ≡ None
    → Typed G r (at l (node.Element w None i))
    (a l.at (Some (array_kind m)) (typed.Element (array_place m) None j))
element_typed G r l w i j None e d h = absurd (cc)
element_typed G r l w i j (Some (meaning.Scalar k p)) e d h = absurd (cc)
element_typed G r l w i j (Some (meaning.Array k None p)) e d h = element d e (held _ _ h)
element_typed G r l w i j (Some (meaning.Array k (Some n) p)) e d h = absurd (cc)
element_typed G r l w i j (Some (meaning.Function result slots c s)) e d h = absurd (cc)
element_typed G r l w i j (Some meaning.EndOfFile) e d h = absurd (cc)

row_typed : (G : Scope) (r : Role) (l : Spot) (w : List ℕ) (x i : Expr) (y j : TypedExpr)
    (m : Option Meaning) → look_up G w ≡ m → Typed G Value x y → Typed G Value i j
    → element_fault m true r l.offset ≡ None
    → Typed G r (at l (node.Element w (Some x) i))
    (a l.at (Some (array_kind m)) (typed.Element (array_place m) (Some y) j))
row_typed G r l w x i y j None e c d h = absurd (cc)
row_typed G r l w x i y j (Some (meaning.Scalar k p)) e c d h = absurd (cc)
row_typed G r l w x i y j (Some (meaning.Array k None p)) e c d h = absurd (cc)
row_typed G r l w x i y j (Some (meaning.Array k (Some n) p)) e c d h = row_element c d e (held _ _ h)
row_typed G r l w x i y j (Some (meaning.Function result slots k s)) e c d h = absurd (cc)
row_typed G r l w x i y j (Some meaning.EndOfFile) e c d h = absurd (cc)

call_typed : (G : Scope) (r : Role) (l : Spot) (w : List ℕ) (es : List Expr) (ts : List TypedExpr)
    (m : Option Meaning) → look_up G w ≡ m
    → (length es ≡ length (slots_of m) → Passed G (slots_of m) es ts)
    → call_fault m (length es) r l.offset ≡ None
    → Typed G r (at l (node.Call w es)) (a l.at (result_kind m) (typed.Call (callee_of m) ts))
call_typed G r l w es ts None e d h = absurd (cc)
call_typed G r l w es ts (Some (meaning.Scalar k p)) e d h = absurd (cc)
call_typed G r l w es ts (Some (meaning.Array k q p)) e d h = absurd (cc)
call_typed G r l w es ts (Some (meaning.Function result slots None s)) e d h = absurd (cc)
call_typed G r l w es ts (Some (meaning.Function result slots (Some c) s)) e d h =
    let s = split _ _ h in call e (d (eqb-true (length es) (length slots) (held _ _ s.1))) (held _ _ s.0)
call_typed G r l w es ts (Some meaning.EndOfFile) e d h = absurd (cc)

-- a left side that has no fault is a place, and is typed as one
place_typed : (G : Scope) (x : Expr) → Whole x → is_place x ≡ true
    → fault x G (left_role (is_place x)) ≡ None → Typed G Written x (tree x G)
place_typed G x whole p h = whole G Written (ap (λ b. fault x G (left_role b)) (sym p) ∙ h)

module _ (N E : Type 0) (node_of : N → ExprNode) (of : E → Expr) (whole : (e : E) → Whole (of e)) (G : Scope) where
  args_whole : (slots : List Slot) (es : List E) → args_fault slots (map of es) G ≡ None
      → length (map of es) ≡ length slots → Passed G slots (map of es) (args_tree slots (map of es) G)
  args_whole [] [] h e = none
  args_whole (s ∷ slots) [] h e = absurd (omega (arith, e))
  args_whole [] (x ∷ es) h e = absurd (omega (arith, e))
  args_whole (slot.Scalar k ∷ slots) (x ∷ es) h e =
      let s = split _ _ h in value (whole x G Value s.0) (args_whole slots es s.1 (omega (arith, e)))
  args_whole (slot.Address k q ∷ slots) (x ∷ es) h e =
      let s = split _ _ h in address (whole x G (Array k q) s.0) (args_whole slots es s.1 (omega (arith, e)))

  abbrev Is : Spot → Role → ExprNode → Type 0
  Is l r n = fault (at l n) G r ≡ None → Typed G r (at l n) (tree (at l n) G)

  at_node : (l : Spot) (r : Role) (y : ExprNode-F N E)
      → fault (at l (roll-ExprNode (map-ExprNode N E ExprNode Expr node_of of y))) G r ≡ None
      → Typed G r (at l (roll-ExprNode (map-ExprNode N E ExprNode Expr node_of of y)))
      (tree (at l (roll-ExprNode (map-ExprNode N E ExprNode Expr node_of of y))) G)
  at_node l r (ExprNode-F.Number v k) =
      subst (Is l r) (sym (node.rolls-Number v k))
      (λ h. subst (Typed G r _) (sym (tree-Number G l v k))
      (number (held _ _ (sym (fault-Number G r l v k) ∙ h))))
  at_node l r (ExprNode-F.Name w) =
      subst (Is l r) (sym (node.rolls-Name w))
      (λ h. subst (Typed G r _) (sym (tree-Name G l w))
      (name_typed G r l w (look_up G w) refl (sym (fault-Name G r l w) ∙ h)))
  at_node l r (ExprNode-F.Element w (Some x) i) =
      subst (Is l r) (sym (node.rolls-Element w (Some (of x)) (of i)))
      (λ h. let s = split _ _ (sym (fault-Row G r l w (of x) (of i)) ∙ h) in
      let u = split _ _ s.1 in
      subst (Typed G r _) (sym (tree-Row G l w (of x) (of i)))
      (row_typed G r l w (of x) (of i) _ _ (look_up G w) refl (whole x G Value s.0)
      (whole i G Value u.0) u.1))
  at_node l r (ExprNode-F.Element w None i) =
      subst (Is l r) (sym (node.rolls-Element w None (of i)))
      (λ h. let s = split _ _ (sym (fault-Element G r l w (of i)) ∙ h) in
      subst (Typed G r _) (sym (tree-Element G l w (of i)))
      (element_typed G r l w (of i) _ (look_up G w) refl (whole i G Value s.0) s.1))
  at_node l r (ExprNode-F.Call w es) =
      subst (Is l r) (sym (node.rolls-Call w (map of es)))
      (λ h. let s = split _ _ (sym (fault-Call G r l w (map of es)) ∙ h) in
      subst (Typed G r _) (sym (tree-Call G l w (map of es)))
      (call_typed G r l w (map of es) _ (look_up G w) refl
      (args_whole (slots_of (look_up G w)) es s.0) s.1))
  at_node l r (ExprNode-F.Group e) =
      subst (Is l r) (sym (node.rolls-Group (of e)))
      (λ h. subst (Typed G r _) (sym (tree-Group G l (of e)))
      (group (whole e G r (sym (fault-Group G r l (of e)) ∙ h))))
  at_node l r (ExprNode-F.Unary op e) =
      subst (Is l r) (sym (node.rolls-Unary op (of e)))
      (λ h. let s = split _ _ (sym (fault-Unary G r l op (of e)) ∙ h) in
      subst (Typed G r _) (sym (tree-Unary G l op (of e)))
      (operator (whole e G Value s.0) (held _ _ s.1)))
  at_node l r (ExprNode-F.Cast to e) =
      subst (Is l r) (sym (node.rolls-Cast to (of e)))
      (λ h. let s = split _ _ (sym (fault-Cast G r l to (of e)) ∙ h) in
      subst (Typed G r _) (sym (tree-Cast G l to (of e)))
      (conversion (whole e G Value s.0) (held _ _ s.1)))
  at_node l r (ExprNode-F.Bump op e) =
      subst (Is l r) (sym (node.rolls-Bump op (of e)))
      (λ h. let s = split _ _ (sym (fault-Bump G r l op (of e)) ∙ h) in let u = split _ _ s.1 in
      let p = held _ _ u.0 in
      subst (Typed G r _) (sym (tree-Bump G l op (of e)))
      (step (passes_place (of e) p) (place_typed G (of e) (whole e) p s.0) (held _ _ u.1)))
  at_node l r (ExprNode-F.Binary op x y) =
      subst (Is l r) (sym (node.rolls-Binary op (of x) (of y)))
      (λ h. let s = split _ _ (sym (fault-Binary G r l op (of x) (of y)) ∙ h) in let u = split _ _ s.1 in
      subst (Typed G r _) (sym (tree-Binary G l op (of x) (of y)))
      (operation (whole x G Value s.0) (whole y G Value u.0) (held _ _ u.1)))
  at_node l r (ExprNode-F.Choice c x y) =
      subst (Is l r) (sym (node.rolls-Choice (of c) (of x) (of y)))
      (λ h. let s = split _ _ (sym (fault-Choice G r l (of c) (of x) (of y)) ∙ h) in let u = split _ _ s.1 in
      let v = split _ _ u.1 in
      subst (Typed G r _) (sym (tree-Choice G l (of c) (of x) (of y)))
      (either (whole c G Value s.0) (whole x G Value u.0) (whole y G Value v.0) (held _ _ v.1)))
  at_node l r (ExprNode-F.Assign op x y) =
      subst (Is l r) (sym (node.rolls-Assign op (of x) (of y)))
      (λ h. let s = split _ _ (sym (fault-Assign G r l op (of x) (of y)) ∙ h) in let u = split _ _ s.1 in
      let v = split _ _ u.1 in let p = held _ _ v.0 in
      subst (Typed G r _) (sym (tree-Assign G l op (of x) (of y)))
      (assignment (passes_place (of x) p) (place_typed G (of x) (whole x) p s.0) (whole y G Value u.0)
      (held _ _ v.1)))
  at_node l r (ExprNode-F.Comma x y) =
      subst (Is l r) (sym (node.rolls-Comma (of x) (of y)))
      (λ h. let s = split _ _ (sym (fault-Comma G r l (of x) (of y)) ∙ h) in let u = split _ _ s.1 in
      subst (Typed G r _) (sym (tree-Comma G l (of x) (of y)))
      (sequence (whole x G Free s.0) (whole y G Value u.0) (held _ _ u.1)))

-- The rules give an expression without a fault its typed tree.
pub complete : (e : Expr) → Whole e
complete =
    ind-Expr WholeNode Whole
    (λ x y e. subst (λ (x : ExprNode-F ExprNode Expr). WholeNode (roll-ExprNode x)) e
    (λ l G r. at_node _ _ (λ e'. e'.0) (λ e'. e'.0) (λ s. s.1) G l r y))
    (λ x y e. subst (λ (x : Expr-F ExprNode Expr). Whole (roll-Expr x)) e
    (y.node.1 (record { offset = y.offset; at = y.at })))
