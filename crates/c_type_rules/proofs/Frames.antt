-- The names at file scope: one block, in which declarations of a function agree.
use Rattle.std.proofs.Common.{◌≡◌, ℕ, Bool, true, false, cond, List, [], ◌∷◌, Option, Some, None, refl, sym, ap, ◌∙◌}
use Rattle.std.proofs.Common.{subst}
use Rattle.std.specs.Prelude.{is_some, ◌||◌, not}
use Rattle.std.specs.Cmp.Lexicographic.{bytes_decides}
use Rattle.std.proofs.lemmas.Bool.{false≢true}
use Rattle.c_tree.specs.declared.token.Kind.{Kind}
use Rattle.c_tree.specs.declared.typed.Callee.{Callee}
use Rattle.c_tree.specs.declared.typed.Slot.{Slot}
use Rattle.c_tree.specs.declared.typed.Slot.TheVariants as slot
use Rattle.c_type_expr.specs.declared.meaning.Binding.{Binding}
use Rattle.c_type_expr.specs.declared.meaning.Meaning.{Meaning}
use Rattle.c_type_expr.specs.declared.meaning.Meaning.TheVariants as meaning
use Rattle.c_type_expr.specs.Scope.{Scope, Frame, same_name, find, look_up, or_else, declared_in, bound}
use Rattle.c_type.specs.Declarations.{twice_fault}
use Rattle.c_type.specs.States.{is_end}
use Rattle.c_type.specs.Units.{same_slot, same_slots, same_result, type_fault}
use Rattle.c_constant.proofs.SameKinds.{kinds_are}
use Rattle.c_type_expr.specs.Roles.{same_row}
use Rattle.c_type_rules.proofs.Values.{both, rows_are}
use Rattle.c_type_rules.proofs.Moves.{held, some_is}

-- EQUAL SIGNATURES

-- equal slots are one
slot_is : (s t : Slot) → same_slot s t ≡ true → s ≡ t
slot_is (slot.Scalar j) (slot.Scalar k) h = ap slot.Scalar (kinds_are j k h)
slot_is (slot.Scalar j) (slot.Address k q) h = absurd (false≢true h)
slot_is (slot.Address j p) (slot.Scalar k) h = absurd (false≢true h)
slot_is (slot.Address j p) (slot.Address k q) h =
    let r = both _ (same_row p q) h in
    ap (λ j. slot.Address j p) (kinds_are j k r.0) ∙ ap (λ p. slot.Address k p) (rows_are p q r.1)

-- equal lists of slots are one
slots_are : (ss ts : List Slot) → same_slots ss ts ≡ true → ss ≡ ts
slots_are [] [] h = refl
slots_are [] (t ∷ ts) h = absurd (false≢true h)
slots_are (s ∷ ss) [] h = absurd (false≢true h)
slots_are (s ∷ ss) (t ∷ ts) h =
    let p = both _ _ h in ap (λ x. x ∷ ss) (slot_is s t p.0) ∙ ap (λ xs. t ∷ xs) (slots_are ss ts p.1)

-- equal results are one
result_is : (a b : Option Kind) → same_result a b ≡ true → a ≡ b
result_is None None h = refl
result_is None (Some k) h = absurd (false≢true h)
result_is (Some j) None h = absurd (false≢true h)
result_is (Some j) (Some k) h = ap Some (kinds_are j k h)

-- NAMES

-- a name in the scope in which it is declared, and another
pub declared_look : (b : Binding) (G : Scope) (w : List ℕ) → look_up (declared_in b G) w
    ≡ cond (same_name b.name w) (Some b.meaning) (look_up G w)
declared_look b [] w = by (same_name b.name w)
  where
    by : (t : Bool) → or_else (cond t (Some b.meaning) None) None ≡ cond t (Some b.meaning) None
    by true = refl
    by false = refl
declared_look b (F ∷ G) w = by (same_name b.name w)
  where
    by : (t : Bool) → or_else (cond t (Some b.meaning) (find F w)) (look_up G w)
        ≡ cond t (Some b.meaning) (or_else (find F w) (look_up G w))
    by true = refl
    by false = refl

-- of one block a name is looked for there alone
pub one_block : (F : Frame) (w : List ℕ) → look_up (F ∷ []) w ≡ find F w
one_block F w = by (find F w)
  where
    by : (o : Option Meaning) → or_else o None ≡ o
    by None = refl
    by (Some m) = refl

-- the name is a function of this signature
pub record IsFunction (G : Scope) (w : List ℕ) (r : Option Kind) (s : List Slot) : Type 0 where
  pub callee : Option Callee
  pub defined : Bool
  pub is : look_up G w ≡ Some (meaning.Function r s callee defined)

pub record IsSignature (m : Meaning) (r : Option Kind) (s : List Slot) : Type 0 where
  pub callee : Option Callee
  pub defined : Bool
  pub is : m ≡ meaning.Function r s callee defined

-- a new declaration of a name that is a function is of the same signature
abbrev pub Agrees : Binding → Scope → Type 0
Agrees b G = (r : Option Kind) (s : List Slot) → IsFunction G b.name r s → IsSignature b.meaning r s

-- so what is a function stays one
pub stays : (b : Binding) (G : Scope) → Agrees b G → (w : List ℕ) (r : Option Kind) (s : List Slot)
    → IsFunction G w r s
    → IsFunction (declared_in b G) w r s
stays b G agrees w r s i = by (same_name b.name w) refl
  where
    by : (t : Bool) → same_name b.name w ≡ t → IsFunction (declared_in b G) w r s
    by true e =
        let g = agrees r s (subst (λ w. IsFunction G w r s) (sym ((bytes_decides b.name w).0 e)) i) in
        record {
          callee = g.callee;
          defined = g.defined;
          is = declared_look b G w
              ∙ ap (λ t. cond t (Some b.meaning) (look_up G w)) e ∙ ap Some g.is;
        }
    by false e =
        record {
          callee = i.callee;
          defined = i.defined;
          is = declared_look b G w
              ∙ ap (λ t. cond t (Some b.meaning) (look_up G w)) e ∙ i.is;
        }

-- a name has one signature
pub one_result : (G : Scope) (w : List ℕ) (r r' : Option Kind) (s s' : List Slot) → IsFunction G w r s
    → IsFunction G w r' s' → r ≡ r'
one_result G w r r' s s' i j = ap result_in (some_is _ _ (sym i.is ∙ j.is))
  where
    result_in : Meaning → Option Kind
    result_in (meaning.Function r s c d) = r
    result_in _ = r

-- and takes one list of parameters
pub one_params : (G : Scope) (w : List ℕ) (r r' : Option Kind) (s s' : List Slot) → IsFunction G w r s
    → IsFunction G w r' s' → s ≡ s'
one_params G w r r' s s' i j = ap params_in (some_is _ _ (sym i.is ∙ j.is))
  where
    params_in : Meaning → List Slot
    params_in (meaning.Function r s c d) = s
    params_in _ = s

-- WHAT MAY BE DECLARED

-- a name that is not taken agrees
pub fresh_agrees : (w : List ℕ) (m : Meaning) (l : ℕ) (F : Frame) → twice_fault (F ∷ []) w l ≡ None
    → Agrees (bound w m) (F ∷ [])
fresh_agrees w m l F h r s i = absurd (by (find F w) (sym (one_block F w) ∙ i.is) (held _ _ h))
  where
    by : (o : Option Meaning) → o ≡ Some (meaning.Function r s i.callee i.defined)
        → not (is_some o || is_end (look_up (F ∷ []) w)) ≡ true → ⊥
    by None e k = absurd (cc)
    by (Some n) e k = absurd (false≢true k)

-- a declaration of a function that has no fault agrees
pub type_agrees : (w : List ℕ) (given : Option Kind) (slots : List Slot) (c : Option Callee) (d : Bool) (l : ℕ)
    (G : Scope)
    → type_fault given slots (look_up G w) l ≡ None → Agrees (bound w (meaning.Function given slots c d)) G
type_agrees w given slots c d l G h r s i =
    let e = both _ _ (held _ _ (sym (ap (λ m. type_fault given slots m l) i.is) ∙ h)) in
    record {
      callee = c;
      defined = d;
      is = ap (λ r. meaning.Function r slots c d) (sym (result_is r given e.0))
          ∙ ap (λ s. meaning.Function r s c d) (sym (slots_are s slots e.1));
    }
