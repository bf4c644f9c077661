-- The fault that the folds find stands at the first judgement in the order of the text that has no types.
use Rattle.std.proofs.Common.{◌≡◌, List, [], ◌∷◌, ◌++◌, Some, None, refl, sym, ap, ◌∙◌, subst}
use Rattle.c_type_expr.specs.declared.fault.TypeFault.{TypeFault}
use Rattle.c_type_expr.specs.declared.fault.TypeFault.TheVariants.{Memory}
use Rattle.c_type_expr.specs.Blames.{Blame, first}
use Rattle.c_type_rules.specs.Judgements.{Judgement, a_test}
use Rattle.c_type_rules.specs.Order.{parts}
use Rattle.c_type_rules.specs.FirstFaults.{Passes, AllPass, FirstFault, fails, inside}
use Rattle.c_type_rules.proofs.FollowsParts.{fault_of, first_of}
use Rattle.c_type_rules.proofs.Follows.{Follows, follows}
use Rattle.c_type_rules.proofs.Passing.{passes_none, none_passes}

-- ---- from the relation to the folds

-- where all before one pass, the first fault is that one's
past : (front : List Judgement) (x : Judgement) (back : List Judgement) (f : TypeFault) → AllPass front
    → fault_of x ≡ Some f → first_of (front ++ x ∷ back) ≡ Some f
past [] x [] f p h = h
past [] x (y ∷ back) f p h = ap (λ b. first b (first_of (y ∷ back))) h
past (a ∷ []) x back f p h =
    ap (λ b. first b (first_of (x ∷ back))) (passes_none a p.0) ∙ past [] x back f tt h
past (a ∷ c ∷ front) x back f p h =
    ap (λ b. first b (first_of ((c ∷ front) ++ x ∷ back))) (passes_none a p.0) ∙ past (c ∷ front) x back f p.1 h

-- no list with a member is empty
no_member : (front : List Judgement) (x : Judgement) (back : List Judgement) → [] ≡ front ++ x ∷ back → ⊥
no_member [] x back e = cc
no_member (y ∷ front) x back e = cc

-- what has the first fault of its parts has the fault that stands there
through : (a : Judgement) (front : List Judgement) (x : Judgement) (back : List Judgement) (f : TypeFault) → Follows a
    → parts a ≡ front ++ x ∷ back → first_of (front ++ x ∷ back) ≡ Some f → fault_of a ≡ Some f
through (a_test b) front x back f w s h = absurd (no_member front x back s)
through _ front x back f w s h = w ∙ ap first_of s ∙ h

-- the first fault by the relation is that of the folds
pub fault_is : (a : Judgement) (f : TypeFault) → FirstFault a f → fault_of a ≡ Some f
fault_is _ f (fails e m) = e
fault_is a f (inside front x back s p d) =
    through a front x back f (follows a) s (past front x back f p (fault_is x f d))

-- and is never want of memory
pub never_memory : (a : Judgement) (f : TypeFault) → FirstFault a f → f ≡ Memory → ⊥
never_memory _ f (fails e m) = m
never_memory _ f (inside front x back s p d) = never_memory x f d

-- what has types has no fault
pub no_fault : (a : Judgement) (f : TypeFault) → Passes a → FirstFault a f → ⊥
no_fault a f p d = let e : None ≡ Some f = sym (passes_none a p) ∙ fault_is a f d in absurd (cc)

-- ---- from the folds to the relation

-- a fault of the folds is one by the relation
abbrev pub Good : Judgement → Type 0
Good a = (f : TypeFault) → fault_of a ≡ Some f → FirstFault a f

-- each of some judgements is good
abbrev pub AllGood : List Judgement → Type 0
AllGood [] = Unit {0}
AllGood (x ∷ xs) = Good x × AllGood xs

-- good judgements behind good ones are good
pub good_append : (xs ys : List Judgement) → AllGood xs → AllGood ys → AllGood (xs ++ ys)
good_append [] ys g h = h
good_append (x ∷ xs) ys g h = (g.0, good_append xs ys g.1 h)

-- where the first fault of several stands
record Located (xs : List Judgement) (f : TypeFault) : Type 0 where
  front : List Judgement
  found : Judgement
  back : List Judgement
  split : xs ≡ front ++ found ∷ back
  before : AllPass front
  there : FirstFault found f

-- behind one that passes
further : (x : Judgement) (xs : List Judgement) (f : TypeFault) → Passes x → Located xs f → Located (x ∷ xs) f
further x xs f p l = record {
  front = x ∷ l.front;
  found = l.found;
  back = l.back;
  split = ap (λ (ys : List Judgement). x ∷ ys) l.split;
  before = (p, l.before);
  there = l.there;
}

locate : (xs : List Judgement) (f : TypeFault) → AllGood xs → first_of xs ≡ Some f → Located xs f
locate [] f g e = absurd (cc)
locate (x ∷ []) f g e =
    record { front = []; found = x; back = []; split = refl; before = tt; there = g.0 f e }
locate (x ∷ y ∷ xs) f g e = by (fault_of x) refl e (locate (y ∷ xs) f g.1)
  where
    by : (o : Blame) → fault_of x ≡ o → first o (first_of (y ∷ xs)) ≡ Some f
        → (first_of (y ∷ xs) ≡ Some f → Located (y ∷ xs) f) → Located (x ∷ y ∷ xs) f
    by None h e rest = further x (y ∷ xs) f (none_passes x h) (rest e)
    by (Some k) h e rest =
        record { front = []; found = x; back = y ∷ xs; split = refl; before = tt; there = g.0 f (h ∙ e) }

-- a judgement whose parts are good is good
pub good_by : (a : Judgement) → fault_of a ≡ first_of (parts a) → AllGood (parts a) → Good a
good_by a w g f e =
    let l = locate (parts a) f g (sym w ∙ e) in inside l.front l.found l.back l.split l.before l.there

-- the fault is not want of memory
abbrev pub Sane : Blame → Type 0
Sane None = Unit {0}
Sane (Some Memory) = ⊥
Sane (Some f) = Unit {0}

-- a test whose fault is not want of memory is good
pub test_good : (b : Blame) → Sane b → Good (a_test b)
test_good b s f e = fails e (λ m. let h : Sane (Some Memory) =
    subst Sane (e ∙ ap (λ (f : TypeFault). Some f) m) s in h)
