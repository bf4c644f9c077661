-- What is told behind the first fault of a text: step by step, and in one way.
use Rattle.std.proofs.Common.{◌≡◌, ◌<◌, ◌-◌, ℕ, zero, suc, Bool, true, false, List, [], ◌++◌, Option, Some, None}
use Rattle.std.proofs.Common.{refl, sym, ap, subst, ◌∙◌, arith, unwrap_or, append_assoc, Result, Ok, Err, OnOk}
use Rattle.std.proofs.lemmas.List.{append-nil}
use Rattle.c_lex.specs.Lexes.{Tokens}
use Rattle.c_type_expr.specs.declared.fault.TypeFault.{TypeFault}
use Rattle.c_front.specs.declared.refusal.Refusal.{Refusal}
use Rattle.c_front.specs.declared.refusal.Refusal.TheVariants.{Lex, Directive, Parse, Typing}
use Rattle.c_front.specs.Fronts.{IsAccepted}
use Rattle.c_front.specs.Refusals.{IsRefused}
use Rattle.c_front.proofs.Once.{not_both, refused_once}
use Rattle.c_lex.specs.declared.fault.LexFault.{LexFault}
use Rattle.c_pre.specs.declared.fault.PreFault.{PreFault}
use Rattle.c_parse.specs.declared.unit.ParseFault.{ParseFault}
use Rattle.c_tree.specs.declared.typed.TypedProgram.{TypedProgram}
use Rattle.trips_messages.specs.Mended.{mended}
use Rattle.trips_explain_answers.specs.Told.{type_told}
use Rattle.trips_explain_answers.specs.Further.{place_of, is_behind, IsNext, GoesBehind, Goes, IsMore}

-- an accepted text has no fault
pub accepted_next : (next : List ℕ) (o : ℕ) (program : TypedProgram) → IsAccepted next program → IsNext next o None
accepted_next next o program is e refused = absurd (not_both next program (Typing e) is refused)

-- nor has one of typing that another stage refuses
pub lexer_next : (next : List ℕ) (o : ℕ) (f : LexFault) → IsRefused next (Lex f) → IsNext next o None
lexer_next next o f is e refused = let same = refused_once next (Lex f) (Typing e) is refused in absurd (cc)

pub directive_next : (next : List ℕ) (o : ℕ) (f : PreFault) → IsRefused next (Directive f) → IsNext next o None
directive_next next o f is e refused =
    let same = refused_once next (Directive f) (Typing e) is refused in absurd (cc)

pub grammar_next : (next : List ℕ) (o : ℕ) (f : ParseFault) → IsRefused next (Parse f) → IsNext next o None
grammar_next next o f is e refused = let same = refused_once next (Parse f) (Typing e) is refused in absurd (cc)

-- the fault of a refusal by the typing, else another
fault_in : TypeFault → Refusal → TypeFault
fault_in d (Typing e) = e
fault_in d r = d

-- one fault of typing is told of a text
one_typing : (next : List ℕ) (e f : TypeFault) → IsRefused next (Typing e) → IsRefused next (Typing f) → e ≡ f
unfolding fault_in
one_typing next e f x y = ap (fault_in e) (refused_once next (Typing e) (Typing f) x y)

-- a fault of typing that does not stand behind the offset is not next, and no other is
pub typing_next : (next : List ℕ) (o : ℕ) (f : TypeFault) → IsRefused next (Typing f)
    → is_behind o (place_of f) ≡ false → IsNext next o None
typing_next next o f is early e refused =
    subst (λ (t : TypeFault). is_behind o (place_of t) ≡ false) (one_typing next f e is refused) early

-- one fault less is left
one_left : (n : ℕ) → suc n - 1 ≡ n
one_left n = omega arith

-- no fault stands behind
pub goes_none : (file text : List ℕ) (ts : Tokens) (n : ℕ) (now next : List ℕ) (o : ℕ) → 0 < n
    → next ≡ mended now ts o → IsNext next o None → Goes file text ts n now o []
goes_none file text ts zero now next o some is none = absurd (omega (arith, some))
goes_none file text ts (suc n) now next o some is none =
    (None, subst (λ (t : List ℕ). IsNext t o None) is none, refl)

-- a fault stands behind, and more behind it
pub goes_on : (file text : List ℕ) (ts : Tokens) (n : ℕ) (now next : List ℕ) (o : ℕ) (e : TypeFault) (more : List ℕ)
    → 0 < n → next ≡ mended now ts o → IsNext next o (Some e)
    → Goes file text ts (n - 1) next (unwrap_or (place_of e) 0) more
    → Goes file text ts n now o (type_told file text ts e ++ more)
goes_on file text ts zero now next o e more some is found rest = absurd (omega (arith, some))
goes_on file text ts (suc n) now next o e more some is found rest = (
  Some e,
  subst (λ (t : List ℕ). IsNext t o (Some e)) is found,
  (
    more,
    subst (λ (t : List ℕ). Goes file text ts n t (unwrap_or (place_of e) 0) more) is
        (subst (λ (m : ℕ). Goes file text ts m next (unwrap_or (place_of e) 0) more) (one_left n) rest),
    refl,
  ),
)

-- what follows where a call returns
pub on_ok : {A E : Type 0} (P Q : Type 0) (r : Result A E) → OnOk r P → (P → Q) → OnOk r Q
on_ok P Q (Ok v) p f = f p
on_ok P Q (Err e) p f = tt

-- nothing more is written where no fault stands behind
pub ends_told : (file text : List ℕ) (ts : Tokens) (n : ℕ) (now next first : List ℕ) (o : ℕ) (f : Option TypeFault)
    (out : List ℕ) → 0 < n → next ≡ mended now ts o → first ≡ next → IsNext first o f → f ≡ None
    → (more : List ℕ) × Goes file text ts n now o more × (out ≡ out ++ more)
ends_told file text ts n now next first o f out some is same found none = (
  [],
  goes_none file text ts n now next o some is
      (subst (λ (t : List ℕ). IsNext t o None) same
      (subst (λ (g : Option TypeFault). IsNext first o g) none found)),
  sym (append-nil out),
)

-- a fault is told, and then what stands behind it
pub step_told : (file text : List ℕ) (ts : Tokens) (n : ℕ) (now next first second : List ℕ) (o : ℕ)
    (f : Option TypeFault) (e : TypeFault) (at : ℕ) (place : Option ℕ) (told slice old mid new : List ℕ) → 0 < n
    → next ≡ mended now ts o → first ≡ next → IsNext first o f → f ≡ Some e → place ≡ place_of e
    → at ≡ unwrap_or place 0 → told ≡ type_told file text ts e → slice ≡ told → mid ≡ old ++ slice → second ≡ next
    → (more : List ℕ) × Goes file text ts (n - 1) second at more × (new ≡ mid ++ more)
    → (more : List ℕ) × Goes file text ts n now o more × (new ≡ old ++ more)
step_told file text ts n now next first second o f e at place told slice old mid new some is same found is_some where_it
    place_is told_is slice_is mid_is again x =
    let here : IsNext next o (Some e) = subst (λ (t : List ℕ). IsNext t o (Some e)) same
    (subst (λ (g : Option TypeFault). IsNext first o g) is_some found) in
    let at_is : at ≡ unwrap_or (place_of e) 0 = place_is ∙ ap (λ (p : Option ℕ). unwrap_or p 0) where_it in
    let rest : Goes file text ts (n - 1) next (unwrap_or (place_of e) 0) x.0 =
    subst (λ (k : ℕ). Goes file text ts (n - 1) next k x.0) at_is
    (subst (λ (t : List ℕ). Goes file text ts (n - 1) t at x.0) again x.1) in
    let written : mid ≡ old ++ type_told file text ts e =
    mid_is ∙ ap (λ (t : List ℕ). old ++ t) (slice_is ∙ told_is) in (
      type_told file text ts e ++ x.0,
      goes_on file text ts n now next o e x.0 some is here rest,
      x.2 ∙ ap (λ (t : List ℕ). t ++ x.0) written ∙ append_assoc old (type_told file text ts e) x.0,
    )

-- one fault is next
next_once : (next : List ℕ) (o : ℕ) (a b : Option TypeFault) → IsNext next o a → IsNext next o b → a ≡ b
next_once next o None None x y = refl
next_once next o None (Some e) x y =
    let early : is_behind o (place_of e) ≡ false = x e y.0 in let late : is_behind o (place_of e) ≡ true = y.1 in
    absurd (cc)
next_once next o (Some e) None x y =
    let early : is_behind o (place_of e) ≡ false = y e x.0 in let late : is_behind o (place_of e) ≡ true = x.1 in
    absurd (cc)
next_once next o (Some e) (Some f) x y =
    ap (λ (t : TypeFault). Some t) (one_typing next e f x.0 y.0)

-- one report is told of a fault that was found or not, where one is told behind it
behind_once : (file text : List ℕ) (ts : Tokens) (rest : ℕ → List ℕ → Type 0)
    → ((at : ℕ) (a b : List ℕ) → rest at a → rest at b → a ≡ b)
    → (f : Option TypeFault) (a b : List ℕ) → GoesBehind file text ts rest f a → GoesBehind file text ts rest f b
    → a ≡ b
behind_once file text ts rest once None a b x y = x ∙ sym y
behind_once file text ts rest once (Some e) a b x y =
    x.2 ∙ ap (λ (t : List ℕ). type_told file text ts e ++ t)
    (once (unwrap_or (place_of e) 0) x.0 y.0 x.1 y.1) ∙ sym y.2

-- one report is told behind an offset
goes_once : (file text : List ℕ) (ts : Tokens) (n : ℕ) (now : List ℕ) (o : ℕ) (a b : List ℕ)
    → Goes file text ts n now o a → Goes file text ts n now o b → a ≡ b
goes_once file text ts zero now o a b x y = x ∙ sym y
goes_once file text ts (suc n) now o a b x y =
    let same : x.0 ≡ y.0 = next_once (mended now ts o) o x.0 y.0 x.1 y.1 in
    let here = subst (λ (f : Option TypeFault). GoesBehind file text ts
    (λ (at : ℕ) (more : List ℕ). Goes file text ts n (mended now ts o) at more) f a) same x.2 in
    behind_once file text ts (λ (at : ℕ) (more : List ℕ). Goes file text ts n (mended now ts o) at more)
    (λ at c d p q. goes_once file text ts n (mended now ts o) at c d p q) y.0 a b here y.2

-- one report is told behind the first fault
pub more_once : (file text : List ℕ) (ts : Tokens) (place : Option ℕ) (a b : List ℕ) → IsMore file text ts place a
    → IsMore file text ts place b → a ≡ b
more_once file text ts None a b x y = x ∙ sym y
more_once file text ts (Some at) a b x y = goes_once file text ts 9 text at a b x y
