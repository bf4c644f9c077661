-- A table agrees with the nodes also where each computes the very word that the table has.
use Rattle.std.proofs.Common.{◌≡◌, ℕ, zero, suc, ◌+◌, List, [], ◌∷◌, refl, sym, subst, arith, Bool}
use Rattle.std.proofs.Common.{true, false}
use Rattle.std.specs.Prelude.{Some, None, slice_get}
use Rattle.std.proofs.lemmas.Option.{same_Some}
use Rattle.trips_isa.specs.declared.block.Token.TheVariants.{Null, Word}
use Rattle.trips_isa.specs.declared.form.Role.{Role}
use Rattle.trips_isa.specs.declared.form.Role.TheVariants.{Empty, Reading, Free, Nothing, Copy, One, Both}
use Rattle.trips_isa.specs.Rule as rules
use Rattle.trips_isa.specs.Rule.{Answer, matched, if_matched, rule}
use Rattle.ir_forms.specs.declared.flow.FlowNode.{FlowNode}
use Rattle.ir_forms.specs.inside.FlowRuns.{Computes, Obeys, gives, word_or, first, guard_token, sense_of}
use Rattle.trips_isa.specs.Forms.{role_of}

-- each node computes the word that the table has of it
abbrev pub echo : (ℕ → Answer) → Computes
echo h j n l r = word_or (h j) 0

role_echo : (role : Role) (a : ℕ → ℕ → ℕ) (l r : Answer)
    → rules.gives role a l r ≡ rules.gives role (λ (x y : ℕ). word_or (rules.gives role a l r) 0) l r
role_echo Empty a l r = refl
role_echo Reading a l r = refl
role_echo Free a l r = refl
role_echo Nothing a l r = refl
role_echo Copy a l r = refl
role_echo One a None r = refl
role_echo One a (Some Null) r = refl
role_echo One a (Some (Word x)) r = refl
role_echo Both a None r = refl
role_echo Both a (Some Null) None = refl
role_echo Both a (Some Null) (Some t) = refl
role_echo Both a (Some (Word x)) None = refl
role_echo Both a (Some (Word x)) (Some Null) = refl
role_echo Both a (Some (Word x)) (Some (Word y)) = refl

matched_echo : (b : Bool) (role : Role) (a : ℕ → ℕ → ℕ) (l r : Answer)
    → if_matched b (rules.gives role a l r)
    ≡ if_matched b (rules.gives role (λ (x y : ℕ). word_or (if_matched b (rules.gives role a l r)) 0) l r)
matched_echo true role a l r = role_echo role a l r
matched_echo false role a l r = refl

-- the token that a node gives is what it gives where it computes the word of this token
pub echoed : (regs : ℕ → ℕ) (h : ℕ → Answer) (t : Answer) (a : ℕ → ℕ → ℕ) (n : FlowNode) → t ≡ gives regs h a n
    → t ≡ gives regs h (λ (x y : ℕ). word_or t 0) n
echoed regs h t a n e =
    subst (λ (u : Answer). u ≡ gives regs h (λ (x y : ℕ). word_or u 0) n) (sym e)
    (matched_echo (matched (sense_of n.guard) (guard_token h n.guard)) (role_of n.op) a (first regs h n.left)
    (first regs h n.right))

module _ (regs : ℕ → ℕ) (f : Computes) (h : ℕ → Answer) where
  -- a table that agrees with nodes agrees with each of them
  pub obeys_at : (j : ℕ) (ns : List FlowNode) → Obeys regs f h j ns → (y : ℕ) (n : FlowNode) (i : ℕ) → i ≡ j + y
      → slice_get ns y ≡ Some n → h i ≡ gives regs h (f i n) n
  obeys_at j [] o y n i e s = absurd (cc)
  obeys_at j (m ∷ ns) o zero n i e s =
      let d : j ≡ i = omega (arith, e) in
      subst (λ (k : ℕ). h k ≡ gives regs h (f k n) n) d
      (subst (λ (x : FlowNode). h j ≡ gives regs h (f j x) x) (same_Some m n s) o.0)
  obeys_at j (m ∷ ns) o (suc y) n i e s = obeys_at (suc j) ns o.1 y n i (omega (arith, e)) s

  -- a table that agrees with the node at each place agrees with all
  pub obeys_of : (j : ℕ) (ns : List FlowNode)
      → ((y : ℕ) (n : FlowNode) (i : ℕ) → i ≡ j + y → slice_get ns y ≡ Some n → h i ≡ gives regs h (f i n) n)
      → Obeys regs f h j ns
  obeys_of j [] g = tt
  obeys_of j (n ∷ ns) g = (
    g zero n j (omega arith) refl,
    obeys_of (suc j) ns (λ y m i e s. g (suc y) m i (omega (arith, e)) s),
  )
