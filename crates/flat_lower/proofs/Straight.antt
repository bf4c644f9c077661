-- Straight code: what it puts into a variable, and that it leaves the others alone.
use Rattle.std.proofs.Common.{◌≡◌, ◌≢◌, ℕ, ◌+◌, ◌≤◌}
use Rattle.std.proofs.Common.{true, false, cond, List, Option, Some, refl, ap}
use Rattle.std.proofs.Common.{◌∙◌, subst, arith}
use Rattle.std.specs.Prelude.{nat_eq}
use Rattle.std.proofs.lemmas.Bool.Decides.{nat_tests}
use Rattle.c_tree.specs.declared.Kind.{Kind}
use Rattle.c_tree.specs.declared.Kind.TheVariants.{Char, UChar, Short, UShort, Int, UInt, Long, ULong}
use Rattle.c_tree.specs.declared.Kind.TheVariants as kind
use Rattle.trips_isa.specs.declared.op.Op.{Op}
use Rattle.trips_isa.specs.declared.op.Op.TheVariants as op
use Rattle.trips_isa.specs.Alu.{alu_of}
use Rattle.ir_forms.specs.declared.flat.Arg.{Arg}
use Rattle.ir_forms.specs.declared.flat.Arg.TheVariants.{Const, Var}
use Rattle.ir_forms.specs.inside.FlatCode.{Code, Nop, Then, only, Let, Function}
use Rattle.ir_forms.specs.inside.Cells.{apply}
use Rattle.ir_forms.specs.inside.FlatSteps.{State, Env, settle, read, var_put, with_var}
use Rattle.ir_forms.specs.inside.FlatRuns.{checked}
use Rattle.ir_forms.proofs.Leads.{Leads}
use Rattle.ir_forms.proofs.Steps.{code_run, nop_leads, both_lead}
use Rattle.ir_forms.proofs.Statements.{let_leads}
use Rattle.flat_lower.specs.inside.Operations.{one_done, two_done}
use Rattle.flat_lower.specs.inside.Operations.{reduced_here}
use Rattle.flat_lower.proofs.Operators.{reduced_word, Gives}

-- VARIABLES

-- A variable has the word that is put there.
pub put_at : (vars : ℕ → Option ℕ) (to : ℕ) (w : Option ℕ) → var_put vars to w to ≡ w
put_at vars to w = let e : nat_eq to to ≡ true = grind (arith, nat_tests) in ap (λ b. cond b w (vars to)) e

-- Another variable than that which is put keeps what it has.
pub put_other : (vars : ℕ → Option ℕ) (to : ℕ) (w : Option ℕ) (v : ℕ) → v ≢ to
    → var_put vars to w v ≡ vars v
put_other vars to w v h = let e : nat_eq v to ≡ false = grind (arith, nat_tests) in ap (λ b. cond b w (vars v)) e

-- variable x has a word; no other variable but a spare one, and nothing else, has changed
pub record Sets (x spare w : ℕ) (f g : State) : Type 0 where
  pub value : g.vars x ≡ Some w
  pub others : (v : ℕ) → v ≢ x → v ≢ spare → g.vars v ≡ f.vars v
  pub memory : g.memory ≡ f.memory
  pub input : g.input ≡ f.input
  pub output : g.output ≡ f.output
  pub rounds : g.rounds ≡ f.rounds

-- a variable that is set leaves the others alone
pub set_one : (f : State) (x spare w : ℕ) → Sets x spare w f (with_var f x w)
set_one f x spare w = record {
  value = put_at f.vars x (Some w);
  others = λ v h k. put_other f.vars x (Some w) v h;
  memory = refl;
  input = refl;
  output = refl;
  rounds = refl;
}

-- it stands there already
pub set_none : (f : State) (x spare w : ℕ) → f.vars x ≡ Some w → Sets x spare w f f
set_none f x spare w h = record {
  value = h;
  others = λ v a b. refl;
  memory = refl;
  input = refl;
  output = refl;
  rounds = refl;
}

-- one after the other
pub set_both : (x spare v w : ℕ) (f g h : State) → Sets x spare v f g → Sets x spare w g h
    → Sets x spare w f h
set_both x spare v w f g h a b = record {
  value = b.value;
  others = λ u p q. b.others u p q ∙ a.others u p q;
  memory = b.memory ∙ a.memory;
  input = b.input ∙ a.input;
  output = b.output ∙ a.output;
  rounds = b.rounds ∙ a.rounds;
}

-- the spare one first
pub set_spare : (x spare v w : ℕ) (f g h : State) → Sets spare spare v f g → Sets x spare w g h
    → Sets x spare w f h
set_spare x spare v w f g h a b = record {
  value = b.value;
  others = λ u p q. b.others u p q ∙ a.others u q q;
  memory = b.memory ∙ a.memory;
  input = b.input ∙ a.input;
  output = b.output ∙ a.output;
  rounds = b.rounds ∙ a.rounds;
}

module _ (fs : List Function) (base : ℕ) (e : Env) where
  -- code that puts a word into a variable within some turns
  pub record Puts (code : Code) (f : State) (most x spare w : ℕ) : Type 0 where
    pub t : ℕ
    pub to : State
    pub few : t ≤ most
    pub sets : Sets x spare w f to
    pub leads : Leads (code_run checked fs base e code f) t (settle to)

  -- Where a variable has the word already, code that does nothing puts it.
  pub puts_none : (f : State) (most x spare w : ℕ) → f.vars x ≡ Some w → Puts Nop f most x spare w
  puts_none f most x spare w h = record {
    t = 0;
    to = f;
    few = omega arith;
    sets = set_none f x spare w h;
    leads = nop_leads checked fs base e f;
  }

  -- A statement of one operation puts the operation's result into its variable.
  pub puts_let : (o : Op) (a b : Arg) (f : State) (most x spare u v w : ℕ) → 1 ≤ most
      → read checked f a ≡ Some u → read checked f b ≡ Some v → apply checked o u v ≡ Some w
      → Puts (only (Let x o a b)) f most x spare w
  puts_let o a b f most x spare u v w le ha hb ho = record {
    t = 1;
    to = with_var f x w;
    few = le;
    sets = set_one f x spare w;
    leads = let_leads checked fs base e x o a b f u v w ha hb ho;
  }

  -- a variable that is set is read
  pub var_read : (f : State) (v w : ℕ) → f.vars v ≡ Some w → read checked f (Var v) ≡ Some w
  var_read f v w h = ap (λ o. read checked (record f { vars = λ u. o }) (Var v)) h

  -- Code that puts a value, and code behind it that puts another, put the other together.
  pub puts_both : (a b : Code) (f : State) (m n x spare v w : ℕ) (p : Puts a f m x spare v)
      → Puts b p.to n x spare w → Puts (Then a b) f (m + n) x spare w
  puts_both a b f m n x spare v w p q =
      let h = p.few in
      let k = q.few in
      record {
        t = p.t + q.t;
        to = q.to;
        few = omega arith;
        sets = set_both x spare v w f p.to q.to p.sets q.sets;
        leads = both_lead checked fs base e a b f p.to p.t q.t (settle q.to) p.leads q.leads;
      }

  -- code that fills a spare variable, and code behind it that puts a word into a variable, put this word there
  pub puts_spare : (a b : Code) (f : State) (m n x spare v w : ℕ) (p : Puts a f m spare spare v)
      → Puts b p.to n x spare w → Puts (Then a b) f (m + n) x spare w
  puts_spare a b f m n x spare v w p q =
      let h = p.few in
      let k = q.few in
      record {
        t = p.t + q.t;
        to = q.to;
        few = omega arith;
        sets = set_spare x spare v w f p.to q.to p.sets q.sets;
        leads = both_lead checked fs base e a b f p.to p.t q.t (settle q.to) p.leads q.leads;
      }

  -- Code that puts a word puts any word that is equal.
  pub puts_as : (a : Code) (f : State) (m x spare v w : ℕ) → v ≡ w → Puts a f m x spare v
      → Puts a f m x spare w
  puts_as a f m x spare v w h p = subst (λ w. Puts a f m x spare w) h p

  -- Code that puts a word in so many turns at most puts it in more at most.
  pub puts_within : (a : Code) (f : State) (m n x spare w : ℕ) → m ≤ n → Puts a f m x spare w
      → Puts a f n x spare w
  puts_within a f m n x spare w h p =
      let k = p.few in
      record {
        t = p.t;
        to = p.to;
        few = omega arith;
        sets = p.sets;
        leads = p.leads;
      }

  -- OPERATIONS THAT NEVER FAULT

  -- an operation on two variables that never faults puts its result
  pub two_puts : (o : Op) (f : State) (most x y spare a b : ℕ) → 1 ≤ most → f.vars x ≡ Some a
      → f.vars y ≡ Some b → apply checked o a b ≡ Some (alu_of o a b)
      → Puts (two_done x o x y) f most x spare (alu_of o a b)
  two_puts o f most x y spare a b le hx hy ho =
      puts_let o (Var x) (Var y) f most x spare a b (alu_of o a b) le (var_read f x a hx)
      (var_read f y b hy) ho

  -- an operation on one variable that never faults puts its result
  pub one_puts : (o : Op) (f : State) (most to x spare a : ℕ) → 1 ≤ most → f.vars x ≡ Some a
      → apply checked o a 0 ≡ Some (alu_of o a 0)
      → Puts (one_done to o x) f most to spare (alu_of o a 0)
  one_puts o f most to x spare a le hx ho =
      puts_let o (Var x) (Const 0) f most to spare a 0 (alu_of o a 0) le (var_read f x a hx) refl ho

  reduced_puts : (k : Kind) (f : State) (x spare a : ℕ) → f.vars x ≡ Some a
      → Puts (reduced_here k x) f 1 x spare (reduced_word k a)
  unfolding apply
  reduced_puts Char f x spare a h = puts_none f 1 x spare a h
  reduced_puts UChar f x spare a h = puts_none f 1 x spare a h
  reduced_puts Short f x spare a h = puts_none f 1 x spare a h
  reduced_puts UShort f x spare a h = puts_none f 1 x spare a h
  reduced_puts Int f x spare a h = puts_none f 1 x spare a h
  reduced_puts UInt f x spare a h = one_puts op.Extuw f 1 x x spare a (omega arith) h refl
  reduced_puts Long f x spare a h = puts_none f 1 x spare a h
  reduced_puts ULong f x spare a h = puts_none f 1 x spare a h
  reduced_puts kind.Bool f x spare a h = puts_none f 1 x spare a h

  -- an operation, and the result's reduction
  pub then_reduced : (k : Kind) (a : Code) (f : State) (x spare v w : ℕ) → Puts a f 1 x spare v
      → Gives k (reduced_word k v) w → Puts (Then a (reduced_here k x)) f 3 x spare w
  then_reduced k a f x spare v w p g =
      puts_within (Then a (reduced_here k x)) f 2 3 x spare w (omega arith)
      (puts_both a (reduced_here k x) f 1 1 x spare v w p
      (puts_as (reduced_here k x) p.to 1 x spare (reduced_word k v) w g.is
      (reduced_puts k p.to x spare v p.sets.value)))
