-- In a good block every table of tokens, whatever reads and loads are answered, agrees with a case.
use Rattle.std.proofs.Common.{not, ◌≡◌, ℕ, zero, suc, ◌+◌, ◌<◌, ◌≤◌, Bool, true, false, List, []}
use Rattle.std.proofs.Common.{◌∷◌, length, Option, Some, None, slice_get, refl, sym, ap, ap₂, ◌∙◌}
use Rattle.std.proofs.Common.{subst, arith}
use Rattle.trips_isa.specs.declared.form.Role.{Role}
use Rattle.trips_isa.specs.declared.form.Role.TheVariants.{Empty, Reading, Free, Nothing, Copy, One}
use Rattle.trips_isa.specs.declared.form.Role.TheVariants.{Both}
use Rattle.trips_isa.specs.declared.block.Sense.{Sense}
use Rattle.trips_isa.specs.declared.block.Sense.TheVariants.{Always, OnTrue, OnFalse}
use Rattle.block_cases.specs.declared.token.CaseToken.{CaseToken}
use Rattle.block_cases.specs.declared.token.CaseToken.TheVariants.{Absent, Null, Bit}
use Rattle.trips_isa.specs.declared.node.Node.{Node}
use Rattle.block_cases.specs.Nodes.{targets, names, hits, Ranked, IsRanked}
use Rattle.block_cases.specs.CaseRule.{no, matches, gives, fire, if_matched, taken, or_else, first}
use Rattle.block_cases.specs.CaseRule.{pulled}
use Rattle.block_cases.specs.Cases.{deepest, present, token, has_bit, ones_pass, IsCase}
use Rattle.block_cases.specs.CaseRule.{one_word}
use Rattle.block_cases.specs.Cases.{weighed, tokens}
use Rattle.block_cases.specs.Good.{Good}
use Rattle.block_cases.specs.inside.Good.{OneToken}
use Rattle.trips_isa.specs.declared.block.Token.TheVariants.{Null as NullToken, Word}
use Rattle.trips_isa.specs.Rule as rules
use Rattle.trips_isa.specs.Rule.{Answer, low, matched, of_one, of_both, null_beside}
use Rattle.trips_isa.specs.Tables as tables
use Rattle.trips_isa.specs.Tables.{node_gives, Computes}
use Rattle.trips_isa.specs.inside.Tables.{IsTable}
use Rattle.trips_isa.specs.Limits.{most_nodes}
use Rattle.block_cases.specs.inside.Shapes.{shape}
use Rattle.block_cases.proofs.Steady.{Solves, deepest_is}
use Rattle.block_cases.proofs.Alike.{Alike, both_true, and_true, Placed, own, chosen, tabulate}
use Rattle.block_cases.proofs.Alike.{case_of, tabulate_size, alike}

alike_present : (b : Bool) (t u : CaseToken) → Alike b t u → present t ≡ present u
alike_present b Absent Absent a = refl
alike_present b Null Null a = refl
alike_present b (Bit x) (Bit y) a = refl
alike_present b Absent Null a = absurd a
alike_present b Absent (Bit y) a = absurd a
alike_present b Null Absent a = absurd a
alike_present b Null (Bit y) a = absurd a
alike_present b (Bit x) Absent a = absurd a
alike_present b (Bit x) Null a = absurd a

weighed_same : (t u : CaseToken) (k : ℕ) → present t ≡ present u → weighed t k ≡ weighed u k
weighed_same Absent Absent k e = refl
weighed_same Absent Null k e = absurd (cc)
weighed_same Absent (Bit v) k e = absurd (cc)
weighed_same Null Absent k e = absurd (cc)
weighed_same Null Null k e = refl
weighed_same Null (Bit v) k e = refl
weighed_same (Bit u) Absent k e = absurd (cc)
weighed_same (Bit u) Null k e = refl
weighed_same (Bit u) (Bit v) k e = refl

pub tokens_same : (ns : List Node) (f g : ℕ → CaseToken) (q : ℕ)
    → ((x : ℕ) → present (f x) ≡ present (g x)) → tokens ns f q ≡ tokens ns g q
tokens_same [] f g q h = refl
tokens_same (n ∷ ns) f g q h = ap₂ (λ a b. a + b)
    (weighed_same (f 0) (g 0) (hits (targets n) q) (h 0))
    (tokens_same ns (λ y. f (suc y)) (λ y. g (suc y)) q (λ x. h (suc x)))

own_present : (t : CaseToken) → own t ≡ true → present t ≡ true
own_present Absent e = absurd (cc)
own_present Null e = refl
own_present (Bit v) e = refl

ones_pass_all : (n : ℕ) (f : ℕ → Bool) (p : ℕ → Bool) → ((x : ℕ) → f x ≡ true → p x ≡ true)
    → ones_pass (tabulate n f) p ≡ true
ones_pass_all zero f p h = refl
ones_pass_all (suc n) f p h = go (f 0) refl
    (ones_pass_all n (λ y. f (suc y)) (λ y. p (suc y)) (λ x. h (suc x)))
  where
    go : (b : Bool) → f 0 ≡ b → ones_pass (tabulate n (λ y. f (suc y))) (λ y. p (suc y)) ≡ true
        → ones_pass (b ∷ tabulate n (λ y. f (suc y))) p ≡ true
    go true e r = both_true _ _ (h 0 e) r
    go false e r = r

-- its own case
pub record Agrees (ns : List Node) (h : ℕ → CaseToken) : Type 0 where
  pub in_case : List Bool
  pub is_case : IsCase ns in_case
  pub fire_alike : (x : ℕ) → present (h x) ≡ present (token ns in_case x)

pub agrees : (ns : List Node) (rank : ℕ → ℕ) → Ranked ns rank → Placed ns → (h : ℕ → CaseToken)
    → Solves ns (λ x. own (h x)) h → Agrees ns h
agrees ns rank o w h s = record {
  in_case = case_of ns h;
  is_case = record {
    size = tabulate_size (length ns) (chosen ns h);
    bits = ones_pass_all (length ns) (chosen ns h) (has_bit ns (case_of ns h)) (λ x e. let t = and_true _ _ e in
        both_true _ _ t.0 (sym (there x) ∙ own_present (h x) t.1));
  };
  fire_alike = there;
}
  where
    there : (x : ℕ) → present (h x) ≡ present (token ns (case_of ns h) x)
    there x = alike_present _ _ _ (alike ns rank o w h s deepest x (let b : rank x < most_nodes = o.below x in
        let e : deepest ≡ most_nodes = deepest_is in omega arith))

at_most_one : (n : ℕ) → (1 < n → ⊥) → n ≤ 1
at_most_one zero h = omega arith
at_most_one (suc zero) h = omega arith
at_most_one (suc (suc n)) h = absurd (h (omega arith))

one_of : (n : ℕ) → n ≤ 1 → (n ≡ 0 → ⊥) → n ≡ 1
one_of zero h i = absurd (i refl)
one_of (suc zero) h i = refl
one_of (suc (suc n)) h i = absurd (omega arith)

-- in a good block any table of tokens that solves it gives each place the tokens that it must get
pub one_token : (ns : List Node) (wanted : ℕ → Bool) → IsRanked ns → Placed ns → Good ns wanted
    → (h : ℕ → CaseToken) → Solves ns (λ x. own (h x)) h → OneToken ns wanted h
one_token ns wanted r w good h s = record {
  at_most = most;
  exactly = λ q l e. one_of _ (most q l) (λ z. good.no_gap q l e
      (a.in_case, a.is_case, sym (same q) ∙ z));
  exit = one_of _ (at_most_one _ (λ z. good.one_exit
      (a.in_case, a.is_case, subst (λ n. 1 < n) (same 448) z)))
      (λ z. good.exit (a.in_case, a.is_case, sym (same 448) ∙ z));
}
  where
    a : Agrees ns h
    a = agrees ns r.0 r.1 w h s

    same : (q : ℕ) → tokens ns h q ≡ tokens ns (token ns a.in_case) q
    same q = tokens_same ns h (token ns a.in_case) q a.fire_alike

    most : (q : ℕ) → q < 448 → tokens ns h q ≤ 1
    most q l = at_most_one _ (λ z. good.no_two q l
        (a.in_case, a.is_case, subst (λ n. 1 < n) (same q) z))

-- the machine on words ------------------------------------------------------------------------

shape_either : (t u : Answer) → or_else (shape t) (shape u) ≡ shape (tables.or_else t u)
shape_either None u = refl
shape_either (Some NullToken) u = refl
shape_either (Some (Word w)) u = refl

shape_first : (ns : List Node) (q : ℕ) (g : ℕ → Answer)
    → first ns q (λ y. shape (g y)) ≡ shape (tables.first ns q g)
shape_first [] q g = refl
shape_first (n ∷ ns) q g = ap₂ or_else (head (names (targets n) q))
    (shape_first ns q (λ y. g (suc y))) ∙ shape_either (tables.taken (names (targets n) q) g)
    (tables.first ns q (λ y. g (suc y)))
  where
    head : (b : Bool) → taken b (λ y. shape (g y)) ≡ shape (tables.taken b g)
    head true = refl
    head false = refl

no_not : (b : Bool) → no b ≡ not b
no_not true = refl
no_not false = refl

shape_matched : (s : Sense) (p : Answer) → matches s (shape p) ≡ matched s p
shape_matched Always p = refl
shape_matched OnTrue None = refl
shape_matched OnTrue (Some NullToken) = refl
shape_matched OnTrue (Some (Word w)) = refl
shape_matched OnFalse None = refl
shape_matched OnFalse (Some NullToken) = refl
shape_matched OnFalse (Some (Word w)) = no_not (low w)

shape_one : (a : ℕ → ℕ) (l : Answer) → one_word (own (shape (of_one a l))) (shape l)
    ≡ shape (of_one a l)
shape_one a None = refl
shape_one a (Some NullToken) = refl
shape_one a (Some (Word w)) = refl

shape_value : (e : Role) (a : ℕ → ℕ → ℕ) (l r : Answer)
    → gives e (own (shape (rules.gives e a l r))) (shape l) (shape r) ≡ shape (rules.gives e a l r)
shape_value Empty a l r = refl
shape_value Reading a l r = refl
shape_value Free a l r = refl
shape_value Nothing a l r = refl
shape_value Copy a l r = refl
shape_value One a l r = shape_one _ l
shape_value Both a None r = refl
shape_value Both a (Some NullToken) None = refl
shape_value Both a (Some NullToken) (Some NullToken) = refl
shape_value Both a (Some NullToken) (Some (Word y)) = refl
shape_value Both a (Some (Word x)) r = shape_one (a x) r

shape_node : (ns : List Node) (o : Option Node) (a : ℕ → ℕ → ℕ) (g : ℕ → Answer)
    → pulled o (own (shape (node_gives o a (λ q. tables.first ns q g))))
    (λ q. first ns q (λ y. shape (g y))) ≡ shape (node_gives o a (λ q. tables.first ns q g))
shape_node ns None a g = refl
shape_node ns (Some n) a g =
    ap (λ l. fire n v l (first ns (128 + n.slot) h) (first ns (256 + n.slot) h))
    (shape_first ns n.slot g)
    ∙ ap (λ r. fire n v (shape l) r (first ns (256 + n.slot) h)) (shape_first ns (128 + n.slot) g)
    ∙ ap (λ p. fire n v (shape l) (shape r) p) (shape_first ns (256 + n.slot) g)
    ∙ ap (λ b. if_matched b (gives n.role v (shape l) (shape r))) (shape_matched n.sense p)
    ∙ go (matched n.sense p)
  where
    h : ℕ → CaseToken
    h = λ y. shape (g y)

    l : Answer
    l = tables.first ns n.slot g

    r : Answer
    r = tables.first ns (128 + n.slot) g

    p : Answer
    p = tables.first ns (256 + n.slot) g

    v : Bool
    v = own (shape (node_gives (Some n) a (λ q. tables.first ns q g)))

    go : (b : Bool) → if_matched b (gives n.role
        (own (shape (rules.if_matched b (rules.gives n.role a l r)))) (shape l) (shape r))
        ≡ shape (rules.if_matched b (rules.gives n.role a l r))
    go true = shape_value n.role a l r
    go false = refl

pub table_solves : (ns : List Node) (a : Computes) (g : ℕ → Answer) → IsTable ns a g
    → Solves ns (λ x. own (shape (g x))) (λ x. shape (g x))
table_solves ns a g t x =
    ap shape (t x)
    ∙ sym (shape_node ns (slice_get ns x) (a x) g)
    ∙ ap (λ u. pulled (slice_get ns x) (own (shape u)) (λ q. first ns q (λ y. shape (g y))))
    (sym (t x))

-- the law: in a good block no table of tokens has two at a place
pub good_machine : (ns : List Node) (wanted : ℕ → Bool) → IsRanked ns → Placed ns → Good ns wanted
    → (a : Computes) (g : ℕ → Answer) → IsTable ns a g → OneToken ns wanted (λ x. shape (g x))
good_machine ns wanted r w good a g t = one_token ns wanted r w good (λ x. shape (g x))
    (table_solves ns a g t)
