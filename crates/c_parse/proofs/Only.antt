-- Tokens have one tree or one fault.
use Rattle.std.proofs.Common.{◌≡◌, List, refl, sym, ap, ◌∙◌}
use Rattle.c_tree.specs.declared.tree.Top.{Top}
use Rattle.c_grammar.specs.Tokens.{Tokens}
use Rattle.c_grammar.specs.inside.Answers.{Answer, tree, syntax, too_deep, Answers}
use Rattle.c_grammar.specs.Accepted.{IsUnit}
use Rattle.c_grammar.proofs.OneAnswer.{same_answer}
use Rattle.c_parse.specs.Parses.{HasFault}
use Rattle.c_parse.specs.inside.Parses.{ParseFails, IsMemory, Tells}
use Rattle.c_parse.specs.declared.unit.ParseFault.{ParseFault}
use Rattle.c_parse.specs.declared.unit.ParseFault.TheVariants.{Syntax, TooDeep, Memory}

-- the items of an answer, and none of a fault
items_of : List Top → Answer → List Top
items_of other (tree xs) = xs
items_of other (syntax l) = other
items_of other (too_deep l) = other

-- tokens spell one tree
pub unit_once : (tokens : Tokens) (xs ys : List Top) → IsUnit tokens xs → IsUnit tokens ys → xs ≡ ys
unfolding items_of
unit_once tokens xs ys a b =
    let same : tree ys ≡ tree xs = same_answer tokens (tree xs) (tree ys) a b in ap (items_of xs) (sym same)

-- the fault that says this answer
fault_of : Answer → ParseFault
fault_of (tree xs) = Memory
fault_of (syntax l) = Syntax l
fault_of (too_deep l) = TooDeep l

-- a fault says the answer of the tokens, which is no tree
record Says (tokens : Tokens) (e : ParseFault) : Type 0 where
  answer : Answer
  there : Answers tokens answer
  is : e ≡ fault_of answer
  no_tree : (xs : List Top) → answer ≡ tree xs → ⊥

says : (tokens : Tokens) (e : ParseFault) → HasFault tokens e → Says tokens e
unfolding fault_of
says tokens (Syntax l) r = record { answer = syntax l; there = r; is = refl; no_tree = λ xs e. absurd (cc) }
says tokens (TooDeep l) r = record { answer = too_deep l; there = r; is = refl; no_tree = λ xs e. absurd (cc) }
says tokens Memory r = absurd r

-- tokens with a fault have no tree
pub no_unit : (tokens : Tokens) (e : ParseFault) (xs : List Top) → HasFault tokens e → IsUnit tokens xs → ⊥
no_unit tokens e xs r u =
    let s = says tokens e r in s.no_tree xs (same_answer tokens (tree xs) s.answer u s.there)

-- tokens have one fault
pub fault_once : (tokens : Tokens) (e f : ParseFault) → HasFault tokens e → HasFault tokens f → e ≡ f
fault_once tokens e f r s =
    let a = says tokens e r in
    let b = says tokens f s in
    a.is ∙ ap fault_of (same_answer tokens b.answer a.answer b.there a.there) ∙ sym b.is

-- an answer that fails where the tokens have a tree is want of memory
pub fails_no_unit : (tokens : Tokens) (e : ParseFault) (xs : List Top) → ParseFails tokens e → IsUnit tokens xs
    → IsMemory e
fails_no_unit tokens (Syntax l) xs h u = no_unit tokens (Syntax l) xs h u
fails_no_unit tokens (TooDeep l) xs h u = no_unit tokens (TooDeep l) xs h u
fails_no_unit tokens Memory xs h u = tt

-- an answer that fails says the fault of the tokens, unless memory runs out
pub fails_tells : (tokens : Tokens) (e f : ParseFault) → ParseFails tokens e → HasFault tokens f → Tells f e
fails_tells tokens (Syntax l) f h x = fault_once tokens (Syntax l) f h x
fails_tells tokens (TooDeep l) f h x = fault_once tokens (TooDeep l) f h x
fails_tells tokens Memory f h x = tt
