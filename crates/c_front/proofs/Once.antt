-- A text has one tree and one typed program, or one refusal.
use Rattle.std.proofs.Common.{◌≡◌, ℕ, List, None, Some, refl, sym, ap, ◌∙◌, subst}
use Rattle.std.specs.Prelude.{Ok, Err}
use Rattle.c_tree.specs.declared.tree.Program.{Program}
use Rattle.c_tree.specs.declared.tree.Top.{Top}
use Rattle.c_tree.specs.declared.typed.TypedProgram.{TypedProgram}
use Rattle.c_lex.specs.declared.fault.LexFault.{LexFault}
use Rattle.c_lex.specs.declared.fault.LexFault.TheVariants as lex
use Rattle.c_lex.specs.Lexes as raw
use Rattle.c_lex.specs.Lexes.{Tokens}
use Rattle.c_lex.specs.Faults.{Fault, FaultAt}
use Rattle.c_lex.specs.Faults as lexical
use Rattle.c_lex.proofs.Once.{lexes_once, lexes_no_fault, fault_once}
use Rattle.c_pre.specs.declared.fault.PreFault.{PreFault}
use Rattle.c_pre.specs.Programs.{program}
use Rattle.c_pre.specs.Texts.{Lexed}
use Rattle.c_pre.proofs.Texts.{lexed_once}
use Rattle.c_grammar.specs.Accepted.{IsUnit}
use Rattle.c_parse.specs.declared.unit.ParseFault.{ParseFault}
use Rattle.c_parse.specs.Parses.{HasFault}
use Rattle.c_parse.proofs.Only as parses
use Rattle.c_type_expr.specs.declared.fault.TypeFault.{TypeFault}
use Rattle.c_type.specs.inside.Programs.{program_fault, program_tree}
use Rattle.c_type_rules.specs.Judgements.{a_unit}
use Rattle.c_type_rules.proofs.FirstFaults.{fault_is}
use Rattle.c_type_rules.proofs.UnitsSound.{accepts_fine}
use Rattle.c_front.specs.declared.refusal.Refusal.{Refusal}
use Rattle.c_front.specs.declared.refusal.Refusal.TheVariants.{Lex, Directive, Parse, Typing, Memory}
use Rattle.c_tree.specs.Limits.{most_tokens}
use Rattle.c_front.specs.Fronts.{HasTree, HasTypes}
use Rattle.c_front.specs.Refusals.{HasNoTypes, IsRefusedByLexer, IsRefusedByDirectives, IsRefusedByGrammar}
use Rattle.c_front.specs.Refusals.{IsRefusedByTyping, IsRefused}
use Rattle.c_front.specs.inside.Laws.{AcceptedOnce, NotBoth, RefusedOnce}

-- the tree of these items
program_of : List Top → Program
program_of xs = record { items = xs }

-- tokens spell one tree
unit_once : (tokens : Tokens) (p q : Program) → IsUnit tokens p.items → IsUnit tokens q.items → p ≡ q
unfolding program_of
unit_once tokens p q a b = ap program_of (parses.unit_once tokens p.items q.items a b)

-- a text has one tree
pub tree_once : (text : List ℕ) (p q : Program) → HasTree text p → HasTree text q → p ≡ q
tree_once text p q a b =
    let same : b.0 ≡ a.0 = lexed_once most_tokens text b.0 a.0 b.1 a.1 in
    unit_once a.0 p q a.2 (subst (λ (ts : Tokens). IsUnit ts q.items) same b.2)

-- ---- the lexer

-- the error that says this fault
lex_error : Fault → ℕ → LexFault
lex_error lexical.BadByte l = lex.BadByte l
lex_error lexical.BadLiteral l = lex.BadLiteral l
lex_error lexical.Unclosed l = lex.Unclosed l
lex_error lexical.TooManyTokens l = lex.TooManyTokens l
lex_error lexical.Directive l = lex.Directive l

-- a refusal of the lexer says a fault of the text
record LexSays (text : List ℕ) (e : LexFault) : Type 0 where
  fault : Fault
  offset : ℕ
  there : FaultAt most_tokens text fault offset
  is : e ≡ lex_error fault offset

lex_says : (text : List ℕ) (e : LexFault) → IsRefusedByLexer text e → LexSays text e
unfolding lex_error
lex_says text (lex.BadByte l) r =
    record { fault = lexical.BadByte; offset = l; there = r; is = refl }
lex_says text (lex.BadLiteral l) r =
    record { fault = lexical.BadLiteral; offset = l; there = r; is = refl }
lex_says text (lex.Unclosed l) r =
    record { fault = lexical.Unclosed; offset = l; there = r; is = refl }
lex_says text (lex.TooManyTokens l) r =
    record { fault = lexical.TooManyTokens; offset = l; there = r; is = refl }
lex_says text (lex.Directive l) r =
    record { fault = lexical.Directive; offset = l; there = r; is = refl }
lex_says text lex.Memory r = absurd r

-- a text that the lexer refuses has no raw tokens
no_raw : (text : List ℕ) (e : LexFault) (ts : Tokens) → IsRefusedByLexer text e → raw.Lexed most_tokens text ts → ⊥
no_raw text e ts r x =
    let s = lex_says text e r in
    lexes_no_fault most_tokens text ts s.fault s.offset x.0 x.1 s.there

-- and so no tokens
no_tokens : (text : List ℕ) (e : LexFault) (ts : Tokens) → IsRefusedByLexer text e → Lexed most_tokens text ts → ⊥
no_tokens text e ts r x = no_raw text e x.0 r x.1

lexer_once : (text : List ℕ) (e f : LexFault) → IsRefusedByLexer text e → IsRefusedByLexer text f
    → e ≡ f
lexer_once text e f r s =
    let a = lex_says text e r in
    let b = lex_says text f s in
    let o = fault_once most_tokens text a.fault b.fault a.offset b.offset a.there b.there in
    a.is ∙ ap (λ (x : Fault). lex_error x a.offset) o.faults ∙ ap (lex_error b.fault) o.offsets
    ∙ sym b.is

-- ---- the directives

directives_once : (text : List ℕ) (e f : PreFault) → IsRefusedByDirectives text e → IsRefusedByDirectives text f
    → e ≡ f
directives_once text e f r s =
    let same : r.0 ≡ s.0 = lexes_once text r.0 s.0 r.1.0 s.1.0 in
    let is : Err e ≡ Err f = sym r.2 ∙ ap (program most_tokens) same ∙ s.2 in
    cc

-- a text whose directives are refused has no tokens
no_program : (text : List ℕ) (e : PreFault) (ts : Tokens) → IsRefusedByDirectives text e → Lexed most_tokens text ts
    → ⊥
no_program text e ts r x =
    let same : r.0 ≡ x.0 = lexes_once text r.0 x.0 r.1.0 x.1.0 in
    let is : Err e ≡ Ok ts = sym r.2 ∙ ap (program most_tokens) same ∙ x.2 in
    cc

-- ---- the grammar

grammar_once : (text : List ℕ) (e f : ParseFault) → IsRefusedByGrammar text e
    → IsRefusedByGrammar text f → e ≡ f
grammar_once text e f r s =
    let same : s.0 ≡ r.0 = lexed_once most_tokens text s.0 r.0 s.1 r.1 in
    parses.fault_once r.0 e f r.2 (subst (λ (ts : Tokens). HasFault ts f) same s.2)

-- a text that the grammar refuses has no tree
no_tree : (text : List ℕ) (e : ParseFault) (p : Program) → IsRefusedByGrammar text e
    → HasTree text p → ⊥
no_tree text e p r t =
    let same : t.0 ≡ r.0 = lexed_once most_tokens text t.0 r.0 t.1 r.1 in
    parses.no_unit r.0 e p.items r.2 (subst (λ (ts : Tokens). IsUnit ts p.items) same t.2)

-- ---- the typing

-- what the rules say of a tree's typed program, and of its fault
typed_is : (tree : Program) (p : TypedProgram) → HasTypes tree p
    → (program_fault tree ≡ None) × (p ≡ program_tree tree)
typed_is tree p h = accepts_fine tree p h

fault_is_of : (tree : Program) (e : TypeFault) → HasNoTypes tree e → program_fault tree ≡ Some e
fault_is_of tree e h = fault_is (a_unit tree) e h

typing_once : (text : List ℕ) (e f : TypeFault) → IsRefusedByTyping text e
    → IsRefusedByTyping text f → e ≡ f
typing_once text e f r s =
    let same : r.0 ≡ s.0 = tree_once text r.0 s.0 r.1 s.1 in
    let is : Some e ≡ Some f =
    sym (fault_is_of r.0 e r.2) ∙ ap program_fault same ∙ fault_is_of s.0 f s.2 in
    cc

-- ---- the laws

-- a text whose tree has types is not refused
pub not_refused : (text : List ℕ) (p : Program) (r : Refusal) → HasTree text p
    → program_fault p ≡ None → IsRefused text r → ⊥
not_refused text p (Lex e) t n r = no_tokens text e t.0 r t.1
not_refused text p (Directive e) t n r = no_program text e t.0 r t.1
not_refused text p (Parse e) t n r = no_tree text e p r t
not_refused text p (Typing e) t n r =
    let same : p ≡ r.0 = tree_once text p r.0 t r.1 in
    let is : None ≡ Some e = sym n ∙ ap program_fault same ∙ fault_is_of r.0 e r.2 in
    absurd (cc)
not_refused text p Memory t n r = absurd r

-- A text is accepted with at most one typed program.
pub accepted_once : AcceptedOnce
accepted_once text p q a b =
    (typed_is a.0 p a.2).1 ∙ ap program_tree (tree_once text a.0 b.0 a.1 b.1)
    ∙ sym (typed_is b.0 q b.2).1

-- No text is both accepted and refused.
pub not_both : NotBoth
not_both text p r a out = not_refused text a.0 r a.1 (typed_is a.0 p a.2).0 out

-- a text has one refusal at most
pub refused_once : RefusedOnce
refused_once text (Lex e) (Lex f) r s = ap (λ (x : LexFault). Lex x) (lexer_once text e f r s)
refused_once text (Lex e) (Directive f) r s = absurd (no_raw text e s.0 r s.1)
refused_once text (Lex e) (Parse f) r s = absurd (no_tokens text e s.0 r s.1)
refused_once text (Lex e) (Typing f) r s = absurd (no_tokens text e s.1.0 r s.1.1)
refused_once text (Directive e) (Lex f) r s = absurd (no_raw text f r.0 s r.1)
refused_once text (Directive e) (Directive f) r s =
    ap (λ (x : PreFault). Directive x) (directives_once text e f r s)
refused_once text (Directive e) (Parse f) r s = absurd (no_program text e s.0 r s.1)
refused_once text (Directive e) (Typing f) r s = absurd (no_program text e s.1.0 r s.1.1)
refused_once text (Parse e) (Lex f) r s = absurd (no_tokens text f r.0 s r.1)
refused_once text (Parse e) (Directive f) r s = absurd (no_program text f r.0 s r.1)
refused_once text (Parse e) (Parse f) r s =
    ap (λ (x : ParseFault). Parse x) (grammar_once text e f r s)
refused_once text (Parse e) (Typing f) r s = absurd (no_tree text e s.0 r s.1)
refused_once text (Typing e) (Lex f) r s = absurd (no_tokens text f r.1.0 s r.1.1)
refused_once text (Typing e) (Directive f) r s = absurd (no_program text f r.1.0 s r.1.1)
refused_once text (Typing e) (Parse f) r s = absurd (no_tree text f r.0 s r.1)
refused_once text (Typing e) (Typing f) r s =
    ap (λ (x : TypeFault). Typing x) (typing_once text e f r s)
refused_once text (Lex e) Memory r s = absurd s
refused_once text (Directive e) Memory r s = absurd s
refused_once text (Parse e) Memory r s = absurd s
refused_once text (Typing e) Memory r s = absurd s
refused_once text Memory s r u = absurd r
